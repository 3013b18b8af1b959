use Rattle.std.proofs.Common.{◌++◌, ◌∷◌, [], length, refl}
use Rattle.task_index.proofs.IndexLemmas.{put-behind}
use Rattle.task_index.proofs.PlacedLemmas.{placed-more}
use Rattle.task_index.proofs.index.Index.added.Goals as goal

pub returns : goal.returns
returns c =
    let rows = c.args.rows.now in
    let row = c.args.row.now in
    let before = c.args.self.now in
    record {
      placed = placed-more before.places c.keep_noted.new.places rows (rows ++ row ∷ []) row c.id.result (length rows) c.keep_noted.ensures refl c.id.ensures refl c.requires.placed;
      members = c.keep_member.ensures;
      due = c.keep_dues.ensures rows (rows ++ row ∷ []) (put-behind rows row (length rows) refl) c.requires.due;
      waiting = c.keep_added.ensures;
      queued = c.keep_queued.ensures.all rows refl c.requires.queued;
    }
