use Rattle.std.proofs.Common.{List, ap, ◌∙◌, subst}
use Rattle.run_states.specs.Rows.{Row}
use Rattle.task_index.specs.Contents.{Contents, row_with}
use Rattle.task_index.specs.Indexed.{IsIndexOf}
use Rattle.farm_rows.proofs.tables.TaskTables.note.Goals as goal

pub note-requires-clause-unknown : goal.note-requires-clause-unknown
note-requires-clause-unknown c =
    ap (row_with c.args.creation.now.id) c.deref.ensures.value ∙ (ap (λ (k : Contents). row_with c.args.creation.now.id k.rows) c.self.view_is ∙ c.requires)

pub invariant_of-self : goal.invariant_of-self
invariant_of-self c = record {
  kept = c.self.invariant.kept;
  indexed = subst (λ (rs : List Row). IsIndexOf c.note.new.self rs) c.deref.ensures.value c.note.ensures;
  listed = c.self.invariant.listed;
}
