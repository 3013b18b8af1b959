-- A journal that keeps one more is ready behind it.
use Rattle.std.proofs.Common.{◌≡◌, ◌≤◌, false, ap, ◌∙◌, arith}
use Rattle.farm_core.proofs.RecordLemmas.{one-more}
use Rattle.farm_core.proofs.records.Records.keep.Goals as goal

pub keep-requires : goal.keep-requires
keep-requires g c = record {
  ready = λ tells.
      let works : c.self.inside.halted ≡ false = ap (λ r. r.halted) c.self.view_is ∙ c.requires in
      let had = (c.self.invariant works).1 tells in
      (had.0, had.1);
}

pub invariant_of-self : goal.invariant_of-self
invariant_of-self g c = λ still.
    let inside = c.self.inside in
    let had = c.self.invariant still in
    let few : c.saturating_add-self-inside.result ≤ c.keep.new.self.end = omega (arith, had.0, c.saturating_add-self-inside.ensures, c.in-Ok.ensures.moves) in (
      few,
      λ tells. one-more (g.D.Disk.contents inside.journal.disk) inside.journal.end inside.count (g.D.Disk.contents c.keep.new.self.disk) c.keep.new.self.end c.saturating_add-self-inside.result
          (g.F.Frame.body c.args.frame.now) (c.in-Ok.ensures.kept tells) c.saturating_add-self-inside.ensures c.keep.new.self.within (had.1 tells),
    )
