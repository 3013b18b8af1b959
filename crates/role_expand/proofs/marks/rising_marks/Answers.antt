use Rattle.std.proofs.lemmas.List.Sorted.{Contains-permutation}
use Rattle.role_expand.proofs.IndexLemmas.{rising_from_sorted}
use Rattle.role_expand.proofs.marks.rising_marks.Goals as goal

pub returns : goal.returns
returns c =
    let moved = c.sort_unstable.ensures.permutation in
    let old = c.in_ok-marks.ensures in (
      record {
        fronts = λ i role low at front is. let m = old.fronts i role low at front is in (m.0, Contains-permutation _ _ m.0 moved m.1, m.2, m.3);
        texts = λ i role low at scope front starred there r. let m = old.texts i role low at scope front starred there r in (m.0, Contains-permutation _ _ m.0 moved m.1, m.2);
      },
      rising_from_sorted c.sort_unstable.new.self.items c.sort_unstable.ensures.sorted,
    )
