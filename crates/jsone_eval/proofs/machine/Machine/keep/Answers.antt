use Rattle.std.proofs.Common.{List, map, reverse, ap, ◌∙◌}
use Rattle.jsone_eval.specs.declared.parts.Gathered.{Gathered}
use Rattle.jsone_eval.specs.Machine.{Part, part_of, went, values_in}
use Rattle.jsone_eval.proofs.MachineLemmas.{last_part}
use Rattle.jsone_eval.proofs.machine.Machine.keep.Goals as goal

pub returns : goal.returns
returns c =
    let self = c.args.self.now in
    ap (λ (xs : List Gathered). went (values_in self) (map part_of (reverse xs)) self.passed self.spent) c.in-Ok.ensures.items
    ∙ ap (λ (gs : List Part). went (values_in self) gs self.passed self.spent) (last_part part_of self.gathered.items c.args.part)
