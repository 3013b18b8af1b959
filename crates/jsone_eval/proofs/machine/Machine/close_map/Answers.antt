use Rattle.std.proofs.Common.{◌≡◌, map, reverse}
use Rattle.jsone_values.specs.Maps.{map_of}
use Rattle.jsone_eval.specs.Machine.{values_in, part_of, parts_in}
use Rattle.jsone_eval.proofs.MachineLemmas.{pays_for_part}
use Rattle.jsone_eval.proofs.machine.Machine.close_map.Goals as goal

pub returns : goal.returns
returns c = λ s.
    let self = c.args.self.now in
    pays_for_part (λ g r. r ≡ map_of g.1) c.map_of.result (values_in self) (parts_in self) (map part_of (reverse c.take_gathered-values.new.gathered.items)) (part_of c.take_gathered-values.result) self.passed self.spent c.pay.result c.pay.new.self
    c.take_gathered-values.ensures.top c.take_gathered-values.ensures.below c.map_of.ensures c.pay.ensures
