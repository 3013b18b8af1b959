use Rattle.std.proofs.Common.{sym, ap}
use Rattle.jsone_eval.specs.Machine.{part_of, top_part, below}
use Rattle.jsone_eval.proofs.MachineLemmas.{part_taken}
use Rattle.jsone_eval.proofs.parts.take_gathered.Goals as goal

pub returns-in-Some : goal.returns-in-Some
returns-in-Some c =
    let whole = part_taken part_of c.args.gathered.now.items c.pop.new.self.items c.in-Some.part c.in-Some.ensures.items in
    record { top = sym (ap top_part whole); below = sym (ap below whole) }
