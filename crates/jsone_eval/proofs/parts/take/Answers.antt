use Rattle.std.proofs.Common.{sym, ap}
use Rattle.farm_text.specs.Doc.{document}
use Rattle.jsone_eval.specs.Machine.{top, below}
use Rattle.jsone_eval.proofs.MachineLemmas.{taken}
use Rattle.jsone_eval.proofs.parts.take.Goals as goal

pub returns-in-Some : goal.returns-in-Some
returns-in-Some c =
    let whole = taken document c.args.values.now.items c.pop.new.self.items c.in-Some.value c.in-Some.ensures.items in
    record { top = sym (ap top whole); below = sym (ap below whole) }
