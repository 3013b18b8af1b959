-- A parameter that names nothing that it may name refuses the call; else the caller is judged.
use Rattle.std.proofs.Common.{[], sym, ◌∙◌}
use Rattle.farm_machine.proofs.OrderLemmas.{asks-misnamed}
use Rattle.farm_machine.proofs.order.refusal.Goals as goal

pub returns-in-Some : goal.returns-in-Some
returns-in-Some g c =
    asks-misnamed c.args.at.now c.args.caller.now (g.C.Called.case c.args.call.now) [] c.in-Some.answer (sym c.in_ok-answer.ensures ∙ c.in-Some.is)
