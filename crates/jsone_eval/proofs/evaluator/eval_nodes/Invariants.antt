use Rattle.std.proofs.Common.{◌≡◌, ◌-◌, zero, length, [], drop}
use Rattle.jsone_eval.specs.Machine.{Runs, values_in, parts_in}
use Rattle.jsone_eval.specs.Outcomes.{Outcome}
use Rattle.jsone_eval.specs.Scopes.{scopes_of}
use Rattle.jsone_eval.specs.Values.{Setting}
use Rattle.jsone_eval.proofs.evaluator.eval_nodes.Given as goal

-- what the nodes that are left come to is what all nodes come to
abbrev pub invariant-loop-at : goal.invariant-loop-at
invariant-loop-at l =
    let s : Setting = record { source = l.text; scopes = scopes_of l.context } in
    record {
      leads : (o : Outcome) → Runs s (drop l.at l.nodes) (values_in l.machine) (parts_in l.machine) zero l.machine.spent o → Runs s l.nodes [] [] zero l.cost.spent o;
      none : l.machine.passed ≡ zero;
    }

abbrev pub decreases-loop-at : goal.decreases-loop-at
decreases-loop-at l = length l.nodes - l.at
