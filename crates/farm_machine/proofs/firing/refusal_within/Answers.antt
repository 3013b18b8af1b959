-- What is missing of the scopes refuses the task; where nothing is, nothing does.
use Rattle.std.proofs.Common.{option_map, sym, ap, ◌∙◌}
use Rattle.scope_sets.specs.Expressions.{view}
use Rattle.farm_machine.proofs.FiringLemmas.{lacks-so, holds-so}
use Rattle.farm_machine.proofs.firing.refusal_within.Goals as goal

pub returns-in-Some : goal.returns-in-Some
returns-in-Some c =
    lacks-so c.args.creation.now c.args.scopes.now _ (view c.in-Some.lack) _ c.in_ok-asked.ensures (sym (ap (option_map view) c.in-Some.is) ∙ c.in_ok-lack.ensures) c.in_ok-hook_insufficient_scopes-in-Some.ensures

pub returns : goal.returns
returns c = holds-so c.args.creation.now c.args.scopes.now _ c.in_ok-asked.ensures (sym (ap (option_map view) c.in-None.is) ∙ c.in_ok-lack.ensures)
