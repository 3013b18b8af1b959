use Rattle.std.proofs.Common.{ap, ◌∙◌}
use Rattle.scope_sets.specs.Expressions.{one}
use Rattle.call_rules.proofs.PolicyLemmas.{view-One}
use Rattle.call_rules.proofs.reads.pending_scope.Goals as goal

pub returns : goal.returns
returns c = view-One _ ∙ ap one c.in_ok-scope.ensures
