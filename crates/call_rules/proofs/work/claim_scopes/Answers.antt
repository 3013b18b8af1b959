use Rattle.std.proofs.Common.{List, ap, ◌∙◌}
use Rattle.scope_sets.specs.Expressions.{Expression, one, all_of, members_of}
use Rattle.scope_sets.proofs.ExpressionLemmas.{view-AllOf}
use Rattle.call_rules.proofs.PolicyLemmas.{view-One, two_members}
use Rattle.call_rules.proofs.work.claim_scopes.Goals as goal

pub returns : goal.returns
returns c =
    view-AllOf c.push-2.new.self
    ∙ ap (λ (es : List Expression). all_of (members_of es))
    (two_members _ _ _ _ _ _ _ c.new-members.ensures.items c.in_ok-push.ensures.items c.in_ok-push-2.ensures.items (view-One _ ∙ ap one c.in_ok-claim.ensures) (view-One _ ∙ ap one c.in_ok-worker.ensures))
