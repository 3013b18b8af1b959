use Rattle.std.proofs.Common.{All, List, ℕ, ◌++◌, codes, sym, ap, ◌∙◌, subst}
use Rattle.scope_sets.specs.Scopes.{IsPrintable}
use Rattle.scope_sets.specs.Expressions.{one}
use Rattle.call_rules.proofs.PolicyLemmas.{view-One}
use Rattle.call_rules.proofs.hooks.trigger_scope.Goals as goal

pub scope_of-requires-clause-rest : goal.scope_of-requires-clause-rest
scope_of-requires-clause-rest c = subst (All IsPrintable) (sym c.as_str.ensures.value) c.in_ok-name.ensures.printable

pub returns : goal.returns
returns c =
    view-One _ ∙ ap one (c.in_ok-scope_of.ensures ∙ ap (λ (t : List ℕ). codes "hooks:trigger-hook:" ++ t) (c.as_str.ensures.value ∙ c.in_ok-name.ensures.name))
