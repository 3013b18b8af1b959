use Rattle.std.proofs.Common.{◌≡◌, List, ℕ, All, ◌++◌, codes, sym, ◌∙◌, subst, IfOk}
use Rattle.scope_sets.specs.Scopes.{IsPrintable}
use Rattle.call_rules.proofs.create.create_scope.Goals as goal

pub scope_of-requires-clause-rest : goal.scope_of-requires-clause-rest
scope_of-requires-clause-rest c = subst (All IsPrintable) (sym c.as_str.ensures.value) c.in_ok-name.ensures.printable

pub returns : goal.returns
returns c =
    subst (λ (t : List ℕ). IfOk c.scope_of.result (λ s. s ≡ codes "queue:create-task:" ++ t)) (c.as_str.ensures.value ∙ c.in_ok-name.ensures.name) c.scope_of.ensures
