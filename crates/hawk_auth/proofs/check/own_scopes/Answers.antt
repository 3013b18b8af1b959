use Rattle.std.proofs.Common.{List, ℕ, [], ◌∷◌, ◌++◌, ap, ◌∙◌}
use Rattle.std.specs.Prelude.{codes}
use Rattle.hawk_auth.proofs.check.own_scopes.Goals as goal

pub returns : goal.returns
returns c =
    c.in_ok-push.ensures.items
    ∙ ap (λ (xs : List (List ℕ)). xs ++ c.in_ok-scope_of.field-0 ∷ []) (c.in_ok-scopes.ensures ∙ c.deref.ensures.value)
    ∙ ap (λ (s : List ℕ). c.args.client.now.scopes.items ++ s ∷ []) (c.in_ok-scope_of.ensures ∙ ap (λ (t : List ℕ). codes "assume:client-id:" ++ t) c.as_str.ensures)
