use Rattle.std.proofs.Common.{◌≡◌, ◌++◌, ◌∷◌, [], List, ℕ, Some, sym, ◌∙◌, subst, arith}
use Rattle.std.proofs.lemmas.List.{append_cancel_right}
use Rattle.std.proofs.lemmas.Str.Pattern.{strip_suffix_char}
use Rattle.scope_sets.specs.Scopes.{star}
use Rattle.role_expand.specs.Roles.{assume}
use Rattle.role_expand.specs.Index.{Begins}
use Rattle.role_expand.proofs.EdgeLemmas.{begins}
use Rattle.role_expand.proofs.granting.grants_each.Goals as goal

pub returns-in-Some : goal.returns-in-Some
returns-in-Some c =
    let front : List ℕ = c.in-Some.front.now in
    let is : c.args.held.now ≡ front ++ star ∷ [] = strip_suffix_char star c.args.held.now (Some c.in-Some.front) c.in-Some.ensures.cases (omega arith) in
    let k = begins c.starts_with.result front assume c.starts_with.ensures.cases in (
      λ t. (front, is, k.0 t),
      λ h. k.1 (subst (λ (f : List ℕ). Begins assume f) (append_cancel_right h.0 front (star ∷ []) (sym h.1 ∙ is)) h.2),
    )
