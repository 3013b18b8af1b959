use Rattle.std.proofs.Common.{◌≡◌, ◌≤◌, ℕ, List, [], ◌∷◌, length, Option, Some, None, option_map, sym, ap, ◌∙◌, subst}
use Rattle.farm_text.specs.Slug.{slug_of}
use Rattle.api_routes.specs.Queries.{token_of}
use Rattle.api_routes.specs.Values.{IsValue}
use Rattle.api_routes.proofs.QueryLemmas.{token-many}
use Rattle.api_routes.proofs.queries.token_of.Goals as goal

pub returns-in-Absent : goal.returns-in-Absent
unfolding token_of
returns-in-Absent c = λ values is.
    let empty : values ≡ [] = subst (IsValue values) c.in-Absent.is is in
    sym (ap token_of empty)

pub returns-in-Some : goal.returns-in-Some
unfolding token_of
returns-in-Some c = λ values is.
    let one : values ≡ c.in-Once.text.now ∷ [] = subst (IsValue values) c.in-Once.is is in
    let told : slug_of c.in-Once.text.now ≡ Some c.in-Some.id = sym c.read.ensures.exact ∙ c.in-Some.is in
    sym (ap token_of one ∙ ap (λ (o : Option (List ℕ)). option_map (λ (id : List ℕ). Some id) o) told)

pub returns-in-None : goal.returns-in-None
unfolding token_of
returns-in-None c = λ values is.
    let one : values ≡ c.in-Once.text.now ∷ [] = subst (IsValue values) c.in-Once.is is in
    let told : slug_of c.in-Once.text.now ≡ None = sym c.read.ensures.exact ∙ c.in-None.is in
    sym (ap token_of one ∙ ap (λ (o : Option (List ℕ)). option_map (λ (id : List ℕ). Some id) o) told)

pub returns-in-Repeated : goal.returns-in-Repeated
returns-in-Repeated c = λ values is.
    let many : 2 ≤ length values = subst (IsValue values) c.in-Repeated.is is in
    sym (token-many values many)
