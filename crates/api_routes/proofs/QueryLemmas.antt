-- The values of a name, piece by piece.
use Rattle.std.proofs.Common.{◌≡◌, ℕ, ◌+◌, ◌<◌, ◌≤◌, true, false, bytes_eq, List, [], ◌∷◌, ◌++◌, map, length, take, get_or, None, Bor, refl, sym, ap, ◌∙◌, subst, arith}
use Rattle.std.specs.List.{filter}
use Rattle.std.proofs.lemmas.List.{append-nil, take_more, map-append}
use Rattle.std.proofs.lemmas.List.Elements.{filter-append}
use Rattle.api_routes.specs.declared.queries.Value.{Value}
use Rattle.api_routes.specs.Queries.{name_in, value_in, values_in, limit_of, token_of}
use Rattle.api_routes.specs.Values.{IsValue}

-- what a reference points to
abbrev seen : Bor (List ℕ) → List ℕ
seen piece = piece.now

values-append : (name : List ℕ) (before : List (List ℕ)) (piece : List ℕ) → values_in name (before ++ piece ∷ []) ≡ values_in name before ++ values_in name (piece ∷ [])
values-append name before piece =
    ap (map value_in) (filter-append (λ p. bytes_eq (name_in p) name) before (piece ∷ [])) ∙ map-append value_in (filter (λ p. bytes_eq (name_in p) name) before) (filter (λ p. bytes_eq (name_in p) name) (piece ∷ []))

values-more : (name : List ℕ) (pieces : List (Bor (List ℕ))) (n : ℕ) (d : Bor (List ℕ)) → n < length pieces → values_in name (map seen (take (n + 1) pieces)) ≡ values_in name (map seen (take n pieces)) ++ values_in name ((get_or pieces n d).now ∷ [])
values-more name pieces n d within =
    ap (values_in name) (ap (map seen) (take_more pieces n d within) ∙ map-append seen (take n pieces) (get_or pieces n d ∷ []))
    ∙ values-append name (map seen (take n pieces)) (get_or pieces n d).now

-- a piece of the name adds its value
pub value-named : (name : List ℕ) (pieces : List (Bor (List ℕ))) (n : ℕ) (d : Bor (List ℕ)) (own text : List ℕ) (old new : Value) → n < length pieces → own ≡ name_in (get_or pieces n d).now → text ≡ value_in (get_or pieces n d).now → bytes_eq own name ≡ true
    → IsValue (values_in name (map (λ p. p.now) (take n pieces))) old → ((values : List (List ℕ)) → IsValue values old → IsValue (values ++ text ∷ []) new) → IsValue (values_in name (map (λ p. p.now) (take (n + 1) pieces))) new
value-named name pieces n d own text old new within own_is text_is named before more =
    let here : bytes_eq (name_in (get_or pieces n d).now) name ≡ true = subst (λ (o : List ℕ). bytes_eq o name ≡ true) own_is named in
    let one : values_in name ((get_or pieces n d).now ∷ []) ≡ text ∷ [] = rw here (ap (λ (t : List ℕ). t ∷ []) (sym text_is)) in
    let all : values_in name (map seen (take (n + 1) pieces)) ≡ values_in name (map seen (take n pieces)) ++ text ∷ [] =
    values-more name pieces n d within ∙ ap (λ (vs : List (List ℕ)). values_in name (map seen (take n pieces)) ++ vs) one in
    subst (λ (vs : List (List ℕ)). IsValue vs new) (sym all) (more (values_in name (map seen (take n pieces))) before)

-- and another adds none
pub value-other : (name : List ℕ) (pieces : List (Bor (List ℕ))) (n : ℕ) (d : Bor (List ℕ)) (own : List ℕ) (value : Value) → n < length pieces → own ≡ name_in (get_or pieces n d).now → bytes_eq own name ≡ false
    → IsValue (values_in name (map (λ p. p.now) (take n pieces))) value → IsValue (values_in name (map (λ p. p.now) (take (n + 1) pieces))) value
value-other name pieces n d own value within own_is other before =
    let here : bytes_eq (name_in (get_or pieces n d).now) name ≡ false = subst (λ (o : List ℕ). bytes_eq o name ≡ false) own_is other in
    let none : values_in name ((get_or pieces n d).now ∷ []) ≡ [] = rw here refl in
    let all : values_in name (map seen (take (n + 1) pieces)) ≡ values_in name (map seen (take n pieces)) =
    values-more name pieces n d within ∙ ap (λ (vs : List (List ℕ)). values_in name (map seen (take n pieces)) ++ vs) none ∙ append-nil (values_in name (map seen (take n pieces))) in
    subst (λ (vs : List (List ℕ)). IsValue vs value) (sym all) before

-- what is said several times is off its form
pub limit-many : (values : List (List ℕ)) → 2 ≤ length values → limit_of values ≡ None
unfolding limit_of
limit-many [] many = absurd (omega arith)
limit-many (text ∷ []) many = absurd (omega arith)
limit-many (text ∷ other ∷ more) many = refl

pub token-many : (values : List (List ℕ)) → 2 ≤ length values → token_of values ≡ None
unfolding token_of
token-many [] many = absurd (omega arith)
token-many (text ∷ []) many = absurd (omega arith)
token-many (text ∷ other ∷ more) many = refl
