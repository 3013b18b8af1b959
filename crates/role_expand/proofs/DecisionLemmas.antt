-- What stands in a list or in a text, or does not.
use Rattle.std.proofs.Common.{◌≡◌, ℕ, Bool, true, false, Decides, ◌⊎◌, inl, inr, nat_eq, List, [], ◌∷◌, ◌++◌, length, take, drop, refl, ap, subst, Contains, arith, length-append}
use Rattle.std.proofs.lemmas.Bool.Decides.{Decides-eqb, not_from_Decides}
use Rattle.std.proofs.lemmas.Slice.Eq.{bytes_eq-Decides, starts_is, ends_is}
use Rattle.std.specs.Cmp.Lexicographic.{pointwise}
use Rattle.std.specs.List.{ends_with}
use Rattle.scope_sets.specs.Scopes.{star, Satisfies, satisfies}
use Rattle.scope_sets.proofs.LawLemmas.{Contains-here, Contains-later, Contains-split, Contains-none}
use Rattle.scope_sets.proofs.SatisfyingLemmas.{satisfies-Decides}
use Rattle.role_expand.specs.Roles.{hole, EndsWithStar, SplitsAtHole, FillsHole}
use Rattle.role_expand.proofs.FillLemmas.{same_tail}

-- what a test decides
decided : {P : Type 0} (r : Bool) → Decides r P → P ⊎ (P → ⊥)
decided true d = inl (d.0 refl)
decided false d = inr (not_from_Decides false d refl)

pub same_or_not : (x y : List ℕ) → (x ≡ y) ⊎ (x ≡ y → ⊥)
same_or_not x y = decided (pointwise nat_eq x y) (bytes_eq-Decides x y)

pub listed_or_not : (xs : List (List ℕ)) (s : List ℕ) → Contains xs s ⊎ (Contains xs s → ⊥)
listed_or_not [] s = inr (Contains-none s)
listed_or_not (x ∷ xs) s =
    elim (same_or_not x s) [
      | inl e ↦ inl (subst (λ (t : List ℕ). Contains (x ∷ xs) t) e (Contains-here x xs))
      | inr other ↦ (elim (listed_or_not xs s) [
        | inl h ↦ inl (Contains-later x s xs h)
        | inr none ↦ inr (λ h. (elim (Contains-split x s xs h) [ inl e ↦ other e | inr k ↦ none k ]))
      ])
    ]

pub satisfies_or_not : (a b : List ℕ) → Satisfies a b ⊎ (Satisfies a b → ⊥)
satisfies_or_not a b = decided (satisfies a b) (satisfies-Decides a b)

pub begins_or_not : (n s : List ℕ) → ((rest : List ℕ) × (s ≡ n ++ rest)) ⊎ ((rest : List ℕ) → s ≡ n ++ rest → ⊥)
begins_or_not n s =
    let k = starts_is Decides-eqb s n (pointwise nat_eq n (take (length n) s)) refl in
    elim (decided (pointwise nat_eq n (take (length n) s)) (λ t. (drop (length n) s, k.0 t), λ w. k.1 w.0 w.1)) [
      | inl h ↦ inl h
      | inr none ↦ inr (λ rest e. none (rest, e))
    ]

pub starred_or_not : (s : List ℕ) → EndsWithStar s ⊎ (EndsWithStar s → ⊥)
starred_or_not s =
    let k = ends_is Decides-eqb s (star ∷ []) (ends_with nat_eq s (star ∷ [])) refl in
    decided (ends_with nat_eq s (star ∷ [])) (λ t. (_, k.0 t), λ w. k.1 w.0 w.1)

-- where `<..>` stands
pub hole_or_not : (scope : List ℕ) → ((before : List ℕ) × (after : List ℕ) × SplitsAtHole scope before after) ⊎ ((before after : List ℕ) → ¬ SplitsAtHole scope before after)
hole_or_not [] = inr (λ before after e. absurd (omega (arith, ap length e, length-append before (hole ++ after), length-append hole after)))
hole_or_not (x ∷ scope) =
    elim (begins_or_not hole (x ∷ scope)) [
      | inl h ↦ inl ([], h.0, h.1)
      | inr first ↦ (elim (hole_or_not scope) [
        | inl h ↦ inl (x ∷ h.0, h.1, ap (λ (t : List ℕ). x ∷ t) h.2)
        | inr none ↦ inr (nowhere x scope first none)
      ])
    ]
  where
    nowhere : (x : ℕ) (scope : List ℕ) → ((rest : List ℕ) → x ∷ scope ≡ hole ++ rest → ⊥) → ((before after : List ℕ) → ¬ SplitsAtHole scope before after) → (before after : List ℕ) → ¬ SplitsAtHole (x ∷ scope) before after
    nowhere x scope first none [] after e = first after e
    nowhere x scope first none (y ∷ before) after e = none before after (same_tail x y scope (before ++ (hole ++ after)) e)

-- each parameter fills each scope
pub filling : (parameter scope : List ℕ) → (s : List ℕ) × FillsHole parameter scope s
filling parameter scope =
    elim (hole_or_not scope) [
      | inl h ↦ (elim (starred_or_not parameter) [
        | inl starred ↦ (h.0 ++ parameter, inl (h.0, h.1, h.2, inl (starred, refl)))
        | inr plain ↦ (h.0 ++ (parameter ++ h.1), inl (h.0, h.1, h.2, inr (plain, refl)))
      ])
      | inr none ↦ (scope, inr (none, refl))
    ]
