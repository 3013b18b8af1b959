-- A set that gains a scope.
use Rattle.std.proofs.Common.{◌≡◌, ℕ, ◌⊎◌, inl, inr, Bool, true, false, cond, List, [], ◌∷◌, ◌++◌, refl, sym, ap, ◌∙◌, subst, Contains}
use Rattle.std.proofs.lemmas.Bool.{true≢false}
use Rattle.std.proofs.lemmas.List.Elements.{Contains-append_left, Contains-push, Contains-push_cases}
use Rattle.std.proofs.lemmas.Map.Text.{is_eq-slice_cmp}
use Rattle.std.proofs.lemmas.Slice.Eq.{bytes_eq-Decides}
use Rattle.std.specs.BTreeSet.{BTreeSet, contains}
use Rattle.std.specs.Cmp.Lexicographic.{slice_cmp}
use Rattle.std.specs.Ordering.{nat_cmp, is_eq}
use Rattle.scope_sets.proofs.OrderLemmas.{Equal-itself}
use Rattle.role_expand.specs.Found.{HasSameScopes}

either : (b : Bool) → (b ≡ true) ⊎ (b ≡ false)
either true = inl refl
either false = inr refl

same_from_test : (a b : List ℕ) → is_eq (slice_cmp nat_cmp a b) ≡ true → a ≡ b
same_from_test a b e = (bytes_eq-Decides a b).0 (sym (is_eq-slice_cmp a b) ∙ e)

pub HasSameScopes-push : (set new : BTreeSet (List ℕ)) (list : List (List ℕ)) (scope : List ℕ) → HasSameScopes set list
    → ((q : List ℕ) → contains (slice_cmp nat_cmp) new q ≡ cond (is_eq (slice_cmp nat_cmp scope q)) true (contains (slice_cmp nat_cmp) set q))
    → HasSameScopes new (list ++ scope ∷ [])
HasSameScopes-push set new list scope same updates s =
    elim (either (is_eq (slice_cmp nat_cmp scope s))) [
      | inl e ↦ (
        λ t. subst (λ (x : List ℕ). Contains (list ++ scope ∷ []) x) (same_from_test scope s e) (Contains-push list scope),
        λ h. updates s ∙ ap (λ (b : Bool). cond b true (contains (slice_cmp nat_cmp) set s)) e,
      )
      | inr e ↦
          let old : contains (slice_cmp nat_cmp) new s ≡ contains (slice_cmp nat_cmp) set s = updates s ∙ ap (λ (b : Bool). cond b true (contains (slice_cmp nat_cmp) set s)) e in (
            λ t. Contains-append_left list (scope ∷ []) s ((same s).0 (sym old ∙ t)),
            λ h. (elim (Contains-push_cases list scope s h) [
              | inl there ↦ old ∙ (same s).1 there
              | inr last ↦ absurd (true≢false (sym (ap is_eq (Equal-itself s)) ∙ ap (λ (x : List ℕ). is_eq (slice_cmp nat_cmp x s)) (sym last) ∙ e))
            ]),
          )
    ]
