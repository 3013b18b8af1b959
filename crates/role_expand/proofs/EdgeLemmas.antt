-- Parameter edges, as the code finds them.
use Rattle.std.proofs.Common.{◌≡◌, ◌≢◌, ℕ, ◌<◌, ◌⊎◌, inl, inr, Bool, Decides, List, [], ◌∷◌, ◌++◌, length, drop, map, get_or, Some, None, refl, sym, ap, ◌∙◌, subst, MatchBool}
use Rattle.std.proofs.lemmas.Bool.Decides.{Decides-eqb}
use Rattle.std.proofs.lemmas.List.{append_assoc, append_cancel_left}
use Rattle.std.proofs.lemmas.Slice.Eq.{starts_is}
use Rattle.std.proofs.lemmas.Str.Pattern.{starts_text}
use Rattle.std.specs.Str.Pattern.{HasPrefixMatch, FindsTextPrefix}
use Rattle.role_expand.specs.Roles.{RoleData, assume}
use Rattle.role_expand.specs.Cycles.{StartAlike, HasEdge, EdgeAt}
use Rattle.role_expand.proofs.PlaceLemmas.{get_mapped}

-- what `starts_with` says of texts
pub begins : (r : Bool) (n s : List ℕ) → MatchBool r (HasPrefixMatch (FindsTextPrefix n) s) (FindsTextPrefix n s None) → Decides r ((rest : List ℕ) × (s ≡ n ++ rest))
begins r n s h =
    let k = starts_is Decides-eqb s n r (starts_text r n s h) in
    (λ t. (drop (length n) s, k.0 t), λ w. k.1 w.0 w.1)

-- two fronts of one text
pub fronts_alike : (a b x y : List ℕ) → a ++ x ≡ b ++ y → ((rest : List ℕ) × (b ≡ a ++ rest)) ⊎ ((rest : List ℕ) × (a ≡ b ++ rest))
fronts_alike [] b x y e = inl (b, refl)
fronts_alike (c ∷ a) [] x y e = inr (c ∷ a, refl)
fronts_alike (c ∷ a) (d ∷ b) x y e =
    let heads : c ≡ d = cc in
    let tails : a ++ x ≡ b ++ y = cc in
    elim (fronts_alike a b x y tails) [
      | inl k ↦ inl (k.0, ap (λ (t : List ℕ). d ∷ t) k.1 ∙ ap (λ (z : ℕ). z ∷ (a ++ k.0)) (sym heads))
      | inr k ↦ inr (k.0, ap (λ (t : List ℕ). c ∷ t) k.1 ∙ ap (λ (z : ℕ). z ∷ (b ++ k.0)) heads)
    ]

module _ (before front : List ℕ) where
  pub alike_after : (rest : List ℕ) → before ≡ assume ++ rest → StartAlike before (assume ++ front) → ((t : List ℕ) × (rest ≡ front ++ t)) ⊎ ((t : List ℕ) × (front ≡ rest ++ t))
  alike_after rest is (inl h) =
      inr (h.0, append_cancel_left assume front (rest ++ h.0) (h.1 ∙ ap (λ (z : List ℕ). z ++ h.0) is ∙ append_assoc assume rest h.0))
  alike_after rest is (inr h) =
      inl (h.0, append_cancel_left assume rest (front ++ h.0) (sym is ∙ h.1 ∙ append_assoc assume front h.0))

  pub alike_from_after : (rest : List ℕ) → before ≡ assume ++ rest → ((t : List ℕ) × (rest ≡ front ++ t)) ⊎ ((t : List ℕ) × (front ≡ rest ++ t)) → StartAlike before (assume ++ front)
  alike_from_after rest is (inl h) = inr (h.0, is ∙ ap (λ (z : List ℕ). assume ++ z) h.1 ∙ sym (append_assoc assume front h.0))
  alike_from_after rest is (inr h) = inl (h.0, ap (λ (z : List ℕ). assume ++ z) h.1 ∙ sym (append_assoc assume rest h.0) ∙ ap (λ (z : List ℕ). z ++ h.0) (sym is))

  pub alike_short : ((rest : List ℕ) → before ≢ assume ++ rest) → StartAlike before (assume ++ front) → (t : List ℕ) × (assume ≡ before ++ t)
  alike_short none (inl h) = elim (fronts_alike before assume h.0 front (sym h.1)) [ inl k ↦ k | inr k ↦ absurd (none k.0 k.1) ]
  alike_short none (inr h) = absurd (none (front ++ h.0) (h.1 ∙ append_assoc assume front h.0))

  pub alike_from_short : (t : List ℕ) × (assume ≡ before ++ t) → StartAlike before (assume ++ front)
  alike_from_short h = inl (h.0 ++ front, ap (λ (z : List ℕ). z ++ front) h.1 ∙ append_assoc before h.0 front)

-- an edge between two places is one between their roles
module _ {K : Type 0} (f : K → RoleData) (xs : List K) (i j : ℕ) (x y : K) (lt : i < length xs) (is : x ≡ get_or xs i x) (lt' : j < length xs) (is' : y ≡ get_or xs j y) where
  pub EdgeAt-from_roles : HasEdge (f x) (f y) → EdgeAt (map f xs) i j
  EdgeAt-from_roles e = (f x, f y, get_mapped f xs i x lt is, get_mapped f xs j y lt' is', e)

  pub roles_from_EdgeAt : EdgeAt (map f xs) i j → HasEdge (f x) (f y)
  roles_from_EdgeAt e =
      let first : e.0 ≡ f x = same_some (sym e.2 ∙ get_mapped f xs i x lt is) in
      let second : e.1 ≡ f y = same_some (sym e.3 ∙ get_mapped f xs j y lt' is') in
      subst (λ (r : RoleData). HasEdge (f x) r) second (subst (λ (r : RoleData). HasEdge r e.1) first e.4)
    where
      same_some : {r s : RoleData} → Some r ≡ Some s → r ≡ s
      same_some e = cc
