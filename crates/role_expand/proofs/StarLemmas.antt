-- Which texts end with `*` or `**`, and that giving makes no `**`.
use Rattle.std.proofs.Common.{◌≡◌, ℕ, ◌⊎◌, inl, inr, List, [], ◌∷◌, ◌++◌, length, refl, sym, ap, ◌∙◌, subst, Contains, arith, length-append}
use Rattle.std.proofs.lemmas.List.{append_assoc, append-nil, same_from_push}
use Rattle.std.proofs.lemmas.List.Elements.{All-contains}
use Rattle.scope_sets.specs.Scopes.{star, EndsWithTwoStars, HasHandedInForm}
use Rattle.role_expand.specs.Roles.{RoleData, assume, hole, EndsWithStar, HasHoleForm, HasRoleForm, FillsHole, GrantsWith, Gives}
use Rattle.role_expand.specs.Closures.{Derivable}
use Rattle.role_expand.specs.Cycles.{IsAccepted}
use Rattle.role_expand.proofs.ClosureLemmas.{Derivable-within}

last_or_none : (xs : List ℕ) → (xs ≡ []) ⊎ ((front : List ℕ) × (x : ℕ) × (xs ≡ front ++ x ∷ []))
last_or_none [] = inl refl
last_or_none (x ∷ xs) = by_rest (last_or_none xs)
  where
    by_rest : (xs ≡ []) ⊎ ((front : List ℕ) × (y : ℕ) × (xs ≡ front ++ y ∷ [])) → (x ∷ xs ≡ []) ⊎ ((front : List ℕ) × (y : ℕ) × (x ∷ xs ≡ front ++ y ∷ []))
    by_rest (inl e) = inr ([], x, ap (λ t. x ∷ t) e)
    by_rest (inr h) = inr (x ∷ h.0, h.1, ap (λ t. x ∷ t) h.2)

-- the last `*` stands in the second text, or the second is empty
star_split : (xs ys : List ℕ) → EndsWithStar (xs ++ ys) → EndsWithStar ys ⊎ ((ys ≡ []) × EndsWithStar xs)
star_split xs ys (front, e) =
    elim (last_or_none ys) [
      | inl none ↦ inr (none, (front, sym (append-nil xs) ∙ ap (λ (t : List ℕ). xs ++ t) (sym none) ∙ e))
      | inr some ↦
          let whole : (xs ++ some.0) ++ some.1 ∷ [] ≡ front ++ star ∷ [] = append_assoc xs some.0 (some.1 ∷ []) ∙ ap (λ (t : List ℕ). xs ++ t) (sym some.2) ∙ e in
          inl (some.0, some.2 ∙ ap (λ (z : ℕ). some.0 ++ z ∷ []) (same_from_push _ _ _ _ whole).1)
    ]

-- two texts end with `**` together: the second does, or is `*` and the first ends with one, or is empty
two_split : (xs ys : List ℕ) → EndsWithTwoStars (xs ++ ys) → EndsWithTwoStars ys ⊎ (((ys ≡ star ∷ []) × EndsWithStar xs) ⊎ ((ys ≡ []) × EndsWithStar xs))
two_split xs ys (front, e) =
    elim (last_or_none ys) [
      | inl none ↦
          let whole : xs ≡ (front ++ star ∷ []) ++ star ∷ [] = sym (append-nil xs) ∙ ap (λ (t : List ℕ). xs ++ t) (sym none) ∙ e ∙ sym (append_assoc front (star ∷ []) (star ∷ [])) in
          inr (inr (none, (front ++ star ∷ [], whole)))
      | inr some ↦
          let whole : (xs ++ some.0) ++ some.1 ∷ [] ≡ (front ++ star ∷ []) ++ star ∷ [] =
          append_assoc xs some.0 (some.1 ∷ []) ∙ ap (λ (t : List ℕ). xs ++ t) (sym some.2) ∙ e ∙ sym (append_assoc front (star ∷ []) (star ∷ [])) in
          let same = same_from_push _ _ _ _ whole in
          let ys_is : ys ≡ some.0 ++ star ∷ [] = some.2 ∙ ap (λ (z : ℕ). some.0 ++ z ∷ []) same.1 in
          (elim (star_split xs some.0 (front, same.0)) [
            | inl h ↦ inl (h.0, ys_is ∙ ap (λ (t : List ℕ). t ++ star ∷ []) h.1 ∙ append_assoc h.0 (star ∷ []) (star ∷ []))
            | inr k ↦ inr (inl (ys_is ∙ ap (λ (t : List ℕ). t ++ star ∷ []) k.0, k.1))
          ])
    ]

two_append : (xs ys : List ℕ) → EndsWithTwoStars ys → EndsWithTwoStars (xs ++ ys)
two_append xs ys (front, e) = (xs ++ front, ap (λ (t : List ℕ). xs ++ t) e ∙ sym (append_assoc xs front (star ∷ star ∷ [])))

filled_plain : (parameter scope s : List ℕ) → HasHoleForm scope → ¬ EndsWithTwoStars scope → ¬ EndsWithTwoStars parameter → FillsHole parameter scope s → ¬ EndsWithTwoStars s
filled_plain parameter scope s form plain thin (inr h) two = plain (subst EndsWithTwoStars h.1 two)
filled_plain parameter scope s form plain thin (inl (before, after, cut, inl k)) two =
    elim (two_split before parameter (subst EndsWithTwoStars k.1 two)) [
      | inl a ↦ thin a
      | inr (inl b) ↦ form.free before after cut b.1
      | inr (inr b) ↦ form.free before after cut b.1
    ]
filled_plain parameter scope s form plain thin (inl (before, after, cut, inr k)) two =
    elim (two_split before (parameter ++ after) (subst EndsWithTwoStars k.1 two)) [
      | inl a ↦ (elim (two_split parameter after a) [
        | inl c ↦ plain (subst EndsWithTwoStars (sym cut) (two_append before (hole ++ after) (two_append hole after c)))
        | inr (inl d) ↦ k.0 d.1
        | inr (inr d) ↦ k.0 d.1
      ])
      | inr (inl b) ↦ form.free before after cut b.1
      | inr (inr b) ↦ form.free before after cut b.1
    ]

parameter_plain : (front held parameter : List ℕ) → ¬ EndsWithTwoStars held → GrantsWith front held parameter → ¬ EndsWithTwoStars parameter
parameter_plain front held parameter plain (inl e) two = plain (subst EndsWithTwoStars (sym e) (two_append assume (front ++ parameter) (two_append front parameter two)))
parameter_plain front held parameter plain (inr k) (f, e) = absurd (omega (arith, ap length (sym k.1 ∙ e), length-append f (star ∷ star ∷ [])))

Gives-plain : (longest : ℕ) (role : RoleData) (held s : List ℕ) → HasRoleForm longest role → ¬ EndsWithTwoStars held → Gives role held s → ¬ EndsWithTwoStars s
Gives-plain longest role held s form plain (inl g) = (All-contains (HasHandedInForm longest) role.scopes s form.scopes_form g.listed).plain
Gives-plain longest role held s form plain (inr g) =
    filled_plain g.parameter g.scope s
    (All-contains HasHoleForm role.scopes g.scope (form.holes_form (g.front, g.id_is)) g.listed)
    (All-contains (HasHandedInForm longest) role.scopes g.scope form.scopes_form g.listed).plain
    (parameter_plain g.front held g.parameter plain g.granted)
    g.filled

pub Derivable-plain : (longest : ℕ) (roles : List RoleData) (start : List (List ℕ)) (s : List ℕ) → IsAccepted longest roles → ((t : List ℕ) → Contains start t → ¬ EndsWithTwoStars t) → Derivable roles start s → ¬ EndsWithTwoStars s
Derivable-plain longest roles start s accepted begins d =
    Derivable-within roles start (λ t. ¬ EndsWithTwoStars t) begins
    (λ held t plain given. Gives-plain longest given.0 held t (All-contains (HasRoleForm longest) roles given.0 accepted.forms given.1) plain given.2) s d
