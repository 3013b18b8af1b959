-- A scope cut at `<..>`, and the parameter in its place.
use Rattle.std.proofs.Common.{◌≡◌, ℕ, ◌<◌, ◌⊎◌, inl, inr, List, [], ◌∷◌, ◌++◌, length, refl, sym, ap, ◌∙◌, subst, arith, length-append}
use Rattle.std.proofs.lemmas.List.{append_assoc, append-nil, append_cancel_left, take_at, drop_at}
use Rattle.std.proofs.lemmas.List.Elements.{All-append, All-take, All-drop}
use Rattle.std.specs.List.{All}
use Rattle.std.specs.Str.Iter.{HasSubslice}
use Rattle.role_expand.specs.Roles.{hole, EndsWithStar, SplitsAtHole, HasHoleForm, FillsHole}
use Rattle.role_expand.specs.Growth.{KeepsAfter}

pub All-front : (P : ℕ → Type 0) (xs ys : List ℕ) → All P (xs ++ ys) → All P xs
All-front P xs ys h = subst (λ (t : List ℕ). All P t) (take_at xs ys (length xs) refl) (All-take P (length xs) (xs ++ ys) h)

pub All-back : (P : ℕ → Type 0) (xs ys : List ℕ) → All P (xs ++ ys) → All P ys
All-back P xs ys h = subst (λ (t : List ℕ). All P t) (drop_at xs ys (length xs) refl) (All-drop P (length xs) (xs ++ ys) h)

kept_printable : (P : ℕ → Type 0) (parameter after rest : List ℕ) → KeepsAfter parameter after rest → All P after → All P rest
kept_printable P parameter after rest (inl k) h = subst (λ (t : List ℕ). All P t) (sym k.1) (λ i d lt. absurd (omega arith))
kept_printable P parameter after rest (inr k) h = subst (λ (t : List ℕ). All P t) (sym k.1) h

-- each byte of the new scope stands in the old one or in the parameter
pub filled_printable : (P : ℕ → Type 0) (parameter scope before after rest : List ℕ) → All P scope → All P parameter → SplitsAtHole scope before after → KeepsAfter parameter after rest → All P (before ++ parameter ++ rest)
filled_printable P parameter scope before after rest scope_ok parameter_ok cut kept =
    let whole = subst (λ (t : List ℕ). All P t) cut scope_ok in
    let tail = All-back P hole after (All-back P before (hole ++ after) whole) in
    All-append P (before ++ parameter) rest (All-append P before parameter (All-front P before (hole ++ after) whole) parameter_ok) (kept_printable P parameter after rest kept tail)

pub fills_with : (parameter scope before after rest : List ℕ) → SplitsAtHole scope before after → KeepsAfter parameter after rest → FillsHole parameter scope (before ++ parameter ++ rest)
fills_with parameter scope before after rest cut (inl k) = inl (before, after, cut, inl (k.0, ap (λ (t : List ℕ). before ++ parameter ++ t) k.1 ∙ append-nil (before ++ parameter)))
fills_with parameter scope before after rest cut (inr k) = inl (before, after, cut, inr (k.0, ap (λ (t : List ℕ). before ++ parameter ++ t) k.1 ∙ append_assoc before parameter after))

same_after : (scope before before' after after' : List ℕ) → HasHoleForm scope → SplitsAtHole scope before after → SplitsAtHole scope before' after' → (before ≡ before') × (after ≡ after')
same_after scope before before' after after' form cut cut' =
    let fronts : before ≡ before' = form.once before after before' after' cut cut' in
    let backs : before' ++ (hole ++ after) ≡ before' ++ (hole ++ after') = ap (λ (t : List ℕ). t ++ (hole ++ after)) (sym fronts) ∙ sym cut ∙ cut' in
    (fronts, append_cancel_left hole after after' (append_cancel_left before' (hole ++ after) (hole ++ after') backs))

-- at a scope of its form, what a parameter gives is one
pub FillsHole-one : (parameter scope s t : List ℕ) → HasHoleForm scope → FillsHole parameter scope s → FillsHole parameter scope t → s ≡ t
FillsHole-one parameter scope s t form (inl (b, a, cut, inl k)) (inl (b', a', cut', inl k')) =
    k.1 ∙ ap (λ (x : List ℕ). x ++ parameter) (form.once b a b' a' cut cut') ∙ sym k'.1
FillsHole-one parameter scope s t form (inl (b, a, cut, inl k)) (inl (b', a', cut', inr k')) = absurd (k'.0 k.0)
FillsHole-one parameter scope s t form (inl (b, a, cut, inr k)) (inl (b', a', cut', inl k')) = absurd (k.0 k'.0)
FillsHole-one parameter scope s t form (inl (b, a, cut, inr k)) (inl (b', a', cut', inr k')) =
    let same = same_after scope b b' a a' form cut cut' in
    k.1 ∙ ap (λ (x : List ℕ). x ++ (parameter ++ a)) same.0 ∙ ap (λ (x : List ℕ). b' ++ (parameter ++ x)) same.1 ∙ sym k'.1
FillsHole-one parameter scope s t form (inl (b, a, cut, k)) (inr h) = absurd (h.0 b a cut)
FillsHole-one parameter scope s t form (inr h) (inl (b, a, cut, k)) = absurd (h.0 b a cut)
FillsHole-one parameter scope s t form (inr h) (inr k) = h.1 ∙ sym k.1

-- ---- where `<..>` stands

same_head : (x y : ℕ) (xs ys : List ℕ) → x ∷ xs ≡ y ∷ ys → x ≡ y
same_head x y xs ys e = cc

pub same_tail : (x y : ℕ) (xs ys : List ℕ) → x ∷ xs ≡ y ∷ ys → xs ≡ ys
same_tail x y xs ys e = cc

-- another place of `<..>` comes before the one that is cut out, is it, or stands in the rest
pub other_hole : (before after b a : List ℕ) → before ++ (hole ++ after) ≡ b ++ (hole ++ a) → (length b < length before) ⊎ ((b ≡ before) ⊎ HasSubslice after hole)
other_hole [] after [] a e = inr (inl refl)
other_hole [] after (y ∷ []) a e = absurd (omega (arith, same_head _ _ _ _ (same_tail _ _ _ _ e)))
other_hole [] after (y ∷ z ∷ []) a e = absurd (omega (arith, same_head _ _ _ _ (same_tail _ _ _ _ (same_tail _ _ _ _ e))))
other_hole [] after (y ∷ z ∷ w ∷ []) a e = absurd (omega (arith, same_head _ _ _ _ (same_tail _ _ _ _ (same_tail _ _ _ _ (same_tail _ _ _ _ e)))))
other_hole [] after (y ∷ z ∷ w ∷ v ∷ b) a e = inr (inr (b, a, same_tail _ _ _ _ (same_tail _ _ _ _ (same_tail _ _ _ _ (same_tail _ _ _ _ e)))))
other_hole (x ∷ before) after [] a e = inl (omega arith)
other_hole (x ∷ before) after (y ∷ b) a e =
    let heads : x ≡ y = same_head x y (before ++ (hole ++ after)) (b ++ (hole ++ a)) e in
    let tails : before ++ (hole ++ after) ≡ b ++ (hole ++ a) = same_tail x y (before ++ (hole ++ after)) (b ++ (hole ++ a)) e in
    elim (other_hole before after b a tails) [
      | inl low ↦ inl (omega arith)
      | inr (inl same) ↦ inr (inl (ap (λ (t : List ℕ). y ∷ t) same ∙ ap (λ (z : ℕ). z ∷ before) (sym heads)))
      | inr (inr later) ↦ inr (inr later)
    ]

module _ (scope before after : List ℕ) (cut : SplitsAtHole scope before after) where
  pub HasHoleForm-from_first : ((b a : List ℕ) → SplitsAtHole scope b a → length b < length before → ⊥) → ¬ HasSubslice after hole → ¬ EndsWithStar before → HasHoleForm scope
  HasHoleForm-from_first first none free =
      let only : (b a : List ℕ) → SplitsAtHole scope b a → b ≡ before = λ b a e.
      (elim (other_hole before after b a (sym cut ∙ e)) [
        | inl low ↦ absurd (first b a e low)
        | inr (inl same) ↦ same
        | inr (inr later) ↦ absurd (none later)
      ]) in
      record {
        once = λ b a b' a' e e'. only b a e ∙ sym (only b' a' e');
        free = λ b a e star. free (subst EndsWithStar (only b a e) star);
      }

  pub none_after : HasHoleForm scope → HasSubslice after hole → ⊥
  none_after form h =
      let again : scope ≡ (before ++ (hole ++ h.0)) ++ (hole ++ h.1) =
      cut ∙ ap (λ (t : List ℕ). before ++ (hole ++ t)) h.2 ∙ ap (λ (t : List ℕ). before ++ t) (sym (append_assoc hole h.0 (hole ++ h.1))) ∙ sym (append_assoc before (hole ++ h.0) (hole ++ h.1)) in
      let same : before ≡ before ++ (hole ++ h.0) = form.once before after (before ++ (hole ++ h.0)) h.1 cut again in
      absurd (omega (arith, ap length same, length-append before (hole ++ h.0), length-append hole h.0))
