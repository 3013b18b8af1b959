-- The name of a queue, cut at its first slash.
use Rattle.std.specs.Prelude.{MatchOption}
use Rattle.std.proofs.Common.{◌≡◌, ℕ, suc, ◌<◌, List, [], ◌∷◌, ◌++◌, length, get_or, Option, Some, None, Bor, refl, ap, ◌∙◌, inl, inr, arith, lit<}
use Rattle.std.proofs.lemmas.Str.Pattern.{IsSplitOnceResult, split_after, split_parts}
use Rattle.task_types.specs.Forms.{IsIdentifier, IsIdentifierByte, queue_name}

not_slash : (b : ℕ) → IsIdentifierByte b → b ≡ 47 → ⊥
not_slash b h e =
    elim h [
      | inl r ↦ elim r [
        | inl q ↦ elim q [ inl x ↦ absurd (omega arith) | inr x ↦ absurd (omega arith) ]
        | inr x ↦ absurd (omega arith)
      ]
      | inr r ↦ elim r [ inl x ↦ absurd (omega arith) | inr x ↦ absurd (omega arith) ]
    ]

no_slash : (p : List ℕ) → IsIdentifier p → (i : ℕ) → i < length p → get_or p i 0 ≡ 47 → ⊥
no_slash p h i lt e = not_slash (get_or p i 0) (h.bytes i 0 lt) e

pub cut_by : (name : List ℕ) (r : Option (Bor (List ℕ) × Bor (List ℕ))) → IsSplitOnceResult 47 name r
    → MatchOption r ((p w : List ℕ) → IsIdentifier p → ¬ (name ≡ queue_name p w))
    (λ x. (name ≡ queue_name x.0.now x.1.now) × ((p w : List ℕ) → IsIdentifier p → name ≡ queue_name p w → (x.0.now ≡ p) × (x.1.now ≡ w)))
cut_by name None h = λ p w ident e. split_after 47 name p w None h (lit< tt) e (no_slash p ident)
cut_by name (Some x) h =
    ((split_parts 47 name (Some x) h (lit< tt)).0, λ p w ident e. split_after 47 name p w (Some x) h (lit< tt) e (no_slash p ident))

cut_same : (a b p w : List ℕ) → ((i : ℕ) → i < length a → get_or a i 0 ≡ 47 → ⊥) → ((i : ℕ) → i < length p → get_or p i 0 ≡ 47 → ⊥) → a ++ 47 ∷ b ≡ p ++ 47 ∷ w → (a ≡ p) × (b ≡ w)
cut_same [] b [] w fa fp e = (refl, cc)
cut_same [] b (y ∷ p) w fa fp e = absurd (fp 0 (omega arith) (let h : y ≡ 47 = cc in h))
cut_same (x ∷ a) b [] w fa fp e = absurd (fa 0 (omega arith) (let h : x ≡ 47 = cc in h))
cut_same (x ∷ a) b (y ∷ p) w fa fp e =
    let first : x ≡ y = cc in
    let rest : a ++ 47 ∷ b ≡ p ++ 47 ∷ w = cc in
    let ih = cut_same a b p w (λ i lt. fa (suc i) (omega arith)) (λ i lt. fp (suc i) (omega arith)) rest in
    (ap (λ (z : ℕ). z ∷ a) first ∙ ap (λ (z : List ℕ). y ∷ z) ih.0, ih.1)

-- a queue's name has one pair of identifiers
pub queue_name_same : (a b p w : List ℕ) → IsIdentifier a → IsIdentifier p → queue_name a b ≡ queue_name p w → (a ≡ p) × (b ≡ w)
queue_name_same a b p w ha hp e = cut_same a b p w (no_slash a ha) (no_slash p hp) e
