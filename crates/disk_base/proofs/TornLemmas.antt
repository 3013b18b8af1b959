-- Images of a write with another byte somewhere.
use Rattle.std.proofs.Common.{◌≡◌, ℕ, ◌+◌, ◌<◌, ◌≤◌, ◌≢◌, ◌⊎◌, inl, inr, ⊎_elim, List, [], ◌∷◌, ◌++◌, length, set, ◌∙◌, arith, length-append}
use Rattle.std.proofs.lemmas.List.{length-set, get_or-set_other, get_or_append_left}
use Rattle.disk_base.specs.Calls.{Torn}

module _ (at n place choice : ℕ) (old image : List ℕ) (from : (at ≤ place) ⊎ (length old ≤ place)) (until : place < at + n) (torn : Torn at n old image) where
  pub set_torn : Torn at n old (set image place choice)
  set_torn = record {
    no_shorter = omega (arith, length-set image place choice, torn.no_shorter);
    no_longer = omega (arith, length-set image place choice, torn.no_longer);
    before = λ i lt within. get_or-set_other image place i choice 0 (λ same. other i within (inl lt) same) ∙ torn.before i lt within;
    after = λ i le within. get_or-set_other image place i choice 0 (λ same. other i within (inr le) same) ∙ torn.after i le within;
  }
    where
      other : (i : ℕ) → i < length old → (i < at) ⊎ (at + n ≤ i) → i ≢ place
      other i within outside same = ⊎_elim (λ (l : at ≤ place). ⊎_elim (λ (a : i < at). absurd (omega arith)) (λ (b : at + n ≤ i). absurd (omega arith)) outside) (λ (r : length old ≤ place). absurd (omega arith)) from

  pub push_torn : place ≡ length image → Torn at n old (image ++ choice ∷ [])
  push_torn end = record {
    no_shorter = omega (arith, length-append image (choice ∷ []), torn.no_shorter);
    no_longer = omega (arith, length-append image (choice ∷ []), torn.no_longer);
    before = λ i lt within. get_or_append_left image (choice ∷ []) 0 i (omega (arith, torn.no_shorter)) ∙ torn.before i lt within;
    after = λ i le within. get_or_append_left image (choice ∷ []) 0 i (omega (arith, torn.no_shorter)) ∙ torn.after i le within;
  }
