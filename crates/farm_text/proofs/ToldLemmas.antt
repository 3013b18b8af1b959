-- One call more of an object that tells a list.
use Rattle.std.proofs.Common.{◌≡◌, ℕ, ◌+◌, ◌-◌, ◌^◌, min, List, [], ◌∷◌, length, get_or, unwrap_or, Option, Some, None, refl, sym, arith, inl, inr}
use Rattle.std.proofs.lemmas.Bool.{cases_lt, lt-ltb}
use Rattle.std.proofs.lemmas.List.FromFn.{map-range_with_len_more}
use Rattle.std.proofs.lemmas.Option.{slice_get-get_or, slice_get_past}
use Rattle.farm_text.specs.Logs.{LogGrows}
use Rattle.std.specs.List.{last_or}
use Rattle.farm_text.specs.Told.{told_by, told_at}

pub told_by-next : {A : Type 0} (value : ℕ → A) (n : ℕ) → LogGrows (told_by value n) (told_by value (min (n + 1) (2 ^ 64 - 1))) (value n ∷ [])
told_by-next value n = elim (cases_lt (n + 1) (2 ^ 64 - 1)) [
  | inl more ↦
      let here = lt-ltb n (2 ^ 64 - 1) (omega arith) in
      let next = lt-ltb (n + 1) (2 ^ 64 - 1) more in
      let count : min (n + 1) (2 ^ 64 - 1) ≡ n + 1 = omega arith in
      rw (count, here, next) (map-range_with_len_more value 0 n n (omega arith))
  | inr last ↦
      let count : min (n + 1) (2 ^ 64 - 1) ≡ 2 ^ 64 - 1 = omega arith in
      rw count tt
]

-- the last value of a list that is not empty
last_is : {A : Type 0} (x : A) (xs : List A) (o : Option A) (other : A) → unwrap_or (last_or o (x ∷ xs)) other ≡ get_or (x ∷ xs) (length xs) other
last_is x [] o other = refl
last_is x (y ∷ ys) o other = last_is y ys (Some x) other

-- the place that the code looks up
pub told_at-place : {A : Type 0} (values : List A) (other : A) (k : ℕ) → get_or values (min k (length values - 1)) other ≡ told_at values other k
told_at-place [] other k = refl
told_at-place (x ∷ xs) other k = elim (cases_lt k (length (x ∷ xs))) [
  | inl within ↦
      let place : min k (length (x ∷ xs) - 1) ≡ k = omega arith in
      rw (place, slice_get-get_or (x ∷ xs) k other within)
  | inr past ↦
      let place : min k (length (x ∷ xs) - 1) ≡ length xs = omega arith in
      rw (place, slice_get_past (x ∷ xs) k past) (sym (last_is x xs None other))
]
