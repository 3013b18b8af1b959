-- Rows that are held.
use Rattle.std.proofs.Common.{◌≡◌, ℕ, ◌+◌, ◌<◌, zero, suc, cond, List, [], ◌∷◌, length, Option, Some, None, is_some, slice_get, slice_index_or, slice_set, subst, arith}
use Rattle.std.proofs.lemmas.List.Sums.{sum_by-set}
use Rattle.claim_queue.specs.Held.{held}

-- what is held at a place, read with or without something for the places behind
pub index-held : {A : Type 0} (rows : List (Option A)) (row : ℕ) (x d : Option A) → slice_get rows row ≡ Some x → slice_index_or rows row d ≡ x
index-held [] row x d is = cc
index-held (y ∷ rows) zero x d is = cc
index-held (y ∷ rows) (suc row) x d is = index-held rows row x d is

pub within-held : {A : Type 0} (rows : List A) (row : ℕ) (x : A) → slice_get rows row ≡ Some x → row < length rows
within-held [] row x is = cc
within-held (y ∷ rows) zero x is = omega arith
within-held (y ∷ rows) (suc row) x is = let more = within-held rows row x is in omega arith

-- how many are held where one row is written
pub held-set : {A : Type 0} (rows : List (Option A)) (row : ℕ) (y d : Option A) → row < length rows → held (slice_set rows row y) + cond (is_some (slice_index_or rows row d)) 1 0 ≡ held rows + cond (is_some y) 1 0
held-set rows row y d within = sum_by-set (λ x. cond (is_some x) 1 0) rows row y d within

-- a row that was not held is held
pub held-added : {A : Type 0} (rows : List (Option A)) (row : ℕ) (x : A) → slice_get rows row ≡ Some None → held (slice_set rows row (Some x)) ≡ held rows + 1
held-added {A = A} rows row x absent =
    let within : row < length rows = within-held rows row None absent in
    let was : slice_index_or rows row None ≡ None = index-held rows row None None absent in
    let P : Option A → Type 0 = λ o. held (slice_set rows row (Some x)) + cond (is_some o) 1 0 ≡ held rows + 1 in
    let counted : held (slice_set rows row (Some x)) + 0 ≡ held rows + 1 = subst P was (held-set rows row (Some x) None within) in
    omega arith
