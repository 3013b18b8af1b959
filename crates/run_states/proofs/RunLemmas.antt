-- The last of a list, by its place; and what changes where it is changed.
use Rattle.std.proofs.Common.{◌≡◌, ℕ, zero, suc, ◌-◌, ◌<◌, ◌≤◌, List, [], ◌∷◌, length, None, refl, ap, slice_index_or, slice_set, arith, option_map}
use Rattle.std.specs.List.{last_or, slice_get}
use Rattle.run_states.specs.Runs.{change_last, change_at}

-- the last item stands at the last place
pub get-last : {A : Type 0} (xs : List A) → slice_get xs (length xs - 1) ≡ last_or None xs
get-last [] = refl
get-last (x ∷ []) = refl
get-last (x ∷ y ∷ ys) =
    let e : length (x ∷ y ∷ ys) - 1 ≡ suc (length (y ∷ ys) - 1) = omega arith in
    rw e (get-last (y ∷ ys))

-- the last item of a list whose last is changed
pub last-change : {A : Type 0} (f : A → A) (xs : List A) → last_or None (change_last f xs) ≡ option_map f (last_or None xs)
last-change f [] = refl
last-change f (x ∷ []) = refl
last-change f (x ∷ y ∷ []) = refl
last-change f (x ∷ y ∷ z ∷ zs) = last-change f (y ∷ z ∷ zs)

-- a write at the last place changes the last
pub set-last : {A : Type 0} (f : A → A) (x : A) (xs : List A) (d : A) → slice_set (x ∷ xs) (length (x ∷ xs) - 1) (f (slice_index_or (x ∷ xs) (length (x ∷ xs) - 1) d)) ≡ change_last f (x ∷ xs)
set-last f x [] d = refl
set-last f x (y ∷ ys) d =
    let e : length (x ∷ y ∷ ys) - 1 ≡ suc (length (y ∷ ys) - 1) = omega arith in
    rw e (ap (λ zs. x ∷ zs) (set-last f y ys d))

-- a write at a place changes the one there
pub set-at : {A : Type 0} (f : A → A) (xs : List A) (place : ℕ) (d : A) → slice_set xs place (f (slice_index_or xs place d)) ≡ change_at place f xs
set-at f [] place d = refl
set-at f (x ∷ xs) zero d = refl
set-at f (x ∷ xs) (suc place) d = ap (λ zs. x ∷ zs) (set-at f xs place d)

-- a list of which no place is changed stays
pub change-none : {A : Type 0} (f : A → A) (xs : List A) (place : ℕ) → length xs ≤ place → change_at place f xs ≡ xs
change-none f [] place le = refl
change-none f (x ∷ xs) zero le = absurd (omega arith)
change-none f (x ∷ xs) (suc place) le = ap (λ zs. x ∷ zs) (change-none f xs place (omega arith))

-- the same of a list that has some item
pub set-last-some : {A : Type 0} (f : A → A) (xs : List A) (d : A) → 0 < length xs → slice_set xs (length xs - 1) (f (slice_index_or xs (length xs - 1) d)) ≡ change_last f xs
set-last-some f [] d some_ = absurd (omega arith)
set-last-some f (x ∷ xs) d some_ = set-last f x xs d
