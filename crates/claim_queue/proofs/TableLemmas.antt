-- Rows that are held, and their turns.
use Rattle.std.proofs.Common.{◌≡◌, ◌≢◌, ℕ, zero, suc, ◌+◌, ◌<◌, cond, List, [], ◌∷◌, length, Option, Some, None, IsSome, is_some, refl, sym, ap, ◌∙◌, subst, slice_get, slice_set, slice_index, slice_index_or, arith}
use Rattle.claim_queue.specs.declared.turns.Turn.{Turn}
use Rattle.claim_queue.specs.Held.{held}
use Rattle.claim_queue.specs.Firsts.{IsHeld}
use Rattle.claim_queue.specs.Heaps.{turn_at, IsIn, KnowsPlaces, HasTurn, IsWider}
use Rattle.claim_queue.proofs.HeldLemmas.{held-set, index-held, within-held}

pub get-set-same : {A : Type 0} (xs : List A) (i : ℕ) (y : A) → i < length xs → slice_get (slice_set xs i y) i ≡ Some y
get-set-same [] i y lt = absurd (omega arith)
get-set-same (x ∷ xs) zero y lt = refl
get-set-same (x ∷ xs) (suc i) y lt = get-set-same xs i y (omega arith)

pub get-set-other : {A : Type 0} (xs : List A) (i j : ℕ) (y : A) → j ≢ i → slice_get (slice_set xs i y) j ≡ slice_get xs j
get-set-other [] i j y ne = refl
get-set-other (x ∷ xs) zero zero y ne = absurd (ne refl)
get-set-other (x ∷ xs) zero (suc j) y ne = refl
get-set-other (x ∷ xs) (suc i) zero y ne = refl
get-set-other (x ∷ xs) (suc i) (suc j) y ne = get-set-other xs i j y (λ e. ne (ap suc e))

-- a row that has something is held
pub held-some : {A : Type 0} (rows : List (Option A)) (row : ℕ) → IsSome (slice_index_or rows row None) → (x : A) × IsHeld rows row x
held-some [] row some = absurd (cc)
held-some (None ∷ rows) zero some = absurd (cc)
held-some (Some x ∷ rows) zero some = (x, refl)
held-some (y ∷ rows) (suc row) some = held-some rows row some

pub held-one : {A : Type 0} (rows : List (Option A)) (row : ℕ) (x y : A) → IsHeld rows row x → IsHeld rows row y → x ≡ y
held-one rows row x y p q = cc

pub not-both : {A : Type 0} (rows : List (Option A)) (row : ℕ) (x : A) → slice_get rows row ≡ Some None → IsHeld rows row x → ⊥
not-both rows row x none some = cc

pub held-within : {A : Type 0} (rows : List (Option A)) (row : ℕ) (x : A) → IsHeld rows row x → row < length rows
held-within rows row x is = within-held rows row (Some x) is

-- how many are held where a held row is written again
pub held-kept : {A : Type 0} (rows : List (Option A)) (row : ℕ) (x y : A) → IsHeld rows row x → held (slice_set rows row (Some y)) ≡ held rows
held-kept {A = A} rows row x y is =
    let was : slice_index_or rows row None ≡ Some x = index-held rows row (Some x) None is in
    let P : Option A → Type 0 = λ o. held (slice_set rows row (Some y)) + cond (is_some o) 1 0 ≡ held rows + 1 in
    let counted : held (slice_set rows row (Some y)) + 1 ≡ held rows + 1 = subst P was (held-set rows row (Some y) None (held-within rows row x is)) in
    omega arith

-- and where it is held no longer
pub held-gone : {A : Type 0} (rows : List (Option A)) (row : ℕ) (x : A) → IsHeld rows row x → held (slice_set rows row None) + 1 ≡ held rows
held-gone {A = A} rows row x is =
    let was : slice_index_or rows row None ≡ Some x = index-held rows row (Some x) None is in
    let P : Option A → Type 0 = λ o. held (slice_set rows row None) + cond (is_some o) 1 0 ≡ held rows + 0 in
    let counted : held (slice_set rows row None) + 1 ≡ held rows + 0 = subst P was (held-set rows row None None (held-within rows row x is)) in
    omega arith

-- a turn that stands somewhere is that of its row
pub has-turn : (heap : List Turn) (places : List ℕ) (turn : Turn) → KnowsPlaces heap places → IsIn turn heap → HasTurn turn.row heap places
has-turn heap places turn known in_ =
    let here = known in_.0 in_.1 in
    let row_is : (turn_at heap in_.0).row ≡ turn.row = ap (λ (t : Turn). t.row) in_.2 in
    let place_is : slice_index places turn.row ≡ in_.0 = ap (slice_index places) (sym row_is) ∙ here.1 in
    (subst (λ n. n < length places) row_is here.0, subst (λ n. n < length heap) (sym place_is) in_.1, ap (λ n. (turn_at heap n).row) place_is ∙ row_is)

-- places that stay are known
pub known-wider : (heap : List Turn) (places wider : List ℕ) → IsWider places wider → KnowsPlaces heap places → KnowsPlaces heap wider
known-wider heap places wider w known = λ place lt.
    let here = known place lt in
    let fits = here.0 in
    let more = w.0 in
    (omega arith, w.1 (turn_at heap place).row fits ∙ here.1)
