-- What the first and the best are, in other words than lists: what is held, and what does not come before it.
use Rattle.std.specs.Prelude.{◌≡◌, ℕ, ◌≤◌, ◌<◌, true, false, List, Option, Some, None, slice_get}
use Rattle.std.specs.Str.{bytes_eq}
use Rattle.claim_queue.specs.Waits.{Waiting, Waits, goes_before}

-- a row is held, with this
abbrev pub IsHeld : {A : Type 0} → List (Option A) → ℕ → A → Type 0
IsHeld rows row x = slice_get rows row ≡ Some (Some x)

-- The first that falls due up to a moment. There is none where all that is held falls due later. Else it is a row that is held with its
-- moment, which is not later; and no other falls due sooner, or at the same moment and with a lesser row.
abbrev pub IsFirstDue : ℕ → List (Option ℕ) → Option (ℕ × ℕ) → Type 0
IsFirstDue moment rows None = (row at : ℕ) → IsHeld rows row at → moment < at
IsFirstDue moment rows (Some first) =
    IsHeld rows first.1 first.0 × (first.0 ≤ moment) × ((row at : ℕ) → IsHeld rows row at → (first.0 ≤ at) × (at ≡ first.0 → first.1 ≤ row))

-- The row that is claimed next in a queue. There is none where no row waits in it. Else it is a row that waits in it; and no other that does
-- so goes before it, or is its equal and has a lesser row.
abbrev pub IsBest : List ℕ → Waits → Option ℕ → Type 0
IsBest name waits None = (row : ℕ) (waiting : Waiting) → IsHeld waits.rows row waiting → bytes_eq waiting.queue name ≡ false
IsBest name waits (Some row) = (best : Waiting) × IsHeld waits.rows row best × (bytes_eq best.queue name ≡ true)
    × ((other : ℕ) (waiting : Waiting) → IsHeld waits.rows other waiting → bytes_eq waiting.queue name ≡ true
    → (goes_before waiting best ≡ false) × (goes_before best waiting ≡ false → row ≤ other))
