-- How rows that fall due are kept. The contracts of private functions alone speak of these.
use Rattle.std.specs.Prelude.{◌≡◌, ℕ, ◌<◌, ◌≤◌, ◌^◌, nat_le, List, length, Option, Some, None, if◌then◌else◌}
use Rattle.claim_queue.specs.declared.turns.Turn.{Turn}
use Rattle.claim_queue.specs.Held.{held}
use Rattle.claim_queue.specs.Firsts.{IsHeld}
use Rattle.claim_queue.specs.Heaps.{IsIn, IsKept}

-- the turn of a row that falls due at a moment
abbrev pub due_turn : ℕ → ℕ → Turn
due_turn at row = record { first = at; second = 0; row = row }

-- a row with its moment, if it is held and falls due by then
abbrev pub due_by : ℕ → Option ℕ → ℕ → Option (ℕ × ℕ)
due_by moment None row = None
due_by moment (Some at) row = if nat_le at moment then Some (at, row) else None

-- each row that is held has the turn of its moment in the heap, and no other row has one
pub record AreDue (rows : List (Option ℕ)) (heap : List Turn) (places : List ℕ) : Type 0 where
  pub told : (turn : Turn) → IsIn turn heap → IsHeld rows turn.row turn.first × (turn.second ≡ 0)
  pub found : (row at : ℕ) → IsHeld rows row at → IsIn (due_turn at row) heap
  pub kept : IsKept heap places
  pub count : length heap ≡ held rows
  pub wide : length rows ≤ length places

-- and no more rows are held than there is room for
pub record HaveRoom (rows : List (Option ℕ)) (heap : List Turn) (room capacity : ℕ) : Type 0 where
  pub small : length rows < 2 ^ 32
  pub within : length heap ≤ room
  pub taken : room ≤ capacity
