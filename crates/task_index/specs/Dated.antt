-- When each task falls due, by its place. The contracts of private functions alone speak of these.
use Rattle.std.specs.Prelude.{◌≡◌, ℕ, ◌==◌, min, false, List, Option, Some, None, option_and_then, unwrap_or, slice_get, if◌then◌else◌}
use Rattle.claim_queue.specs.Dues.{Dues as RowDues}
use Rattle.run_states.specs.Rows.{Row, is_resolved, claim_due}
use Rattle.task_index.specs.declared.dues.Dues.{Dues}

-- the deadline of a task, while it is not resolved
abbrev pub deadline_of : Row → Option ℕ
deadline_of row = if is_resolved row then None else Some row.definition.deadline

-- the moment that is held of a row, if there is one
abbrev pub held_at : RowDues → ℕ → Option ℕ
held_at dues row = unwrap_or (slice_get dues.rows row) None

-- of one row this is held, and of the others what was held before
abbrev pub IsHeldAt : ℕ → Option ℕ → RowDues → RowDues → Type 0
IsHeldAt row at before after = (other : ℕ) → held_at after other ≡ (if other == row then at else held_at before other)

-- of each task that is held which falls due of it, by its place, and nothing else
abbrev pub AreHeld : (Row → Option ℕ) → RowDues → List Row → Type 0
AreHeld due dues rows = (place : ℕ) → held_at dues place ≡ option_and_then due (slice_get rows place)

-- of each task its deadline is held exactly while it is not resolved, and the end of its claim exactly while it has one
pub record AreDues (dues : Dues) (rows : List Row) : Type 0 where
  pub deadlines : AreHeld deadline_of dues.deadlines rows
  pub leases : AreHeld claim_due dues.leases rows

-- the same, where it is kept when tasks fall due
abbrev pub MayBeDue : Option Dues → List Row → Type 0
MayBeDue None rows = Unit {0}
MayBeDue (Some dues) rows = AreDues dues rows

-- at one place what falls due of this task is held, and at the others what was held before
pub record ArePut (place : ℕ) (row : Row) (before after : Dues) : Type 0 where
  pub deadline : IsHeldAt place (deadline_of row) before.deadlines after.deadlines
  pub lease : IsHeldAt place (claim_due row) before.leases after.leases

-- this task stands at a place, and the others are as they were
pub record IsPutAt (place : ℕ) (row : Row) (before rows : List Row) : Type 0 where
  pub here : slice_get rows place ≡ Some row
  pub others : (other : ℕ) → (other == place) ≡ false → slice_get rows other ≡ slice_get before other

-- the earlier of two moments, if there is one
abbrev pub earlier_of : Option ℕ → Option ℕ → Option ℕ
earlier_of None other = other
earlier_of (Some one) None = Some one
earlier_of (Some one) (Some other) = Some (min one other)

-- what the first that falls due up to a moment tells of the place of the first that does so at it
abbrev pub place_at : ℕ → Option (ℕ × ℕ) → Option (Option ℕ)
place_at at None = Some None
place_at at (Some first) = if first.0 == at then Some (Some first.1) else None
