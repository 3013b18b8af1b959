-- What is kept beside the tasks. No contract above `farm_rows` speaks of these.
use Rattle.std.specs.Prelude.{◌≡◌, ℕ, ◌==◌, false, List, length, slice_get}
use Rattle.run_states.specs.Rows.{Row}
use Rattle.run_states.specs.Later.{RowsLater}
use Rattle.task_index.specs.declared.index.Index.{Index}
use Rattle.task_index.specs.Sweep.{IsKept}
use Rattle.task_index.specs.Placed.{ArePlaced}
use Rattle.task_index.specs.Members.{MayBeMembers}
use Rattle.task_index.specs.Dated.{MayBeDue}
use Rattle.task_index.specs.Dependencies.{MayBeDependencies}
use Rattle.task_index.specs.Queues.{MayBeQueues}
use Rattle.task_index.specs.PlaceLists.{KeptPlaces, AreListed}

-- all that is kept beside these tasks is right, as far as it is kept
pub record IsIndexOf (index : Index) (rows : List Row) : Type 0 where
  pub placed : ArePlaced index.places rows
  pub members : MayBeMembers index.members rows
  pub due : MayBeDue index.dues rows
  pub waiting : MayBeDependencies index.graph rows
  pub queued : MayBeQueues index.queues rows

-- the task at a place may have changed in its state, and the others are as they were
pub record IsLaterAt (place : ℕ) (before rows : List Row) : Type 0 where
  pub stay : RowsLater before rows
  pub long : length rows ≡ length before
  pub others : (other : ℕ) → (other == place) ≡ false → slice_get rows other ≡ slice_get before other

-- all that is kept is right but for the task at a place, which may have changed since
pub record IsIndexBut (place : ℕ) (index : Index) (rows : List Row) : Type 0 where
  pub before : List Row
  pub right : IsIndexOf index before
  pub later : IsLaterAt place before rows

-- what tables keep, and what is kept beside
pub record AreTables (rows : List Row) (last next : ℕ) (capacity : ℕ) (index : Index) (lists : List KeptPlaces) : Type 0 where
  pub kept : IsKept rows last next capacity
  pub indexed : IsIndexOf index rows
  pub listed : AreListed lists rows
