-- What a plan keeps of its change, and what that makes of the tasks that stand. The contracts of private functions alone speak of these.
use Rattle.std.specs.Prelude.{ℕ, List, [], ◌∷◌, length, replicate, Option, Some, None}
use Rattle.run_states.specs.declared.run.Claim.{Claim as RunClaim}
use Rattle.run_states.specs.Rows.{Row, scheduled}
use Rattle.run_states.specs.Moves.{run_again, canceled, reclaimed, resolved}
use Rattle.task_types.specs.declared.change.Change.{Change}
use Rattle.task_types.specs.declared.change.Kind.{Kind}
use Rattle.task_types.specs.declared.change.Kind.TheVariants as kinds
use Rattle.task_index.specs.Contents.{row_with}
use Rattle.task_index.specs.Due.{draws}
use Rattle.task_index.specs.Changes.{change_row, reason_of, claim_of, all_claimed}
use Rattle.task_index.specs.Plans.{Planned, Room}
use Rattle.farm_rows.specs.declared.plan.Deed.{Deed}
use Rattle.farm_rows.specs.declared.plan.Deed.TheVariants as deeds

-- the kind of change
abbrev pub kind_of : Deed → Kind
kind_of (deeds.Create row) = kinds.Create (record { id = row.id; definition = row.definition })
kind_of (deeds.Schedule id) = kinds.Schedule id
kind_of (deeds.Rerun id) = kinds.Rerun id
kind_of (deeds.Cancel id) = kinds.Cancel id
kind_of (deeds.Claim claim) = kinds.Claim claim
kind_of (deeds.Reclaim reclaim) = kinds.Reclaim reclaim
kind_of (deeds.Resolve resolution) = kinds.Resolve resolution

-- the change
abbrev pub change_of : ℕ → Deed → Change
change_of at deed = record { at = at; kind = kind_of deed }

-- the task that is created
abbrev pub row_of : Deed → Option Row
row_of (deeds.Create row) = Some row
row_of _ = None

-- the tasks that it shows: the one that is created, or those of a list
abbrev pub shown_of : Deed → List Row → List Row
shown_of (deeds.Create row) rows = row ∷ []
shown_of _ rows = rows

abbrev pub planned_of : ℕ → Deed → List Row → Room → Planned
planned_of at deed rows room = record { change = change_of at deed; rows = shown_of deed rows; room = room }

-- what becomes of the tasks that stand, where a new run has this number
abbrev pub rows_after : ℕ → ℕ → Deed → List Row → List Row
rows_after at number (deeds.Create row) rows = rows
rows_after at number (deeds.Schedule id) rows = change_row id (scheduled number at) rows
rows_after at number (deeds.Rerun id) rows = change_row id (run_again number at) rows
rows_after at number (deeds.Cancel id) rows = change_row id (canceled at) rows
rows_after at number (deeds.Claim claim) rows = all_claimed (claim_of at claim) claim.runs rows
rows_after at number (deeds.Reclaim r) rows = change_row r.id (reclaimed r.run r.taken_until) rows
rows_after at number (deeds.Resolve r) rows = change_row r.id (resolved r.run (reason_of r.reason) number at) rows

-- how many numbers are drawn
abbrev pub drawn_by : Deed → List Row → ℕ
drawn_by (deeds.Schedule id) rows = 1
drawn_by (deeds.Rerun id) rows = 1
drawn_by (deeds.Resolve r) rows = draws (reason_of r.reason) (row_with r.id rows)
drawn_by _ rows = 0

-- the claims of the runs that are taken, a copy for each
abbrev pub claims_of : ℕ → Deed → List RunClaim
claims_of at (deeds.Claim claim) = replicate (length claim.runs) (claim_of at claim)
claims_of at _ = []

-- the room for the runs of a task: a rerun takes one, any other change none
abbrev pub run_room_of : Deed → Option (Unit {0})
run_room_of (deeds.Rerun id) = Some tt
run_room_of _ = None
