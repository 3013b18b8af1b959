-- The tasks of each group, by their places, as they are kept. No contract above `farm_rows` speaks of these.
use Rattle.std.specs.Prelude.{◌≡◌, ℕ, Bool, List, Option, Some, None, bytes_eq}
use Rattle.run_states.specs.Rows.{Row}
use Rattle.task_groups.specs.Members.{TaskGroup, TaskGroups, Joining, rows_of}
use Rattle.task_index.specs.declared.lists.TaskList.TheVariants.{Group}
use Rattle.task_index.specs.Listing.{places_of}

-- a task is of this group
abbrev pub in_group : List ℕ → Row → Bool
in_group group row = bytes_eq row.definition.task_group_id group

-- a task joins its group
abbrev pub joining_of : List ℕ → List ℕ → Joining
joining_of group scheduler = record { group = group; scheduler = scheduler }

-- of each group the places of its tasks are kept
pub record AreMembers (groups : List TaskGroup) (rows : List Row) : Type 0 where
  pub places : (group : List ℕ) → rows_of group groups ≡ places_of (Group group) rows

-- the same, where there are groups
abbrev pub MayBeMembers : Option TaskGroups → List Row → Type 0
MayBeMembers None rows = Unit {0}
MayBeMembers (Some kept) rows = AreMembers kept.groups rows
