-- What a plan of a change holds.
use Rattle.std.specs.Prelude.{◌≡◌, ℕ, ◌+◌, ◌≤◌, max, nat_le, true, List, [], ◌∷◌, map, length, if◌then◌else◌}
use Rattle.std.specs.Option.{option_to_list}
use Rattle.std.specs.List.{flat_map, AllZip}
use Rattle.run_states.specs.Rows.{Row}
use Rattle.task_types.specs.declared.change.Change.{Change}
use Rattle.task_types.specs.declared.change.Creation.{Creation}
use Rattle.task_types.specs.declared.change.Kind.{Kind}
use Rattle.task_types.specs.declared.change.Kind.TheVariants.{Create, Schedule, Rerun, Cancel, Claim as TakesRuns, Reclaim, Resolve}
use Rattle.task_index.specs.Changes.{may_apply, applied}
use Rattle.task_index.specs.Contents.{Contents, row_with}
use Rattle.task_index.specs.Lists.{listed}
use Rattle.task_index.specs.declared.lists.TaskList.{TaskList}
use Rattle.task_index.specs.declared.lists.TaskList.TheVariants.{Group, Dependants}

-- the tasks that a change names, by their ids; a tick names none
abbrev pub names_of : Kind → List (List ℕ)
names_of (Create creation) = creation.id ∷ []
names_of (Schedule id) = id ∷ []
names_of (Rerun id) = id ∷ []
names_of (Cancel id) = id ∷ []
names_of (TakesRuns claim) = map (λ name. name.id) claim.runs
names_of (Reclaim r) = r.id ∷ []
names_of (Resolve r) = r.id ∷ []
names_of _ = []

-- the tasks with these ids, one after the other, as far as they stand
abbrev pub rows_with : List (List ℕ) → List Row → List Row
rows_with ids rows = flat_map (λ id. option_to_list (row_with id rows)) ids

-- the tasks that a change names, among these
abbrev pub named_rows : Kind → List Row → List Row
named_rows kind rows = rows_with (names_of kind) rows

-- the room that a plan brings: for so many tasks, and for so many on each list onto which a task comes that is created
pub record Room : Type 0 where
  pub tasks : ℕ
  pub lists : List ℕ

-- a change that has all its memory: the change, the tasks that it names as they will be, and the room that it brings
pub record Planned : Type 0 where
  pub change : Change
  pub rows : List Row
  pub room : Room

-- for how many there is room at least where there are so many: tasks in tables, or places on a list
unfoldable pub room_for : ℕ → ℕ
room_for stand =
    if nat_le stand 0 then 0
    else if nat_le stand 8 then 8
    else if nat_le stand 64 then 64
    else if nat_le stand 512 then 512
    else if nat_le stand 4096 then 4096
    else if nat_le stand 32768 then 32768
    else if nat_le stand 262144 then 262144
    else 1048576

-- one more finds room where there are so many, beside them or in what is brought, which has so much
abbrev pub HasRoom : ℕ → ℕ → Type 0
HasRoom stand brought = room_for (stand + 1) ≤ max (room_for stand) brought

-- one more task finds room on a list of tasks
abbrev pub HasRoomOn : List Row → TaskList → ℕ → Type 0
HasRoomOn rows list brought = HasRoom (length (listed list rows)) brought

-- the lists onto which a task comes that is created: that of its group, and those of the tasks that it waits for
abbrev pub lists_of : Creation → List TaskList
lists_of creation = Group creation.definition.task_group_id ∷ map Dependants creation.definition.dependencies

-- a task that is created finds room, among the tasks and on its lists; another change needs none
abbrev pub FindsRoom : List Row → Room → Kind → Type 0
FindsRoom rows room (Create creation) = HasRoom (length rows) room.tasks × AllZip (HasRoomOn rows) (lists_of creation) room.lists
FindsRoom rows room _ = Unit {0}

-- the plan was made on these contents: its change may be made, it shows the tasks that it names as they stand after it, and a task that it
-- creates finds room
pub record IsPlanOn (contents : Contents) (plan : Planned) : Type 0 where
  pub lawful : may_apply contents plan.change ≡ true
  pub shows : plan.rows ≡ named_rows plan.change.kind (applied contents plan.change).rows
  pub room : FindsRoom contents.rows plan.room plan.change.kind
