-- The groups of tasks (the queue service of the Taskcluster reference: a task has one group, and all tasks of a group have one scheduler).
use Rattle.std.specs.Prelude.{ℕ, Bool, List, [], ◌∷◌, ◌++◌, Option, None, option_map, find, bytes_eq, if◌then◌else◌}
use Rattle.std.specs.List.{list_any, last_or}
use Rattle.std.specs.Option.{option_map_or}

-- a group: its id, the scheduler of its tasks, and their rows in the order of creation
pub record TaskGroup : Type 0 where
  pub id : List ℕ
  pub scheduler : List ℕ
  pub rows : List ℕ

-- a task with this scheduler joins this group
pub record Joining : Type 0 where
  pub group : List ℕ
  pub scheduler : List ℕ

-- the groups in the order of their first tasks, and the one join for which there is room
pub record TaskGroups : Type 0 where
  pub groups : List TaskGroup
  pub room : Option Joining

-- no group, and no room
abbrev pub no_groups : TaskGroups
no_groups = record { groups = []; room = None }

-- the group has this id
abbrev pub is_group : List ℕ → TaskGroup → Bool
is_group id group = bytes_eq group.id id

-- the group with this id
abbrev pub group_with : List ℕ → List TaskGroup → Option TaskGroup
group_with id groups = find (is_group id) groups

-- the rows of the group with this id, none where there is no such group
abbrev pub rows_of : List ℕ → List TaskGroup → List ℕ
rows_of id groups = option_map_or (λ group. group.rows) (group_with id groups) []

-- its last row, if it has one
abbrev pub last_row : List ℕ → List TaskGroup → Option ℕ
last_row id groups = last_or None (rows_of id groups)

-- the scheduler that the tasks of the group have
abbrev pub kept_scheduler : List ℕ → List TaskGroup → Option (List ℕ)
kept_scheduler id groups = option_map (λ group. group.scheduler) (group_with id groups)

-- the group with one row more, which comes last
abbrev pub with_row : ℕ → TaskGroup → TaskGroup
with_row row group = record group { rows = group.rows ++ row ∷ [] }

-- the first of a list that passes a test is changed
abbrev pub change_first : {A : Type 0} → (A → Bool) → (A → A) → List A → List A
change_first test change [] = []
change_first test change (x ∷ xs) = if test x then change x ∷ xs else x ∷ change_first test change xs

-- a row joins the group with this id; where there is none, it is the first of a group of its own
abbrev pub joined : List ℕ → List ℕ → ℕ → List TaskGroup → List TaskGroup
joined id scheduler row groups =
    if list_any (is_group id) groups then change_first (is_group id) (with_row row) groups
    else groups ++ (record { id = id; scheduler = scheduler; rows = row ∷ [] }) ∷ []
