-- The lists of tasks and their pages (the queue service of the Taskcluster reference: listTaskGroup and listDependentTasks; each page but the
-- last is told with a token for the next, here the id of its last task).
use Rattle.std.specs.Prelude.{ℕ, zero, suc, Bool, true, nat_lt, List, [], ◌∷◌, ◌++◌, length, take, filter, map, Option, Some, None, bytes_eq, if◌then◌else◌}
use Rattle.std.specs.List.{list_any, last_or}
use Rattle.run_states.specs.Rows.{Row}
use Rattle.task_index.specs.Changes.{on_row}
use Rattle.task_index.specs.declared.lists.TaskList.{TaskList}
use Rattle.task_index.specs.declared.lists.TaskList.TheVariants.{Group, Dependants}

-- a task is on a list: it is of the group, or the other task is among those that it waits for
abbrev pub is_listed : TaskList → Row → Bool
is_listed (Group group) row = bytes_eq row.definition.task_group_id group
is_listed (Dependants id) row = list_any (λ dependency. bytes_eq dependency id) row.definition.dependencies

-- the tasks of a list, in the order of creation
abbrev pub listed : TaskList → List Row → List Row
listed list rows = filter (is_listed list) rows

-- a token names a task of a list
abbrev pub names_listed : TaskList → Option (List ℕ) → List Row → Bool
names_listed list None rows = true
names_listed list (Some token) rows = on_row (is_listed list) token rows

-- the tasks behind the one with an id
abbrev pub behind_id : List ℕ → List Row → List Row
behind_id id [] = []
behind_id id (row ∷ rows) = if bytes_eq row.id id then rows else behind_id id rows

-- the tasks behind the one that a token names, and all where there is none
abbrev pub behind : Option (List ℕ) → List Row → List Row
behind None rows = rows
behind (Some token) rows = behind_id token rows

-- the tasks of the page behind a token: so many at most
abbrev pub page_rows : Option (List ℕ) → ℕ → List Row → List Row
page_rows after limit rows = take limit (behind after rows)

-- there are more tasks than the page has
abbrev pub has_more : Option (List ℕ) → ℕ → List Row → Bool
has_more after limit rows = nat_lt limit (length (behind after rows))

-- the token of the page behind this one: its last task, or where it has none, the token of this one
abbrev pub next_token : Option (List ℕ) → ℕ → List Row → Option (List ℕ)
next_token after limit rows = last_or after (map (λ row. row.id) (page_rows after limit rows))

-- so many pages put together, from the one behind a token on
abbrev pub pages : ℕ → Option (List ℕ) → ℕ → List Row → List Row
pages zero after limit rows = []
pages (suc count) after limit rows = page_rows after limit rows ++ pages count (next_token after limit rows) limit rows
