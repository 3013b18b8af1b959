-- Which task keeps a new one from being created that waits for it (the queue service of the Taskcluster reference: each dependency of a task
-- stands already; that it expires no earlier than the task's deadline is this project's own).
use Rattle.std.specs.Prelude.{ℕ, Bool, false, not, ◌&&◌, nat_lt, List, find, Option, is_none, bytes_eq}
use Rattle.std.specs.Option.{option_map_or}
use Rattle.run_states.specs.Rows.{Row}
use Rattle.task_types.specs.declared.change.Creation.{Creation}
use Rattle.task_index.specs.Contents.{row_with}

-- a task that the new one waits for is not the task itself, and does not stand
abbrev pub is_missing : Creation → List Row → List ℕ → Bool
is_missing creation rows id = not (bytes_eq id creation.id) && is_none (row_with id rows)

-- a task that the new one waits for is not the task itself, and stands, but expires before the deadline of the new one
abbrev pub is_early : Creation → List Row → List ℕ → Bool
is_early creation rows id =
    not (bytes_eq id creation.id)
    && option_map_or (λ row. nat_lt row.definition.expires creation.definition.deadline) (row_with id rows) false

-- the first of these that does not stand, in the order of the definition
abbrev pub missing_dependency : Creation → List Row → Option (List ℕ)
missing_dependency creation rows = find (is_missing creation rows) creation.definition.dependencies

-- the first of them that expires too early
abbrev pub early_dependency : Creation → List Row → Option (List ℕ)
early_dependency creation rows = find (is_early creation rows) creation.definition.dependencies
