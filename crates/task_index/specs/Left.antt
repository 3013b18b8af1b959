-- Which tasks are left once some runs are picked. The contracts of private functions alone speak of these.
use Rattle.std.specs.Prelude.{Bool, not, List, filter, bytes_eq}
use Rattle.std.specs.List.{list_any}
use Rattle.run_states.specs.Rows.{Row}
use Rattle.task_types.specs.declared.change.RunName.{RunName}

-- a run of the task is among those
abbrev pub is_taken : List RunName → Row → Bool
is_taken names row = list_any (λ name. bytes_eq row.id name.id) names

-- the other tasks
abbrev pub left : List RunName → List Row → List Row
left names rows = filter (λ row. not (is_taken names row)) rows
