-- The tasks of a farm, as plain data (the queue service of the Taskcluster reference).
use Rattle.std.specs.Prelude.{ℕ, List, [], map, length, Option, find, bytes_eq}
use Rattle.std.specs.List.{IsDistinct}
use Rattle.run_states.specs.Rows.{Row}
use Rattle.task_index.specs.declared.counts.RowCounts.{RowCounts}

-- what the tables of a farm keep: the tasks in the order of their creation, the last moment, and the number that is drawn next
pub record Contents : Type 0 where
  pub rows : List Row
  pub last : ℕ
  pub next : ℕ

-- no task, and both numbers 0
abbrev pub no_contents : Contents
no_contents = record { rows = []; last = 0; next = 0 }

-- the task with this id
abbrev pub row_with : List ℕ → List Row → Option Row
row_with id rows = find (λ row. bytes_eq row.id id) rows

-- how many tasks there are, and the two numbers
abbrev pub counts_of : Contents → RowCounts
counts_of contents = record { rows = length contents.rows; next = contents.next; last = contents.last }

-- no two tasks have one id
abbrev pub HaveOwnIds : List Row → Type 0
HaveOwnIds rows = IsDistinct bytes_eq (map (λ row. row.id) rows)
