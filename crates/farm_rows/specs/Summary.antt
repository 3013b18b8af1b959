-- How the tasks of a farm stand, counted (the states are those of the queue service of the Taskcluster reference).
use Rattle.std.specs.Prelude.{Bool, true, false, List, Option, Some, None, length, count_by, sum_by}
use Rattle.run_states.specs.declared.reasons.RunState.{RunState}
use Rattle.run_states.specs.declared.reasons.RunState.TheVariants.{Pending, Running, Completed, Failed, Exception}
use Rattle.run_states.specs.Rows.{Row, row_state}
use Rattle.farm_rows.specs.declared.summary.Summary.{Summary}

-- two states are one, where a task without a run has none
abbrev pub is_same_state : Option RunState → Option RunState → Bool
is_same_state None None = true
is_same_state (Some Pending) (Some Pending) = true
is_same_state (Some Running) (Some Running) = true
is_same_state (Some Completed) (Some Completed) = true
is_same_state (Some Failed) (Some Failed) = true
is_same_state (Some Exception) (Some Exception) = true
is_same_state one other = false

-- a task is in this state
abbrev pub is_in : Option RunState → Row → Bool
is_in state row = is_same_state (row_state row) state

-- how many tasks there are, how many of them are in each state that is final, how many are unscheduled, and how many runs they have
abbrev pub summary_of : List Row → Summary
summary_of rows = record {
  tasks = length rows;
  completed = count_by (is_in (Some Completed)) rows;
  failed = count_by (is_in (Some Failed)) rows;
  exception = count_by (is_in (Some Exception)) rows;
  unscheduled = count_by (is_in None) rows;
  runs = sum_by (λ row. length row.runs) rows;
}
