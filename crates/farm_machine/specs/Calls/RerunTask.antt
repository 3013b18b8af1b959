-- rerunTask: a resolved task is run again (the queue service of the Taskcluster reference; its rules and their order are this project's profile).
use Rattle.std.specs.Prelude.{ℕ, nat_le, not, ◌&&◌, List, [], ◌∷◌, length}
use Rattle.call_rules.specs.Policy.{rerun_policy}
use Rattle.task_types.specs.declared.change.Kind.TheVariants.{Rerun}
use Rattle.run_states.specs.Rows.{Row, is_unscheduled, is_resolved}
use Rattle.farm_machine.specs.Case.{Setting, Rule, Case, on_task, passing, when, changing}
use Rattle.farm_asks.specs.Replies.{tells_status, conflict}

-- the status of a pending or running task is answered; an unscheduled one is not run again, nor is one whose deadline came, or that has
-- fifty runs
abbrev pub rerun_rules : Row → ℕ → List Rule
rerun_rules row moment =
    when (not (is_unscheduled row) && not (is_resolved row)) (tells_status row)
    ∷ when (is_unscheduled row) (conflict 4 row)
    ∷ when (nat_le row.definition.deadline moment) (conflict 5 row)
    ∷ when (nat_le 50 (length row.runs)) (conflict 6 row)
    ∷ []

-- the task has to stand
abbrev pub rerun_task : List ℕ → Setting → Case
rerun_task id at = on_task id at (λ row. record passing {
  policy = rerun_policy id row.definition;
  rules = rerun_rules row at.moment;
  deed = changing at.moment (Rerun id);
})
