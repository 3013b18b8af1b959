-- scheduleTask: an unscheduled task becomes pending, whatever it waits for (the queue service of the Taskcluster reference).
use Rattle.std.specs.Prelude.{List, ℕ, not, [], ◌∷◌}
use Rattle.call_rules.specs.Policy.{schedule_policy}
use Rattle.task_types.specs.declared.change.Kind.TheVariants.{Schedule}
use Rattle.run_states.specs.Rows.{is_unscheduled}
use Rattle.farm_machine.specs.Case.{Setting, Case, on_task, passing, when, changing}
use Rattle.farm_asks.specs.Replies.{tells_status}

-- the task has to stand; the status of one that was scheduled is answered
abbrev pub schedule_task : List ℕ → Setting → Case
schedule_task id at = on_task id at (λ row. record passing {
  policy = schedule_policy id row.definition;
  rules = when (not (is_unscheduled row)) (tells_status row) ∷ [];
  deed = changing at.moment (Schedule id);
})
