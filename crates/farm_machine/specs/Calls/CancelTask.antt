-- cancelTask: a task is resolved, where it was not (the queue service of the Taskcluster reference).
use Rattle.std.specs.Prelude.{List, ℕ, [], ◌∷◌}
use Rattle.call_rules.specs.Policy.{cancel_policy}
use Rattle.task_types.specs.declared.change.Kind.TheVariants.{Cancel}
use Rattle.run_states.specs.Rows.{is_resolved}
use Rattle.farm_machine.specs.Case.{Setting, Case, on_task, passing, when, changing}
use Rattle.farm_asks.specs.Replies.{tells_status}

-- the task has to stand; the status of a resolved one is answered
abbrev pub cancel_task : List ℕ → Setting → Case
cancel_task id at = on_task id at (λ row. record passing {
  policy = cancel_policy id row.definition;
  rules = when (is_resolved row) (tells_status row) ∷ [];
  deed = changing at.moment (Cancel id);
})
