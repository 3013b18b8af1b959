-- reclaimTask: a worker keeps its run until another moment (the queue service of the Taskcluster reference).
use Rattle.std.specs.Prelude.{◌+◌, not, [], ◌∷◌}
use Rattle.call_rules.specs.Policy.{reclaim_policy}
use Rattle.task_types.specs.declared.change.Kind.TheVariants.{Reclaim}
use Rattle.task_types.specs.declared.change.RunName.{RunName}
use Rattle.run_states.specs.Rows.{is_running_at}
use Rattle.farm_machine.specs.Case.{Setting, Case, on_run, passing, when, changing}
use Rattle.farm_asks.specs.Config.{claim_millis}
use Rattle.farm_asks.specs.Replies.{conflict}

-- the run has to stand and to be running; it is the worker's for as long from now on as a claim lasts
abbrev pub reclaim_task : RunName → Setting → Case
reclaim_task name at = on_run name.id name.run at (λ row. record passing {
  policy = reclaim_policy name.id name.run;
  rules = when (not (is_running_at name.run row)) (conflict 3 row) ∷ [];
  deed = changing at.moment (Reclaim (record { id = name.id; run = name.run; taken_until = at.moment + claim_millis at.state.config }));
})
