-- reportCompleted, reportFailed and reportException: a worker tells how its run ended (the queue service of the Taskcluster reference).
use Rattle.std.specs.Prelude.{not, [], ◌∷◌}
use Rattle.call_rules.specs.Policy.{resolve_policy}
use Rattle.task_types.specs.declared.change.Kind.TheVariants.{Resolve}
use Rattle.task_types.specs.declared.change.Resolution.{Resolution}
use Rattle.task_index.specs.Changes.{reason_of}
use Rattle.run_states.specs.Rows.{is_running_at}
use Rattle.run_states.specs.Moves.{ended_for_at}
use Rattle.farm_machine.specs.Case.{Setting, Case, on_run, passing, when, changing}
use Rattle.farm_asks.specs.Replies.{tells_status, conflict}

-- The run has to stand. Where it ended for this reason the status is answered, and else it has to be running.
abbrev pub report_run : Resolution → Setting → Case
report_run report at = on_run report.id report.run at (λ row. record passing {
  policy = resolve_policy report.id report.run;
  rules =
      when (ended_for_at report.run (reason_of report.reason) row) (tells_status row)
      ∷ when (not (is_running_at report.run row)) (conflict 3 row)
      ∷ [];
  deed = changing at.moment (Resolve report);
})
