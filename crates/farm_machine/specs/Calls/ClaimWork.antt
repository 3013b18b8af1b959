-- claimWork: a worker takes the runs of a queue that are next (the queue service of the Taskcluster reference; it answers at once).
use Rattle.std.specs.Prelude.{ℕ, ◌+◌, min, List, [], ◌∷◌}
use Rattle.call_rules.specs.Policy.{claim_policy}
use Rattle.task_types.specs.declared.change.Kind.TheVariants.{Claim as TakesRuns}
use Rattle.task_types.specs.declared.change.RunName.{RunName}
use Rattle.task_index.specs.Picks.{picks}
use Rattle.farm_asks.specs.declared.question.WorkRequest.{WorkRequest}
use Rattle.farm_machine.specs.Case.{Setting, Deed, Case, passing, reading, changing}
use Rattle.farm_asks.specs.Config.{claim_millis}
use Rattle.farm_asks.specs.Works.{work_body}

-- these runs are taken until a moment; where there are none, nothing changes, and that is answered
abbrev pub taking : ℕ → ℕ → WorkRequest → List RunName → Deed
taking moment until work [] = reading (λ contents. work_body [])
taking moment until work (name ∷ names) =
    changing moment (TakesRuns (record { taken_until = until; worker_group = work.worker_group; worker_id = work.worker_id; runs = name ∷ names }))

-- nothing has to stand, and no rule ends it: the runs that are next in the queue are taken, as many as are asked for (32 at most), or all that wait
abbrev pub claim_work : WorkRequest → Setting → Case
claim_work work at = record passing {
  policy = claim_policy work.queue work.worker_group work.worker_id;
  deed =
      taking at.moment (at.moment + claim_millis at.state.config) work (picks (min work.tasks 32) work.queue at.state.contents.rows);
}
