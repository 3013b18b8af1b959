-- The members of a status and of its runs, part by part in their order.
use Rattle.std.specs.Prelude.{ℕ, pos, List, [], ◌∷◌, ◌++◌, codes, Option, Some, None, option_map}
use Rattle.farm_text.specs.Document.{Document, whole, text}
use Rattle.farm_text.specs.Slug.{slug_text}
use Rattle.task_types.specs.Forms.{queue_name}
use Rattle.task_types.specs.declared.names.TaskQueue.{TaskQueue}
use Rattle.task_types.specs.declared.task_def.TaskDef.{TaskDef}
use Rattle.run_states.specs.Rows.{Row, row_state}
use Rattle.run_states.specs.Runs.{run_state}
use Rattle.run_states.specs.Reasons.{state_name, created_name, resolved_name}
use Rattle.run_states.specs.declared.run.Claim.{Claim}
use Rattle.run_states.specs.declared.run.Outcome.{Outcome}
use Rattle.run_states.specs.declared.run.Run.{Run}
use Rattle.task_statuses.specs.Statuses.{moment_doc, task_state_name, where_some}

-- the moments of a status
abbrev pub dates : TaskDef → List (List ℕ × Document)
dates def = (codes "deadline", moment_doc def.deadline) ∷ (codes "expires", moment_doc def.expires) ∷ []

-- whose the task is, and whose workers run it
abbrev pub owners : TaskDef → List (List ℕ × Document)
owners def = (codes "projectId", text def.project_id) ∷ (codes "provisionerId", text def.queue.provisioner_id) ∷ []

-- the members of a status before its runs
abbrev pub before_runs : Row → List (List ℕ × Document)
before_runs row = dates row.definition ++ owners row.definition ++ (codes "retriesLeft", whole (pos row.retries_left)) ∷ []

-- what schedules the task, and its state
abbrev pub standing : Row → List (List ℕ × Document)
standing row = (codes "schedulerId", text row.definition.scheduler_id) ∷ (codes "state", text (task_state_name (row_state row))) ∷ []

-- the ids of the task
abbrev pub ids : Row → List (List ℕ × Document)
ids row = (codes "taskGroupId", text (slug_text row.definition.task_group_id)) ∷ (codes "taskId", text (slug_text row.id)) ∷ []

-- where the task waits for a worker
abbrev pub place : TaskQueue → List (List ℕ × Document)
place queue = (codes "taskQueueId", text (queue_name queue.provisioner_id queue.worker_type)) ∷ (codes "workerType", text queue.worker_type) ∷ []

-- the members of a status behind its runs
abbrev pub behind_runs : Row → List (List ℕ × Document)
behind_runs row = standing row ++ ids row ++ place row.definition.queue

-- how a run ended, where it did
abbrev pub ended : Option Outcome → List (List ℕ × Document)
ended outcome =
    where_some (codes "reasonResolved") (option_map (λ o. text (resolved_name o.reason)) outcome)
    ++ where_some (codes "resolved") (option_map (λ o. moment_doc o.at) outcome)

-- when a run was claimed, where it was
abbrev pub started : Option Claim → List (List ℕ × Document)
started claim = where_some (codes "started") (option_map (λ c. moment_doc c.started) claim)

-- whose a run is, where it was claimed
abbrev pub worker : Claim → List (List ℕ × Document)
worker claim = (codes "workerGroup", text claim.worker_group) ∷ (codes "workerId", text claim.worker_id) ∷ []

-- whose a run is and until when, where it was claimed
abbrev pub taken : Option Claim → List (List ℕ × Document)
taken None = []
taken (Some claim) = (codes "takenUntil", moment_doc claim.taken_until) ∷ worker claim

-- the members of a run up to how it ended
abbrev pub reasons : Run → List (List ℕ × Document)
reasons run = (codes "reasonCreated", text (created_name run.created)) ∷ ended run.outcome

-- its number, and when it was made
abbrev pub made : ℕ → Run → List (List ℕ × Document)
made number run = (codes "runId", whole (pos number)) ∷ (codes "scheduled", moment_doc run.scheduled) ∷ []

-- when it was claimed, and its state
abbrev pub course : Run → List (List ℕ × Document)
course run = started run.claim ++ (codes "state", text (state_name (run_state run))) ∷ []
