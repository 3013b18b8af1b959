-- The status of a task as a JSON document (the queue service of the Taskcluster reference; which keys it has is this project's profile).
use Rattle.std.specs.Prelude.{ℕ, suc, pos, List, [], ◌∷◌, ◌++◌, codes, Option, Some, None, option_map}
use Rattle.task_statuses.specs.Calendar.{moment_text}
use Rattle.farm_text.specs.Document.{Document, whole, text, array, object, Items, no_items, item, members_of}
use Rattle.farm_text.specs.Slug.{slug_text}
use Rattle.task_defs.specs.Definitions.{full_form}
use Rattle.task_types.specs.Forms.{queue_name}
use Rattle.task_types.specs.declared.task_def.TaskDef.{TaskDef}
use Rattle.run_states.specs.Rows.{Row, row_state}
use Rattle.run_states.specs.Runs.{run_state}
use Rattle.run_states.specs.Reasons.{state_name, created_name, resolved_name}
use Rattle.run_states.specs.declared.reasons.RunState.{RunState}
use Rattle.run_states.specs.declared.run.Run.{Run}

-- the name of a task's state
abbrev pub task_state_name : Option RunState → List ℕ
task_state_name None = codes "unscheduled"
task_state_name (Some state) = state_name state

-- a moment as a document
abbrev pub moment_doc : ℕ → Document
moment_doc millis = text (moment_text millis)

-- a member that stands only where there is something
abbrev pub where_some : List ℕ → Option Document → List (List ℕ × Document)
where_some key None = []
where_some key (Some d) = (key, d) ∷ []

-- a run, with its number from 0: what came of its claim and how it ended stand there where they exist (the end of the claim also once it ended)
abbrev pub run_doc : ℕ → Run → Document
run_doc number run =
    object (members_of (
    (codes "reasonCreated", text (created_name run.created))
    ∷ where_some (codes "reasonResolved") (option_map (λ o. text (resolved_name o.reason)) run.outcome)
    ++ where_some (codes "resolved") (option_map (λ o. moment_doc o.at) run.outcome)
    ++ (codes "runId", whole (pos number))
    ∷ (codes "scheduled", moment_doc run.scheduled)
    ∷ where_some (codes "started") (option_map (λ c. moment_doc c.started) run.claim)
    ++ (codes "state", text (state_name (run_state run)))
    ∷ where_some (codes "takenUntil") (option_map (λ c. moment_doc c.taken_until) run.claim)
    ++ where_some (codes "workerGroup") (option_map (λ c. text c.worker_group) run.claim)
    ++ where_some (codes "workerId") (option_map (λ c. text c.worker_id) run.claim)))

-- runs, the first with this number
abbrev pub runs_from : ℕ → List Run → Items
runs_from number [] = no_items
runs_from number (run ∷ runs) = item (run_doc number run) (runs_from (suc number) runs)

-- the definition of a task in full form
abbrev pub definition_of : TaskDef → Document
definition_of def = full_form def (moment_text def.created) (moment_text def.deadline) (moment_text def.expires)

-- the status of a task
abbrev pub status_of : Row → Document
status_of row =
    object (members_of (
    (codes "deadline", moment_doc row.definition.deadline)
    ∷ (codes "expires", moment_doc row.definition.expires)
    ∷ (codes "projectId", text row.definition.project_id)
    ∷ (codes "provisionerId", text row.definition.queue.provisioner_id)
    ∷ (codes "retriesLeft", whole (pos row.retries_left))
    ∷ (codes "runs", array (runs_from 0 row.runs))
    ∷ (codes "schedulerId", text row.definition.scheduler_id)
    ∷ (codes "state", text (task_state_name (row_state row)))
    ∷ (codes "taskGroupId", text (slug_text row.definition.task_group_id))
    ∷ (codes "taskId", text (slug_text row.id))
    ∷ (codes "taskQueueId", text (queue_name row.definition.queue.provisioner_id row.definition.queue.worker_type))
    ∷ (codes "workerType", text row.definition.queue.worker_type)
    ∷ []))
