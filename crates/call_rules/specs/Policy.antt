-- What each call asks of its caller's scopes: the table of calls (this project's profile, formed after the scopes of the Taskcluster reference's queue and hooks services).
use Rattle.std.specs.Prelude.{ℕ, nat_le, List, [], ◌∷◌, ◌++◌, map, codes, decimal}
use Rattle.std.specs.List.{filter}
use Rattle.farm_text.specs.Slug.{slug_text}
use Rattle.scope_sets.specs.Expressions.{Expression, one, all_of, any_of, no_members, members_of}
use Rattle.task_types.specs.Choices.{priority_name, priorities}
use Rattle.task_types.specs.Forms.{queue_name}
use Rattle.task_types.specs.declared.choices.Priority.{Priority}
use Rattle.task_types.specs.declared.choices.Priority.TheVariants.{Highest, VeryHigh, High, Medium, Low, VeryLow, Lowest}
use Rattle.task_types.specs.declared.names.TaskQueue.{TaskQueue}
use Rattle.task_types.specs.declared.task_def.TaskDef.{TaskDef}
use Rattle.call_rules.specs.HookNames.{hook_name}
use Rattle.call_rules.specs.declared.calls.Call.{Call}
use Rattle.call_rules.specs.declared.calls.Call.TheVariants.{Ping, Task, Status, ListTaskGroup, ListDependentTasks, PendingTasks, CreateTask, ClaimWork, ReclaimTask, ResolveRun, ScheduleTask, RerunTask, CancelTask, TriggerHook}
use Rattle.call_rules.specs.declared.hook_names.HookName.{HookName}

-- the place of a priority, from the highest
abbrev pub rank : Priority → ℕ
rank Highest = 0
rank VeryHigh = 1
rank High = 2
rank Medium = 3
rank Low = 4
rank VeryLow = 5
rank Lowest = 6

-- the priorities from the highest down to this one
abbrev pub from_highest : Priority → List Priority
from_highest least = filter (λ p. nat_le (rank p) (rank least)) priorities

-- the scope to create tasks of a priority in a queue
abbrev pub create_scope : TaskQueue → Priority → List ℕ
create_scope queue p = codes "queue:create-task:" ++ (priority_name p ++ 58 ∷ queue_name queue.provisioner_id queue.worker_type)

-- what createTask asks: each of the task's scopes, its routes, its project, its scheduler, and one of its priority or a higher one in its queue
abbrev pub create_policy : TaskDef → Expression
create_policy def =
    all_of (members_of (
    map one def.scopes
    ++ (map (λ route. one (codes "queue:route:" ++ route)) def.routes
    ++ one (codes "queue:create-task:project:" ++ def.project_id)
    ∷ one (codes "queue:scheduler-id:" ++ def.scheduler_id)
    ∷ any_of (members_of (map (λ p. one (create_scope def.queue p)) (from_highest def.priority)))
    ∷ [])))

-- what asks for one scope, a text with an id behind it
abbrev pub id_policy : List ℕ → List ℕ → Expression
id_policy front id = one (front ++ slug_text id)

-- what task, status, listTaskGroup (of the group's id) and listDependentTasks ask
abbrev pub task_policy : List ℕ → Expression
task_policy id = id_policy (codes "queue:get-task:") id

abbrev pub status_policy : List ℕ → Expression
status_policy id = id_policy (codes "queue:status:") id

abbrev pub group_policy : List ℕ → Expression
group_policy group = id_policy (codes "queue:list-task-group:") group

abbrev pub dependants_policy : List ℕ → Expression
dependants_policy id = id_policy (codes "queue:list-dependent-tasks:") id

-- what pendingTasks asks
abbrev pub pending_policy : TaskQueue → Expression
pending_policy queue = one (codes "queue:pending-count:" ++ queue_name queue.provisioner_id queue.worker_type)

-- what claimWork asks: to claim work of the queue, as this worker
abbrev pub claim_policy : TaskQueue → List ℕ → List ℕ → Expression
claim_policy queue group id =
    all_of (members_of (
    one (codes "queue:claim-work:" ++ queue_name queue.provisioner_id queue.worker_type)
    ∷ one (codes "queue:worker-id:" ++ (group ++ 47 ∷ id))
    ∷ []))

-- a run as scopes name it: its task, a slash and its number
abbrev pub run_name : List ℕ → ℕ → List ℕ
run_name id run = slug_text id ++ 47 ∷ decimal run

-- what reclaimTask asks
abbrev pub reclaim_policy : List ℕ → ℕ → Expression
reclaim_policy id run = one (codes "queue:reclaim-task:" ++ run_name id run)

-- what each report of a run asks
abbrev pub resolve_policy : List ℕ → ℕ → Expression
resolve_policy id run = one (codes "queue:resolve-task:" ++ run_name id run)

-- a task as scopes name it: its scheduler, its group and its id, with slashes between them
abbrev pub task_name : List ℕ → TaskDef → List ℕ
task_name id def = def.scheduler_id ++ 47 ∷ (slug_text def.task_group_id ++ 47 ∷ slug_text id)

-- what managing a task asks, given the texts before the task's name and before its project: one of the two
abbrev pub manage_policy : List ℕ → List ℕ → List ℕ → TaskDef → Expression
manage_policy task project id def =
    any_of (members_of (one (task ++ task_name id def) ∷ one (project ++ def.project_id) ∷ []))

-- what scheduleTask, rerunTask and cancelTask ask
abbrev pub schedule_policy : List ℕ → TaskDef → Expression
schedule_policy id def = manage_policy (codes "queue:schedule-task:") (codes "queue:schedule-task-in-project:") id def

abbrev pub rerun_policy : List ℕ → TaskDef → Expression
rerun_policy id def = manage_policy (codes "queue:rerun-task:") (codes "queue:rerun-task-in-project:") id def

abbrev pub cancel_policy : List ℕ → TaskDef → Expression
cancel_policy id def = manage_policy (codes "queue:cancel-task:") (codes "queue:cancel-task-in-project:") id def

-- what triggerHook asks
abbrev pub trigger_policy : HookName → Expression
trigger_policy hook = one (codes "hooks:trigger-hook:" ++ hook_name hook.group hook.id)

-- the scope that a hook has: what roles give to it, its tasks may ask for
abbrev pub hook_start : HookName → List ℕ
hook_start hook = codes "assume:hook-id:" ++ hook_name hook.group hook.id

-- the table of calls, a line each
abbrev pub policy : Call → Expression
policy Ping = all_of no_members
policy (Task id) = task_policy id
policy (Status id) = status_policy id
policy (ListTaskGroup group) = group_policy group
policy (ListDependentTasks id) = dependants_policy id
policy (PendingTasks queue) = pending_policy queue.now
policy (CreateTask def) = create_policy def.now
policy (ClaimWork queue group id) = claim_policy queue.now group.now id.now
policy (ReclaimTask id run) = reclaim_policy id run
policy (ResolveRun id run) = resolve_policy id run
policy (ScheduleTask id def) = schedule_policy id def.now
policy (RerunTask id def) = rerun_policy id def.now
policy (CancelTask id def) = cancel_policy id def.now
policy (TriggerHook hook) = trigger_policy hook.now
