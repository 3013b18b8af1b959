-- What each route calls, given what of a message its call is read from (the routes of the queue and hooks services of the Taskcluster reference).
use Rattle.std.specs.Prelude.{◌≡◌, ◌⊎◌, ℕ, decimal, codes, bytes_eq, List, [], ◌∷◌, find, Option, Some, None}
use Rattle.std.specs.List.{range_with_len}
use Rattle.call_rules.specs.HookNames.{IsHookGroupId, IsHookId}
use Rattle.farm_text.specs.Slug.{slug_of}
use Rattle.task_types.specs.Forms.{IsIdentifier, queue_name}
use Rattle.task_defs.specs.Values.{IsQueue}
use Rattle.task_types.specs.declared.names.TaskQueue.{TaskQueue}
use Rattle.task_types.specs.declared.change.Report.{Report}
use Rattle.task_types.specs.declared.change.Report.TheVariants.{Completed, Failed}
use Rattle.task_types.specs.declared.change.RunName.{RunName}
use Rattle.farm_asks.specs.declared.question.Call.{Call}
use Rattle.farm_asks.specs.declared.question.Call.TheVariants.{BadParameter, Ping, Task, Status, ListTaskGroup, ListDependentTasks, PendingTasks, ReclaimTask, ReportRun, ScheduleTask, RerunTask, CancelTask}
use Rattle.farm_asks.specs.declared.question.PageRequest.{PageRequest}
use Rattle.farm_asks.specs.declared.question.Parameter.{Parameter}
use Rattle.farm_asks.specs.declared.question.Parameter.TheVariants.{TaskId, RunId, TaskGroupId, Queue, HookGroupId, HookId, Limit, ContinuationToken}
use Rattle.route_table.specs.declared.route.Route.{Route}
use Rattle.route_table.specs.declared.route.Route.TheVariants as routes
use Rattle.api_routes.specs.Bodies.{IsCreateCall, IsWorkBody, IsReasonBody, IsTriggerBody}
use Rattle.api_routes.specs.Queries.{values_of, limit_of, token_of}

-- what of a message a call is read from: the parts of its path that stand for the route's parameters, percent-decoded (RFC 3986, section 2.1);
-- its query; and its body
pub record Request : Type 0 where
  pub parts : List (List ℕ)
  pub query : List ℕ
  pub body : List ℕ

-- ---- of a task

-- the call of a task, by its id
abbrev pub task_or : (List ℕ → Call) → Option (List ℕ) → Call
task_or asks None = BadParameter TaskId
task_or asks (Some id) = asks id

abbrev pub CallsTask : (List ℕ → Call) → List (List ℕ) → Call → Type 0
CallsTask asks (id ∷ []) call = call ≡ task_or asks (slug_of id)
CallsTask asks parts call = ⊥

-- the call to make a task, with this body
abbrev pub CallsCreate : List ℕ → List (List ℕ) → Call → Type 0
CallsCreate body (id ∷ []) call = IsCreateCall body (slug_of id) call
CallsCreate body parts call = ⊥

-- ---- of a run

-- the number of a run, as it is written: 0 to 49, without a leading zero
unfoldable pub run_of : List ℕ → Option ℕ
run_of text = find (λ run. bytes_eq (decimal run) text) (range_with_len 0 50)

-- the call of a run, by the id of its task and its number
abbrev pub CallsRunOr : (RunName → Call → Type 0) → Option (List ℕ) → Option ℕ → Call → Type 0
CallsRunOr Asks None run call = call ≡ BadParameter TaskId
CallsRunOr Asks (Some id) None call = call ≡ BadParameter RunId
CallsRunOr Asks (Some id) (Some run) call = Asks (record { id = id; run = run }) call

abbrev pub CallsRun : (RunName → Call → Type 0) → List (List ℕ) → Call → Type 0
CallsRun Asks (id ∷ run ∷ []) call = CallsRunOr Asks (slug_of id) (run_of run) call
CallsRun Asks parts call = ⊥

-- a run is kept for longer
abbrev pub Reclaims : RunName → Call → Type 0
Reclaims name call = call ≡ ReclaimTask name

-- a run ended so
abbrev pub Reports : Report → RunName → Call → Type 0
Reports reason name call = call ≡ ReportRun (record { id = name.id; run = name.run; reason = reason })

-- ---- of a queue

-- the call of a queue, by its name
abbrev pub CallsQueue : (TaskQueue → Call → Type 0) → List ℕ → Call → Type 0
CallsQueue Asks name call =
    ((queue : TaskQueue) × IsIdentifier queue.provisioner_id × IsIdentifier queue.worker_type
    × (name ≡ queue_name queue.provisioner_id queue.worker_type) × Asks queue call)
    ⊎ ((¬ IsQueue name) × (call ≡ BadParameter Queue))

-- a queue's name is one part, or two
abbrev pub CallsOfQueue : (TaskQueue → Call → Type 0) → List (List ℕ) → Call → Type 0
CallsOfQueue Asks (name ∷ []) call = CallsQueue Asks name call
CallsOfQueue Asks (provisioner ∷ worker ∷ []) call = CallsQueue Asks (queue_name provisioner worker) call
CallsOfQueue Asks parts call = ⊥

-- how many tasks wait in it is asked
abbrev pub Counts : TaskQueue → Call → Type 0
Counts queue call = call ≡ PendingTasks queue

-- ---- of a list of tasks

-- the call of a list, by the id of what it is of, how many tasks a page has at most, and the token: the first of them that is off its form
-- is told
abbrev pub list_or : (List ℕ → PageRequest → Call) → Parameter → Option (List ℕ) → Option ℕ → Option (Option (List ℕ)) → Call
list_or asks named None limit token = BadParameter named
list_or asks named (Some id) None token = BadParameter Limit
list_or asks named (Some id) (Some limit) None = BadParameter ContinuationToken
list_or asks named (Some id) (Some limit) (Some after) = asks id (record { after = after; limit = limit })

-- both are what the query says of their names
abbrev pub CallsList : (List ℕ → PageRequest → Call) → Parameter → List ℕ → List (List ℕ) → Call → Type 0
CallsList asks named query (id ∷ []) call =
    call ≡ list_or asks named (slug_of id) (limit_of (values_of (codes "limit") query)) (token_of (values_of (codes "continuationToken") query))
CallsList asks named query parts call = ⊥

-- ---- of a hook

-- the call of the hook of this group and this id: the first of them that is off its form is told
abbrev pub CallsHookOf : List ℕ → List ℕ → List ℕ → Call → Type 0
CallsHookOf body group id call =
    ((¬ IsHookGroupId group) × (call ≡ BadParameter HookGroupId))
    ⊎ (IsHookGroupId group × (¬ IsHookId id) × (call ≡ BadParameter HookId))
    ⊎ (IsHookGroupId group × IsHookId id × IsTriggerBody body group id call)

-- its group and its id are parts of the path
abbrev pub CallsHook : List ℕ → List (List ℕ) → Call → Type 0
CallsHook body (group ∷ id ∷ []) call = CallsHookOf body group id call
CallsHook body parts call = ⊥

-- ---- the table, a line a route

abbrev pub Calls : Route → Request → Call → Type 0
Calls routes.Ping request call = call ≡ Ping
Calls routes.CreateTask request call = CallsCreate request.body request.parts call
Calls routes.Task request call = CallsTask Task request.parts call
Calls routes.Status request call = CallsTask Status request.parts call
Calls routes.ScheduleTask request call = CallsTask ScheduleTask request.parts call
Calls routes.RerunTask request call = CallsTask RerunTask request.parts call
Calls routes.CancelTask request call = CallsTask CancelTask request.parts call
Calls routes.ClaimWork request call = CallsOfQueue (IsWorkBody request.body) request.parts call
Calls routes.ClaimWorkInTwo request call = CallsOfQueue (IsWorkBody request.body) request.parts call
Calls routes.ReclaimTask request call = CallsRun Reclaims request.parts call
Calls routes.ReportCompleted request call = CallsRun (Reports Completed) request.parts call
Calls routes.ReportFailed request call = CallsRun (Reports Failed) request.parts call
Calls routes.ReportException request call = CallsRun (IsReasonBody request.body) request.parts call
Calls routes.ListTaskGroup request call = CallsList ListTaskGroup TaskGroupId request.query request.parts call
Calls routes.ListDependentTasks request call = CallsList ListDependentTasks TaskId request.query request.parts call
Calls routes.PendingTasks request call = CallsOfQueue Counts request.parts call
Calls routes.PendingTasksInTwo request call = CallsOfQueue Counts request.parts call
Calls routes.TriggerHook request call = CallsHook request.body request.parts call
