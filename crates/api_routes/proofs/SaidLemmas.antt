-- Some document says the definition of a task that a message makes.
use Rattle.std.proofs.Common.{◌≡◌, ℕ, List, [], ◌∷◌, Option, Some, None, sym, subst, inl, inr}
use Rattle.farm_text.specs.Slug.{slug_of}
use Rattle.task_types.specs.declared.change.RunName.{RunName}
use Rattle.task_types.specs.declared.change.Report.TheVariants.{Completed, Failed}
use Rattle.task_types.specs.Forms.{queue_name}
use Rattle.task_types.specs.declared.names.TaskQueue.{TaskQueue}
use Rattle.http_wire.specs.declared.message.Message.{Message}
use Rattle.farm_asks.specs.declared.question.Call.{Call}
use Rattle.farm_asks.specs.declared.question.Call.TheVariants.{CreateTask, Task, Status, ListTaskGroup, ListDependentTasks, ScheduleTask, RerunTask, CancelTask}
use Rattle.farm_asks.specs.declared.question.PageRequest.{PageRequest}
use Rattle.farm_asks.specs.declared.question.Parameter.{Parameter}
use Rattle.farm_asks.specs.declared.question.Parameter.TheVariants.{TaskId, TaskGroupId}
use Rattle.farm_asks.specs.Questions.{IsSaidCall}
use Rattle.route_table.specs.declared.route.Route.{Route}
use Rattle.route_table.specs.declared.route.Route.TheVariants as routes
use Rattle.api_routes.specs.Bodies.{IsTaskBody, IsCreateCall, IsWorkBody, IsReasonBody, IsTriggerBody}
use Rattle.api_routes.specs.Calls.{Request, Calls, task_or, CallsTask, CallsCreate, run_of, CallsRunOr, CallsRun, Reclaims, Reports, CallsQueue, CallsOfQueue, Counts, list_or, CallsList, CallsHookOf, CallsHook}
use Rattle.api_routes.specs.Routes.{IsCallOf}

-- a call that is this one
said-is : (call other : Call) → call ≡ other → IsSaidCall other → IsSaidCall call
said-is call other is said = subst IsSaidCall (sym is) said

-- ---- of a task

said-task_or : (asks : List ℕ → Call) → ((id : List ℕ) → IsSaidCall (asks id)) → (id : Option (List ℕ)) → IsSaidCall (task_or asks id)
said-task_or asks said None = tt
said-task_or asks said (Some id) = said id

said-task : (asks : List ℕ → Call) → ((id : List ℕ) → IsSaidCall (asks id)) → (parts : List (List ℕ)) (call : Call) → CallsTask asks parts call → IsSaidCall call
said-task asks said [] call is = absurd is
said-task asks said (id ∷ []) call is = said-is call (task_or asks (slug_of id)) is (said-task_or asks said (slug_of id))
said-task asks said (id ∷ part ∷ parts) call is = absurd is

said-body : (body id : List ℕ) (call : Call) → IsTaskBody body id call → IsSaidCall call
said-body body id (CreateTask creation) (same, says) = (says.0, says.2)
said-body body id _ is = tt

said-create_or : (body : List ℕ) (id : Option (List ℕ)) (call : Call) → IsCreateCall body id call → IsSaidCall call
said-create_or body None call is = said-is call _ is tt
said-create_or body (Some id) call is = said-body body id call is

said-create : (body : List ℕ) (parts : List (List ℕ)) (call : Call) → CallsCreate body parts call → IsSaidCall call
said-create body [] call is = absurd is
said-create body (id ∷ []) call is = said-create_or body (slug_of id) call is
said-create body (id ∷ part ∷ parts) call is = absurd is

-- ---- of a run

said-run_or : (Asks : RunName → Call → Type 0) → ((name : RunName) (call : Call) → Asks name call → IsSaidCall call) → (id : Option (List ℕ)) (run : Option ℕ) (call : Call) → CallsRunOr Asks id run call → IsSaidCall call
said-run_or Asks said None run call is = said-is call _ is tt
said-run_or Asks said (Some id) None call is = said-is call _ is tt
said-run_or Asks said (Some id) (Some run) call is = said (record { id = id; run = run }) call is

said-run : (Asks : RunName → Call → Type 0) → ((name : RunName) (call : Call) → Asks name call → IsSaidCall call) → (parts : List (List ℕ)) (call : Call) → CallsRun Asks parts call → IsSaidCall call
said-run Asks said [] call is = absurd is
said-run Asks said (id ∷ []) call is = absurd is
said-run Asks said (id ∷ run ∷ []) call is = said-run_or Asks said (slug_of id) (run_of run) call is
said-run Asks said (id ∷ run ∷ part ∷ parts) call is = absurd is

said-reason : (body : List ℕ) (name : RunName) (call : Call) → IsReasonBody body name call → IsSaidCall call
said-reason body name (CreateTask creation) is = absurd is
said-reason body name _ is = tt

-- ---- of a queue

said-work_body : (body : List ℕ) (queue : TaskQueue) (call : Call) → IsWorkBody body queue call → IsSaidCall call
said-work_body body queue (CreateTask creation) is = absurd is
said-work_body body queue _ is = tt

said-queue : (Asks : TaskQueue → Call → Type 0) → ((queue : TaskQueue) (call : Call) → Asks queue call → IsSaidCall call) → (name : List ℕ) (call : Call) → CallsQueue Asks name call → IsSaidCall call
said-queue Asks said name call (inl named) = said named.0 call named.4
said-queue Asks said name call (inr bad) = said-is call _ bad.1 tt

said-of_queue : (Asks : TaskQueue → Call → Type 0) → ((queue : TaskQueue) (call : Call) → Asks queue call → IsSaidCall call) → (parts : List (List ℕ)) (call : Call) → CallsOfQueue Asks parts call → IsSaidCall call
said-of_queue Asks said [] call is = absurd is
said-of_queue Asks said (name ∷ []) call is = said-queue Asks said name call is
said-of_queue Asks said (provisioner ∷ worker ∷ []) call is = said-queue Asks said (queue_name provisioner worker) call is
said-of_queue Asks said (provisioner ∷ worker ∷ part ∷ parts) call is = absurd is

-- ---- of a list

said-list_or : (asks : List ℕ → PageRequest → Call) (named : Parameter) → ((id : List ℕ) (page : PageRequest) → IsSaidCall (asks id page)) → (id : Option (List ℕ)) (limit : Option ℕ) (token : Option (Option (List ℕ))) → IsSaidCall (list_or asks named id limit token)
said-list_or asks named said None limit token = tt
said-list_or asks named said (Some id) None token = tt
said-list_or asks named said (Some id) (Some limit) None = tt
said-list_or asks named said (Some id) (Some limit) (Some after) = said id (record { after = after; limit = limit })

said-list : (asks : List ℕ → PageRequest → Call) (named : Parameter) → ((id : List ℕ) (page : PageRequest) → IsSaidCall (asks id page)) → (query : List ℕ) (parts : List (List ℕ)) (call : Call) → CallsList asks named query parts call → IsSaidCall call
said-list asks named said query [] call is = absurd is
said-list asks named said query (id ∷ []) call is = said-is call _ is (said-list_or asks named said (slug_of id) _ _)
said-list asks named said query (id ∷ part ∷ parts) call is = absurd is

-- ---- of a hook

said-payload : (body group id : List ℕ) (call : Call) → IsTriggerBody body group id call → IsSaidCall call
said-payload body group id (CreateTask creation) is = absurd is
said-payload body group id _ is = tt

said-hook_of : (body group id : List ℕ) (call : Call) → CallsHookOf body group id call → IsSaidCall call
said-hook_of body group id call (inl bad) = said-is call _ bad.1 tt
said-hook_of body group id call (inr (inl bad)) = said-is call _ bad.2 tt
said-hook_of body group id call (inr (inr named)) = said-payload body group id call named.2

said-hook : (body : List ℕ) (parts : List (List ℕ)) (call : Call) → CallsHook body parts call → IsSaidCall call
said-hook body [] call is = absurd is
said-hook body (group ∷ []) call is = absurd is
said-hook body (group ∷ id ∷ []) call is = said-hook_of body group id call is
said-hook body (group ∷ id ∷ part ∷ parts) call is = absurd is

-- ---- of any route

said-route : (route : Route) (request : Request) (call : Call) → Calls route request call → IsSaidCall call
said-route routes.Ping request call is = said-is call _ is tt
said-route routes.CreateTask request call is = said-create request.body request.parts call is
said-route routes.Task request call is = said-task Task (λ id. tt) request.parts call is
said-route routes.Status request call is = said-task Status (λ id. tt) request.parts call is
said-route routes.ScheduleTask request call is = said-task ScheduleTask (λ id. tt) request.parts call is
said-route routes.RerunTask request call is = said-task RerunTask (λ id. tt) request.parts call is
said-route routes.CancelTask request call is = said-task CancelTask (λ id. tt) request.parts call is
said-route routes.ClaimWork request call is = said-of_queue (IsWorkBody request.body) (said-work_body request.body) request.parts call is
said-route routes.ClaimWorkInTwo request call is = said-of_queue (IsWorkBody request.body) (said-work_body request.body) request.parts call is
said-route routes.ReclaimTask request call is = said-run Reclaims (λ name call is. said-is call _ is tt) request.parts call is
said-route routes.ReportCompleted request call is = said-run (Reports Completed) (λ name call is. said-is call _ is tt) request.parts call is
said-route routes.ReportFailed request call is = said-run (Reports Failed) (λ name call is. said-is call _ is tt) request.parts call is
said-route routes.ReportException request call is = said-run (IsReasonBody request.body) (said-reason request.body) request.parts call is
said-route routes.ListTaskGroup request call is = said-list ListTaskGroup TaskGroupId (λ id page. tt) request.query request.parts call is
said-route routes.ListDependentTasks request call is = said-list ListDependentTasks TaskId (λ id page. tt) request.query request.parts call is
said-route routes.PendingTasks request call is = said-of_queue Counts (λ queue call is. said-is call _ is tt) request.parts call is
said-route routes.PendingTasksInTwo request call is = said-of_queue Counts (λ queue call is. said-is call _ is tt) request.parts call is
said-route routes.TriggerHook request call is = said-hook request.body request.parts call is

pub said-call : (message : Message) (call : Call) → IsCallOf message call → IsSaidCall call
unfolding IsCallOf
said-call message call (inl fits) = said-route fits.0 _ call fits.3
said-call message call (inr none) = said-is call _ none.1 tt
