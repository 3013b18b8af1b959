-- The table of the routes, a line a route (the Taskcluster reference, "queue" and "hooks").
use Rattle.std.specs.Prelude.{ℕ, List, [], ◌∷◌, codes}
use Rattle.route_table.specs.declared.path.PathForm.{PathForm}
use Rattle.route_table.specs.declared.path.PathForm.TheVariants as paths
use Rattle.route_table.specs.declared.route.Route.{Route}
use Rattle.route_table.specs.declared.route.Route.TheVariants.{Ping, CreateTask, Task, Status, ScheduleTask, RerunTask, CancelTask, ClaimWork, ClaimWorkInTwo, ReclaimTask, ReportCompleted, ReportFailed, ReportException, ListTaskGroup, ListDependentTasks, PendingTasks, PendingTasksInTwo, TriggerHook}
use Rattle.route_table.specs.Segments.{Segment, word, parameter}

-- a path of the queue service
abbrev pub of_queue : List Segment → List Segment
of_queue segments = word [] ∷ word (codes "api") ∷ word (codes "queue") ∷ word (codes "v1") ∷ segments

-- a path of a task
abbrev pub of_task : List Segment → List Segment
of_task segments = of_queue (word (codes "task") ∷ parameter ∷ segments)

-- a path of a run
abbrev pub of_run : List ℕ → List Segment
of_run verb = of_task (word (codes "runs") ∷ parameter ∷ word verb ∷ [])

-- the parts of each form of path; the name of a queue is one part, or two
abbrev pub segments_of : PathForm → List Segment
segments_of paths.Ping = of_queue (word (codes "ping") ∷ [])
segments_of paths.Task = of_task []
segments_of paths.Status = of_task (word (codes "status") ∷ [])
segments_of paths.Schedule = of_task (word (codes "schedule") ∷ [])
segments_of paths.Rerun = of_task (word (codes "rerun") ∷ [])
segments_of paths.Cancel = of_task (word (codes "cancel") ∷ [])
segments_of paths.Claim = of_queue (word (codes "claim-work") ∷ parameter ∷ [])
segments_of paths.ClaimInTwo = of_queue (word (codes "claim-work") ∷ parameter ∷ parameter ∷ [])
segments_of paths.Reclaim = of_run (codes "reclaim")
segments_of paths.Completed = of_run (codes "completed")
segments_of paths.Failed = of_run (codes "failed")
segments_of paths.Exception = of_run (codes "exception")
segments_of paths.Group = of_queue (word (codes "task-group") ∷ parameter ∷ word (codes "list") ∷ [])
segments_of paths.Dependents = of_task (word (codes "dependents") ∷ [])
segments_of paths.Pending = of_queue (word (codes "pending") ∷ parameter ∷ [])
segments_of paths.PendingInTwo = of_queue (word (codes "pending") ∷ parameter ∷ parameter ∷ [])
segments_of paths.Trigger =
    word [] ∷ word (codes "api") ∷ word (codes "hooks") ∷ word (codes "v1") ∷ word (codes "hooks") ∷ parameter ∷ parameter ∷ word (codes "trigger") ∷ []

-- the form of path of each route
abbrev pub path_of : Route → PathForm
path_of Ping = paths.Ping
path_of CreateTask = paths.Task
path_of Task = paths.Task
path_of Status = paths.Status
path_of ScheduleTask = paths.Schedule
path_of RerunTask = paths.Rerun
path_of CancelTask = paths.Cancel
path_of ClaimWork = paths.Claim
path_of ClaimWorkInTwo = paths.ClaimInTwo
path_of ReclaimTask = paths.Reclaim
path_of ReportCompleted = paths.Completed
path_of ReportFailed = paths.Failed
path_of ReportException = paths.Exception
path_of ListTaskGroup = paths.Group
path_of ListDependentTasks = paths.Dependents
path_of PendingTasks = paths.Pending
path_of PendingTasksInTwo = paths.PendingInTwo
path_of TriggerHook = paths.Trigger

-- the method of each route (RFC 9110, section 9.3)
abbrev pub method_of : Route → List ℕ
method_of Ping = codes "GET"
method_of CreateTask = codes "PUT"
method_of Task = codes "GET"
method_of Status = codes "GET"
method_of ScheduleTask = codes "POST"
method_of RerunTask = codes "POST"
method_of CancelTask = codes "POST"
method_of ClaimWork = codes "POST"
method_of ClaimWorkInTwo = codes "POST"
method_of ReclaimTask = codes "POST"
method_of ReportCompleted = codes "POST"
method_of ReportFailed = codes "POST"
method_of ReportException = codes "POST"
method_of ListTaskGroup = codes "GET"
method_of ListDependentTasks = codes "GET"
method_of PendingTasks = codes "GET"
method_of PendingTasksInTwo = codes "GET"
method_of TriggerHook = codes "POST"
