-- What a call is answered and what it changes: the table of calls, and the verdict in the one order of refusals.
use Rattle.std.specs.Prelude.{ℕ, List, codes}
use Rattle.farm_asks.specs.declared.question.Call.{Call}
use Rattle.farm_asks.specs.declared.question.Call.TheVariants.{NoRoute, BadParameter, BadBody, Ping, Task, Status, ListTaskGroup, ListDependentTasks, PendingTasks, CreateTask, ClaimWork, ReclaimTask, ReportRun, ScheduleTask, RerunTask, CancelTask, TriggerHook}
use Rattle.farm_machine.specs.Calls.CancelTask.{cancel_task}
use Rattle.farm_machine.specs.Calls.ClaimWork.{claim_work}
use Rattle.farm_machine.specs.Calls.CreateTask.{create_task}
use Rattle.farm_machine.specs.Calls.ListDependentTasks.{list_dependent_tasks}
use Rattle.farm_machine.specs.Calls.ListTaskGroup.{list_task_group}
use Rattle.farm_machine.specs.Calls.PendingTasks.{pending_tasks}
use Rattle.farm_machine.specs.Calls.Ping.{ping}
use Rattle.farm_machine.specs.Calls.ReclaimTask.{reclaim_task}
use Rattle.farm_machine.specs.Calls.ReportRun.{report_run}
use Rattle.farm_machine.specs.Calls.RerunTask.{rerun_task}
use Rattle.farm_machine.specs.Calls.ScheduleTask.{schedule_task}
use Rattle.farm_machine.specs.Calls.Status.{status}
use Rattle.farm_machine.specs.Calls.Task.{task}
use Rattle.farm_machine.specs.Calls.TriggerHook.{Fired, trigger_hook, ComesTo, case_after}
use Rattle.farm_machine.specs.Case.{Setting}
use Rattle.farm_machine.specs.Changes.{moment_of}
use Rattle.farm_asks.specs.Questions.{Asking, parameter_name}
use Rattle.farm_machine.specs.Judgement.{Judgement}
use Rattle.farm_machine.specs.Order.{Form, has_no_route, has_bad_parameter, has_bad_body, asks, asks_then, in_order, IsFirst}
use Rattle.farm_asks.specs.Replies.{not_found, bad_parameter, bad_body}
use Rattle.farm_machine.specs.State.{State}

-- the table of calls
abbrev pub form_of : Call → Form
form_of (NoRoute name) = has_no_route (not_found (codes "route") name)
form_of (BadParameter parameter) = has_bad_parameter (bad_parameter (parameter_name parameter))
form_of (BadBody fault) = has_bad_body (bad_body fault)
form_of Ping = asks ping
form_of (Task id) = asks (task id)
form_of (Status id) = asks (status id)
form_of (ListTaskGroup group page) = asks (list_task_group group page)
form_of (ListDependentTasks id page) = asks (list_dependent_tasks id page)
form_of (PendingTasks queue) = asks (pending_tasks queue)
form_of (CreateTask creation) = asks (create_task creation)
form_of (ClaimWork work) = asks (claim_work work)
form_of (ReclaimTask name) = asks (reclaim_task name)
form_of (ReportRun report) = asks (report_run report)
form_of (ScheduleTask id) = asks (schedule_task id)
form_of (RerunTask id) = asks (rerun_task id)
form_of (CancelTask id) = asks (cancel_task id)
form_of (TriggerHook trigger) = asks_then Fired (trigger_hook trigger) (ComesTo trigger) case_after

-- where a call is judged that is asked so in this state
abbrev pub setting_of : State → Asking → Setting
setting_of state asking = record { state = state; moment = moment_of state.contents asking; drawn = asking.drawn }

-- the verdict of a call in this state: the first judgement in the order of refusals
unfoldable pub IsVerdict : State → Asking → Judgement → Type 0
IsVerdict state asking judgement =
    IsFirst (in_order (setting_of state asking) asking.caller (form_of asking.call)) judgement
