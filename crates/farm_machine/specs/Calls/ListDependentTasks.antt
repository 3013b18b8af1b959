-- listDependentTasks: the tasks that wait for a task, page by page (the queue service of the Taskcluster reference).
use Rattle.std.specs.Prelude.{ℕ, List}
use Rattle.call_rules.specs.Policy.{dependants_policy}
use Rattle.task_index.specs.declared.lists.TaskList.TheVariants.{Dependants}
use Rattle.farm_asks.specs.declared.question.PageRequest.{PageRequest}
use Rattle.farm_machine.specs.Case.{Setting, Case, on_task, passing, reading}
use Rattle.farm_machine.specs.Pages.{bad_token, page_body}

-- the token has to name a task that waits for the task, and that has to stand
abbrev pub list_dependent_tasks : List ℕ → PageRequest → Setting → Case
list_dependent_tasks id page at = record passing {
  parameter = bad_token (Dependants id) page at.state.contents.rows;
  absent = (on_task id at (λ row. passing)).absent;
  policy = dependants_policy id;
  deed = reading (λ contents. page_body (Dependants id) page contents.rows);
}
