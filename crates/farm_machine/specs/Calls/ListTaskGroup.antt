-- listTaskGroup: the tasks of a group, page by page (the queue service of the Taskcluster reference).
use Rattle.std.specs.Prelude.{ℕ, List, codes, Option, Some, None, if◌then◌else◌}
use Rattle.std.specs.List.{list_any}
use Rattle.call_rules.specs.Policy.{group_policy}
use Rattle.task_index.specs.Lists.{is_listed}
use Rattle.task_index.specs.declared.lists.TaskList.TheVariants.{Group}
use Rattle.farm_text.specs.Slug.{slug_text}
use Rattle.run_states.specs.Rows.{Row}
use Rattle.farm_asks.specs.declared.question.PageRequest.{PageRequest}
use Rattle.farm_asks.specs.declared.reply.Answer.{Answer}
use Rattle.farm_machine.specs.Case.{Setting, Case, passing, reading}
use Rattle.farm_machine.specs.Pages.{bad_token, page_body}
use Rattle.farm_asks.specs.Replies.{not_found}

-- a group is there where a task is of it
abbrev pub absent_group : List ℕ → List Row → Option Answer
absent_group group rows =
    if list_any (is_listed (Group group)) rows then None else Some (not_found (codes "group") (slug_text group))

-- the token has to name a task of the group, and the group has to be there
abbrev pub list_task_group : List ℕ → PageRequest → Setting → Case
list_task_group group page at = record passing {
  parameter = bad_token (Group group) page at.state.contents.rows;
  absent = absent_group group at.state.contents.rows;
  policy = group_policy group;
  deed = reading (λ contents. page_body (Group group) page contents.rows);
}
