-- The pages of lists of tasks, as the bodies of answers (the queue service of the Taskcluster reference: listTaskGroup and
-- listDependentTasks; which keys a page has is this project's profile).
use Rattle.std.specs.Prelude.{ℕ, List, [], ◌∷◌, ◌++◌, map, codes, Option, Some, None, option_map, if◌then◌else◌}
use Rattle.farm_text.specs.Document.{Document, text, array, object, items_of, members_of}
use Rattle.farm_text.specs.Slug.{slug_text}
use Rattle.run_states.specs.Rows.{Row}
use Rattle.task_index.specs.Lists.{listed, names_listed, page_rows, has_more, next_token}
use Rattle.task_index.specs.declared.lists.TaskList.{TaskList}
use Rattle.task_index.specs.declared.lists.TaskList.TheVariants.{Group, Dependants}
use Rattle.task_statuses.specs.Statuses.{where_some, definition_of, status_of}
use Rattle.farm_asks.specs.declared.question.PageRequest.{PageRequest}
use Rattle.farm_asks.specs.declared.reply.Answer.{Answer}
use Rattle.farm_asks.specs.Replies.{bad_parameter}

-- the answer where the token names no task of the list
abbrev pub bad_token : TaskList → PageRequest → List Row → Option Answer
bad_token list page rows =
    if names_listed list page.after rows then None else Some (bad_parameter (codes "continuationToken"))

-- a task of a list
abbrev pub listed_doc : Row → Document
listed_doc row = object (members_of ((codes "status", status_of row) ∷ (codes "task", definition_of row.definition) ∷ []))

-- what a list is of
abbrev pub list_name : TaskList → List ℕ × Document
list_name (Group group) = (codes "taskGroupId", text (slug_text group))
list_name (Dependants id) = (codes "taskId", text (slug_text id))

-- the members of a page before its tasks: the token of the page behind it, where there is one, and what the list is of
abbrev pub page_members : TaskList → Option (List ℕ) → List (List ℕ × Document)
page_members list token =
    where_some (codes "continuationToken") (option_map (λ id. text (slug_text id)) token) ++ list_name list ∷ []

-- a page of these tasks
abbrev pub page_doc : TaskList → Option (List ℕ) → List Row → Document
page_doc list token shown =
    object (members_of (page_members list token ++ (codes "tasks", array (items_of (map listed_doc shown))) ∷ []))

-- the token of the page behind this one, where more tasks follow
abbrev pub token_behind : PageRequest → List Row → Option (List ℕ)
token_behind page rows =
    if has_more page.after page.limit rows then next_token page.after page.limit rows else None

-- the page that is asked of a list
abbrev pub page_body : TaskList → PageRequest → List Row → Document
page_body list page rows =
    page_doc list (token_behind page (listed list rows)) (page_rows page.after page.limit (listed list rows))
