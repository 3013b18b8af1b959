-- What holds in every history of a farm: who is denied, and that a task is made once.
use Rattle.std.specs.Prelude.{◌≡◌, ◌≢◌, ℕ, ◌+◌, ◌≤◌, Bool, false, IsTrue, List, [], ◌∷◌, ◌++◌, filter, length, Option, Some, None, is_some, Result, Err, Contains, bytes_eq, if◌then◌else◌}
use Rattle.scope_sets.specs.Expressions.{Expression, holds, missing, HasNoEmptyAllOf, scopes_in}
use Rattle.scope_sets.specs.Scopes.{star}
use Rattle.history.specs.Histories.{IsLegal, end_state}
use Rattle.call_rules.specs.Policy.{create_policy}
use Rattle.task_types.specs.declared.change.Change.{Change}
use Rattle.task_types.specs.declared.change.Creation.{Creation}
use Rattle.task_types.specs.declared.change.Kind.{Kind}
use Rattle.task_types.specs.declared.change.Kind.TheVariants.{Create}
use Rattle.farm_text.specs.Document.{object, document_text}
use Rattle.hook_fire.specs.Firing.{IsFired}
use Rattle.hook_book.specs.Hooks.{HookData}
use Rattle.hook_fire.specs.declared.fault.FireFault.{FireFault}
use Rattle.hook_fire.specs.declared.fault.FireFault.TheVariants.{NoMemory}
use Rattle.task_types.specs.declared.task_def.TaskDef.{TaskDef}
use Rattle.run_states.specs.Rows.{Row}
use Rattle.task_index.specs.Changes.{creating}
use Rattle.task_index.specs.Contents.{Contents, row_with}
use Rattle.farm_asks.specs.declared.question.Call.{Call}
use Rattle.farm_asks.specs.declared.question.Call.TheVariants.{CreateTask, TriggerHook}
use Rattle.farm_asks.specs.declared.reply.Answer.{Answer}
use Rattle.farm_asks.specs.Access.{Has, HasAccess}
use Rattle.farm_machine.specs.Calls.TriggerHook.{hook_at}
use Rattle.farm_machine.specs.Case.{Setting}
use Rattle.farm_asks.specs.Questions.{Asking}
use Rattle.farm_machine.specs.Entry.{Entry, call, finished}
use Rattle.farm_machine.specs.Judgement.{Judgement, only_answer}
use Rattle.farm_machine.specs.Order.{Form, asks}
use Rattle.farm_machine.specs.Replay.{Restores}
use Rattle.farm_asks.specs.Replies.{ok, status_body, insufficient_scopes}
use Rattle.farm_machine.specs.State.{State}
use Rattle.farm_machine.specs.Step.{farm_rules}
use Rattle.farm_machine.specs.Verdict.{form_of, setting_of}

-- In a legal history that goes on from this state, a call became this behind the first entries.
pub record Finished (opening : State) (before after : List Entry) (asking : Asking) (judgement : Judgement) : Type 0 where
  pub legal : IsLegal farm_rules opening (before ++ call asking (finished judgement) ∷ after)

-- where a call is judged behind these entries
abbrev pub setting_behind : State → List Entry → Asking → Setting
setting_behind opening before asking = setting_of (end_state farm_rules opening before) asking

-- what a case asks of scopes, where its parameters name what they may, and what the call is of is there
abbrev pub where_there : Option Answer → Option Answer → Expression → Option Expression
where_there None None policy = Some policy
where_there parameter absent policy = None

-- Where the hook that a call triggers is there, its firing comes to something: each template does, where memory is ample.
abbrev pub FiringEnds : Setting → Call → Type 0
FiringEnds at (TriggerHook trigger) =
    (hook : HookData) → hook_at trigger.hook at ≡ Some hook
    → (outcome : Result TaskDef FireFault) × IsFired hook.template (object trigger.payload) at.moment at.drawn outcome × (outcome ≢ Err NoMemory)
FiringEnds at asked = Unit {0}

-- what a call asks of scopes, where it is of its form and what it names is there; of a triggerHook another law speaks
abbrev pub asked_policy : Form → Setting → Option Expression
asked_policy (asks case) at = where_there (case at).parameter (case at).absent (case at).policy
asked_policy form at = None

-- what is missing of an expression is something: no `AllOf` in it is empty, and it lists a scope
abbrev pub IsLack : List (List ℕ) → Expression → Expression → Type 0
IsLack scopes policy lack = (missing scopes policy ≡ Some lack) × HasNoEmptyAllOf lack × (scopes_in lack ≢ [])

-- The answer is a denial exactly where the scopes do not hold the expression: then it tells what is missing, which is something.
pub record DeniesExactly (scopes : List (List ℕ)) (policy : Expression) (answer : Answer) : Type 0 where
  pub held : IsTrue (holds scopes policy) → answer.status ≢ 403
  pub lacked : ¬ IsTrue (holds scopes policy) → (lack : Expression) × IsLack scopes policy lack × (answer ≡ insufficient_scopes lack)

-- Access: a call that is of its form and names what is there is denied exactly where its caller's scopes do not hold what it asks.
abbrev pub AccessIsExact : Type 0
AccessIsExact =
    (opening : State) (before after : List Entry) (asking : Asking) (judgement : Judgement) (scopes : List (List ℕ)) (policy : Expression)
    → Finished opening before after asking judgement
    → asked_policy (form_of asking.call) (setting_behind opening before asking) ≡ Some policy
    → HasAccess opening.config (setting_behind opening before asking).moment asking.caller (Has scopes)
    → DeniesExactly scopes policy judgement.answer

-- Star: whoever has the scope `*` is denied no call.
abbrev pub StarIsNotDenied : Type 0
StarIsNotDenied =
    (opening : State) (before after : List Entry) (asking : Asking) (judgement : Judgement) (scopes : List (List ℕ)) (policy : Expression)
    → Finished opening before after asking judgement
    → asked_policy (form_of asking.call) (setting_behind opening before asking) ≡ Some policy
    → HasAccess opening.config (setting_behind opening before asking).moment asking.caller (Has scopes)
    → Contains scopes (star ∷ []) → judgement.answer.status ≢ 403

-- the creation that a change is, if it is one
abbrev pub creation_of_kind : Kind → Option Creation
creation_of_kind (Create creation) = Some creation
creation_of_kind kind = None

abbrev pub creation_of : Option Change → Option Creation
creation_of None = None
creation_of (Some change) = creation_of_kind change.kind

-- the creation that an entry made, if it made one
abbrev pub created_by : Entry → Option Creation
created_by (call asking (finished judgement)) = creation_of judgement.change
created_by entry = None

-- a creation made a task of this id
abbrev pub has_id : List ℕ → Option Creation → Bool
has_id id None = false
has_id id (Some creation) = bytes_eq creation.id id

-- the entries that created a task of this id
abbrev pub creations : List ℕ → List Entry → List Entry
creations id history = filter (λ entry. has_id id (created_by entry)) history

-- Once: in a legal history at most one creation has a given id, counted with the task that stood before it.
abbrev pub IsCreatedOnce : Type 0
IsCreatedOnce =
    (opening : State) (history : List Entry) (id : List ℕ) → IsLegal farm_rules opening history
    → (if is_some (row_with id opening.contents.rows) then 1 else 0) + length (creations id history) ≤ 1

-- a task stands under the id of a creation, with its definition
abbrev pub Stands : Contents → Creation → Type 0
Stands contents creation =
    (row : Row) × (row_with creation.id contents.rows ≡ Some row) × (row.definition ≡ creation.definition)

-- Created: a task that a history created stands at its end, with its definition.
abbrev pub CreatedStands : Type 0
CreatedStands =
    (opening : State) (before after : List Entry) (first : Entry) (creation : Creation)
    → IsLegal farm_rules opening (before ++ first ∷ after) → created_by first ≡ Some creation
    → Stands (end_state farm_rules opening (before ++ first ∷ after)).contents creation

-- Recorded: so does one whose creation is among the records that restore these contents.
abbrev pub RecordedStands : Type 0
RecordedStands =
    (before after : List Change) (at : ℕ) (creation : Creation) (contents : Contents)
    → Restores (before ++ creating at creation ∷ after) contents → Stands contents creation

-- Again: where a task stands, each finished createTask of its id with an equal definition that passes the policy replies the present status of
-- that task, and changes nothing.
abbrev pub AnswersAgain : Type 0
AnswersAgain =
    (opening : State) (before after : List Entry) (creation : Creation) (row : Row) (asking : Asking) (judgement : Judgement) (scopes : List (List ℕ))
    → row_with creation.id (end_state farm_rules opening before).contents.rows ≡ Some row → row.definition ≡ creation.definition
    → Finished opening before after asking judgement
    → asking.call ≡ CreateTask creation
    → HasAccess opening.config (setting_behind opening before asking).moment asking.caller (Has scopes)
    → IsTrue (holds scopes (create_policy creation.definition))
    → judgement ≡ only_answer (ok (document_text (status_body row)))
