-- What one call has for the order of refusals, where it is judged.
use Rattle.std.specs.Prelude.{◌≡◌, ◌⊎◌, ℕ, nat_lt, Bool, true, false, IsTrue, List, [], ◌∷◌, length, codes, Option, Some, None}
use Rattle.scope_sets.specs.Expressions.{Expression, all_of, no_members}
use Rattle.farm_text.specs.Document.{Document, null}
use Rattle.farm_text.specs.Slug.{slug_text}
use Rattle.call_rules.specs.Policy.{run_name}
use Rattle.task_types.specs.declared.change.Change.{Change}
use Rattle.task_types.specs.declared.change.Kind.{Kind}
use Rattle.run_states.specs.Rows.{Row}
use Rattle.task_index.specs.Contents.{Contents, row_with}
use Rattle.task_index.specs.Plans.{named_rows}
use Rattle.farm_asks.specs.declared.reply.Answer.{Answer}
use Rattle.farm_asks.specs.Replies.{not_found}
use Rattle.farm_machine.specs.State.{State}
use Rattle.farm_asks.specs.Works.{told_of, at_moment}

-- where a call is judged: the state, its moment, and the id that was drawn for it
pub record Setting : Type 0 where
  pub state : State
  pub moment : ℕ
  pub drawn : List ℕ

-- what a call does where nothing refuses it: its change, and the body of its answer, over the tables after that change
pub record Deed : Type 0 where
  pub change : Option Change
  pub body : Contents → Document

-- a rule of a call: where it ends the call, and with which answer
pub record Rule : Type 1 where
  pub Ends : Type 0
  pub answer : Answer

-- a rule that ends the call where a test says so
abbrev pub when : Bool → Answer → Rule
when test answer = record { Ends = IsTrue test; answer = answer }

-- What a call has for the order: the answer where a parameter names nothing that it may name, the answer where what the call is of is not
-- there, what its caller's scopes have to hold, its own rules in order, and what it does.
pub record Case : Type 1 where
  pub parameter : Option Answer
  pub absent : Option Answer
  pub policy : Expression
  pub rules : List Rule
  pub deed : Deed

-- a call that only reads
abbrev pub reading : (Contents → Document) → Deed
reading body = record { change = None; body = body }

-- a call that makes a change: what becomes of the tasks that it names is answered
abbrev pub changing : ℕ → Kind → Deed
changing moment kind =
    record { change = Some (at_moment moment kind); body = λ contents. told_of kind (named_rows kind contents.rows) }

-- nothing refuses it, and it does nothing
abbrev pub passing : Case
passing = record { parameter = None; absent = None; policy = all_of no_members; rules = []; deed = reading (λ contents. null) }

-- what a call of a task has: the row's case, or that no task has the id
abbrev pub of_row : List ℕ → (Row → Case) → Option Row → Case
of_row id each None = record passing { absent = Some (not_found (codes "task") (slug_text id)) }
of_row id each (Some row) = each row

-- what a call of the task with this id has
abbrev pub on_task : List ℕ → Setting → (Row → Case) → Case
on_task id at each = of_row id each (row_with id at.state.contents.rows)

-- what a call of a run of a task has: the task's case, or that it has no such run
abbrev pub of_run : List ℕ → ℕ → (Row → Case) → Bool → Row → Case
of_run id run each false row = record passing { absent = Some (not_found (codes "run") (run_name id run)) }
of_run id run each true row = each row

-- what a call of the run of this number of the task with this id has
abbrev pub on_run : List ℕ → ℕ → Setting → (Row → Case) → Case
on_run id run at each = on_task id at (λ row. of_run id run each (nat_lt run (length row.runs)) row)

-- the answer of the first rule that ends the call, where one does
abbrev pub IsFirstRule : List Rule → Option Answer → Type 0
IsFirstRule [] answer = answer ≡ None
IsFirstRule (rule ∷ rules) answer = (rule.Ends × (answer ≡ Some rule.answer)) ⊎ ((¬ rule.Ends) × IsFirstRule rules answer)
