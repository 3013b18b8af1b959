-- The one order of refusals, for every call.
use Rattle.std.specs.Prelude.{◌≡◌, ◌⊎◌, ℕ, min, nat_le, Bool, true, false, ◌&&◌, List, [], ◌∷◌, ◌++◌, map, length, Option, Some, None, option_map, if◌then◌else◌}
use Rattle.scope_sets.specs.Expressions.{Expression, missing}
use Rattle.farm_text.specs.Document.{document_text}
use Rattle.farm_asks.specs.declared.config.Config.{Config}
use Rattle.farm_asks.specs.declared.question.Caller.{Caller}
use Rattle.farm_asks.specs.declared.reply.Answer.{Answer}
use Rattle.farm_asks.specs.Access.{Has, Refused, HasAccess}
use Rattle.task_types.specs.declared.change.Change.{Change}
use Rattle.task_types.specs.declared.change.Kind.{Kind}
use Rattle.task_types.specs.declared.change.Kind.TheVariants.{Create}
use Rattle.farm_machine.specs.Case.{Setting, Deed, Rule, Case, passing}
use Rattle.farm_machine.specs.Changes.{changed}
use Rattle.farm_machine.specs.Judgement.{Judgement, only_answer}
use Rattle.farm_asks.specs.Replies.{ok, insufficient_scopes, farm_full}
use Rattle.farm_machine.specs.State.{State}

-- The form of what is called: it has no route, or a parameter or a body off its form, with that answer, or it asks something; or where nothing
-- in its front refuses it, something comes of it, which has the rules and the deed.
pub data Form : Type 1 where
  has_no_route : (answer : Answer) → Form
  has_bad_parameter : (answer : Answer) → Form
  has_bad_body : (answer : Answer) → Form
  asks : (case : Setting → Case) → Form
  asks_then : (Found : Type 0) → (front : Setting → Case) → (Comes : Setting → Found → Type 0) → (rest : Found → Setting → Case) → Form

-- the answer where no route has the method and the target
abbrev pub route_of : Form → Option Answer
route_of (has_no_route answer) = Some answer
route_of form = None

-- the answer where a parameter is off its form, or names nothing that it may name in this state
abbrev pub parameter_of : Form → Setting → Option Answer
parameter_of (has_bad_parameter answer) at = Some answer
parameter_of (asks case) at = (case at).parameter
parameter_of (asks_then Found front Comes rest) at = (front at).parameter
parameter_of form at = None

-- the answer where the body is off its form
abbrev pub body_of : Form → Option Answer
body_of (has_bad_body answer) = Some answer
body_of form = None

-- what a call that asks something has for the order
abbrev pub case_of : Form → Setting → Case
case_of (asks case) at = case at
case_of (asks_then Found front Comes rest) at = front at
case_of form at = passing

-- a refusal that strikes gives its answer, and changes nothing
abbrev pub Strikes : Option Answer → Judgement → Type 0
Strikes None judgement = ⊥
Strikes (Some answer) judgement = judgement ≡ only_answer answer

-- the caller is not who it says, or too many scopes are derivable for it
abbrev pub HasNoAccess : Config → ℕ → Caller → Judgement → Type 0
HasNoAccess config moment caller judgement =
    (answer : Answer) × HasAccess config moment caller (Refused answer) × Strikes (Some answer) judgement

-- the caller's scopes do not hold what the call asks for
abbrev pub LacksScopes : Config → ℕ → Caller → Expression → Judgement → Type 0
LacksScopes config moment caller policy judgement =
    (scopes : List (List ℕ)) × HasAccess config moment caller (Has scopes)
    × Strikes (option_map insufficient_scopes (missing scopes policy)) judgement

-- a rule of the call ends it with its answer, and nothing changes
abbrev pub IsEnded : Rule → Judgement → Type 0
IsEnded rule judgement = rule.Ends × (judgement ≡ only_answer rule.answer)

-- it makes a task
abbrev pub makes_task : Kind → Bool
makes_task (Create creation) = true
makes_task kind = false

-- the answer where a change makes a task and the farm has as many as it takes, which are 1,000,000 at most
abbrev pub full : State → Option Change → Option Answer
full state None = None
full state (Some change) =
    if makes_task change.kind && nat_le (min state.config.max_tasks 1_000_000) (length state.contents.rows)
    then Some (farm_full (length state.contents.rows)) else None

-- the judgement of a call that does this
abbrev pub done : Setting → Deed → Judgement
done at deed = record {
  answer = ok (document_text (deed.body (changed at.state.contents at.moment deed.change)));
  change = deed.change;
}

-- the call is done
abbrev pub IsDone : Setting → Deed → Judgement → Type 0
IsDone at deed judgement = judgement ≡ done at deed

-- the judgement of the first of these that gives any
abbrev pub IsFirst : List (Judgement → Type 0) → Judgement → Type 0
IsFirst [] judgement = ⊥
IsFirst (P ∷ Ps) judgement = P judgement ⊎ (((other : Judgement) → ¬ P other) × IsFirst Ps judgement)

-- the end of the order: the rules of a case, whether the farm is full, and what it does
abbrev pub ending : Setting → Case → List (Judgement → Type 0)
ending at case = map IsEnded case.rules ++ Strikes (full at.state case.deed.change) ∷ IsDone at case.deed ∷ []

-- something comes of the call, and what has that gives the judgement
abbrev pub GoesOn : (Found : Type 0) → (Setting → Found → Type 0) → (Found → Setting → Case) → Setting → Judgement → Type 0
GoesOn Found Comes rest at judgement = (found : Found) × Comes at found × IsFirst (ending at (rest found at)) judgement

-- what may judge a call behind its policy
abbrev pub behind : Setting → Form → List (Judgement → Type 0)
behind at (asks_then Found front Comes rest) = GoesOn Found Comes rest at ∷ []
behind at form = ending at (case_of form at)

-- what may refuse a call up to its policy, in the one order
abbrev pub front : Setting → Caller → Form → List (Judgement → Type 0)
front at caller form =
    Strikes (route_of form)
    ∷ Strikes (parameter_of form at)
    ∷ Strikes (body_of form)
    ∷ HasNoAccess at.state.config at.moment caller
    ∷ Strikes (case_of form at).absent
    ∷ LacksScopes at.state.config at.moment caller (case_of form at).policy
    ∷ []

-- what may judge a call, in the one order: each gives a judgement where it strikes
abbrev pub in_order : Setting → Caller → Form → List (Judgement → Type 0)
in_order at caller form = front at caller form ++ behind at form
