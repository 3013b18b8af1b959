-- How a call is judged in the code: what refuses it, and what it does where nothing does; for private clauses.
use Rattle.std.specs.Prelude.{◌≡◌, ℕ, List, [], ◌∷◌, Option, Some, None, IfSome}
use Rattle.scope_sets.specs.Expressions.{missing}
use Rattle.farm_text.specs.Document.{document_text}
use Rattle.task_types.specs.declared.change.Change.{Change}
use Rattle.task_types.specs.declared.change.Kind.{Kind}
use Rattle.task_index.specs.Contents.{Contents}
use Rattle.task_index.specs.Plans as tasks
use Rattle.farm_asks.specs.declared.config.Config.{Config}
use Rattle.farm_machine.specs.declared.judged.Judged.{Judged}
use Rattle.farm_asks.specs.declared.question.Caller.{Caller}
use Rattle.farm_asks.specs.declared.reply.Answer.{Answer}
use Rattle.farm_asks.specs.Access.{Has, HasAccess}
use Rattle.farm_machine.specs.Case.{Setting, Case, changing}
use Rattle.farm_machine.specs.Judgement.{only_answer}
use Rattle.farm_machine.specs.Order.{Form, asks, Strikes, full, IsDone, front, ending, in_order, IsFirst}
use Rattle.farm_machine.specs.Planned.{judgement_of}
use Rattle.farm_asks.specs.Replies.{ok}
use Rattle.farm_machine.specs.State.{working}
use Rattle.farm_asks.specs.Works.{told_of}

-- where a call is judged over these tables
abbrev pub setting_at : Config → Contents → ℕ → List ℕ → Setting
setting_at config contents moment drawn = record { state = working config contents; moment = moment; drawn = drawn }

-- nothing refuses the call up to its policy: its parameters name what they may, its caller has access, what it is of is there, and its
-- policy holds
pub record Passes (at : Setting) (caller : Caller) (case : Case) : Type 0 where
  pub named : case.parameter ≡ None
  pub scopes : List (List ℕ)
  pub has : HasAccess at.state.config at.moment caller (Has scopes)
  pub there : case.absent ≡ None
  pub held : missing scopes case.policy ≡ None

-- this answer refuses the call up to its policy, or nothing does
abbrev pub IsRefusal : Setting → Caller → (Setting → Case) → Option Answer → Type 0
IsRefusal at caller case None = Passes at caller (case at)
IsRefusal at caller case (Some answer) = IsFirst (front at caller (asks case)) (only_answer answer)

-- the call is judged so, with a plan of its change over these tables
pub record IsJudged (at : Setting) (caller : Caller) (form : Form) (judged : Judged) : Type 0 where
  pub first : IsFirst (in_order at caller form) (judgement_of judged)
  pub kept : IfSome judged.change (tasks.IsPlanOn at.state.contents)

-- what nothing refuses up to its policy is judged so, with a plan of its change over these tables
pub record IsFinished (at : Setting) (case : Case) (judged : Judged) : Type 0 where
  pub first : IsFirst (ending at case) (judgement_of judged)
  pub kept : IfSome judged.change (tasks.IsPlanOn at.state.contents)

-- this change is planned over these tables, and what it leaves of the tasks that it names is answered
abbrev pub IsPlannedSo : Contents → Change → Judged → Type 0
IsPlannedSo contents change judged =
    (plan : tasks.Planned) × (plan.change ≡ change) × tasks.IsPlanOn contents plan
    × (judged.answer ≡ ok (document_text (told_of change.kind plan.rows))) × (judged.change ≡ Some plan)

-- the farm is full, or the change is planned and answered
pub record IsMade (at : Setting) (kind : Kind) (judged : Judged) : Type 0 where
  pub first : IsFirst (Strikes (full at.state (changing at.moment kind).change) ∷ IsDone at (changing at.moment kind) ∷ []) (judgement_of judged)
  pub kept : IfSome judged.change (tasks.IsPlanOn at.state.contents)
