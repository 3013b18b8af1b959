-- What holds in every history of a farm of a hook that is triggered: who is denied, and what its task asks of the hook's scopes.
use Rattle.std.specs.Prelude.{◌≡◌, ◌≢◌, ℕ, IsTrue, List, [], ◌∷◌, Some, Contains}
use Rattle.scope_sets.specs.Expressions.{Expression, holds}
use Rattle.scope_sets.specs.Scopes.{star}
use Rattle.call_rules.specs.Policy.{create_policy, trigger_policy}
use Rattle.farm_text.specs.Document.{object}
use Rattle.hook_fire.specs.Firing.{Defines}
use Rattle.hook_book.specs.Hooks.{HookData}
use Rattle.task_types.specs.declared.task_def.TaskDef.{TaskDef}
use Rattle.farm_asks.specs.declared.question.Call.TheVariants.{TriggerHook}
use Rattle.farm_asks.specs.declared.question.Trigger.{Trigger}
use Rattle.farm_asks.specs.declared.reply.Answer.{Answer}
use Rattle.farm_asks.specs.Access.{Has, HasAccess}
use Rattle.farm_machine.specs.Calls.TriggerHook.{hook_at, HookMay}
use Rattle.farm_machine.specs.Case.{Setting}
use Rattle.farm_asks.specs.Questions.{Asking}
use Rattle.farm_machine.specs.Entry.{Entry}
use Rattle.farm_machine.specs.Judgement.{Judgement}
use Rattle.farm_machine.specs.Laws.{Finished, setting_behind, IsLack}
use Rattle.farm_asks.specs.Replies.{insufficient_scopes, hook_insufficient_scopes}
use Rattle.farm_machine.specs.State.{State}

-- The answer tells what is missing of the scopes exactly where they do not hold the expression; and that is something.
pub record TellsExactly (tell : Expression → Answer) (scopes : List (List ℕ)) (policy : Expression) (answer : Answer) : Type 0 where
  pub held : IsTrue (holds scopes policy) → (lack : Expression) → answer ≢ tell lack
  pub lacked : ¬ IsTrue (holds scopes policy) → (lack : Expression) × IsLack scopes policy lack × (answer ≡ tell lack)

-- The hook is denied exactly where its scopes do not hold the expression: then the answer tells what is missing, which is something.
pub record DeniesHookExactly (scopes : List (List ℕ)) (policy : Expression) (answer : Answer) : Type 0 where
  pub held : IsTrue (holds scopes policy) → answer.status ≢ 403
  pub lacked : ¬ IsTrue (holds scopes policy) → (lack : Expression) × IsLack scopes policy lack × (answer ≡ hook_insufficient_scopes lack)

-- In a legal history this hook was triggered by a caller who has these scopes.
pub record Triggered (opening : State) (before after : List Entry) (asking : Asking) (judgement : Judgement) (trigger : Trigger) (hook : HookData) (scopes : List (List ℕ)) : Type 0 where
  pub ended : Finished opening before after asking judgement
  pub called : asking.call ≡ TriggerHook trigger
  pub there : hook_at trigger.hook (setting_behind opening before asking) ≡ Some hook
  pub has : HasAccess opening.config (setting_behind opening before asking).moment asking.caller (Has scopes)

-- The firing makes this definition, whose task starts with all that the hook's scopes give.
pub record Grants (opening : State) (at : Setting) (trigger : Trigger) (hook : HookData) (definition : TaskDef) (granted : List (List ℕ)) : Type 0 where
  pub defines : Defines hook.template (object trigger.payload) at.moment at.drawn definition
  pub may : HookMay opening.config trigger.hook (Has granted)

-- Whoever triggers a hook is denied exactly where its scopes do not hold what that asks.
abbrev pub CallersAreExact : Type 0
CallersAreExact =
    (opening : State) (before after : List Entry) (asking : Asking) (judgement : Judgement) (trigger : Trigger) (hook : HookData) (scopes : List (List ℕ))
    → Triggered opening before after asking judgement trigger hook scopes
    → TellsExactly insufficient_scopes scopes (trigger_policy trigger.hook) judgement.answer

-- And where they hold it, the hook is exactly where its own scopes do not hold what a createTask of its definition asks: else no answer is a denial.
abbrev pub HooksAreExact : Type 0
HooksAreExact =
    (opening : State) (before after : List Entry) (asking : Asking) (judgement : Judgement) (trigger : Trigger) (hook : HookData) (scopes : List (List ℕ)) (definition : TaskDef) (granted : List (List ℕ))
    → Triggered opening before after asking judgement trigger hook scopes
    → IsTrue (holds scopes (trigger_policy trigger.hook))
    → Grants opening (setting_behind opening before asking) trigger hook definition granted
    → DeniesHookExactly granted (create_policy definition) judgement.answer

-- Star: whoever has the scope `*` is not denied to trigger a hook that is there.
abbrev pub StarMayTrigger : Type 0
StarMayTrigger =
    (opening : State) (before after : List Entry) (asking : Asking) (judgement : Judgement) (trigger : Trigger) (hook : HookData) (scopes : List (List ℕ))
    → Triggered opening before after asking judgement trigger hook scopes
    → Contains scopes (star ∷ []) → (lack : Expression) → judgement.answer ≢ insufficient_scopes lack

-- And a hook to whose scopes it belongs is not denied what its task asks.
abbrev pub StarMayCreate : Type 0
StarMayCreate =
    (opening : State) (before after : List Entry) (asking : Asking) (judgement : Judgement) (trigger : Trigger) (hook : HookData) (scopes : List (List ℕ)) (definition : TaskDef) (granted : List (List ℕ))
    → Triggered opening before after asking judgement trigger hook scopes
    → IsTrue (holds scopes (trigger_policy trigger.hook))
    → Grants opening (setting_behind opening before asking) trigger hook definition granted
    → Contains granted (star ∷ []) → judgement.answer.status ≢ 403
