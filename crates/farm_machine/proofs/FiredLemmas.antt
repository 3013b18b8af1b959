-- What comes of a hook that is triggered: it is one, there is some, and some document says the task that is to be made.
use Rattle.std.proofs.Common.{◌≡◌, ◌≢◌, ℕ, ◌≤◌, List, [], ◌∷◌, Option, Some, None, Result, Ok, Err, refl, sym, ap, ◌∙◌, subst}
use Rattle.farm_text.proofs.MomentLemmas.{IsMomentText-one}
use Rattle.farm_text.proofs.OneMomentLemmas.{IsDateTime-one}
use Rattle.farm_text.specs.Document.{Document, object}
use Rattle.scope_sets.specs.Expressions.{Expression, missing}
use Rattle.role_expand.specs.Cycles.{IsAccepted}
use Rattle.call_rules.specs.Policy.{create_policy, hook_start}
use Rattle.call_rules.specs.declared.hook_names.HookName.{HookName}
use Rattle.task_types.specs.declared.change.Creation.{Creation}
use Rattle.task_types.specs.declared.change.Kind.TheVariants.{Create}
use Rattle.farm_record.specs.Records.{IsSaid}
use Rattle.hawk_auth.proofs.SomeLemmas.{expands}
use Rattle.hook_fire.specs.Firing.{IsFired}
use Rattle.hook_book.specs.Hooks.{HookData}
use Rattle.hook_fire.specs.declared.fault.FireFault.{FireFault}
use Rattle.hook_fire.specs.declared.fault.FireFault.TheVariants.{Template, TooMuchWork, Definition, NoMemory}
use Rattle.hook_fire.proofs.FiringLemmas.{Laws, one_answer}
use Rattle.hook_fire.proofs.SomeFiring.{some_firing}
use Rattle.jsone_render.proofs.OneRendering.{one_rendering}
use Rattle.task_defs.specs.Definitions.{Says, rules}
use Rattle.task_types.specs.declared.task_def.TaskDef.{TaskDef}
use Rattle.task_defs.proofs.OneLemmas.{fault_one, no_fault}
use Rattle.farm_asks.specs.declared.config.Config.{Config}
use Rattle.farm_asks.specs.declared.question.Call.TheVariants.{TriggerHook}
use Rattle.farm_asks.specs.declared.question.Trigger.{Trigger}
use Rattle.farm_asks.specs.declared.reply.Answer.{Answer}
use Rattle.farm_asks.specs.Access.{Access, Has, Refused, access_by}
use Rattle.farm_machine.specs.Calls.TriggerHook.{hook_at, of_hook, trigger_hook, Fired, unless_lacking, by_access, HookMay, fault_answer, Follows, ComesTo}
use Rattle.farm_machine.specs.Case.{Setting}
use Rattle.farm_machine.specs.Laws.{FiringEnds}
use Rattle.farm_asks.proofs.AccessLemmas.{expands_once}

-- ---- it is one

-- what the laws of the crates below say
firing_laws : Laws
firing_laws = record {
  outcomes = one_rendering;
  texts = IsMomentText-one;
  moments = IsDateTime-one;
  faults = λ d id f g. fault_one (rules d id) f g;
  sound = λ d id def f said. no_fault (rules d id) f said.sound;
}

-- the task of the drawn id that has this definition
abbrev pub made_at : Setting → TaskDef → Creation
made_at at definition = record { id = at.drawn; definition = definition }

-- want of memory has no answer, so nothing follows of it
no_want : (fault : FireFault) (answer : Answer) → fault_answer fault ≡ Some answer → fault ≢ NoMemory
no_want (Template fault) answer is e = cc
no_want TooMuchWork answer is e = cc
no_want (Definition fault) answer is e = cc
no_want NoMemory answer is e = cc

follows-some : (name : HookName) (at : Setting) (outcome : Result TaskDef FireFault) (fired : Fired) → Follows name at outcome fired → outcome ≢ Err NoMemory
follows-some name at (Ok definition) fired follows e = cc
follows-some name at (Err fault) fired (answer, is, fired_so) e = let same : fault ≡ NoMemory = cc in no_want fault answer is same

-- what a hook may do is one
pub HookMay-one : (config : Config) (name : HookName) (a b : Access) → HookMay config name a → HookMay config name b → a ≡ b
HookMay-one config name a b (by, gives, is) (other, too, same) =
    is ∙ ap access_by (expands_once config.roles (hook_start name ∷ []) by other gives too) ∙ sym same

follows-one : (name : HookName) (at : Setting) (outcome : Result TaskDef FireFault) (a b : Fired) → Follows name at outcome a → Follows name at outcome b → a ≡ b
follows-one name at (Ok definition) a b (access, may, is) (other, too, same) =
    is ∙ ap (by_access (made_at at definition)) (HookMay-one at.state.config name access other may too) ∙ sym same
follows-one name at (Err fault) a b (answer, told, is) (other, too, same) =
    let both : Some answer ≡ Some other = sym told ∙ too in
    let answers : answer ≡ other = cc in
    is ∙ ap (λ (x : Answer). Err x) answers ∙ sym same

pub ComesTo-one : (trigger : Trigger) (at : Setting) (a b : Fired) → ComesTo trigger at a → ComesTo trigger at b → a ≡ b
ComesTo-one trigger at a b p q =
    let both : Some p.hook ≡ Some q.hook = sym p.there ∙ q.there in
    let hooks : p.hook ≡ q.hook = cc in
    let fires : IsFired q.hook.template (object trigger.payload) at.moment at.drawn p.outcome =
    subst (λ (h : HookData). IsFired h.template (object trigger.payload) at.moment at.drawn p.outcome) hooks p.fires in
    let outcomes : p.outcome ≡ q.outcome =
    one_answer firing_laws q.hook.template (object trigger.payload) at.moment at.drawn p.outcome q.outcome
    (follows-some trigger.hook at p.outcome a p.follows) (follows-some trigger.hook at q.outcome b q.follows) fires q.fires in
    follows-one trigger.hook at q.outcome a b (subst (λ (o : Result TaskDef FireFault). Follows trigger.hook at o a) outcomes p.follows) q.follows

-- ---- there is some

-- a hook may do something, over accepted roles
pub HookMay-some : (longest : ℕ) (config : Config) (name : HookName) → IsAccepted longest config.roles → (access : Access) × HookMay config name access
HookMay-some longest config name accepted =
    let some = expands longest config.roles accepted (hook_start name ∷ []) in
    (access_by some.0, (some.0, some.1, refl))

-- a hook that is not absent is there
pub hook-there : (name : HookName) (hook : Option HookData) → (of_hook name hook).absent ≡ None → (h : HookData) × (hook ≡ Some h)
hook-there name None there = cc
hook-there name (Some h) there = (h, refl)

follows_some : (longest : ℕ) (name : HookName) (at : Setting) (outcome : Result TaskDef FireFault) → IsAccepted longest at.state.config.roles → outcome ≢ Err NoMemory → (fired : Fired) × Follows name at outcome fired
follows_some longest name at (Ok definition) accepted some =
    let may = HookMay-some longest at.state.config name accepted in
    (by_access (made_at at definition) may.0, (may.0, may.1, refl))
follows_some longest name at (Err (Template fault)) accepted some = (_, (_, refl, refl))
follows_some longest name at (Err TooMuchWork) accepted some = (_, (_, refl, refl))
follows_some longest name at (Err (Definition fault)) accepted some = (_, (_, refl, refl))
follows_some longest name at (Err NoMemory) accepted some = absurd (some refl)

pub ComesTo-some : (longest : ℕ) (trigger : Trigger) (at : Setting) → IsAccepted longest at.state.config.roles → FiringEnds at (TriggerHook trigger) → (trigger_hook trigger at).absent ≡ None → (fired : Fired) × ComesTo trigger at fired
ComesTo-some longest trigger at accepted ends there =
    let hook = hook-there trigger.hook (hook_at trigger.hook at) there in
    let outcome = ends hook.0 hook.1 in
    let fired = follows_some longest trigger.hook at outcome.0 accepted outcome.2 in
    (fired.0, record { hook = hook.0; there = hook.1; outcome = outcome.0; fires = outcome.1; follows = fired.1 })

-- the firing of a hook cannot but come to something, up to the end of the year 9999
pub firing-ends : (trigger : Trigger) (at : Setting) (found : Option HookData) → hook_at trigger.hook at ≡ found → at.moment ≤ 253_402_300_799_999 → ¬ ¬ FiringEnds at (TriggerHook trigger)
firing-ends trigger at None is upto none = none (λ hook there. let both : None ≡ Some hook = sym is ∙ there in absurd cc)
firing-ends trigger at (Some h) is upto none =
    some_firing h.template (object trigger.payload) at.moment at.drawn upto
    (λ o. none (λ hook there.
    let both : Some h ≡ Some hook = sym is ∙ there in
    let same : h ≡ hook = cc in
    subst (λ (x : HookData). (outcome : Result TaskDef FireFault) × IsFired x.template (object trigger.payload) at.moment at.drawn outcome × (outcome ≢ Err NoMemory)) same o))

-- ---- some document says the task that is to be made

-- a definition that is to be made is that which the firing made
lacking-made : (creation made : Creation) (lack : Option Expression) → Ok made ≡ unless_lacking creation lack → made ≡ creation
lacking-made creation made None is = cc
lacking-made creation made (Some lack) is = cc

access-made : (creation made : Creation) (access : Access) → Ok made ≡ by_access creation access → made ≡ creation
access-made creation made (Refused answer) is = cc
access-made creation made (Has scopes) is = lacking-made creation made (missing scopes (create_policy creation.definition)) is

pub follows-made : (name : HookName) (at : Setting) (outcome : Result TaskDef FireFault) (made : Creation) → Follows name at outcome (Ok made) → (definition : TaskDef) × (outcome ≡ Ok definition) × (made ≡ made_at at definition)
follows-made name at (Ok definition) made (access, may, is) = (definition, refl, access-made (made_at at definition) made access is)
follows-made name at (Err fault) made (answer, told, is) = cc

pub made-said : (trigger : Trigger) (at : Setting) (made : Creation) → ComesTo trigger at (Ok made) → IsSaid (Create made)
made-said trigger at made comes =
    let is = follows-made trigger.hook at comes.outcome made comes.follows in
    let fires : IsFired comes.hook.template (object trigger.payload) at.moment at.drawn (Ok is.0) =
    subst (IsFired comes.hook.template (object trigger.payload) at.moment at.drawn) is.1 comes.fires in
    subst (λ (c : Creation). IsSaid (Create c)) (sym is.2) (fires.whole, fires.says)
