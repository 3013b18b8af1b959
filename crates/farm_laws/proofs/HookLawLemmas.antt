-- Whoever triggers a hook is denied exactly where its scopes do not hold what that asks, and the hook exactly where its own do not.
use Rattle.std.proofs.Common.{◌≡◌, ◌≢◌, ℕ, ◌==◌, Bool, true, false, IsTrue, List, [], ◌∷◌, get_or, Option, Some, None, Result, Ok, Err, refl, sym, ap, ◌∙◌, subst, inl, inr}
use Rattle.json.specs.Print.{escape_byte}
use Rattle.scope_sets.specs.Expressions.{Expression, holds, missing, reduced}
use Rattle.scope_sets.proofs.LawLemmas.{missing_full}
use Rattle.call_rules.specs.Policy.{create_policy, trigger_policy}
use Rattle.call_rules.specs.declared.hook_names.HookName.{HookName}
use Rattle.task_types.specs.declared.change.Creation.{Creation}
use Rattle.hawk_auth.specs.Access.{Access as Admission, Expands}
use Rattle.hook_book.specs.Hooks.{HookData}
use Rattle.hook_fire.specs.declared.fault.FireFault.{FireFault}
use Rattle.hook_fire.specs.declared.fault.FireFault.TheVariants.{Template, TooMuchWork, Definition, NoMemory}
use Rattle.jsone_values.specs.Faults.{rule_of}
use Rattle.task_types.specs.declared.task_def.TaskDef.{TaskDef}
use Rattle.farm_asks.specs.declared.config.Config.{Config}
use Rattle.farm_asks.specs.declared.question.BodyFault.TheVariants.{NoDefinition}
use Rattle.farm_asks.specs.declared.question.Call.{Call}
use Rattle.farm_asks.specs.declared.question.Call.TheVariants.{TriggerHook}
use Rattle.farm_asks.specs.declared.question.Trigger.{Trigger}
use Rattle.farm_asks.specs.declared.reply.Answer.{Answer}
use Rattle.farm_asks.specs.Access.{Access, Has, Refused, HasAccess, access_by, refusal_of}
use Rattle.farm_machine.specs.Calls.CreateTask.{create_task}
use Rattle.farm_machine.specs.Calls.TriggerHook.{hook_at, of_hook, trigger_hook, Fired, unless_lacking, by_access, HookMay, fault_answer, Follows, ComesTo, case_after}
use Rattle.farm_machine.specs.Case.{Setting, Case}
use Rattle.farm_asks.specs.Questions.{Asking}
use Rattle.farm_machine.specs.Entry.{Entry, call, finished}
use Rattle.farm_machine.specs.HookLaws.{TellsExactly, DeniesHookExactly, Triggered, Grants}
use Rattle.farm_machine.specs.Judgement.{Judgement, only_answer}
use Rattle.farm_machine.specs.Laws.{setting_behind}
use Rattle.farm_machine.specs.Order.{asks_then, IsFirst, GoesOn, ending, in_order}
use Rattle.farm_asks.specs.Replies.{insufficient_scopes, hook_insufficient_scopes, expansion_limit, template_fault, too_costly, bad_body}
use Rattle.farm_machine.specs.State.{State}
use Rattle.farm_machine.specs.Verdict.{form_of, IsVerdict}
use Rattle.farm_laws.proofs.DenialLemmas.{not_denied, create-other, rules-other, held-first}
use Rattle.farm_machine.proofs.FiredLemmas.{made_at, ComesTo-one}
use Rattle.farm_laws.proofs.ListedLemmas.{reduced-lists, create-full}
use Rattle.farm_laws.proofs.OnceLemmas.{entry-may, entries-config}
use Rattle.farm_machine.proofs.OrderLemmas.{asks-lacking, in_order-one}
use Rattle.farm_machine.proofs.VerdictLemmas.{form-determined}

-- ---- answers that are no denial of a caller

-- it tells no scopes that a caller lacks
abbrev IsNoDenial : Answer → Type 0
IsNoDenial answer = (lack : Expression) → answer ≢ insufficient_scopes lack

other-status : (answer : Answer) → answer.status ≢ 403 → (tell : Expression → Answer) → ((lack : Expression) → (tell lack).status ≡ 403) → (lack : Expression) → answer ≢ tell lack
other-status answer other tell denies lack same = other (ap (λ (a : Answer). a.status) same ∙ denies lack)

-- another letter is no I
no_i : (letter : ℕ) → (letter == 73) ≡ false → letter ≢ 73
no_i letter other is = let same : (73 == 73) ≡ false = rw is at other in cc

-- the first letters of their codes differ
limit-other : IsNoDenial expansion_limit
unfolding escape_byte
limit-other lack same = no_i 69 refl (ap (λ (a : Answer). get_or a.body 9 0) same)

hook-no-denial : (missed : Expression) → IsNoDenial (hook_insufficient_scopes missed)
unfolding escape_byte
hook-no-denial missed lack same = no_i 72 refl (ap (λ (a : Answer). get_or a.body 9 0) same)

-- what comes of a hook that ends with an answer denies no caller
access-no-denial : (config : Config) (name : HookName) (creation : Creation) (access : Access) (answer : Answer) → HookMay config name access → Err answer ≡ by_access creation access → IsNoDenial answer
access-no-denial config name creation (Refused refused) answer (Err refusal, (many, which), is) same =
    let one : answer ≡ refused = cc in
    let limit : refused ≡ expansion_limit = refused-is refused refusal is ∙ ap refusal_of which in
    subst IsNoDenial (sym (one ∙ limit)) limit-other where
      refused-is : (r : Answer) (f : _) → Refused r ≡ Refused (refusal_of f) → r ≡ refusal_of f
      refused-is r f e = cc
access-no-denial config name creation (Refused refused) answer (Ok scopes, gives, is) same = cc
access-no-denial config name creation (Has scopes) answer may same = by (missing scopes (create_policy creation.definition)) same where
  by : (lack : Option Expression) → Err answer ≡ unless_lacking creation lack → IsNoDenial answer
  by None e = cc
  by (Some lack) e = let one : answer ≡ hook_insufficient_scopes lack = cc in subst IsNoDenial (sym one) (hook-no-denial lack)

-- an answer that is told has the status that is told
told-status : (told answer : Answer) → told.status ≢ 403 → Some told ≡ Some answer → answer.status ≢ 403
told-status told answer other same = let one : told ≡ answer = cc in subst (λ (a : Answer). a.status ≢ 403) one other

fault-status : (fault : FireFault) (answer : Answer) → fault_answer fault ≡ Some answer → answer.status ≢ 403
fault-status (Template fault) answer is = told-status (template_fault (rule_of fault.rule) fault.path) answer (not_denied 400 refl) is
fault-status TooMuchWork answer is = told-status too_costly answer (not_denied 400 refl) is
fault-status (Definition fault) answer is = told-status (bad_body (NoDefinition fault)) answer (not_denied 400 refl) is
fault-status NoMemory answer is = cc

follows-no-denial : (name : HookName) (at : Setting) (outcome : Result TaskDef FireFault) (answer : Answer) → Follows name at outcome (Err answer) → IsNoDenial answer
follows-no-denial name at (Ok definition) answer (access, may, is) = access-no-denial at.state.config name (made_at at definition) access answer may is
follows-no-denial name at (Err fault) answer (told, is, same) =
    let one : answer ≡ told = cc in
    subst IsNoDenial (sym one) (other-status told (fault-status fault told is) insufficient_scopes (λ lack. refl))

-- what ends with an answer is answered so
ended-is : (at : Setting) (answer : Answer) (judgement : Judgement) → IsFirst (ending at (case_after (Err answer) at)) judgement → judgement ≡ only_answer answer
ended-is at answer judgement (inl ended) = ended.1
ended-is at answer judgement (inr (goes_on, rest)) = absurd (goes_on (only_answer answer) (refl, refl))

-- what goes on as a createTask has no denial's status
made-status : (at : Setting) (creation : Creation) (judgement : Judgement) → IsFirst (ending at (create_task creation at)) judgement → judgement.answer.status ≢ 403
made-status at creation judgement first = rules-other at (create_task creation at).deed (create_task creation at).rules judgement (create-other creation at) first

after-no-denial : (trigger : Trigger) (at : Setting) (found : Fired) (judgement : Judgement) → ComesTo trigger at found → IsFirst (ending at (case_after found at)) judgement → IsNoDenial judgement.answer
after-no-denial trigger at (Ok creation) judgement comes first = other-status judgement.answer (made-status at creation judgement first) insufficient_scopes (λ lack. refl)
after-no-denial trigger at (Err answer) judgement comes first =
    rw (ended-is at answer judgement first) (follows-no-denial trigger.hook at comes.outcome answer comes.follows)

-- ---- a hook that was triggered

module _ (opening : State) (before after : List Entry) (asking : Asking) (judgement : Judgement) (trigger : Trigger) (hook : HookData) (scopes : List (List ℕ)) (is : Triggered opening before after asking judgement trigger hook scopes) where
  abbrev at : Setting
  at = setting_behind opening before asking

  abbrev case : Setting → Case
  case = trigger_hook trigger

  abbrev behind_policy : List (Judgement → Type 0)
  behind_policy = GoesOn Fired (ComesTo trigger) case_after at ∷ []

  named : (case at).parameter ≡ None
  named = rw is.there refl

  there : (case at).absent ≡ None
  there = rw is.there refl

  policy : (case at).policy ≡ trigger_policy trigger.hook
  policy = rw is.there refl

  access : HasAccess at.state.config at.moment asking.caller (Has scopes)
  access = rw (entries-config opening before) is.has

  verdict : IsVerdict at.state asking judgement
  verdict = (entry-may opening before after (call asking (finished judgement)) is.ended.legal).became.verdict

  first : IsFirst (in_order at asking.caller (form_of (TriggerHook trigger))) judgement
  unfolding IsVerdict
  first = subst (λ (c : Call). IsFirst (in_order at asking.caller (form_of c)) judgement) is.called verdict

  -- the caller's scopes hold what it asks, and something comes of the hook
  comes : IsTrue (holds scopes (trigger_policy trigger.hook)) → GoesOn Fired (ComesTo trigger) case_after at judgement
  comes held =
      let none : missing scopes (case at).policy ≡ None = rw (policy, held) refl in
      only (held-first at asking.caller case behind_policy scopes judgement access named there none first) where
        only : IsFirst behind_policy judgement → GoesOn Fired (ComesTo trigger) case_after at judgement
        only (inl goes_on) = goes_on
        only (inr (a, none)) = absurd none

  pub callers-exact : TellsExactly insufficient_scopes scopes (trigger_policy trigger.hook) judgement.answer
  callers-exact = by (holds scopes (trigger_policy trigger.hook)) refl where
    by : (test : Bool) → holds scopes (trigger_policy trigger.hook) ≡ test → TellsExactly insufficient_scopes scopes (trigger_policy trigger.hook) judgement.answer
    by true holding =
        let found = comes holding in
        record {
          held = λ held. after-no-denial trigger at found.0 judgement found.1 found.2;
          lacked = λ not_held. absurd (not_held holding);
        }
    by false lacking =
        let lack = reduced scopes (trigger_policy trigger.hook) in
        let lacks : missing scopes (trigger_policy trigger.hook) ≡ Some lack = rw lacking refl in
        let misses : missing scopes (case at).policy ≡ Some lack = ap (missing scopes) policy ∙ lacks in
        let denied = asks-lacking at asking.caller case behind_policy scopes access named lack there misses in
        let same = in_order-one at asking.caller (form_of (TriggerHook trigger)) judgement (only_answer (insufficient_scopes lack)) (form-determined (TriggerHook trigger) at) first denied in
        record {
          held = λ held. let no_ : false ≡ true = sym lacking ∙ held in cc;
          lacked = λ not_held. (lack, (lacks, missing_full scopes (trigger_policy trigger.hook) lack lacks, reduced-lists scopes (trigger_policy trigger.hook) tt lacking), ap (λ (j : Judgement). j.answer) same);
        }

  module _ (holding : IsTrue (holds scopes (trigger_policy trigger.hook))) (definition : TaskDef) (granted : List (List ℕ)) (grants : Grants opening at trigger hook definition granted) where
    abbrev made : Creation
    made = made_at at definition

    -- what comes of it is a createTask of the definition, by whoever has what the hook's scopes give
    comes_so : ComesTo trigger at (by_access made (Has granted))
    comes_so = record {
      hook = hook;
      there = is.there;
      outcome = Ok definition;
      fires = grants.defines;
      follows = (Has granted, rw (entries-config opening before) grants.may, refl);
    }

    ends : (fired : Fired) → by_access made (Has granted) ≡ fired → IsFirst (ending at (case_after fired at)) judgement
    ends fired same =
        let found = comes holding in
        let one : found.0 ≡ fired = ComesTo-one trigger at found.0 (by_access made (Has granted)) found.1 comes_so ∙ same in
        subst (λ (f : Fired). IsFirst (ending at (case_after f at)) judgement) one found.2

    pub hooks-exact : DeniesHookExactly granted (create_policy definition) judgement.answer
    hooks-exact = by (holds granted (create_policy definition)) refl where
      by : (test : Bool) → holds granted (create_policy definition) ≡ test → DeniesHookExactly granted (create_policy definition) judgement.answer
      by true held_so =
          let status = made-status at made judgement (ends (Ok made) (rw held_so refl)) in
          record {
            held = λ held. status;
            lacked = λ not_held. absurd (not_held held_so);
          }
      by false lacking =
          let lack = reduced granted (create_policy definition) in
          let lacks : missing granted (create_policy definition) ≡ Some lack = rw lacking refl in
          let answer = hook_insufficient_scopes lack in
          let same = ended-is at answer judgement (ends (Err answer) (rw lacking refl)) in
          record {
            held = λ held. let no_ : false ≡ true = sym lacking ∙ held in cc;
            lacked = λ not_held. (lack, (lacks, missing_full granted (create_policy definition) lack lacks, reduced-lists granted (create_policy definition) (create-full definition) lacking), ap (λ (j : Judgement). j.answer) same);
          }
