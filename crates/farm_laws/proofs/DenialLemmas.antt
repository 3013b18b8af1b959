-- A call that is of its form and names what is there is denied exactly where its caller's scopes do not hold what it asks.
use Rattle.std.proofs.Common.{◌≡◌, ◌≢◌, ℕ, Bool, true, false, List, [], ◌∷◌, ◌++◌, map, Option, Some, None, Contains, length, ◌==◌, min, nat_le, nat_lt, ◌&&◌, if◌then◌else◌, refl, sym, ap, ◌∙◌, subst, inl, inr}
use Rattle.scope_sets.specs.Expressions.{Expression, holds, missing, reduced}
use Rattle.scope_sets.specs.Scopes.{star}
use Rattle.scope_sets.proofs.LawLemmas.{missing_full}
use Rattle.run_states.specs.Rows.{Row}
use Rattle.task_index.specs.Contents.{row_with}
use Rattle.farm_rows.specs.Waits.{missing_dependency, early_dependency}
use Rattle.task_types.specs.declared.change.Change.{Change}
use Rattle.task_types.specs.declared.change.Creation.{Creation}
use Rattle.task_types.specs.declared.task_def.TaskDef.{TaskDef}
use Rattle.farm_asks.specs.declared.question.Call.{Call}
use Rattle.farm_asks.specs.declared.question.Call.TheVariants.{NoRoute, BadParameter, BadBody, Ping, Task, Status, ListTaskGroup, ListDependentTasks, PendingTasks, CreateTask, ClaimWork, ReclaimTask, ReportRun, ScheduleTask, RerunTask, CancelTask, TriggerHook}
use Rattle.farm_asks.specs.declared.question.Caller.{Caller}
use Rattle.farm_asks.specs.declared.reply.Answer.{Answer}
use Rattle.farm_asks.specs.Access.{Has, HasAccess}
use Rattle.call_rules.specs.declared.hook_names.HookName.{HookName}
use Rattle.hook_book.specs.Hooks.{HookData}
use Rattle.farm_machine.specs.Calls.TriggerHook.{hook_at, of_hook}
use Rattle.farm_machine.specs.Calls.CreateTask.{standing, scheduler_besides, where_found, joining, create_task}
use Rattle.farm_machine.specs.Case.{Setting, Deed, Rule, Case, of_row, of_run}
use Rattle.farm_asks.specs.Questions.{Asking}
use Rattle.farm_machine.specs.Entry.{Entry, call, finished}
use Rattle.farm_machine.specs.Judgement.{Judgement, only_answer}
use Rattle.farm_machine.specs.Laws.{Finished, setting_behind, where_there, asked_policy, DeniesExactly}
use Rattle.farm_machine.specs.Order.{Form, has_no_route, has_bad_parameter, has_bad_body, asks, asks_then, case_of, Strikes, full, IsEnded, makes_task, IsFirst, ending, front, in_order}
use Rattle.farm_asks.specs.Replies.{bad_dependency, other_scheduler, insufficient_scopes, farm_full}
use Rattle.farm_machine.specs.State.{State}
use Rattle.farm_machine.specs.Verdict.{form_of, IsVerdict}
use Rattle.farm_laws.proofs.ListedLemmas.{HasNoEmptyAnyOf, reduced-lists, star-holds, call-full}
use Rattle.farm_laws.proofs.OnceLemmas.{entry-may, entries-config}
use Rattle.farm_machine.proofs.OrderLemmas.{last_parts, not_refused, lacks_none, asks-lacking, in_order-one}

-- ---- no rule of a call denies

-- none of these answers has the status of a denial
abbrev pub AreOther : List Rule → Type 0
AreOther [] = Unit {0}
AreOther (rule ∷ rules) = (rule.answer.status ≢ 403) × AreOther rules

-- another number is not that of a denial
pub not_denied : (n : ℕ) → (n == 403) ≡ false → n ≢ 403
not_denied n other denied = let same : (403 == 403) ≡ false = rw denied at other in cc

standing-other : (definition : TaskDef) (row : Option Row) (rules : List Rule) → AreOther rules → AreOther (standing definition row ++ rules)
standing-other definition None rules others = others
standing-other definition (Some row) rules others = (not_denied 200 refl, (not_denied 409 refl, others))

status-other : (id : List ℕ) (row : Option Row) (each : Row → Case) → ((r : Row) → AreOther (each r).rules) → AreOther (of_row id each row).rules
status-other id None each others = tt
status-other id (Some row) each others = others row

found-other : (tell : List ℕ → Answer) (found : Option (List ℕ)) (rules : List Rule) → ((id : List ℕ) → (tell id).status ≢ 403) → AreOther rules → AreOther (where_found tell found ++ rules)
found-other tell None rules other others = others
found-other tell (Some id) rules other others = (other id, others)

found-last : (tell : List ℕ → Answer) (found : Option (List ℕ)) → ((id : List ℕ) → (tell id).status ≢ 403) → AreOther (where_found tell found)
found-last tell None other = tt
found-last tell (Some id) other = (other id, tt)

joining-other : (creation : Creation) (rows : List Row) → AreOther (joining creation rows)
joining-other creation rows =
    found-other (bad_dependency 16) (missing_dependency creation rows) _ (λ id. not_denied 400 refl)
    (found-other (bad_dependency 17) (early_dependency creation rows) _ (λ id. not_denied 400 refl)
    (found-last other_scheduler (scheduler_besides creation rows) (λ kept. not_denied 409 refl)))

run-other : (id : List ℕ) (run : ℕ) (each : Row → Case) (there : Bool) (row : Row) → AreOther (each row).rules → AreOther (of_run id run each there row).rules
run-other id run each true row others = others
run-other id run each false row others = tt

pub create-other : (creation : Creation) (at : Setting) → AreOther (create_task creation at).rules
create-other creation at =
    standing-other creation.definition (row_with creation.id at.state.contents.rows) _ (not_denied 400 refl, joining-other creation at.state.contents.rows)

hook-other : (name : HookName) (hook : Option HookData) → AreOther (of_hook name hook).rules
hook-other name None = tt
hook-other name (Some hook) = tt

call-other : (at : Setting) (asked : Call) → AreOther (case_of (form_of asked) at).rules
call-other at (NoRoute name) = tt
call-other at (BadParameter parameter) = tt
call-other at (BadBody fault) = tt
call-other at Ping = tt
call-other at (Task id) = status-other id (row_with id at.state.contents.rows) _ (λ row. tt)
call-other at (Status id) = status-other id (row_with id at.state.contents.rows) _ (λ row. tt)
call-other at (ListTaskGroup group page) = tt
call-other at (ListDependentTasks id page) = tt
call-other at (PendingTasks queue) = tt
call-other at (CreateTask creation) = create-other creation at
call-other at (ClaimWork work) = tt
call-other at (ReclaimTask name) =
    status-other name.id (row_with name.id at.state.contents.rows) _ (λ row. run-other name.id name.run _ (nat_lt name.run (length row.runs)) row (not_denied 409 refl, tt))
call-other at (ReportRun report) =
    status-other report.id (row_with report.id at.state.contents.rows) _ (λ row. run-other report.id report.run _ (nat_lt report.run (length row.runs)) row (not_denied 200 refl, (not_denied 409 refl, tt)))
call-other at (ScheduleTask id) = status-other id (row_with id at.state.contents.rows) _ (λ row. (not_denied 200 refl, tt))
call-other at (RerunTask id) =
    status-other id (row_with id at.state.contents.rows) _ (λ row. (not_denied 200 refl, (not_denied 409 refl, (not_denied 409 refl, (not_denied 409 refl, tt)))))
call-other at (CancelTask id) = status-other id (row_with id at.state.contents.rows) _ (λ row. (not_denied 200 refl, tt))
call-other at (TriggerHook trigger) = hook-other trigger.hook (hook_at trigger.hook at)

-- ---- a call that is not denied

full-other : (answer : Option Answer) (judgement : Judgement) → ((a : Answer) → answer ≡ Some a → a.status ≢ 403) → Strikes answer judgement → judgement.answer.status ≢ 403
full-other None judgement other strikes = absurd strikes
full-other (Some a) judgement other strikes = rw strikes (other a refl)

full-when : (test : Bool) (count : ℕ) (a : Answer) → (if test then Some (farm_full count) else None) ≡ Some a → a.status ≢ 403
full-when true count a is = let same : a ≡ farm_full count = cc in rw same (not_denied 507 refl)
full-when false count a is = cc

full-status : (at : Setting) (change : Option Change) (a : Answer) → full at.state change ≡ Some a → a.status ≢ 403
full-status at None a is = cc
full-status at (Some change) a is = full-when (makes_task change.kind && nat_le (min at.state.config.max_tasks 1_000_000) (length at.state.contents.rows)) (length at.state.contents.rows) a is

last-other : (at : Setting) (deed : Deed) (judgement : Judgement) → IsFirst (last_parts at deed) judgement → judgement.answer.status ≢ 403
last-other at deed judgement (inl strikes) = full-other (full at.state deed.change) judgement (full-status at deed.change) strikes
last-other at deed judgement (inr (a, inl is)) = rw is (not_denied 200 refl)
last-other at deed judgement (inr (a, inr (b, none))) = absurd none

pub rules-other : (at : Setting) (deed : Deed) (rules : List Rule) (judgement : Judgement) → AreOther rules → IsFirst (map IsEnded rules ++ last_parts at deed) judgement → judgement.answer.status ≢ 403
rules-other at deed [] judgement others first = last-other at deed judgement first
rules-other at deed (rule ∷ rules) judgement others (inl ended) = rw ended.1 others.0
rules-other at deed (rule ∷ rules) judgement others (inr (a, rest)) = rules-other at deed rules judgement others.1 rest

-- what judges a call that is of its form, whose parameters name what they may, whose caller has access, that names what is there, and whose policy holds
pub held-first : (at : Setting) (caller : Caller) (case : Setting → Case) (Ps : List (Judgement → Type 0)) (scopes : List (List ℕ)) (judgement : Judgement) → HasAccess at.state.config at.moment caller (Has scopes) → (case at).parameter ≡ None → (case at).absent ≡ None → missing scopes (case at).policy ≡ None → IsFirst (front at caller (asks case) ++ Ps) judgement → IsFirst Ps judgement
held-first at caller case Ps scopes judgement has named there none (inl p) = absurd p
held-first at caller case Ps scopes judgement has named there none (inr (a, inl p)) = absurd (subst (λ (answer : Option Answer). Strikes answer judgement) named p)
held-first at caller case Ps scopes judgement has named there none (inr (a, inr (b, inl p))) = absurd p
held-first at caller case Ps scopes judgement has named there none (inr (a, inr (b, inr (c, inl p)))) = absurd (not_refused at.state.config at.moment caller scopes has judgement p)
held-first at caller case Ps scopes judgement has named there none (inr (a, inr (b, inr (c, inr (d, inl p))))) = absurd (subst (λ (answer : Option Answer). Strikes answer judgement) there p)
held-first at caller case Ps scopes judgement has named there none (inr (a, inr (b, inr (c, inr (d, inr (e, inl p)))))) = absurd (lacks_none at.state.config at.moment caller scopes (case at).policy has none judgement p)
held-first at caller case Ps scopes judgement has named there none (inr (a, inr (b, inr (c, inr (d, inr (e, inr (f, rest))))))) = rest

-- ---- denied exactly

exactly : (at : Setting) (caller : Caller) (case : Setting → Case) (scopes : List (List ℕ)) (judgement : Judgement) → AreOther (case at).rules → HasNoEmptyAnyOf (case at).policy → HasAccess at.state.config at.moment caller (Has scopes) → (case at).parameter ≡ None → (case at).absent ≡ None → IsFirst (in_order at caller (asks case)) judgement → DeniesExactly scopes (case at).policy judgement.answer
exactly at caller case scopes judgement others full has named there first = by (holds scopes (case at).policy) refl where
  by : (test : Bool) → holds scopes (case at).policy ≡ test → DeniesExactly scopes (case at).policy judgement.answer
  by true is = record {
    held = λ held. rules-other at (case at).deed (case at).rules judgement others (held-first at caller case (ending at (case at)) scopes judgement has named there (rw is refl) first);
    lacked = λ not_held. absurd (not_held is);
  }
  by false is =
      let lack = reduced scopes (case at).policy in
      let lacks : missing scopes (case at).policy ≡ Some lack = rw is refl in
      let denied = asks-lacking at caller case (ending at (case at)) scopes has named lack there lacks in
      let same = in_order-one at caller (asks case) judgement (only_answer (insufficient_scopes lack)) tt first denied in
      record {
        held = λ held. let no_ : false ≡ true = sym is ∙ held in cc;
        lacked = λ not_held. (lack, (lacks, missing_full scopes (case at).policy lack lacks, reduced-lists scopes (case at).policy full is), ap (λ (j : Judgement). j.answer) same);
      }

there-is : (parameter absent : Option Answer) (policy asked : Expression) → where_there parameter absent policy ≡ Some asked → (parameter ≡ None) × (absent ≡ None) × (policy ≡ asked)
there-is None None policy asked is = (refl, refl, cc)
there-is None (Some a) policy asked is = cc
there-is (Some a) absent policy asked is = cc

form-exactly : (at : Setting) (caller : Caller) (form : Form) (scopes : List (List ℕ)) (policy : Expression) (judgement : Judgement) → AreOther (case_of form at).rules → HasNoEmptyAnyOf (case_of form at).policy → asked_policy form at ≡ Some policy → HasAccess at.state.config at.moment caller (Has scopes) → IsFirst (in_order at caller form) judgement → DeniesExactly scopes policy judgement.answer
form-exactly at caller (has_no_route a) scopes policy judgement others full is has first = cc
form-exactly at caller (has_bad_parameter a) scopes policy judgement others full is has first = cc
form-exactly at caller (has_bad_body a) scopes policy judgement others full is has first = cc
form-exactly at caller (asks_then Found case Comes rest) scopes policy judgement others full is has first = cc
form-exactly at caller (asks case) scopes policy judgement others full is has first =
    let there = there-is (case at).parameter (case at).absent (case at).policy policy is in
    subst (λ (e : Expression). DeniesExactly scopes e judgement.answer) there.2 (exactly at caller case scopes judgement others full has there.0 there.1 first)

pub denies-exactly : (opening : State) (before later : List Entry) (asking : Asking) (judgement : Judgement) (scopes : List (List ℕ)) (policy : Expression) → Finished opening before later asking judgement → asked_policy (form_of asking.call) (setting_behind opening before asking) ≡ Some policy → HasAccess opening.config (setting_behind opening before asking).moment asking.caller (Has scopes) → DeniesExactly scopes policy judgement.answer
unfolding IsVerdict
denies-exactly opening before later asking judgement scopes policy is asked has =
    let at = setting_behind opening before asking in
    let may = entry-may opening before later (call asking (finished judgement)) is.legal in
    let access : HasAccess at.state.config at.moment asking.caller (Has scopes) = rw (entries-config opening before) has in
    form-exactly at asking.caller (form_of asking.call) scopes policy judgement (call-other at asking.call) (call-full at asking.call) asked access may.became.verdict

-- what a call asks has no empty `AnyOf`
asked-full : (at : Setting) (form : Form) (policy : Expression) → HasNoEmptyAnyOf (case_of form at).policy → asked_policy form at ≡ Some policy → HasNoEmptyAnyOf policy
asked-full at (has_no_route a) policy full is = cc
asked-full at (has_bad_parameter a) policy full is = cc
asked-full at (has_bad_body a) policy full is = cc
asked-full at (asks_then Found case Comes rest) policy full is = cc
asked-full at (asks case) policy full is =
    subst HasNoEmptyAnyOf (there-is (case at).parameter (case at).absent (case at).policy policy is).2 full

pub star-calls : (opening : State) (before later : List Entry) (asking : Asking) (judgement : Judgement) (scopes : List (List ℕ)) (policy : Expression) → Finished opening before later asking judgement → asked_policy (form_of asking.call) (setting_behind opening before asking) ≡ Some policy → HasAccess opening.config (setting_behind opening before asking).moment asking.caller (Has scopes) → Contains scopes (star ∷ []) → judgement.answer.status ≢ 403
star-calls opening before later asking judgement scopes policy is asked has starred =
    let at = setting_behind opening before asking in
    let full = asked-full at (form_of asking.call) policy (call-full at asking.call) asked in
    (denies-exactly opening before later asking judgement scopes policy is asked has).held (star-holds scopes starred policy full)
