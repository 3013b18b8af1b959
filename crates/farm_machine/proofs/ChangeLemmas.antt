-- A verdict that changes something is that of a createTask whose id no task had.
use Rattle.std.proofs.Common.{◌≡◌, ℕ, Bool, true, false, List, [], ◌∷◌, ◌++◌, map, length, Option, Some, None, Ok, Err, nat_lt, min, ◌+◌, refl, ap, ◌∙◌, subst, inl, inr}
use Rattle.task_types.specs.declared.change.Change.{Change}
use Rattle.task_types.specs.declared.change.Creation.{Creation}
use Rattle.task_types.specs.declared.change.Kind.TheVariants.{Create}
use Rattle.farm_record.specs.Records.{IsSaid}
use Rattle.run_states.specs.Rows.{Row}
use Rattle.task_index.specs.Changes.{creating}
use Rattle.task_types.specs.declared.change.RunName.{RunName}
use Rattle.task_index.specs.Contents.{row_with}
use Rattle.task_index.specs.Picks.{picks}
use Rattle.task_types.specs.declared.task_def.TaskDef.{TaskDef}
use Rattle.farm_asks.specs.declared.question.Call.{Call}
use Rattle.farm_asks.specs.declared.question.Call.TheVariants.{NoRoute, BadParameter, BadBody, Ping, Task, Status, ListTaskGroup, ListDependentTasks, PendingTasks, CreateTask, ClaimWork, ReclaimTask, ReportRun, ScheduleTask, RerunTask, CancelTask, TriggerHook}
use Rattle.farm_asks.specs.declared.question.Caller.{Caller}
use Rattle.farm_asks.specs.declared.reply.Answer.{Answer}
use Rattle.farm_machine.specs.Calls.CreateTask.{standing, create_task}
use Rattle.farm_machine.specs.Calls.CancelTask.{cancel_task}
use Rattle.farm_machine.specs.Calls.ListDependentTasks.{list_dependent_tasks}
use Rattle.farm_machine.specs.Calls.ListTaskGroup.{list_task_group}
use Rattle.farm_machine.specs.Calls.PendingTasks.{pending_tasks}
use Rattle.farm_machine.specs.Calls.Task.{task}
use Rattle.farm_machine.specs.Calls.ClaimWork.{taking, claim_work}
use Rattle.farm_machine.specs.Calls.ReclaimTask.{reclaim_task}
use Rattle.farm_machine.specs.Calls.ReportRun.{report_run}
use Rattle.farm_machine.specs.Calls.RerunTask.{rerun_task}
use Rattle.farm_machine.specs.Calls.ScheduleTask.{schedule_task}
use Rattle.farm_machine.specs.Calls.Status.{status}
use Rattle.farm_machine.specs.Calls.TriggerHook.{Fired, ComesTo, case_after}
use Rattle.farm_asks.specs.declared.question.Trigger.{Trigger}
use Rattle.farm_asks.specs.declared.question.WorkRequest.{WorkRequest}
use Rattle.farm_asks.specs.Config.{claim_millis}
use Rattle.farm_machine.specs.Case.{Setting, Deed, Rule, Case, passing, of_row, of_run, IsFirstRule}
use Rattle.farm_asks.specs.Questions.{Asking}
use Rattle.farm_machine.specs.Judgement.{Judgement, only_answer}
use Rattle.farm_machine.specs.Laws.{creation_of}
use Rattle.farm_machine.specs.Order.{Form, has_no_route, has_bad_parameter, has_bad_body, asks, asks_then, route_of, parameter_of, body_of, case_of, Strikes, full, IsEnded, IsFirst, ending, behind, in_order, done}
use Rattle.farm_machine.specs.State.{State}
use Rattle.farm_machine.specs.Verdict.{form_of, setting_of, IsVerdict}
use Rattle.farm_asks.specs.Questions.{IsSaidCall}
use Rattle.farm_machine.proofs.FiredLemmas.{made-said}
use Rattle.farm_machine.proofs.OrderLemmas.{last_parts}

-- ---- a judgement that changes something is none of a refusal

no_refusal : (answer : Option Answer) (judgement : Judgement) (change : Change) → judgement.change ≡ Some change → ¬ Strikes answer judgement
no_refusal None judgement change is strikes = strikes
no_refusal (Some a) judgement change is strikes = let none : judgement.change ≡ None = ap (λ (j : Judgement). j.change) strikes in cc

after_refusals : (at : Setting) (caller : Caller) (form : Form) (judgement : Judgement) (change : Change) → judgement.change ≡ Some change → IsFirst (in_order at caller form) judgement → IsFirst (behind at form) judgement
after_refusals at caller form judgement change is (inl p) = absurd (no_refusal (route_of form) judgement change is p)
after_refusals at caller form judgement change is (inr (a, inl p)) = absurd (no_refusal (parameter_of form at) judgement change is p)
after_refusals at caller form judgement change is (inr (a, inr (b, inl p))) = absurd (no_refusal (body_of form) judgement change is p)
after_refusals at caller form judgement change is (inr (a, inr (b, inr (c, inl p)))) = absurd (no_refusal (Some p.0) judgement change is p.2)
after_refusals at caller form judgement change is (inr (a, inr (b, inr (c, inr (d, inl p))))) = absurd (no_refusal (case_of form at).absent judgement change is p)
after_refusals at caller form judgement change is (inr (a, inr (b, inr (c, inr (d, inr (e, inl p)))))) = absurd (no_refusal _ judgement change is p.2)
after_refusals at caller form judgement change is (inr (a, inr (b, inr (c, inr (d, inr (e, inr (f, rest))))))) = rest

after_rules : (rules : List Rule) (Ps : List (Judgement → Type 0)) (judgement : Judgement) (change : Change) → judgement.change ≡ Some change → IsFirst (map IsEnded rules ++ Ps) judgement → IsFirstRule rules None × IsFirst Ps judgement
after_rules [] Ps judgement change is first = (refl, first)
after_rules (rule ∷ rules) Ps judgement change is (inl ended) = let none : judgement.change ≡ None = ap (λ (j : Judgement). j.change) ended.1 in cc
after_rules (rule ∷ rules) Ps judgement change is (inr (goes_on, rest)) =
    let more = after_rules rules Ps judgement change is rest in
    (inr ((λ ends. goes_on (only_answer rule.answer) (ends, refl)), more.0), more.1)

last_done : (at : Setting) (deed : Deed) (judgement : Judgement) (change : Change) → judgement.change ≡ Some change → IsFirst (last_parts at deed) judgement → judgement ≡ done at deed
last_done at deed judgement change is (inl p) = absurd (no_refusal (full at.state deed.change) judgement change is p)
last_done at deed judgement change is (inr (a, inl p)) = p
last_done at deed judgement change is (inr (a, inr (b, p))) = absurd p

-- it is that of what a case does, none of whose rules ended the call
abbrev pub IsOf : Setting → Judgement → Case → Type 0
IsOf at judgement case = IsFirstRule case.rules None × (judgement ≡ done at case.deed)

case-done : (at : Setting) (case : Case) (judgement : Judgement) (change : Change) → judgement.change ≡ Some change → IsFirst (ending at case) judgement → IsOf at judgement case
case-done at case judgement change is first =
    let passed = after_rules case.rules (last_parts at case.deed) judgement change is first in
    (passed.0, last_done at case.deed judgement change is passed.1)

-- the case of the call, or of what comes of it
abbrev pub IsDoneBy : Setting → Judgement → Form → Type 0
IsDoneBy at judgement (asks_then Found case Comes rest) = (found : Found) × Comes at found × IsOf at judgement (rest found at)
IsDoneBy at judgement form = IsOf at judgement (case_of form at)

behind-done : (at : Setting) (form : Form) (judgement : Judgement) (change : Change) → judgement.change ≡ Some change → IsFirst (behind at form) judgement → IsDoneBy at judgement form
behind-done at (has_no_route a) judgement change is first = case-done at passing judgement change is first
behind-done at (has_bad_parameter a) judgement change is first = case-done at passing judgement change is first
behind-done at (has_bad_body a) judgement change is first = case-done at passing judgement change is first
behind-done at (asks case) judgement change is first = case-done at (case at) judgement change is first
behind-done at (asks_then Found case Comes rest) judgement change is (inl (found, comes, first)) = (found, comes, case-done at (rest found at) judgement change is first)
behind-done at (asks_then Found case Comes rest) judgement change is (inr (a, none)) = absurd none

pub change-done : (at : Setting) (caller : Caller) (form : Form) (judgement : Judgement) (change : Change) → judgement.change ≡ Some change → IsFirst (in_order at caller form) judgement → IsDoneBy at judgement form
change-done at caller form judgement change is first = behind-done at form judgement change is (after_refusals at caller form judgement change is first)

-- ---- what creates a task

-- a call that creates this task: where some document says what the call makes, one says the task; and no task has the id
pub record Creates (at : Setting) (asked : Call) (judgement : Judgement) (creation : Creation) : Type 0 where
  pub said : IsSaidCall asked → IsSaid (Create creation)
  pub unknown : row_with creation.id at.state.contents.rows ≡ None
  pub change : judgement.change ≡ Some (creating at.moment creation)

-- a judgement whose change creates nothing creates nothing
no_creation : (judgement : Judgement) (creation : Creation) (deed : Deed) (at : Setting) → creation_of deed.change ≡ None → judgement ≡ done at deed → creation_of judgement.change ≡ Some creation → ⊥
no_creation judgement creation deed at none is creates =
    let change : judgement.change ≡ deed.change = ap (λ (j : Judgement). j.change) is in
    let nothing : creation_of judgement.change ≡ None = ap creation_of change ∙ none in
    cc

-- a call of a task creates none, where it does so for no task that stands
task_makes : (id : List ℕ) (row : Option Row) (each : Row → Case) → ((r : Row) → creation_of (each r).deed.change ≡ None) → creation_of (of_row id each row).deed.change ≡ None
task_makes id None each makes = refl
task_makes id (Some row) each makes = makes row

run_makes : (id : List ℕ) (run : ℕ) (each : Row → Case) (there : Bool) (row : Row) → creation_of (each row).deed.change ≡ None → creation_of (of_run id run each there row).deed.change ≡ None
run_makes id run each true row makes = makes
run_makes id run each false row makes = refl

work_makes : (moment until : ℕ) (work : WorkRequest) (names : List RunName) → creation_of (taking moment until work names).change ≡ None
work_makes moment until work [] = refl
work_makes moment until work (name ∷ names) = refl

unknown_is : (definition : TaskDef) (row : Option Row) (rules : List Rule) → IsFirstRule (standing definition row ++ rules) None → row ≡ None
unknown_is definition None rules none = refl
unknown_is definition (Some row) rules (inl p) = let no_ = p.1 in cc
unknown_is definition (Some row) rules (inr (a, inl p)) = let no_ = p.1 in cc
unknown_is definition (Some row) rules (inr (a, inr (goes_on, rest))) = absurd (goes_on tt)

create_creates : (at : Setting) (judgement : Judgement) (called : Call) (asked creation : Creation) → (IsSaidCall called → IsSaid (Create asked)) → IsOf at judgement (create_task asked at) → creation_of judgement.change ≡ Some creation → Creates at called judgement creation
create_creates at judgement called asked creation said (rules, is) creates =
    let change : judgement.change ≡ Some (creating at.moment asked) = ap (λ (j : Judgement). j.change) is in
    let found : Some asked ≡ Some creation = rw change at creates in
    let same : asked ≡ creation = cc in
    subst (λ (c : Creation). Creates at called judgement c) same
    (record { said = said; unknown = unknown_is asked.definition (row_with asked.id at.state.contents.rows) _ rules; change = change })

-- what comes of a hook creates the task that its firing says
hook_creates : (at : Setting) (trigger : Trigger) (judgement : Judgement) (creation : Creation) (fired : Fired) → ComesTo trigger at fired → IsOf at judgement (case_after fired at) → creation_of judgement.change ≡ Some creation → Creates at (TriggerHook trigger) judgement creation
hook_creates at trigger judgement creation (Ok made) comes done_so creates = create_creates at judgement (TriggerHook trigger) made creation (λ said. made-said trigger at made comes) done_so creates
hook_creates at trigger judgement creation (Err answer) comes (inl (ends, is), done_so) creates = cc
hook_creates at trigger judgement creation (Err answer) comes (inr (goes_on, rest), done_so) creates = absurd (goes_on refl)

call_creates : (at : Setting) (asked : Call) (judgement : Judgement) (creation : Creation) → IsDoneBy at judgement (form_of asked) → creation_of judgement.change ≡ Some creation → Creates at asked judgement creation
call_creates at (NoRoute name) judgement creation (rules, is) creates = absurd (no_creation judgement creation (case_of (form_of (NoRoute name)) at).deed at refl is creates)
call_creates at (BadParameter parameter) judgement creation (rules, is) creates = absurd (no_creation judgement creation (case_of (form_of (BadParameter parameter)) at).deed at refl is creates)
call_creates at (BadBody fault) judgement creation (rules, is) creates = absurd (no_creation judgement creation (case_of (form_of (BadBody fault)) at).deed at refl is creates)
call_creates at Ping judgement creation (rules, is) creates = absurd (no_creation judgement creation (case_of (form_of Ping) at).deed at refl is creates)
call_creates at (Task id) judgement creation (rules, is) creates =
    absurd (no_creation judgement creation (task id at).deed at (task_makes id (row_with id at.state.contents.rows) _ (λ row. refl)) is creates)
call_creates at (ListTaskGroup group page) judgement creation (rules, is) creates = absurd (no_creation judgement creation (list_task_group group page at).deed at refl is creates)
call_creates at (ListDependentTasks id page) judgement creation (rules, is) creates = absurd (no_creation judgement creation (list_dependent_tasks id page at).deed at refl is creates)
call_creates at (PendingTasks queue) judgement creation (rules, is) creates = absurd (no_creation judgement creation (pending_tasks queue at).deed at refl is creates)
call_creates at (Status id) judgement creation (rules, is) creates =
    absurd (no_creation judgement creation (status id at).deed at (task_makes id (row_with id at.state.contents.rows) _ (λ row. refl)) is creates)
call_creates at (ClaimWork work) judgement creation (rules, is) creates =
    absurd (no_creation judgement creation (claim_work work at).deed at
    (work_makes at.moment (at.moment + claim_millis at.state.config) work (picks (min work.tasks 32) work.queue at.state.contents.rows)) is creates)
call_creates at (ReclaimTask name) judgement creation (rules, is) creates =
    absurd (no_creation judgement creation (reclaim_task name at).deed at
    (task_makes name.id (row_with name.id at.state.contents.rows) _ (λ row. run_makes name.id name.run _ (nat_lt name.run (length row.runs)) row refl)) is creates)
call_creates at (ReportRun report) judgement creation (rules, is) creates =
    absurd (no_creation judgement creation (report_run report at).deed at
    (task_makes report.id (row_with report.id at.state.contents.rows) _ (λ row. run_makes report.id report.run _ (nat_lt report.run (length row.runs)) row refl)) is creates)
call_creates at (ScheduleTask id) judgement creation (rules, is) creates =
    absurd (no_creation judgement creation (schedule_task id at).deed at (task_makes id (row_with id at.state.contents.rows) _ (λ row. refl)) is creates)
call_creates at (RerunTask id) judgement creation (rules, is) creates =
    absurd (no_creation judgement creation (rerun_task id at).deed at (task_makes id (row_with id at.state.contents.rows) _ (λ row. refl)) is creates)
call_creates at (CancelTask id) judgement creation (rules, is) creates =
    absurd (no_creation judgement creation (cancel_task id at).deed at (task_makes id (row_with id at.state.contents.rows) _ (λ row. refl)) is creates)
call_creates at (CreateTask asked) judgement creation done_so creates = create_creates at judgement (CreateTask asked) asked creation (λ said. said) done_so creates
call_creates at (TriggerHook trigger) judgement creation (fired, comes, done_so) creates = hook_creates at trigger judgement creation fired comes done_so creates

-- a change that is there
some_change : (change : Option Change) (creation : Creation) → creation_of change ≡ Some creation → (c : Change) × (change ≡ Some c)
some_change None creation is = cc
some_change (Some c) creation is = (c, refl)

pub verdict-creates : (state : State) (asking : Asking) (judgement : Judgement) (creation : Creation) → IsVerdict state asking judgement → creation_of judgement.change ≡ Some creation → Creates (setting_of state asking) asking.call judgement creation
unfolding IsVerdict
verdict-creates state asking judgement creation verdict creates =
    let at = setting_of state asking in
    let some = some_change judgement.change creation creates in
    let done_so = change-done at asking.caller (form_of asking.call) judgement some.0 some.1 verdict in
    call_creates at asking.call judgement creation done_so creates
