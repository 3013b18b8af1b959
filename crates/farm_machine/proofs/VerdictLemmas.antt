-- The verdict is one, and each call has one.
use Rattle.std.proofs.Common.{◌≡◌, ◌⊎◌, ℕ, ◌≤◌, Bool, true, false, List, ◌++◌, length, Option, Some, None, Ok, Err, not, ◌&&◌, nat_le, nat_lt, refl, inl, inr}
use Rattle.hawk_auth.specs.Clients.{IsBook}
use Rattle.role_expand.specs.Cycles.{IsAccepted}
use Rattle.task_types.specs.declared.change.Creation.{Creation}
use Rattle.run_states.specs.Rows.{Row, is_unscheduled, is_resolved, is_running_at}
use Rattle.run_states.specs.Moves.{ended_for_at}
use Rattle.task_index.specs.Changes.{reason_of}
use Rattle.task_index.specs.Contents.{row_with}
use Rattle.farm_rows.specs.Waits.{missing_dependency, early_dependency}
use Rattle.task_types.specs.declared.task_def.TaskDef.{TaskDef}
use Rattle.farm_asks.specs.declared.question.Call.{Call}
use Rattle.farm_asks.specs.declared.question.Call.TheVariants.{NoRoute, BadParameter, BadBody, Ping, Task, Status, ListTaskGroup, ListDependentTasks, PendingTasks, CreateTask, ClaimWork, ReclaimTask, ReportRun, ScheduleTask, RerunTask, CancelTask, TriggerHook}
use Rattle.farm_asks.specs.declared.reply.Answer.{Answer}
use Rattle.farm_asks.specs.declared.question.Caller.{Caller}
use Rattle.farm_machine.specs.Calls.CreateTask.{standing, scheduler_besides, where_found, joining, create_task}
use Rattle.farm_machine.specs.Calls.TriggerHook.{hook_at, Fired, case_after}
use Rattle.farm_machine.specs.Laws.{FiringEnds}
use Rattle.farm_machine.specs.Case.{Setting, Case, Rule, when, of_row, of_run}
use Rattle.farm_machine.specs.Changes.{moment_of}
use Rattle.farm_asks.specs.Questions.{Asking}
use Rattle.farm_machine.specs.Judgement.{Judgement}
use Rattle.farm_asks.specs.Replies.{too_late, bad_dependency, tells_status, conflict, other_scheduler}
use Rattle.farm_machine.specs.State.{State}
use Rattle.farm_machine.specs.Verdict.{form_of, setting_of, IsVerdict}
use Rattle.farm_asks.proofs.AccessLemmas.{HasAccess-some}
use Rattle.farm_machine.proofs.EqualLemmas.{definition_decided}
use Rattle.farm_machine.proofs.FiredLemmas.{ComesTo-one, ComesTo-some, firing-ends}
use Rattle.farm_machine.proofs.OrderLemmas.{AreDecided, IsDecided, IsDetermined, in_order-one, in_order-some}

-- what comes of a call is one
pub form-determined : (call : Call) (at : Setting) → IsDetermined (form_of call) at
form-determined (NoRoute name) at = tt
form-determined (BadParameter parameter) at = tt
form-determined (BadBody fault) at = tt
form-determined Ping at = tt
form-determined (Task id) at = tt
form-determined (Status id) at = tt
form-determined (ListTaskGroup group page) at = tt
form-determined (ListDependentTasks id page) at = tt
form-determined (PendingTasks queue) at = tt
form-determined (CreateTask creation) at = tt
form-determined (ClaimWork work) at = tt
form-determined (ReclaimTask name) at = tt
form-determined (ReportRun report) at = tt
form-determined (ScheduleTask id) at = tt
form-determined (RerunTask id) at = tt
form-determined (CancelTask id) at = tt
form-determined (TriggerHook trigger) at = ComesTo-one trigger at

-- two verdicts of one call in one state are one
pub IsVerdict-one : (state : State) (asking : Asking) (a b : Judgement) → IsVerdict state asking a → IsVerdict state asking b → a ≡ b
unfolding IsVerdict
IsVerdict-one state asking a b p q =
    in_order-one (setting_of state asking) asking.caller (form_of asking.call) a b (form-determined asking.call (setting_of state asking)) p q

-- ---- each rule of a call ends it or does not

when-decided : (test : Bool) (answer : Answer) → (when test answer).Ends ⊎ ¬ (when test answer).Ends
when-decided true answer = inl refl
when-decided false answer = inr (λ ends. let same : false ≡ true = ends in cc)

standing-decided : (definition : TaskDef) (row : Option Row) (rules : List Rule) → AreDecided rules → AreDecided (standing definition row ++ rules)
standing-decided definition None rules decided = decided
standing-decided definition (Some row) rules decided = (definition_decided row.definition definition, (inl tt, decided))

found-decided : (tell : List ℕ → Answer) (found : Option (List ℕ)) (rules : List Rule) → AreDecided rules → AreDecided (where_found tell found ++ rules)
found-decided tell None rules decided = decided
found-decided tell (Some id) rules decided = (inl refl, decided)

found-last : (tell : List ℕ → Answer) (found : Option (List ℕ)) → AreDecided (where_found tell found)
found-last tell None = tt
found-last tell (Some id) = (inl refl, tt)

joining-decided : (creation : Creation) (rows : List Row) → AreDecided (joining creation rows)
joining-decided creation rows =
    found-decided (bad_dependency 16) (missing_dependency creation rows) _
    (found-decided (bad_dependency 17) (early_dependency creation rows) _ (found-last other_scheduler (scheduler_besides creation rows)))

status-decided : (id : List ℕ) (row : Option Row) (each : Row → Case) → ((r : Row) → AreDecided (each r).rules) → AreDecided (of_row id each row).rules
status-decided id None each decided = tt
status-decided id (Some row) each decided = decided row

run-decided : (id : List ℕ) (run : ℕ) (each : Row → Case) (there : Bool) (row : Row) → AreDecided (each row).rules → AreDecided (of_run id run each there row).rules
run-decided id run each true row decided = decided
run-decided id run each false row decided = tt

-- a createTask's rules are decided
pub create-decided : (creation : Creation) (at : Setting) → AreDecided (create_task creation at).rules
create-decided creation at =
    standing-decided creation.definition (row_with creation.id at.state.contents.rows) _
    (when-decided (nat_le creation.definition.deadline at.moment) too_late, joining-decided creation at.state.contents.rows)

-- and so are those of what comes of a hook
after-decided : (fired : Fired) (at : Setting) → AreDecided (case_after fired at).rules
after-decided (Ok creation) at = create-decided creation at
after-decided (Err answer) at = (inl refl, tt)

form-decided : (longest : ℕ) (call : Call) (at : Setting) (caller : Caller) → IsAccepted longest at.state.config.roles → FiringEnds at call → IsDecided (form_of call) at caller
form-decided longest (NoRoute name) at caller accepted ends = tt
form-decided longest (BadParameter parameter) at caller accepted ends = tt
form-decided longest (BadBody fault) at caller accepted ends = tt
form-decided longest Ping at caller accepted ends = tt
form-decided longest (Task id) at caller accepted ends = status-decided id (row_with id at.state.contents.rows) _ (λ row. tt)
form-decided longest (Status id) at caller accepted ends = status-decided id (row_with id at.state.contents.rows) _ (λ row. tt)
form-decided longest (ListTaskGroup group page) at caller accepted ends = tt
form-decided longest (ListDependentTasks id page) at caller accepted ends = tt
form-decided longest (PendingTasks queue) at caller accepted ends = tt
form-decided longest (CreateTask creation) at caller accepted ends = create-decided creation at
form-decided longest (ClaimWork work) at caller accepted ends = tt
form-decided longest (ReclaimTask name) at caller accepted ends =
    status-decided name.id (row_with name.id at.state.contents.rows) _
    (λ row. run-decided name.id name.run _ (nat_lt name.run (length row.runs)) row (when-decided (not (is_running_at name.run row)) (conflict 3 row), tt))
form-decided longest (ReportRun report) at caller accepted ends =
    status-decided report.id (row_with report.id at.state.contents.rows) _
    (λ row. run-decided report.id report.run _ (nat_lt report.run (length row.runs)) row
    (when-decided (ended_for_at report.run (reason_of report.reason) row) (tells_status row), (when-decided (not (is_running_at report.run row)) (conflict 3 row), tt)))
form-decided longest (ScheduleTask id) at caller accepted ends =
    status-decided id (row_with id at.state.contents.rows) _ (λ row. (when-decided (not (is_unscheduled row)) (tells_status row), tt))
form-decided longest (RerunTask id) at caller accepted ends =
    status-decided id (row_with id at.state.contents.rows) _
    (λ row. (
      when-decided (not (is_unscheduled row) && not (is_resolved row)) (tells_status row),
      (
        when-decided (is_unscheduled row) (conflict 4 row),
        (when-decided (nat_le row.definition.deadline at.moment) (conflict 5 row), (when-decided (nat_le 50 (length row.runs)) (conflict 6 row), tt)),
      ),
    ))
form-decided longest (CancelTask id) at caller accepted ends = status-decided id (row_with id at.state.contents.rows) _ (λ row. (when-decided (is_resolved row) (tells_status row), tt))
form-decided longest (TriggerHook trigger) at caller accepted ends = λ passes.
    let some = ComesTo-some longest trigger at accepted ends passes.there in
    (some.0, some.1, after-decided some.0 at)

-- each call has a verdict, over accepted roles and a book of clients; a triggerHook where the firing of its hook comes to something
pub IsVerdict-some : (longest : ℕ) (state : State) (asking : Asking) → IsAccepted longest state.config.roles → IsBook state.config.clients → FiringEnds (setting_of state asking) asking.call → (judgement : Judgement) × IsVerdict state asking judgement
unfolding IsVerdict
IsVerdict-some longest state asking accepted book ends =
    let at = setting_of state asking in
    let has = HasAccess-some longest state.config at.moment asking.caller accepted book in
    in_order-some at asking.caller (form_of asking.call) (form-decided longest asking.call at asking.caller accepted ends) has.0 has.1

-- what is called cannot but come to something, up to the end of the year 9999
call-ends : (call : Call) (at : Setting) → at.moment ≤ 253_402_300_799_999 → ¬ ¬ FiringEnds at call
call-ends (TriggerHook trigger) at upto = firing-ends trigger at (hook_at trigger.hook at) refl upto
call-ends call at upto = λ none. none tt

-- so no call is without a verdict
pub IsVerdict-exists : (longest : ℕ) (state : State) (asking : Asking) → IsAccepted longest state.config.roles → IsBook state.config.clients → moment_of state.contents asking ≤ 253_402_300_799_999 → ¬ ¬ ((judgement : Judgement) × IsVerdict state asking judgement)
IsVerdict-exists longest state asking accepted book upto none =
    call-ends asking.call (setting_of state asking) upto (λ ends. none (IsVerdict-some longest state asking accepted book ends))
