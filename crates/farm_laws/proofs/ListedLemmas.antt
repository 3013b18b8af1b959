-- What is missing of what a call asks lists a scope, and nothing is missing where the scope `*` is held.
use Rattle.std.proofs.Common.{◌≡◌, ◌≢◌, ℕ, Bool, true, false, ◌&&◌, cond, List, [], ◌∷◌, ◌++◌, map, Option, Some, None, Contains, codes, refl, sym, inr, nat_lt, length}
use Rattle.std.proofs.lemmas.Bool.{and_from, or_left, or_parts, false≢true}
use Rattle.scope_sets.specs.Expressions.{Expression, one, all_of, any_of, Members, no_members, member, members_of, holds, all_hold, reduced, lacking, each_reduced, scopes_in, scopes_in_each}
use Rattle.scope_sets.specs.Scopes.{star, covers}
use Rattle.scope_sets.proofs.SatisfyingLemmas.{covers_by}
use Rattle.call_rules.specs.Policy.{create_scope, from_highest, create_policy}
use Rattle.call_rules.specs.declared.hook_names.HookName.{HookName}
use Rattle.hook_book.specs.Hooks.{HookData}
use Rattle.run_states.specs.Rows.{Row}
use Rattle.task_index.specs.Contents.{row_with}
use Rattle.task_types.specs.declared.choices.Priority.{Priority}
use Rattle.task_types.specs.declared.choices.Priority.TheVariants.{Highest, VeryHigh, High, Medium, Low, VeryLow, Lowest}
use Rattle.task_types.specs.declared.names.TaskQueue.{TaskQueue}
use Rattle.task_types.specs.declared.task_def.TaskDef.{TaskDef}
use Rattle.farm_asks.specs.declared.question.Call.{Call}
use Rattle.farm_asks.specs.declared.question.Call.TheVariants.{NoRoute, BadParameter, BadBody, Ping, Task, Status, ListTaskGroup, ListDependentTasks, PendingTasks, CreateTask, ClaimWork, ReclaimTask, ReportRun, ScheduleTask, RerunTask, CancelTask, TriggerHook}
use Rattle.farm_machine.specs.Calls.TriggerHook.{hook_at, of_hook}
use Rattle.farm_machine.specs.Case.{Setting, Case, of_row, of_run}
use Rattle.farm_machine.specs.Order.{case_of}
use Rattle.farm_machine.specs.Verdict.{form_of}

-- ---- expressions whose `AnyOf`s have members

abbrev mutual
  -- no `AnyOf` in it is without members
  pub HasNoEmptyAnyOf : Expression → Type 0
  HasNoEmptyAnyOf (one s) = Unit {0}
  HasNoEmptyAnyOf (all_of es) = NoneHasEmptyAnyOf es
  HasNoEmptyAnyOf (any_of no_members) = ⊥
  HasNoEmptyAnyOf (any_of (member e es)) = HasNoEmptyAnyOf e × NoneHasEmptyAnyOf es

  pub NoneHasEmptyAnyOf : Members → Type 0
  NoneHasEmptyAnyOf no_members = Unit {0}
  NoneHasEmptyAnyOf (member e es) = HasNoEmptyAnyOf e × NoneHasEmptyAnyOf es

front-some : (xs ys : List (List ℕ)) → xs ≢ [] → xs ++ ys ≢ []
front-some [] ys some is = some refl
front-some (x ∷ xs) ys some is = cc

one-some : (s : List ℕ) → s ∷ [] ≢ []
one-some s is = cc

module _ (set : List (List ℕ)) where
  lacking-step : (e : Expression) (es : Members) (b : Bool) → holds set e ≡ b → (b && all_hold set es) ≡ false → (holds set e ≡ false → scopes_in (reduced set e) ≢ []) → (all_hold set es ≡ false → scopes_in_each (lacking set es) ≢ [])
      → scopes_in_each (cond b (lacking set es) (member (reduced set e) (lacking set es))) ≢ []
  lacking-step e es true is none first rest = rest none
  lacking-step e es false is none first rest = front-some (scopes_in (reduced set e)) (scopes_in_each (lacking set es)) (first is)

  mutual
    -- what is left of one that does not hold lists a scope
    pub reduced-lists : (e : Expression) → HasNoEmptyAnyOf e → holds set e ≡ false → scopes_in (reduced set e) ≢ []
    reduced-lists (one s) full none = one-some s
    reduced-lists (all_of es) full none = lacking-lists es full none
    reduced-lists (any_of no_members) full none = absurd full
    reduced-lists (any_of (member e es)) full none =
        let lacks = or_parts _ _ none in
        front-some (scopes_in (reduced set e)) (scopes_in_each (each_reduced set es)) (reduced-lists e full.0 lacks.0)

    lacking-lists : (es : Members) → NoneHasEmptyAnyOf es → all_hold set es ≡ false → scopes_in_each (lacking set es) ≢ []
    lacking-lists no_members full none = absurd (false≢true (sym none))
    lacking-lists (member e es) full none = lacking-step e es (holds set e) refl none (reduced-lists e full.0) (lacking-lists es full.1)

module _ (set : List (List ℕ)) (starred : Contains set (star ∷ [])) where
  star-covers : (s : List ℕ) → covers set s ≡ true
  star-covers s = covers_by set (star ∷ []) s starred (inr ([], s, refl, refl))

  mutual
    -- each holds where `*` is held
    pub star-holds : (e : Expression) → HasNoEmptyAnyOf e → holds set e ≡ true
    star-holds (one s) full = star-covers s
    star-holds (all_of es) full = star-holds-all es full
    star-holds (any_of no_members) full = absurd full
    star-holds (any_of (member e es)) full = or_left _ _ (star-holds e full.0)

    star-holds-all : (es : Members) → NoneHasEmptyAnyOf es → all_hold set es ≡ true
    star-holds-all no_members full = refl
    star-holds-all (member e es) full = and_from _ _ (star-holds e full.0) (star-holds-all es full.1)

-- ---- what calls ask

-- single scopes before others
ones-full : (f : List ℕ → List ℕ) (xs : List (List ℕ)) (rest : List Expression) → NoneHasEmptyAnyOf (members_of rest) → NoneHasEmptyAnyOf (members_of (map (λ x. one (f x)) xs ++ rest))
ones-full f [] rest full = full
ones-full f (x ∷ xs) rest full = (tt, ones-full f xs rest full)

-- one priority at least may be created
highest-full : (queue : TaskQueue) (p : Priority) → HasNoEmptyAnyOf (any_of (members_of (map (λ p. one (create_scope queue p)) (from_highest p))))
highest-full queue Highest = (tt, tt)
highest-full queue VeryHigh = (tt, (tt, tt))
highest-full queue High = (tt, (tt, (tt, tt)))
highest-full queue Medium = (tt, (tt, (tt, (tt, tt))))
highest-full queue Low = (tt, (tt, (tt, (tt, (tt, tt)))))
highest-full queue VeryLow = (tt, (tt, (tt, (tt, (tt, (tt, tt))))))
highest-full queue Lowest = (tt, (tt, (tt, (tt, (tt, (tt, (tt, tt)))))))

pub create-full : (def : TaskDef) → HasNoEmptyAnyOf (create_policy def)
create-full def = ones-full (λ s. s) def.scopes _ (ones-full (λ route. codes "queue:route:" ++ route) def.routes _ (tt, (tt, (highest-full def.queue def.priority, tt))))

task-full : (id : List ℕ) (row : Option Row) (each : Row → Case) → ((r : Row) → HasNoEmptyAnyOf (each r).policy) → HasNoEmptyAnyOf (of_row id each row).policy
task-full id None each full = tt
task-full id (Some row) each full = full row

run-full : (id : List ℕ) (run : ℕ) (each : Row → Case) (there : Bool) (row : Row) → HasNoEmptyAnyOf (each row).policy → HasNoEmptyAnyOf (of_run id run each there row).policy
run-full id run each true row full = full
run-full id run each false row full = tt

hook-full : (name : HookName) (hook : Option HookData) → HasNoEmptyAnyOf (of_hook name hook).policy
hook-full name None = tt
hook-full name (Some hook) = tt

pub call-full : (at : Setting) (asked : Call) → HasNoEmptyAnyOf (case_of (form_of asked) at).policy
call-full at (NoRoute name) = tt
call-full at (BadParameter parameter) = tt
call-full at (BadBody fault) = tt
call-full at Ping = tt
call-full at (Task id) = task-full id (row_with id at.state.contents.rows) _ (λ row. tt)
call-full at (Status id) = task-full id (row_with id at.state.contents.rows) _ (λ row. tt)
call-full at (ListTaskGroup group page) = tt
call-full at (ListDependentTasks id page) = tt
call-full at (PendingTasks queue) = tt
call-full at (CreateTask creation) = create-full creation.definition
call-full at (ClaimWork work) = (tt, (tt, tt))
call-full at (ReclaimTask name) =
    task-full name.id (row_with name.id at.state.contents.rows) _ (λ row. run-full name.id name.run _ (nat_lt name.run (length row.runs)) row tt)
call-full at (ReportRun report) =
    task-full report.id (row_with report.id at.state.contents.rows) _ (λ row. run-full report.id report.run _ (nat_lt report.run (length row.runs)) row tt)
call-full at (ScheduleTask id) = task-full id (row_with id at.state.contents.rows) _ (λ row. (tt, (tt, tt)))
call-full at (RerunTask id) = task-full id (row_with id at.state.contents.rows) _ (λ row. (tt, (tt, tt)))
call-full at (CancelTask id) = task-full id (row_with id at.state.contents.rows) _ (λ row. (tt, (tt, tt)))
call-full at (TriggerHook trigger) = hook-full trigger.hook (hook_at trigger.hook at)
