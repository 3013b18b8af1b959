-- What a task serves those that wait for it: nothing takes it back, and a schedule changes nothing of it.
use Rattle.std.proofs.Common.{◌≡◌, ℕ, zero, suc, nat_le, Bool, true, false, ◌&&◌, ◌⊎◌, inl, inr, List, [], ◌∷◌, ◌++◌, Option, Some, None, is_some, is_none, refl, sym, ◌∙◌, ap}
use Rattle.std.specs.List.{last_or, list_any}
use Rattle.std.specs.Option.{option_map_or}
use Rattle.std.proofs.lemmas.Bool.{or_cases}
use Rattle.std.proofs.Math.Bool.{or-true}
use Rattle.std.proofs.lemmas.List.Folds.{list_any-append}
use Rattle.task_types.specs.declared.choices.Requires.{Requires}
use Rattle.task_types.specs.declared.choices.Requires.TheVariants.{AllCompleted, AllResolved}
use Rattle.run_states.specs.declared.reasons.ReasonCreated.TheVariants.{Rerun}
use Rattle.run_states.specs.declared.reasons.ReasonResolved.{ReasonResolved}
use Rattle.run_states.specs.declared.reasons.ReasonResolved.TheVariants.{Completed, DeadlineExceeded, Canceled}
use Rattle.run_states.specs.declared.run.Claim.{Claim}
use Rattle.run_states.specs.declared.run.Outcome.{Outcome}
use Rattle.run_states.specs.declared.run.Run.{Run}
use Rattle.run_states.specs.Reasons.{resolved_name}
use Rattle.std.specs.Str.{bytes_eq}
use Rattle.run_states.specs.Runs.{is_pending_run, kept, change_at, pending_run}
use Rattle.run_states.specs.Rows.{Row, has_ended, is_unscheduled, is_resolved, is_pending, is_running_at, loses_claim, first_run, scheduled, finished, exceeded}
use Rattle.run_states.specs.Moves.{claimed, reclaimed, resolved, expired, canceled, may_rerun, run_again}
use Rattle.run_states.specs.Later.{RunLater, RunsLater, RowLater}
use Rattle.run_states.specs.Serving.{is_completed, is_by_rerun, is_rerun, was_completed, was_resolved, serves}
use Rattle.run_states.proofs.LaterLemmas.{claimed-later, reclaimed-later, resolved-later, expired-later, exceeded-later, canceled-later, again-later}
use Rattle.run_states.proofs.ClaimLemmas.{resolved-claim}

-- ---- runs stay

completed-later : (run later : Run) → RunLater run later → is_completed run ≡ true → is_completed later ≡ true
completed-later run later stays is = by run.outcome refl where
  by : (o : Option Outcome) → run.outcome ≡ o → is_completed later ≡ true
  by None none = let no_ : false ≡ true = sym (ap (λ (o : Option Outcome). option_map_or (λ (outcome : Outcome). bytes_eq (resolved_name outcome.reason) (resolved_name Completed)) o false) none) ∙ is in cc
  by (Some o) some_ =
      ap (λ (o : Option Outcome). option_map_or (λ (outcome : Outcome). bytes_eq (resolved_name outcome.reason) (resolved_name Completed)) o false) (stays.outcome o some_ ∙ sym some_) ∙ is

any-later : (test : Run → Bool) → ((run later : Run) → RunLater run later → test run ≡ true → test later ≡ true) → (before after : List Run) → RunsLater before after → list_any test before ≡ true → list_any test after ≡ true
any-later test keeps [] after stay is = cc
any-later test keeps (run ∷ before) [] stay is = absurd stay
any-later test keeps (run ∷ before) (later ∷ after) stay is = by (any-later test keeps before after stay.1) (or_cases (test run) (list_any test before) is) where
  by : (list_any test before ≡ true → list_any test after ≡ true) → (test run ≡ true) ⊎ (list_any test before ≡ true) → list_any test (later ∷ after) ≡ true
  by rest (inl here) = rw (keeps run later stay.0 here) refl
  by rest (inr there) = rw (rest there) (or-true (test later))

-- a run that completed stays
pub completed-stays : (before after : Row) → RowLater before after → was_completed before ≡ true → was_completed after ≡ true
completed-stays before after later is = any-later is_completed completed-later before.runs after.runs later.runs is

-- a task that was resolved was so later, where that is so of one that is resolved
resolved-stays : (before after : Row) → RowLater before after → (is_resolved before ≡ true → was_resolved after ≡ true) → was_resolved before ≡ true → was_resolved after ≡ true
resolved-stays before after later still is = by (or_cases (is_resolved before) (list_any is_rerun before.runs) is) where
  by : (is_resolved before ≡ true) ⊎ (list_any is_rerun before.runs ≡ true) → was_resolved after ≡ true
  by (inl here) = still here
  by (inr there) =
      rw (any-later is_rerun (λ run later stays rerun. ap is_by_rerun stays.created ∙ rerun) before.runs after.runs later.runs there) (or-true (is_resolved after))

serves-stays : (needs : Requires) (before after : Row) → RowLater before after → (is_resolved before ≡ true → was_resolved after ≡ true) → serves needs before ≡ true → serves needs after ≡ true
serves-stays AllCompleted before after later still is = completed-stays before after later is
serves-stays AllResolved before after later still is = resolved-stays before after later still is

-- a task that is resolved was
resolved-was : (row : Row) → is_resolved row ≡ true → was_resolved row ≡ true
resolved-was row is = rw is refl

-- ---- each move

claimed-still : (claim : Claim) (row : Row) → is_resolved row ≡ true → was_resolved (claimed claim row) ≡ true
claimed-still claim row is = by (is_pending row) refl where
  open_ : (last : Option Run) → option_map_or is_pending_run last false ≡ true → has_ended last ≡ false
  open_ None pending = refl
  open_ (Some run) pending = of run.claim run.outcome pending where
    of : (k : Option Claim) (o : Option Outcome) → (is_none k && is_none o) ≡ true → is_some o ≡ false
    of None None pending = refl
    of None (Some o) pending = cc
    of (Some k) o pending = cc

  by : (b : Bool) → is_pending row ≡ b → was_resolved (claimed claim row) ≡ true
  by false pending = rw pending (resolved-was row is)
  by true pending = let no_ : is_resolved row ≡ false = open_ (last_or None row.runs) pending in cc

pub serves-claimed : (needs : Requires) (claim : Claim) (row : Row) → serves needs row ≡ true → serves needs (claimed claim row) ≡ true
serves-claimed needs claim row is = serves-stays needs row (claimed claim row) (claimed-later claim row) (claimed-still claim row) is

-- whether the last run has ended, where a claim moves
last-same : (a b : Option Run) (runs : List Run) → has_ended a ≡ has_ended b → has_ended (last_or a runs) ≡ has_ended (last_or b runs)
last-same a b [] same = same
last-same a b (run ∷ runs) same = refl

kept-last : (moment place : ℕ) (before : Option Run) (runs : List Run) → has_ended (last_or before (change_at place (kept moment) runs)) ≡ has_ended (last_or before runs)
kept-last moment place before [] = refl
kept-last moment zero before (run ∷ runs) = last-same (Some (kept moment run)) (Some run) runs refl
kept-last moment (suc place) before (run ∷ runs) = kept-last moment place (Some run) runs

reclaimed-still : (run moment : ℕ) (row : Row) → is_resolved row ≡ true → was_resolved (reclaimed run moment row) ≡ true
reclaimed-still run moment row is = by (is_running_at run row) refl where
  by : (b : Bool) → is_running_at run row ≡ b → was_resolved (reclaimed run moment row) ≡ true
  by false running = rw running (resolved-was row is)
  by true running = rw running (resolved-was (record row { runs = change_at run (kept moment) row.runs }) (kept-last moment run None row.runs ∙ is))

pub serves-reclaimed : (needs : Requires) (run moment : ℕ) (row : Row) → serves needs row ≡ true → serves needs (reclaimed run moment row) ≡ true
serves-reclaimed needs run moment row is = serves-stays needs row (reclaimed run moment row) (reclaimed-later run moment row) (reclaimed-still run moment row) is

resolved-still : (run : ℕ) (reason : ReasonResolved) (number at : ℕ) (row : Row) → is_running_at run row ≡ false → is_resolved row ≡ true → was_resolved (resolved run reason number at row) ≡ true
resolved-still run reason number at row running is = rw running (resolved-was row is)

pub serves-resolved : (needs : Requires) (run : ℕ) (reason : ReasonResolved) (number at : ℕ) (row : Row) → (is_resolved row ≡ true → is_running_at run row ≡ false) → serves needs row ≡ true → serves needs (resolved run reason number at row) ≡ true
serves-resolved needs run reason number at row past is =
    serves-stays needs row (resolved run reason number at row) (resolved-later run reason number at row) (λ ended. resolved-still run reason number at row (past ended) ended) is

expired-still : (number at : ℕ) (row : Row) → is_resolved row ≡ true → was_resolved (expired number at row) ≡ true
expired-still number at row is =
    let none : loses_claim at row ≡ false = ap (λ (o : Option ℕ). option_map_or (λ due. nat_le due at) o false) (resolved-claim row is) in
    rw none (resolved-was row is)

pub serves-expired : (needs : Requires) (number at : ℕ) (row : Row) → serves needs row ≡ true → serves needs (expired number at row) ≡ true
serves-expired needs number at row is = serves-stays needs row (expired number at row) (expired-later number at row) (expired-still number at row) is

finished-still : (reason : ReasonResolved) (at : ℕ) (row : Row) → is_resolved row ≡ true → was_resolved (finished reason at row) ≡ true
finished-still reason at row is = rw is (resolved-was row is)

pub serves-exceeded : (needs : Requires) (at : ℕ) (row : Row) → serves needs row ≡ true → serves needs (exceeded at row) ≡ true
serves-exceeded needs at row is = serves-stays needs row (exceeded at row) (exceeded-later at row) (finished-still DeadlineExceeded at row) is

pub serves-canceled : (needs : Requires) (at : ℕ) (row : Row) → serves needs row ≡ true → serves needs (canceled at row) ≡ true
serves-canceled needs at row is = serves-stays needs row (canceled at row) (canceled-later at row) (finished-still Canceled at row) is

again-still : (number at : ℕ) (row : Row) → is_resolved row ≡ true → was_resolved (run_again number at row) ≡ true
again-still number at row is = by (may_rerun at row) refl where
  more : list_any is_rerun (row.runs ++ pending_run Rerun number at ∷ []) ≡ true
  more = list_any-append is_rerun row.runs (pending_run Rerun number at ∷ []) ∙ or-true (list_any is_rerun row.runs)

  by : (b : Bool) → may_rerun at row ≡ b → was_resolved (run_again number at row) ≡ true
  by false may = rw may (resolved-was row is)
  by true may = rw (may, more) (or-true (has_ended (last_or None (row.runs ++ pending_run Rerun number at ∷ []))))

pub serves-again : (needs : Requires) (number at : ℕ) (row : Row) → serves needs row ≡ true → serves needs (run_again number at row) ≡ true
serves-again needs number at row is = serves-stays needs row (run_again number at row) (again-later number at row) (again-still number at row) is

-- ---- a schedule

pub serves-scheduled : (needs : Requires) (number at : ℕ) (row : Row) → serves needs (scheduled number at row) ≡ serves needs row
serves-scheduled needs number at row = by needs row.runs refl where
  same : (run : Run) (runs : List Run) → row.runs ≡ run ∷ runs → scheduled number at row ≡ row
  same run runs is = ap (λ (rs : List Run). let r : Row = record row { runs = first_run number at rs } in r) is ∙ sym (ap (λ (rs : List Run). let r : Row = record row { runs = rs } in r) is)

  by : (needs : Requires) (runs : List Run) → row.runs ≡ runs → serves needs (scheduled number at row) ≡ serves needs row
  by AllCompleted [] is = rw is refl
  by AllResolved [] is = rw is refl
  by needs (run ∷ runs) is = ap (serves needs) (same run runs is)

pub unscheduled-serves : (needs : Requires) (row : Row) → is_unscheduled row ≡ true → serves needs row ≡ false
unscheduled-serves needs row is = by needs row.runs refl where
  some-last : (run : Run) (runs : List Run) → is_none (last_or (Some run) runs) ≡ false
  some-last run [] = refl
  some-last run (next ∷ runs) = some-last next runs

  by : (needs : Requires) (runs : List Run) → row.runs ≡ runs → serves needs row ≡ false
  by AllCompleted [] none = rw none refl
  by AllResolved [] none = rw none refl
  by needs (run ∷ runs) some_ =
      let no_ : false ≡ true = sym (some-last run runs) ∙ (sym (ap (λ (rs : List Run). is_none (last_or None rs)) some_) ∙ is) in absurd (cc)
