-- Claims that fall due: only a task that is not resolved has one, and once it fell due there is none.
use Rattle.std.proofs.Common.{◌≡◌, ℕ, ◌-◌, Bool, true, false, List, [], ◌∷◌, ◌++◌, length, Option, Some, None, is_some, option_and_then, refl, ap, arith, nat_lt}
use Rattle.std.specs.Option.{option_to_list}
use Rattle.std.specs.List.{last_or}
use Rattle.std.specs.Prelude.{suc}
use Rattle.run_states.specs.declared.reasons.ReasonCreated.{ReasonCreated}
use Rattle.run_states.specs.declared.reasons.ReasonCreated.TheVariants.{Retry}
use Rattle.run_states.specs.declared.reasons.ReasonResolved.{ReasonResolved}
use Rattle.run_states.specs.declared.reasons.ReasonResolved.TheVariants.{ClaimExpired}
use Rattle.run_states.specs.declared.run.Claim.{Claim}
use Rattle.run_states.specs.declared.run.Outcome.{Outcome}
use Rattle.run_states.specs.declared.run.Run.{Run}
use Rattle.run_states.specs.Runs.{run_due, pending_run, ended, change_at}
use Rattle.run_states.specs.Rows.{Row, has_ended, is_resolved, claim_due, loses_claim, due_moments, exceeded}
use Rattle.run_states.specs.Moves.{retried, expired}
use Rattle.run_states.proofs.LaterLemmas.{exceeded-resolved}

-- a run that has an outcome does not fall due
ended-due : (run : Run) (o : Outcome) → run.outcome ≡ Some o → run_due run ≡ None
ended-due run o ended_ = by run.claim refl where
  by : (k : Option Claim) → run.claim ≡ k → run_due run ≡ None
  by None claim = rw claim refl
  by (Some k) claim = rw (claim, ended_) refl

due-open_run : (run : Run) (u : ℕ) → run_due run ≡ Some u → is_some run.outcome ≡ false
due-open_run run u is = by run.outcome refl where
  by : (o : Option Outcome) → run.outcome ≡ o → is_some run.outcome ≡ false
  by None outcome = rw outcome refl
  by (Some o) outcome = let none : run_due run ≡ None = ended-due run o outcome in cc

open-of : (last : Option Run) (u : ℕ) → option_and_then run_due last ≡ Some u → has_ended last ≡ false
open-of None u is = refl
open-of (Some run) u is = due-open_run run u is

-- a task whose claim is to fall due is not resolved
pub claim-open : (row : Row) (u : ℕ) → claim_due row ≡ Some u → is_resolved row ≡ false
claim-open row u is = open-of (last_or None row.runs) u is

-- a resolved task has no claim that falls due
pub resolved-claim : (row : Row) → is_resolved row ≡ true → claim_due row ≡ None
resolved-claim row is = by (claim_due row) refl where
  by : (o : Option ℕ) → claim_due row ≡ o → claim_due row ≡ None
  by None none = none
  by (Some u) some_ = let open_ : is_resolved row ≡ false = claim-open row u some_ in cc

-- nothing of a resolved task falls due
pub resolved-due : (row : Row) → is_resolved row ≡ true → due_moments row ≡ []
resolved-due row is = rw (is, resolved-claim row is) refl

pub exceeded-due : (at : ℕ) (row : Row) → due_moments (exceeded at row) ≡ []
exceeded-due at row = resolved-due (exceeded at row) (exceeded-resolved at row)

-- what falls due of a task that is not resolved
pub open-due : (row : Row) → is_resolved row ≡ false → due_moments row ≡ row.definition.deadline ∷ option_to_list (claim_due row)
open-due row is = rw is refl

-- ---- a claim that fell due

last-more : (before : Option Run) (runs : List Run) (run : Run) → last_or before (runs ++ run ∷ []) ≡ Some run
last-more before [] run = refl
last-more before (first ∷ runs) run = last-more (Some first) runs run

-- the last run ends
ended-last : (reason : ReasonResolved) (at : ℕ) (before : Option Run) (run : Run) (runs : List Run)
    → option_and_then run_due (last_or before (change_at (length (run ∷ runs) - 1) (ended reason at) (run ∷ runs))) ≡ None
ended-last reason at before run [] = ended-due (ended reason at run) (record { reason = reason; at = at }) refl
ended-last reason at before run (next ∷ runs) =
    let e : length (run ∷ next ∷ runs) - 1 ≡ suc (length (next ∷ runs) - 1) = omega arith in
    rw e (ended-last reason at (Some run) next runs)

ended-none : (reason : ReasonResolved) (at : ℕ) (runs : List Run) → option_and_then run_due (last_or None (change_at (length runs - 1) (ended reason at) runs)) ≡ None
ended-none reason at [] = refl
ended-none reason at (run ∷ runs) = ended-last reason at None run runs

retried-claim : (created : ReasonCreated) (number at : ℕ) (row : Row) → claim_due row ≡ None → claim_due (retried created number at row) ≡ None
retried-claim created number at row none = by (nat_lt 0 row.retries_left) refl where
  by : (b : Bool) → nat_lt 0 row.retries_left ≡ b → claim_due (retried created number at row) ≡ None
  by false is = rw is none
  by true is = rw is (ap (option_and_then run_due) (last-more None row.runs (pending_run created number at)))

-- a task whose claim fell due has none any more
pub expired-claim : (number at : ℕ) (row : Row) → loses_claim at row ≡ true → claim_due (expired number at row) ≡ None
expired-claim number at row is =
    rw is (retried-claim Retry number at (record row { runs = change_at (length row.runs - 1) (ended ClaimExpired at) row.runs }) (ended-none ClaimExpired at row.runs))
