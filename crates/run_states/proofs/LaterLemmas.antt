-- What happens to a task leaves its runs as they were made, and once they have an outcome unchanged.
use Rattle.std.proofs.Common.{◌≡◌, ℕ, zero, suc, ◌-◌, Bool, true, false, List, [], ◌∷◌, ◌++◌, length, Option, Some, None, is_some, is_none, option_map, refl, sym, ◌∙◌, ap, slice_get, nat_lt, nat_le, ◌&&◌, option_and_then}
use Rattle.std.specs.List.{last_or}
use Rattle.std.specs.Option.{option_map_or}
use Rattle.run_states.specs.declared.reasons.ReasonCreated.{ReasonCreated}
use Rattle.run_states.specs.declared.reasons.ReasonCreated.TheVariants.{Rerun}
use Rattle.run_states.specs.declared.reasons.ReasonResolved.{ReasonResolved}
use Rattle.run_states.specs.declared.reasons.ReasonResolved.TheVariants.{DeadlineExceeded, Canceled, ClaimExpired}
use Rattle.run_states.specs.declared.run.Claim.{Claim}
use Rattle.run_states.specs.declared.run.Outcome.{Outcome}
use Rattle.run_states.specs.declared.run.Run.{Run}
use Rattle.run_states.specs.Reasons.{retry_after}
use Rattle.run_states.specs.Runs.{is_pending_run, is_running_run, run_due, taken, until, kept, ended, change_last, change_at, pending_run}
use Rattle.run_states.specs.Rows.{Row, has_ended, is_resolved, is_pending, is_running_at, loses_claim, first_run, scheduled, runs_finished, finished, exceeded}
use Rattle.run_states.specs.Moves.{claimed, reclaimed, retried, followed, closed, resolved, expired, canceled, may_rerun, run_again}
use Rattle.run_states.specs.Later.{RunLater, RunsLater, RowLater, RowsLater}
use Rattle.run_states.proofs.RunLemmas.{get-last}

-- ---- later is later

pub RunLater-refl : (run : Run) → RunLater run run
RunLater-refl run = record {
  created = refl;
  number = refl;
  scheduled = refl;
  claim = λ c is. (c.taken_until, is);
  outcome = λ o is. is;
  ended_claim = λ o is. refl;
}

pub RunLater-trans : (a b c : Run) → RunLater a b → RunLater b c → RunLater a c
RunLater-trans a b c p q = record {
  created = q.created ∙ p.created;
  number = q.number ∙ p.number;
  scheduled = q.scheduled ∙ p.scheduled;
  claim = λ k is. q.claim (until (p.claim k is).0 k) (p.claim k is).1;
  outcome = λ o is. q.outcome o (p.outcome o is);
  ended_claim = λ o is. q.ended_claim o (p.outcome o is) ∙ p.ended_claim o is;
}

pub RunsLater-refl : (runs : List Run) → RunsLater runs runs
RunsLater-refl [] = tt
RunsLater-refl (run ∷ runs) = (RunLater-refl run, RunsLater-refl runs)

pub RunsLater-trans : (xs ys zs : List Run) → RunsLater xs ys → RunsLater ys zs → RunsLater xs zs
RunsLater-trans [] ys zs p q = tt
RunsLater-trans (a ∷ xs) [] zs p q = absurd p
RunsLater-trans (a ∷ xs) (b ∷ ys) [] p q = absurd q
RunsLater-trans (a ∷ xs) (b ∷ ys) (c ∷ zs) p q = (RunLater-trans a b c p.0 q.0, RunsLater-trans xs ys zs p.1 q.1)

pub RowLater-refl : (row : Row) → RowLater row row
RowLater-refl row = record { id = refl; definition = refl; runs = RunsLater-refl row.runs }

pub RowLater-trans : (a b c : Row) → RowLater a b → RowLater b c → RowLater a c
RowLater-trans a b c p q = record {
  id = q.id ∙ p.id;
  definition = q.definition ∙ p.definition;
  runs = RunsLater-trans a.runs b.runs c.runs p.runs q.runs;
}

pub RowsLater-refl : (rows : List Row) → RowsLater rows rows
RowsLater-refl [] = tt
RowsLater-refl (row ∷ rows) = (RowLater-refl row, RowsLater-refl rows)

pub RowsLater-trans : (xs ys zs : List Row) → RowsLater xs ys → RowsLater ys zs → RowsLater xs zs
RowsLater-trans [] ys zs p q = tt
RowsLater-trans (a ∷ xs) [] zs p q = absurd p
RowsLater-trans (a ∷ xs) (b ∷ ys) [] p q = absurd q
RowsLater-trans (a ∷ xs) (b ∷ ys) (c ∷ zs) p q = (RowLater-trans a b c p.0 q.0, RowsLater-trans xs ys zs p.1 q.1)

-- ---- what happens to one run

-- a run that has not ended may end
ended-later : (reason : ReasonResolved) (at : ℕ) (run : Run) → is_some run.outcome ≡ false → RunLater run (ended reason at run)
ended-later reason at run open_ = record {
  created = refl;
  number = refl;
  scheduled = refl;
  claim = λ c is. (c.taken_until, is);
  outcome = λ o is. let no_ : true ≡ false = sym (ap is_some is) ∙ open_ in cc;
  ended_claim = λ o is. refl;
}

-- a run without a claim that has not ended may be taken
taken-later : (claim : Claim) (run : Run) → is_pending_run run ≡ true → RunLater run (taken claim run)
taken-later claim run is = by run.claim run.outcome refl refl is where
  by : (k : Option Claim) (o : Option Outcome) → run.claim ≡ k → run.outcome ≡ o → (is_none k && is_none o) ≡ true → RunLater run (taken claim run)
  by None None none open_ is = record {
    created = refl;
    number = refl;
    scheduled = refl;
    claim = λ c some_. cc;
    outcome = λ o some_. some_;
    ended_claim = λ o some_. cc;
  }
  by None (Some o) none open_ is = cc
  by (Some k) o none open_ is = cc

-- the claim of a run that has not ended may end later or earlier
kept-later : (moment : ℕ) (run : Run) → is_running_run run ≡ true → RunLater run (kept moment run)
kept-later moment run is = by run.claim run.outcome refl refl is where
  by : (k : Option Claim) (o : Option Outcome) → run.claim ≡ k → run.outcome ≡ o → (is_some k && is_none o) ≡ true → RunLater run (kept moment run)
  by (Some k) None some_ open_ is = record {
    created = refl;
    number = refl;
    scheduled = refl;
    claim = λ c has. (moment, ap (option_map (until moment)) has);
    outcome = λ o has. has;
    ended_claim = λ o has. cc;
  }
  by (Some k) (Some o) some_ open_ is = cc
  by None o some_ open_ is = cc

-- ---- what happens to the runs of a task

last-later : (f : Run → Run) (runs : List Run) → ((run : Run) → last_or None runs ≡ Some run → RunLater run (f run)) → RunsLater runs (change_last f runs)
last-later f [] later = tt
last-later f (run ∷ []) later = (later run refl, tt)
last-later f (run ∷ next ∷ runs) later = (RunLater-refl run, last-later f (next ∷ runs) later)

at-later : (f : Run → Run) (place : ℕ) (runs : List Run) → ((run : Run) → slice_get runs place ≡ Some run → RunLater run (f run)) → RunsLater runs (change_at place f runs)
at-later f place [] later = tt
at-later f zero (run ∷ runs) later = (later run refl, RunsLater-refl runs)
at-later f (suc place) (run ∷ runs) later = (RunLater-refl run, at-later f place runs later)

more-later : (runs : List Run) (run : Run) → RunsLater runs (runs ++ run ∷ [])
more-later [] run = tt
more-later (first ∷ runs) run = (RunLater-refl first, more-later runs run)

-- a test of a run that is there
found : (test : Run → Bool) (o : Option Run) (run : Run) → option_map_or test o false ≡ true → o ≡ Some run → test run ≡ true
found test o run holds is = sym (ap (λ (p : Option Run). option_map_or test p false) is) ∙ holds

-- a run that is running has not ended
running-open : (run : Run) → is_running_run run ≡ true → is_some run.outcome ≡ false
running-open run is = by run.claim run.outcome is where
  by : (k : Option Claim) (o : Option Outcome) → (is_some k && is_none o) ≡ true → is_some o ≡ false
  by (Some k) None is = refl
  by (Some k) (Some o) is = cc
  by None o is = cc

-- ---- what happens to one task

finished-later : (reason : ReasonResolved) (at : ℕ) (row : Row) → RowLater row (finished reason at row)
finished-later reason at row = by (is_resolved row) refl where
  of_runs : (runs : List Run) → has_ended (last_or None runs) ≡ false → RunsLater runs (runs_finished reason at runs)
  of_runs [] open_ = tt
  of_runs (run ∷ runs) open_ = last-later (ended reason at) (run ∷ runs) (λ last is. ended-later reason at last (sym (ap has_ended is) ∙ open_))

  by : (b : Bool) → is_resolved row ≡ b → RowLater row (finished reason at row)
  by true is = rw is (RowLater-refl row)
  by false is = rw is (record { id = refl; definition = refl; runs = of_runs row.runs is })

pub exceeded-later : (at : ℕ) (row : Row) → RowLater row (exceeded at row)
exceeded-later at row = finished-later DeadlineExceeded at row

pub canceled-later : (at : ℕ) (row : Row) → RowLater row (canceled at row)
canceled-later at row = finished-later Canceled at row

first-later : (number at : ℕ) (runs : List Run) → RunsLater runs (first_run number at runs)
first-later number at [] = tt
first-later number at (run ∷ runs) = RunsLater-refl (run ∷ runs)

pub scheduled-later : (number at : ℕ) (row : Row) → RowLater row (scheduled number at row)
scheduled-later number at row = record { id = refl; definition = refl; runs = first-later number at row.runs }

pub claimed-later : (claim : Claim) (row : Row) → RowLater row (claimed claim row)
claimed-later claim row = by (is_pending row) refl where
  by : (b : Bool) → is_pending row ≡ b → RowLater row (claimed claim row)
  by false is = rw is (RowLater-refl row)
  by true is = rw is (record {
    id = refl;
    definition = refl;
    runs = last-later (taken claim) row.runs (λ run last. taken-later claim run (found is_pending_run (last_or None row.runs) run is last));
  })

pub reclaimed-later : (number moment : ℕ) (row : Row) → RowLater row (reclaimed number moment row)
reclaimed-later number moment row = by (is_running_at number row) refl where
  by : (b : Bool) → is_running_at number row ≡ b → RowLater row (reclaimed number moment row)
  by false is = rw is (RowLater-refl row)
  by true is = rw is (record {
    id = refl;
    definition = refl;
    runs = at-later (kept moment) number row.runs (λ run there. kept-later moment run (found is_running_run (slice_get row.runs number) run is there));
  })

retried-later : (created : ReasonCreated) (number at : ℕ) (row : Row) → RowLater row (retried created number at row)
retried-later created number at row = by (nat_lt 0 row.retries_left) refl where
  by : (b : Bool) → nat_lt 0 row.retries_left ≡ b → RowLater row (retried created number at row)
  by false is = rw is (RowLater-refl row)
  by true is = rw is (record { id = refl; definition = refl; runs = more-later row.runs (pending_run created number at) })

followed-later : (created : Option ReasonCreated) (number at : ℕ) (row : Row) → RowLater row (followed created number at row)
followed-later None number at row = RowLater-refl row
followed-later (Some created) number at row = retried-later created number at row

closed-later : (place : ℕ) (reason : ReasonResolved) (number at : ℕ) (row : Row) → ((run : Run) → slice_get row.runs place ≡ Some run → is_some run.outcome ≡ false) → RowLater row (closed place reason number at row)
closed-later place reason number at row open_ =
    let now : Row = record row { runs = change_at place (ended reason at) row.runs } in
    let ends : RowLater row now =
    record { id = refl; definition = refl; runs = at-later (ended reason at) place row.runs (λ run there. ended-later reason at run (open_ run there)) } in
    RowLater-trans row now (closed place reason number at row) ends (followed-later (retry_after reason) number at now)

pub resolved-later : (run : ℕ) (reason : ReasonResolved) (number at : ℕ) (row : Row) → RowLater row (resolved run reason number at row)
resolved-later run reason number at row = by (is_running_at run row) refl where
  by : (b : Bool) → is_running_at run row ≡ b → RowLater row (resolved run reason number at row)
  by false is = rw is (RowLater-refl row)
  by true is = rw is (closed-later run reason number at row (λ r there. running-open r (found is_running_run (slice_get row.runs run) r is there)))

-- a run that falls due has not ended
due-open : (at : ℕ) (last : Option Run) (run : Run) → option_map_or (λ due. nat_le due at) (option_and_then run_due last) false ≡ true → last ≡ Some run → is_some run.outcome ≡ false
due-open at last run is there = by (is_running_run run) refl where
  by : (b : Bool) → is_running_run run ≡ b → is_some run.outcome ≡ false
  by true runs = running-open run runs
  by false runs =
      let none : run_due run ≡ None = rw runs refl in
      let known : option_map_or (λ due. nat_le due at) (option_and_then run_due (Some run)) false ≡ true =
      sym (ap (λ (o : Option Run). option_map_or (λ due. nat_le due at) (option_and_then run_due o) false) there) ∙ is in
      let no_ : false ≡ true = sym (ap (λ (o : Option ℕ). option_map_or (λ due. nat_le due at) o false) none) ∙ known in cc

pub expired-later : (number at : ℕ) (row : Row) → RowLater row (expired number at row)
expired-later number at row = by (loses_claim at row) refl where
  by : (b : Bool) → loses_claim at row ≡ b → RowLater row (expired number at row)
  by false is = rw is (RowLater-refl row)
  by true is = rw is (closed-later (length row.runs - 1) ClaimExpired number at row (λ run there. due-open at (last_or None row.runs) run is (sym (get-last row.runs) ∙ there)))

pub again-later : (number at : ℕ) (row : Row) → RowLater row (run_again number at row)
again-later number at row = by (may_rerun at row) refl where
  by : (b : Bool) → may_rerun at row ≡ b → RowLater row (run_again number at row)
  by false is = rw is (RowLater-refl row)
  by true is = rw is (record { id = refl; definition = refl; runs = more-later row.runs (pending_run Rerun number at) })

-- ---- a task that ends without a worker is resolved

ended-some : (reason : ReasonResolved) (at : ℕ) (before : Option Run) (run : Run) (runs : List Run) → has_ended (last_or before (change_last (ended reason at) (run ∷ runs))) ≡ true
ended-some reason at before run [] = refl
ended-some reason at before run (next ∷ runs) = ended-some reason at (Some run) next runs

runs-ended : (reason : ReasonResolved) (at : ℕ) (runs : List Run) → has_ended (last_or None (runs_finished reason at runs)) ≡ true
runs-ended reason at [] = refl
runs-ended reason at (run ∷ runs) = ended-some reason at None run runs

pub finished-resolved : (reason : ReasonResolved) (at : ℕ) (row : Row) → is_resolved (finished reason at row) ≡ true
finished-resolved reason at row = by (is_resolved row) refl where
  by : (b : Bool) → is_resolved row ≡ b → is_resolved (finished reason at row) ≡ true
  by true is = rw is is
  by false is = rw is (runs-ended reason at row.runs)

pub exceeded-resolved : (at : ℕ) (row : Row) → is_resolved (exceeded at row) ≡ true
exceeded-resolved at row = finished-resolved DeadlineExceeded at row
