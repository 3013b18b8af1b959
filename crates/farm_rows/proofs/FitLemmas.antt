-- How many runs a task has: with the retries that are left they are 50 at most, and each number that is drawn is of a run.
use Rattle.std.proofs.Common.{◌≡◌, ℕ, zero, suc, ◌+◌, ◌-◌, ◌*◌, ◌≤◌, ◌<◌, min, Bool, true, false, ◌&&◌, cond, List, [], ◌∷◌, ◌++◌, length, find, Option, Some, None, is_some, refl, ap, sym, ◌∙◌, arith, nat_le, nat_lt}
use Rattle.std.specs.List.{list_all}
use Rattle.std.proofs.lemmas.Bool.{leb-true, le-leb, ltb-true, ltb-false, and_parts, and_from}
use Rattle.std.proofs.lemmas.List.Sums.{sum_by-cons}
use Rattle.std.proofs.Math.ListN.{length-append}
use Rattle.run_states.specs.declared.reasons.ReasonCreated.{ReasonCreated}
use Rattle.run_states.specs.declared.reasons.ReasonResolved.{ReasonResolved}
use Rattle.run_states.specs.declared.reasons.ReasonCreated.TheVariants.{Rerun}
use Rattle.run_states.specs.declared.reasons.ReasonResolved.TheVariants.{ClaimExpired, Canceled}
use Rattle.run_states.specs.declared.run.Claim.{Claim}
use Rattle.run_states.specs.declared.run.Run.{Run}
use Rattle.run_states.specs.Reasons.{retry_after}
use Rattle.run_states.specs.Runs.{ended, kept, taken, pending_run, change_last, change_at}
use Rattle.run_states.specs.Rows.{Row, is_resolved, is_pending, is_running_at, loses_claim, runs_finished, finished}
use Rattle.run_states.specs.Moves.{retried, closed, expired, may_rerun, run_again, claimed, reclaimed, resolved, canceled}
use Rattle.task_index.specs.Due.{change_first, draws}
use Rattle.task_index.specs.Sweep.{runs_made, fits}

-- ---- lists of which one is changed

length-last : {A : Type 0} (f : A → A) (xs : List A) → length (change_last f xs) ≡ length xs
length-last f [] = refl
length-last f (x ∷ []) = refl
length-last f (x ∷ y ∷ ys) = let e = length-last f (y ∷ ys) in omega arith

pub length-at : {A : Type 0} (f : A → A) (place : ℕ) (xs : List A) → length (change_at place f xs) ≡ length xs
length-at f place [] = refl
length-at f zero (x ∷ xs) = refl
length-at f (suc place) (x ∷ xs) = let e = length-at f place xs in omega arith

-- ---- one task

-- what fits, as numbers
pub record Fit (row : Row) : Type 0 where
  pub runs : length row.runs + row.retries_left ≤ 50
  pub retries : row.retries_left ≤ 49

pub fit-of : (row : Row) → fits row ≡ true → Fit row
fit-of row is =
    let parts = and_parts (nat_le (length row.runs + row.retries_left) 50) (nat_le row.retries_left 49) is in
    record { runs = leb-true (length row.runs + row.retries_left) 50 parts.0; retries = leb-true row.retries_left 49 parts.1 }

pub fits-of : (row : Row) → length row.runs + row.retries_left ≤ 50 → row.retries_left ≤ 49 → fits row ≡ true
fits-of row runs retries = rw (le-leb (length row.runs + row.retries_left) 50 runs, le-leb row.retries_left 49 retries) refl

-- a task that ends without a worker has one run at least, and no fewer than before
finished-length : (reason : ReasonResolved) (at : ℕ) (runs : List Run) → (length runs ≤ length (runs_finished reason at runs)) × (length (runs_finished reason at runs) ≤ length runs + 1) × (0 < length runs → length (runs_finished reason at runs) ≡ length runs)
finished-length reason at [] = (omega arith, omega arith, λ some_. absurd (omega arith))
finished-length reason at (run ∷ runs) = let e = length-last (ended reason at) (run ∷ runs) in (omega arith, omega arith, λ some_. e)

pub finished-fits : (reason : ReasonResolved) (at : ℕ) (row : Row) → fits row ≡ true → fits (finished reason at row) ≡ true
finished-fits reason at row fit = by (is_resolved row) refl where
  one : (runs : List Run) → length runs + row.retries_left ≤ 50 → row.retries_left ≤ 49 → length (runs_finished reason at runs) + row.retries_left ≤ 50
  one [] few retries = omega arith
  one (run ∷ runs) few retries = let e = length-last (ended reason at) (run ∷ runs) in omega arith

  by : (b : Bool) → is_resolved row ≡ b → fits (finished reason at row) ≡ true
  by true is = ap (λ b. fits (cond b row (record row { runs = runs_finished reason at row.runs }))) is ∙ fit
  by false is =
      let f = fit-of row fit in
      ap (λ b. fits (cond b row (record row { runs = runs_finished reason at row.runs }))) is
      ∙ fits-of (record row { runs = runs_finished reason at row.runs }) (one row.runs f.runs f.retries) f.retries

pub finished-more : (reason : ReasonResolved) (at : ℕ) (row : Row) → length row.runs ≤ length (finished reason at row).runs
finished-more reason at row = by (is_resolved row) refl where
  by : (b : Bool) → is_resolved row ≡ b → length row.runs ≤ length (finished reason at row).runs
  by true is = let e : length (finished reason at row).runs ≡ length row.runs = ap (λ b. let r : Row = cond b row (record row { runs = runs_finished reason at row.runs }) in length r.runs) is in omega arith
  by false is =
      let e : length (finished reason at row).runs ≡ length (runs_finished reason at row.runs) = ap (λ b. let r : Row = cond b row (record row { runs = runs_finished reason at row.runs }) in length r.runs) is in
      let l = (finished-length reason at row.runs).0 in omega arith

-- what a retry leaves: one run more, and one retry fewer, where one is left
record Retried (created : ReasonCreated) (number at : ℕ) (row : Row) : Type 0 where
  fit : fits row ≡ true → fits (retried created number at row) ≡ true
  more : length (retried created number at row).runs ≡ length row.runs + cond (nat_lt 0 row.retries_left) 1 0

retried-is : (created : ReasonCreated) (number at : ℕ) (row : Row) → Retried created number at row
retried-is created number at row = by (nat_lt 0 row.retries_left) refl where
  by : (b : Bool) → nat_lt 0 row.retries_left ≡ b → Retried created number at row
  by false is = record { fit = λ fit. rw is fit; more = rw is (omega arith) }
  by true is =
      let some_ : 0 < row.retries_left = ltb-true 0 row.retries_left is in
      let l : length (row.runs ++ pending_run created number at ∷ []) ≡ length row.runs + 1 = length-append row.runs (pending_run created number at ∷ []) in
      record {
        fit = λ fit. let f = fit-of row fit in let fr = f.runs in let ft = f.retries in rw is (fits-of (record row { retries_left = row.retries_left - 1; runs = row.runs ++ pending_run created number at ∷ [] }) (omega arith) (omega arith));
        more = rw is l;
      }

-- the same behind the end of a run
abbrev pub draws_one : Option ReasonCreated → ℕ → ℕ
draws_one created retries = cond (is_some created && nat_lt 0 retries) 1 0

pub record Closed (reason : ReasonResolved) (place number at : ℕ) (row : Row) : Type 0 where
  pub fit : fits row ≡ true → fits (closed place reason number at row) ≡ true
  pub more : length (closed place reason number at row).runs ≡ length row.runs + draws reason (Some row)

pub closed-is : (reason : ReasonResolved) (place number at : ℕ) (row : Row) → Closed reason place number at row
closed-is reason place number at row = by (retry_after reason) refl where
  same : fits row ≡ true → fits (record row { runs = change_at place (ended reason at) row.runs }) ≡ true
  same fit = ap (λ n. nat_le (n + row.retries_left) 50 && nat_le row.retries_left 49) (length-at (ended reason at) place row.runs) ∙ fit

  by : (created : Option ReasonCreated) → retry_after reason ≡ created → Closed reason place number at row
  by None is = record {
    fit = λ fit. rw is (same fit);
    more = rw is (let e = length-at (ended reason at) place row.runs in omega arith);
  }
  by (Some created) is =
      let r = retried-is created number at (record row { runs = change_at place (ended reason at) row.runs }) in
      let m = r.more in
      let e = length-at (ended reason at) place row.runs in
      record {
        fit = λ fit. rw is (r.fit (same fit));
        more = rw is (m ∙ ap (λ n. n + cond (nat_lt 0 row.retries_left) 1 0) e);
      }

pub expired-is : (number at : ℕ) (row : Row) → loses_claim at row ≡ true → Closed ClaimExpired (length row.runs - 1) number at row
expired-is number at row is = closed-is ClaimExpired (length row.runs - 1) number at row

pub expired-fits : (number at : ℕ) (row : Row) → fits row ≡ true → fits (expired number at row) ≡ true
expired-fits number at row fit = by (loses_claim at row) refl where
  by : (b : Bool) → loses_claim at row ≡ b → fits (expired number at row) ≡ true
  by true is = ap (λ b. fits (cond b (closed (length row.runs - 1) ClaimExpired number at row) row)) is ∙ (closed-is ClaimExpired (length row.runs - 1) number at row).fit fit
  by false is = ap (λ b. fits (cond b (closed (length row.runs - 1) ClaimExpired number at row) row)) is ∙ fit

-- ---- all tasks

pub change-fits : (test : Row → Bool) (f : Row → Row) → ((row : Row) → fits row ≡ true → fits (f row) ≡ true) → (rows : List Row) → list_all fits rows ≡ true → list_all fits (change_first test f rows) ≡ true
change-fits test f keeps [] all = refl
change-fits test f keeps (row ∷ rows) all = by (change-fits test f keeps rows) (test row) refl where
  parts : (fits row ≡ true) × (list_all fits rows ≡ true)
  parts = and_parts (fits row) (list_all fits rows) all

  by : (list_all fits rows ≡ true → list_all fits (change_first test f rows) ≡ true) → (b : Bool) → test row ≡ b → list_all fits (change_first test f (row ∷ rows)) ≡ true
  by rest true is = ap (λ b. list_all fits (cond b (f row ∷ rows) (row ∷ change_first test f rows))) is ∙ and_from (fits (f row)) (list_all fits rows) (keeps row parts.0) parts.1
  by rest false is = ap (λ b. list_all fits (cond b (f row ∷ rows) (row ∷ change_first test f rows))) is ∙ and_from (fits row) (list_all fits (change_first test f rows)) parts.0 (rest parts.1)

-- the first that passes a test has so many runs more, where it draws as many numbers
pub change-made : (test : Row → Bool) (f : Row → Row) (drawn : Option Row → ℕ) → drawn None ≡ 0 → ((row : Row) → test row ≡ true → length row.runs + drawn (Some row) ≤ length (f row).runs) → (rows : List Row)
    → runs_made rows + drawn (find test rows) ≤ runs_made (change_first test f rows)
change-made test f drawn none more [] = omega arith
change-made test f drawn none more (row ∷ rows) = by (change-made test f drawn none more rows) (test row) refl where
  by : runs_made rows + drawn (find test rows) ≤ runs_made (change_first test f rows) → (b : Bool) → test row ≡ b → runs_made (row ∷ rows) + drawn (find test (row ∷ rows)) ≤ runs_made (change_first test f (row ∷ rows))
  by rest true is =
      let here = more row is in
      let before = sum_by-cons (λ (r : Row). length r.runs) row rows in
      let found : drawn (find test (row ∷ rows)) ≡ drawn (Some row) = ap (λ b. drawn (cond b (Some row) (find test rows))) is in
      let after : runs_made (change_first test f (row ∷ rows)) ≡ length (f row).runs + runs_made rows = ap (λ b. runs_made (cond b (f row ∷ rows) (row ∷ change_first test f rows))) is ∙ sum_by-cons (λ (r : Row). length r.runs) (f row) rows in
      omega arith
  by rest false is =
      let before = sum_by-cons (λ (r : Row). length r.runs) row rows in
      let found : drawn (find test (row ∷ rows)) ≡ drawn (find test rows) = ap (λ b. drawn (cond b (Some row) (find test rows))) is in
      let after : runs_made (change_first test f (row ∷ rows)) ≡ length row.runs + runs_made (change_first test f rows) = ap (λ b. runs_made (cond b (f row ∷ rows) (row ∷ change_first test f rows))) is ∙ sum_by-cons (λ (r : Row). length r.runs) row (change_first test f rows) in
      omega arith

-- there are 50 runs a task at most
pub made-few : (rows : List Row) → list_all fits rows ≡ true → runs_made rows ≤ 50 * length rows
made-few [] all = omega arith
made-few (row ∷ rows) all =
    let parts = and_parts (fits row) (list_all fits rows) all in
    let f = fit-of row parts.0 in
    let fr = f.runs in
    let rest = made-few rows parts.1 in
    let sum = sum_by-cons (λ (r : Row). length r.runs) row rows in
    omega arith

-- a run that ends draws one number at most
pub draws-few : (reason : ReasonResolved) (o : Option Row) → draws reason o ≤ 1
draws-few reason None = omega arith
draws-few reason (Some row) = by (is_some (retry_after reason) && nat_lt 0 row.retries_left) refl where
  by : (b : Bool) → (is_some (retry_after reason) && nat_lt 0 row.retries_left) ≡ b → draws reason (Some row) ≤ 1
  by true is = let e : draws reason (Some row) ≡ 1 = ap (λ b. cond b 1 0) is in omega arith
  by false is = let e : draws reason (Some row) ≡ 0 = ap (λ b. cond b 1 0) is in omega arith

-- the number of retries, one at most
pub min-one : (n : ℕ) → min n 1 ≡ cond (nat_lt 0 n) 1 0
min-one n = by (nat_lt 0 n) refl where
  by : (b : Bool) → nat_lt 0 n ≡ b → min n 1 ≡ cond (nat_lt 0 n) 1 0
  by true is = let h : 0 < n = ltb-true 0 n is in let e : min n 1 ≡ 1 = omega arith in e ∙ sym (ap (λ b. cond b 1 0) is)
  by false is = let h : n ≤ 0 = ltb-false 0 n is in let e : min n 1 ≡ 0 = omega arith in e ∙ sym (ap (λ b. cond b 1 0) is)

-- ---- what is asked of one task

pub again-fits : (number at : ℕ) (row : Row) → fits row ≡ true → fits (run_again number at row) ≡ true
again-fits number at row fit = by (may_rerun at row) refl where
  again : Row
  again = record row { retries_left = min row.definition.retries (50 - (length row.runs + 1)); runs = row.runs ++ pending_run Rerun number at ∷ [] }

  by : (b : Bool) → may_rerun at row ≡ b → fits (run_again number at row) ≡ true
  by false is = ap (λ b. fits (cond b again row)) is ∙ fit
  by true is =
      let parts = and_parts (is_resolved row) (nat_lt at row.definition.deadline && nat_lt (length row.runs) 50) is in
      let less : length row.runs < 50 = ltb-true (length row.runs) 50 (and_parts (nat_lt at row.definition.deadline) (nat_lt (length row.runs) 50) parts.1).1 in
      let l : length (row.runs ++ pending_run Rerun number at ∷ []) ≡ length row.runs + 1 = length-append row.runs (pending_run Rerun number at ∷ []) in
      ap (λ b. fits (cond b again row)) is
      ∙ fits-of (record row { retries_left = min row.definition.retries (50 - (length row.runs + 1)); runs = row.runs ++ pending_run Rerun number at ∷ [] }) (omega arith) (omega arith)

pub again-more : (number at : ℕ) (row : Row) → may_rerun at row ≡ true → length (run_again number at row).runs ≡ length row.runs + 1
again-more number at row is =
    ap (λ b. let r : Row = cond b (record row { retries_left = min row.definition.retries (50 - (length row.runs + 1)); runs = row.runs ++ pending_run Rerun number at ∷ [] }) row in length r.runs) is
    ∙ length-append row.runs (pending_run Rerun number at ∷ [])

pub claimed-fits : (claim : Claim) (row : Row) → fits row ≡ true → fits (claimed claim row) ≡ true
claimed-fits claim row fit = by (is_pending row) refl where
  by : (b : Bool) → is_pending row ≡ b → fits (claimed claim row) ≡ true
  by false is = ap (λ b. fits (cond b (record row { runs = change_last (taken claim) row.runs }) row)) is ∙ fit
  by true is =
      ap (λ b. fits (cond b (record row { runs = change_last (taken claim) row.runs }) row)) is
      ∙ (ap (λ n. nat_le (n + row.retries_left) 50 && nat_le row.retries_left 49) (length-last (taken claim) row.runs) ∙ fit)

pub claimed-more : (claim : Claim) (row : Row) → length row.runs + 0 ≤ length (claimed claim row).runs
claimed-more claim row = by (is_pending row) refl where
  by : (b : Bool) → is_pending row ≡ b → length row.runs + 0 ≤ length (claimed claim row).runs
  by false is = let e = ap (λ b. let r : Row = cond b (record row { runs = change_last (taken claim) row.runs }) row in length r.runs) is in omega arith
  by true is =
      let e = ap (λ b. let r : Row = cond b (record row { runs = change_last (taken claim) row.runs }) row in length r.runs) is in
      let l = length-last (taken claim) row.runs in omega arith

pub reclaimed-fits : (run moment : ℕ) (row : Row) → fits row ≡ true → fits (reclaimed run moment row) ≡ true
reclaimed-fits run moment row fit = by (is_running_at run row) refl where
  by : (b : Bool) → is_running_at run row ≡ b → fits (reclaimed run moment row) ≡ true
  by false is = ap (λ b. fits (cond b (record row { runs = change_at run (kept moment) row.runs }) row)) is ∙ fit
  by true is =
      ap (λ b. fits (cond b (record row { runs = change_at run (kept moment) row.runs }) row)) is
      ∙ (ap (λ n. nat_le (n + row.retries_left) 50 && nat_le row.retries_left 49) (length-at (kept moment) run row.runs) ∙ fit)

pub reclaimed-more : (run moment : ℕ) (row : Row) → length row.runs + 0 ≤ length (reclaimed run moment row).runs
reclaimed-more run moment row = by (is_running_at run row) refl where
  by : (b : Bool) → is_running_at run row ≡ b → length row.runs + 0 ≤ length (reclaimed run moment row).runs
  by false is = let e = ap (λ b. let r : Row = cond b (record row { runs = change_at run (kept moment) row.runs }) row in length r.runs) is in omega arith
  by true is =
      let e = ap (λ b. let r : Row = cond b (record row { runs = change_at run (kept moment) row.runs }) row in length r.runs) is in
      let l = length-at (kept moment) run row.runs in omega arith

pub resolved-fits : (run : ℕ) (reason : ReasonResolved) (number at : ℕ) (row : Row) → fits row ≡ true → fits (resolved run reason number at row) ≡ true
resolved-fits run reason number at row fit = by (is_running_at run row) refl where
  by : (b : Bool) → is_running_at run row ≡ b → fits (resolved run reason number at row) ≡ true
  by false is = ap (λ b. fits (cond b (closed run reason number at row) row)) is ∙ fit
  by true is = ap (λ b. fits (cond b (closed run reason number at row) row)) is ∙ (closed-is reason run number at row).fit fit

pub resolved-more : (run : ℕ) (reason : ReasonResolved) (number at : ℕ) (row : Row) → is_running_at run row ≡ true → length (resolved run reason number at row).runs ≡ length row.runs + draws reason (Some row)
resolved-more run reason number at row is =
    ap (λ b. let r : Row = cond b (closed run reason number at row) row in length r.runs) is ∙ (closed-is reason run number at row).more

pub canceled-more : (at : ℕ) (row : Row) → length row.runs + 0 ≤ length (canceled at row).runs
canceled-more at row = let h = finished-more Canceled at row in omega arith

-- the first that passes a test has so many runs more
pub found-made : (test : Row → Bool) (f : Row → Row) (rows : List Row) (row : Row) (drawn : ℕ) → find test rows ≡ Some row → length (f row).runs ≡ length row.runs + drawn → runs_made rows + drawn ≤ runs_made (change_first test f rows)
found-made test f [] row drawn is more = cc
found-made test f (first ∷ rows) row drawn is more = by (found-made test f rows row drawn) (test first) refl where
  by : (find test rows ≡ Some row → length (f row).runs ≡ length row.runs + drawn → runs_made rows + drawn ≤ runs_made (change_first test f rows)) → (b : Bool) → test first ≡ b
      → runs_made (first ∷ rows) + drawn ≤ runs_made (change_first test f (first ∷ rows))
  by rest true here =
      let same : Some first ≡ Some row = sym (ap (λ b. cond b (Some first) (find test rows)) here) ∙ is in
      let e : first ≡ row = cc in
      let l : length (f first).runs ≡ length first.runs + drawn = rw e more in
      let before = sum_by-cons (λ (r : Row). length r.runs) first rows in
      let after : runs_made (change_first test f (first ∷ rows)) ≡ length (f first).runs + runs_made rows = ap (λ b. runs_made (cond b (f first ∷ rows) (first ∷ change_first test f rows))) here ∙ sum_by-cons (λ (r : Row). length r.runs) (f first) rows in
      omega arith
  by rest false here =
      let found : find test rows ≡ Some row = sym (ap (λ b. cond b (Some first) (find test rows)) here) ∙ is in
      let more_ = rest found more in
      let before = sum_by-cons (λ (r : Row). length r.runs) first rows in
      let after : runs_made (change_first test f (first ∷ rows)) ≡ length first.runs + runs_made (change_first test f rows) = ap (λ b. runs_made (cond b (f first ∷ rows) (first ∷ change_first test f rows))) here ∙ sum_by-cons (λ (r : Row). length r.runs) first (change_first test f rows) in
      omega arith
