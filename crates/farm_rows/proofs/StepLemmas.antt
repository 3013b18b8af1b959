-- A turn: what fits, and that each number that is drawn is of a new run.
use Rattle.std.proofs.Common.{◌≡◌, ℕ, ◌+◌, ◌-◌, ◌≤◌, Bool, true, false, cond, List, [], ◌∷◌, length, find, count_by, is_none, Some, None, refl, ap, sym, ◌∙◌, arith}
use Rattle.std.specs.List.{list_any, list_all, last_or}
use Rattle.std.proofs.lemmas.Bool.{and_parts, and_from}
use Rattle.std.proofs.lemmas.List.Sums.{sum_by-cons}
use Rattle.run_states.specs.declared.reasons.ReasonResolved.TheVariants.{ClaimExpired, DeadlineExceeded}
use Rattle.run_states.specs.declared.run.Run.{Run}
use Rattle.run_states.specs.Rows.{Row, is_unscheduled, loses_claim, exceeded, first_run, scheduled}
use Rattle.run_states.specs.Moves.{closed, expired}
use Rattle.task_index.specs.Contents.{Contents}
use Rattle.task_index.specs.Ready.{is_ready, started, settled}
use Rattle.task_index.proofs.Settling.{one_if}
use Rattle.task_index.specs.Due.{meets_deadline, change_first, draws, resolved_at}
use Rattle.task_index.specs.Sweep.{numbered, runs_made, fits}
use Rattle.task_index.proofs.DueLemmas.{any_none}
use Rattle.farm_rows.proofs.FitLemmas.{fits-of, fit-of, finished-fits, finished-more, expired-fits, closed-is, change-fits, change-made}
use Rattle.task_index.proofs.ReadyLemmas.{count-cons, ready-free, some-last}
use Rattle.task_index.proofs.TurnLemmas.{deadline-resolved, claim-resolved}

-- ---- a task that is scheduled

pub scheduled-fits : (number at : ℕ) (row : Row) → fits row ≡ true → fits (scheduled number at row) ≡ true
scheduled-fits number at row fit = by row.runs refl where
  by : (runs : List Run) → row.runs ≡ runs → fits (scheduled number at row) ≡ true
  by [] is =
      let f = fit-of row fit in
      let few = f.retries in
      let one : length (first_run number at row.runs) ≡ 1 = ap (λ (rs : List Run). length (first_run number at rs)) is in
      fits-of (scheduled number at row) (omega arith) few
  by (run ∷ runs) is =
      let f = fit-of row fit in
      let more = f.runs in
      let same : length (first_run number at row.runs) ≡ length row.runs = ap (λ (rs : List Run). length (first_run number at rs)) is ∙ sym (ap (λ (rs : List Run). length rs) is) in
      fits-of (scheduled number at row) (omega arith) f.retries

pub scheduled-more : (number at : ℕ) (row : Row) → is_unscheduled row ≡ true → length (scheduled number at row).runs ≡ length row.runs + 1
scheduled-more number at row free = by row.runs refl where
  by : (runs : List Run) → row.runs ≡ runs → length (first_run number at row.runs) ≡ length row.runs + 1
  by [] is =
      let one : length (first_run number at row.runs) ≡ 1 = ap (λ (rs : List Run). length (first_run number at rs)) is in
      let none : length row.runs ≡ 0 = ap (λ (rs : List Run). length rs) is in
      omega arith
  by (run ∷ runs) is =
      let no_ : false ≡ true = sym (some-last run runs) ∙ (sym (ap (λ (rs : List Run). is_none (last_or None rs)) is) ∙ free) in absurd (cc)

-- ---- tasks that settle

started-fits : (test : Row → Bool) (number at : ℕ) (rows : List Row) → list_all fits rows ≡ true → list_all fits (started test number at rows) ≡ true
started-fits test number at [] all = refl
started-fits test number at (row ∷ rows) all = by (started-fits test number at rows) (started-fits test (number + 1) at rows) (test row) refl where
  parts : (fits row ≡ true) × (list_all fits rows ≡ true)
  parts = and_parts (fits row) (list_all fits rows) all

  by : (list_all fits rows ≡ true → list_all fits (started test number at rows) ≡ true) → (list_all fits rows ≡ true → list_all fits (started test (number + 1) at rows) ≡ true) → (b : Bool) → test row ≡ b
      → list_all fits (started test number at (row ∷ rows)) ≡ true
  by here more true is =
      ap (λ b. list_all fits (cond b (scheduled number at row ∷ started test (number + 1) at rows) (row ∷ started test number at rows))) is
      ∙ and_from (fits (scheduled number at row)) (list_all fits (started test (number + 1) at rows)) (scheduled-fits number at row parts.0) (more parts.1)
  by here more false is =
      ap (λ b. list_all fits (cond b (scheduled number at row ∷ started test (number + 1) at rows) (row ∷ started test number at rows))) is
      ∙ and_from (fits row) (list_all fits (started test number at rows)) parts.0 (here parts.1)

started-made : (test : Row → Bool) → ((row : Row) → test row ≡ true → is_unscheduled row ≡ true) → (number at : ℕ) (rows : List Row) → runs_made (started test number at rows) ≡ runs_made rows + count_by test rows
started-made test free number at [] = omega arith
started-made test free number at (row ∷ rows) = by (started-made test free number at rows) (started-made test free (number + 1) at rows) (test row) refl where
  by : runs_made (started test number at rows) ≡ runs_made rows + count_by test rows → runs_made (started test (number + 1) at rows) ≡ runs_made rows + count_by test rows → (b : Bool) → test row ≡ b
      → runs_made (started test number at (row ∷ rows)) ≡ runs_made (row ∷ rows) + count_by test (row ∷ rows)
  by here more true is =
      let one : one_if (test row) ≡ 1 = ap one_if is in
      let made = scheduled-more number at row (free row is) in
      let count = count-cons test row rows in
      let before = sum_by-cons (λ (r : Row). length r.runs) row rows in
      let after : runs_made (started test number at (row ∷ rows)) ≡ length (scheduled number at row).runs + runs_made (started test (number + 1) at rows) =
      ap (λ b. runs_made (cond b (scheduled number at row ∷ started test (number + 1) at rows) (row ∷ started test number at rows))) is ∙ sum_by-cons (λ (r : Row). length r.runs) (scheduled number at row) (started test (number + 1) at rows) in
      omega arith
  by here more false is =
      let none : one_if (test row) ≡ 0 = ap one_if is in
      let count = count-cons test row rows in
      let before = sum_by-cons (λ (r : Row). length r.runs) row rows in
      let after : runs_made (started test number at (row ∷ rows)) ≡ length row.runs + runs_made (started test number at rows) =
      ap (λ b. runs_made (cond b (scheduled number at row ∷ started test (number + 1) at rows) (row ∷ started test number at rows))) is ∙ sum_by-cons (λ (r : Row). length r.runs) row (started test number at rows) in
      omega arith

pub settled-fits : (contents : Contents) (at : ℕ) → list_all fits contents.rows ≡ true → list_all fits (settled contents at).rows ≡ true
unfolding settled
settled-fits contents at all = started-fits (is_ready contents.rows) contents.next at contents.rows all

pub settled-made : (contents : Contents) (at : ℕ) → contents.next ≤ runs_made contents.rows → (settled contents at).next ≤ runs_made (settled contents at).rows
unfolding settled
settled-made contents at made =
    let more = started-made (is_ready contents.rows) (ready-free contents.rows) contents.next at contents.rows in
    omega arith

-- ---- what is resolved

pub resolved-fits : (contents : Contents) (at : ℕ) → list_all fits contents.rows ≡ true → list_all fits (resolved_at contents at).rows ≡ true
resolved-fits contents at all = by (list_any (meets_deadline at) contents.rows) refl where
  by : (b : Bool) → list_any (meets_deadline at) contents.rows ≡ b → list_all fits (resolved_at contents at).rows ≡ true
  by true is = ap (λ (c : Contents). list_all fits c.rows) (deadline-resolved contents at is) ∙ change-fits (meets_deadline at) (exceeded at) (finished-fits DeadlineExceeded at) contents.rows all
  by false is = ap (λ (c : Contents). list_all fits c.rows) (claim-resolved contents at is) ∙ change-fits (loses_claim at) (expired contents.next at) (expired-fits contents.next at) contents.rows all

expired-more : (number at : ℕ) (row : Row) → loses_claim at row ≡ true → length row.runs + draws ClaimExpired (Some row) ≤ length (expired number at row).runs
expired-more number at row is =
    let e : length (expired number at row).runs ≡ length (closed (length row.runs - 1) ClaimExpired number at row).runs = ap (λ b. let r : Row = cond b (closed (length row.runs - 1) ClaimExpired number at row) row in length r.runs) is in
    let m = (closed-is ClaimExpired (length row.runs - 1) number at row).more in
    omega arith

exceeded-more : (at : ℕ) (row : Row) → length row.runs + 0 ≤ length (exceeded at row).runs
exceeded-more at row = let m = finished-more DeadlineExceeded at row in omega arith

pub resolved-made : (contents : Contents) (at : ℕ) → contents.next ≤ runs_made contents.rows → (resolved_at contents at).next ≤ runs_made (resolved_at contents at).rows
resolved-made contents at made = by (list_any (meets_deadline at) contents.rows) refl where
  by : (b : Bool) → list_any (meets_deadline at) contents.rows ≡ b → (resolved_at contents at).next ≤ runs_made (resolved_at contents at).rows
  by true is =
      let rows : runs_made (resolved_at contents at).rows ≡ runs_made (change_first (meets_deadline at) (exceeded at) contents.rows) = ap (λ (c : Contents). runs_made c.rows) (deadline-resolved contents at is) in
      let next : (resolved_at contents at).next ≡ contents.next = ap (λ (c : Contents). c.next) (deadline-resolved contents at is) in
      let more = change-made (meets_deadline at) (exceeded at) (λ o. 0) refl (λ row passes. exceeded-more at row) contents.rows in
      omega arith
  by false is =
      let rows : runs_made (resolved_at contents at).rows ≡ runs_made (change_first (loses_claim at) (expired contents.next at) contents.rows) = ap (λ (c : Contents). runs_made c.rows) (claim-resolved contents at is) in
      let next : (resolved_at contents at).next ≡ contents.next + draws ClaimExpired (find (loses_claim at) contents.rows) = ap (λ (c : Contents). c.next) (claim-resolved contents at is) in
      let more = change-made (loses_claim at) (expired contents.next at) (draws ClaimExpired) refl (expired-more contents.next at) contents.rows in
      omega arith

-- ---- a turn in code

change-idle : (test : Row → Bool) (f : Row → Row) (rows : List Row) → list_any test rows ≡ false → change_first test f rows ≡ rows
change-idle test f [] none = refl
change-idle test f (row ∷ rows) none =
    let parts = any_none (test row) (list_any test rows) none in
    ap (λ b. cond b (f row ∷ rows) (row ∷ change_first test f rows)) parts.0 ∙ ap (λ (rs : List Row). row ∷ rs) (change-idle test f rows parts.1)

pub claim-turn : (rows looked new : List Row) (number at drawn : ℕ) → list_any (meets_deadline at) rows ≡ false → looked ≡ change_first (meets_deadline at) (exceeded at) rows
    → new ≡ change_first (loses_claim at) (expired number at) looked → drawn ≡ draws ClaimExpired (find (loses_claim at) looked) → resolved_at (numbered rows number) at ≡ numbered new (number + drawn)
claim-turn rows looked new number at drawn none same is draws_ =
    let e : looked ≡ rows = same ∙ change-idle (meets_deadline at) (exceeded at) rows none in
    claim-resolved (numbered rows number) at none
    ∙ sym (ap (λ (rs : List Row). numbered rs (number + drawn)) (is ∙ ap (λ (rs : List Row). change_first (loses_claim at) (expired number at) rs) e)
    ∙ ap (λ n. numbered (change_first (loses_claim at) (expired number at) rows) (number + n)) (draws_ ∙ ap (λ (rs : List Row). draws ClaimExpired (find (loses_claim at) rs)) e))

pub settled-numbered : (rows new : List Row) (next at drawn : ℕ) → new ≡ started (is_ready rows) next at rows → drawn ≡ count_by (is_ready rows) rows → settled (numbered rows next) at ≡ numbered new (next + drawn)
unfolding settled
settled-numbered rows new next at drawn is draws_ =
    sym (ap (λ (rs : List Row). numbered rs (next + drawn)) is ∙ ap (λ n. numbered (started (is_ready rows) next at rows) (next + n)) draws_)

pub turn-is : (before : Contents) (rows new : List Row) (number at drawn more : ℕ) → resolved_at before at ≡ numbered rows (number + drawn) → new ≡ started (is_ready rows) (number + drawn) at rows → more ≡ count_by (is_ready rows) rows
    → settled (resolved_at before at) at ≡ numbered new (number + (drawn + more))
turn-is before rows new number at drawn more same is draws_ =
    let sum : number + drawn + more ≡ number + (drawn + more) = omega arith in
    ap (λ (c : Contents). settled c at) same ∙ (settled-numbered rows new (number + drawn) at more is draws_ ∙ ap (numbered new) sum)
