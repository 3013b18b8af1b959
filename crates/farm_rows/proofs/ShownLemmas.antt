-- The tasks that a change names: the change of them alone is what it leaves of them among all.
use Rattle.std.proofs.Common.{◌≡◌, ℕ, Bool, true, false, not, ◌&&◌, List, [], ◌∷◌, map, filter, length, Option, Some, None, bytes_eq, nat_le, zero, suc, ◌≤◌, refl, ap, sym, ◌∙◌, subst, arith, ◌==◌, ◌+◌, ◌-◌}
use Rattle.std.specs.List.{list_all, AllByRecursion, fold, last_or, reduce}
use Rattle.std.specs.Option.{option_map_or}
use Rattle.std.proofs.lemmas.Bool.{and_parts, eqb-false}
use Rattle.std.proofs.lemmas.Map.Keys.{IsDistinct-head, IsDistinct-tail}
use Rattle.std.proofs.lemmas.Slice.Eq.{bytes_eq-Decides}
use Rattle.task_types.specs.declared.names.TaskQueue.{TaskQueue}
use Rattle.run_states.specs.declared.run.Claim.{Claim}
use Rattle.run_states.specs.declared.run.Run.{Run}
use Rattle.run_states.specs.Runs.{is_pending_run}
use Rattle.run_states.specs.Rows.{Row, is_pending, scheduled}
use Rattle.run_states.specs.Moves.{run_again, canceled, claimed, reclaimed, resolved}
use Rattle.run_states.proofs.LaterLemmas.{scheduled-later, again-later, claimed-later, canceled-later, reclaimed-later, resolved-later}
use Rattle.task_types.specs.declared.change.RunName.{RunName}
use Rattle.farm_rows.specs.declared.plan.Deed.{Deed}
use Rattle.farm_rows.specs.declared.plan.Deed.TheVariants.{Create, Schedule, Rerun, Cancel, Claim as TakesRuns, Reclaim, Resolve}
use Rattle.task_index.specs.Contents.{Contents, row_with, HaveOwnIds}
use Rattle.task_index.specs.Changes.{change_row, reason_of, claim_of, all_claimed, may_keep, are_first, may_be}
use Rattle.farm_rows.specs.Deeds.{kind_of, rows_after}
use Rattle.task_index.specs.Picks.{is_same_queue, waits_in, goes_before, better, pick, picks, last_name, names_last, are_picks, without}
use Rattle.task_index.specs.Plans.{rows_with, named_rows}

-- ---- a change of one task

abbrev pub Keeps : (Row → Row) → Type 0
Keeps f = (row : Row) → (f row).id ≡ row.id

-- the task with an id, once it was changed
one-found : (id : List ℕ) (f : Row → Row) → Keeps f → (rows : List Row) → change_row id f (rows_with (id ∷ []) rows) ≡ rows_with (id ∷ []) (change_row id f rows)
one-found id f keeps [] = refl
one-found id f keeps (row ∷ rows) = by (one-found id f keeps rows) (bytes_eq row.id id) refl where
  by : change_row id f (rows_with (id ∷ []) rows) ≡ rows_with (id ∷ []) (change_row id f rows) → (b : Bool) → bytes_eq row.id id ≡ b → change_row id f (rows_with (id ∷ []) (row ∷ rows)) ≡ rows_with (id ∷ []) (change_row id f (row ∷ rows))
  by rest true is =
      let later : bytes_eq (f row).id id ≡ true = ap (λ i. bytes_eq i id) (keeps row) ∙ is in
      rw (is, is, later) refl
  by rest false is = rw (is, is) rest

-- ---- changes of others

-- a task with another id stays
other-found : (id other : List ℕ) (f : Row → Row) → Keeps f → bytes_eq other id ≡ false → (rows : List Row) → row_with other (change_row id f rows) ≡ row_with other rows
other-found id other f keeps no_ [] = refl
other-found id other f keeps no_ (row ∷ rows) = by (other-found id other f keeps no_ rows) (bytes_eq row.id id) refl (bytes_eq row.id other) refl where
  by : row_with other (change_row id f rows) ≡ row_with other rows → (b : Bool) → bytes_eq row.id id ≡ b → (d : Bool) → bytes_eq row.id other ≡ d → row_with other (change_row id f (row ∷ rows)) ≡ row_with other (row ∷ rows)
  by rest true is true too =
      let same : row.id ≡ id = (bytes_eq-Decides row.id id).0 is in
      let same_too : row.id ≡ other = (bytes_eq-Decides row.id other).0 too in
      let both : bytes_eq other id ≡ true = (bytes_eq-Decides other id).1 (sym same_too ∙ same) in
      cc
  by rest true is false too =
      let later : bytes_eq (f row).id other ≡ false = ap (λ i. bytes_eq i other) (keeps row) ∙ too in
      rw (is, later, too) refl
  by rest false is true too = rw (is, too) refl
  by rest false is false too = rw (is, too) rest

-- none of these runs is of the task with this id
abbrev pub others : List ℕ → List RunName → Bool
others id names = list_all (λ name. not (bytes_eq name.id id)) names

abbrev ids : List RunName → List (List ℕ)
ids names = map (λ name. name.id) names

not_false : (b : Bool) → not b ≡ true → b ≡ false
not_false false is = refl
not_false true is = cc

-- the other tasks stay
others-found : (id : List ℕ) (f : Row → Row) → Keeps f → (names : List RunName) → others id names ≡ true → (rows : List Row) → rows_with (ids names) (change_row id f rows) ≡ rows_with (ids names) rows
others-found id f keeps [] all rows = refl
others-found id f keeps (name ∷ names) all rows =
    let parts = and_parts (not (bytes_eq name.id id)) (others id names) all in
    let here = other-found id name.id f keeps (not_false (bytes_eq name.id id) parts.0) rows in
    let rest = others-found id f keeps names parts.1 rows in
    rw (here, rest) refl

-- equality of bytes goes both ways
other-way : (a b : List ℕ) → bytes_eq a b ≡ false → bytes_eq b a ≡ false
other-way a b no_ = by (bytes_eq b a) refl where
  by : (t : Bool) → bytes_eq b a ≡ t → bytes_eq b a ≡ false
  by true is = let same : b ≡ a = (bytes_eq-Decides b a).0 is in let both : bytes_eq a b ≡ true = (bytes_eq-Decides a b).1 (sym same) in cc
  by false is = is

keeps-claimed : (claim : Claim) → Keeps (claimed claim)
keeps-claimed claim row = (claimed-later claim row).id

-- a task of which no run is claimed stays
found-other : (claim : Claim) (id : List ℕ) (names : List RunName) → others id names ≡ true → (rows : List Row) → row_with id (all_claimed claim names rows) ≡ row_with id rows
found-other claim id [] all rows = refl
found-other claim id (name ∷ names) all rows =
    let parts = and_parts (not (bytes_eq name.id id)) (others id names) all in
    let no_ : bytes_eq id name.id ≡ false = other-way name.id id (not_false (bytes_eq name.id id) parts.0) in
    found-other claim id names parts.1 (change_row name.id (claimed claim) rows) ∙ other-found name.id id (claimed claim) (keeps-claimed claim) no_ rows

-- the first of a list stays, where no run of it is claimed
head-stays : (claim : Claim) (names : List RunName) (row : Row) → others row.id names ≡ true → (rows : List Row) → all_claimed claim names (row ∷ rows) ≡ row ∷ all_claimed claim names rows
head-stays claim [] row all rows = refl
head-stays claim (name ∷ names) row all rows =
    let parts = and_parts (not (bytes_eq name.id row.id)) (others row.id names) all in
    let no_ : bytes_eq row.id name.id ≡ false = other-way name.id row.id (not_false (bytes_eq name.id row.id) parts.0) in
    rw no_ (head-stays claim names row parts.1 (change_row name.id (claimed claim) rows))

-- ---- runs of different tasks that are claimed

-- what is found has the id
found-id : (id : List ℕ) (rows : List Row) (r : Row) → row_with id rows ≡ Some r → bytes_eq r.id id ≡ true
found-id id [] r is = cc
found-id id (row ∷ rows) r is = by (found-id id rows r) (bytes_eq row.id id) refl where
  by : (row_with id rows ≡ Some r → bytes_eq r.id id ≡ true) → (b : Bool) → bytes_eq row.id id ≡ b → bytes_eq r.id id ≡ true
  by rest true same = let here : Some row ≡ Some r = rw same at is in let one : row ≡ r = cc in subst (λ (x : Row). bytes_eq x.id id ≡ true) one same
  by rest false other = rest (rw other at is)

-- and is changed
pub changed-found : (id : List ℕ) (f : Row → Row) → Keeps f → (rows : List Row) (r : Row) → row_with id rows ≡ Some r → row_with id (change_row id f rows) ≡ Some (f r)
changed-found id f keeps [] r is = cc
changed-found id f keeps (row ∷ rows) r is = by (changed-found id f keeps rows r) (bytes_eq row.id id) refl where
  by : (row_with id rows ≡ Some r → row_with id (change_row id f rows) ≡ Some (f r)) → (b : Bool) → bytes_eq row.id id ≡ b → row_with id (change_row id f (row ∷ rows)) ≡ Some (f r)
  by rest true same =
      let here : Some row ≡ Some r = rw same at is in
      let one : row ≡ r = cc in
      let later : bytes_eq (f row).id id ≡ true = ap (λ i. bytes_eq i id) (keeps row) ∙ same in
      rw (same, later) (ap (λ (x : Row). Some (f x)) one)
  by rest false other = rw (other, other) (rest (rw other at is))

-- where none is found, none is changed
none-changed : (id : List ℕ) (f : Row → Row) (rows : List Row) → row_with id rows ≡ None → change_row id f rows ≡ rows
none-changed id f [] is = refl
none-changed id f (row ∷ rows) is = by (none-changed id f rows) (bytes_eq row.id id) refl where
  by : (row_with id rows ≡ None → change_row id f rows ≡ rows) → (b : Bool) → bytes_eq row.id id ≡ b → change_row id f (row ∷ rows) ≡ row ∷ rows
  by rest true same = let here : Some row ≡ None = rw same at is in cc
  by rest false other = rw other (ap (λ (rs : List Row). row ∷ rs) (rest (rw other at is)))

-- none of the tasks of other runs has the id
none-with : (id : List ℕ) (names : List RunName) (rows : List Row) → others id names ≡ true → row_with id (rows_with (ids names) rows) ≡ None
none-with id [] rows all = refl
none-with id (name ∷ names) rows all = by (none-with id names rows) (row_with name.id rows) refl where
  parts : (not (bytes_eq name.id id) ≡ true) × (others id names ≡ true)
  parts = and_parts (not (bytes_eq name.id id)) (others id names) all

  by : (others id names ≡ true → row_with id (rows_with (ids names) rows) ≡ None) → (o : Option Row) → row_with name.id rows ≡ o → row_with id (rows_with (ids (name ∷ names)) rows) ≡ None
  by rest None is = rw is (rest parts.1)
  by rest (Some r) is =
      let same : r.id ≡ name.id = (bytes_eq-Decides r.id name.id).0 (found-id name.id rows r is) in
      let no_ : bytes_eq r.id id ≡ false = ap (λ i. bytes_eq i id) same ∙ not_false (bytes_eq name.id id) parts.0 in
      rw (is, no_) (rest parts.1)

-- no two of the runs are of one task
abbrev pub AreOther : List RunName → Type 0
AreOther [] = Unit {0}
AreOther (name ∷ names) = (others name.id names ≡ true) × AreOther names

all-shown : (claim : Claim) (names : List RunName) → AreOther names → (rows : List Row) → all_claimed claim names (rows_with (ids names) rows) ≡ rows_with (ids names) (all_claimed claim names rows)
all-shown claim [] other rows = refl
all-shown claim (name ∷ names) other rows = by (all-shown claim names other.1) (row_with name.id rows) refl where
  f : Row → Row
  f = claimed claim

  next : List Row
  next = change_row name.id f rows

  by : ((rs : List Row) → all_claimed claim names (rows_with (ids names) rs) ≡ rows_with (ids names) (all_claimed claim names rs)) → (o : Option Row) → row_with name.id rows ≡ o → all_claimed claim (name ∷ names) (rows_with (ids (name ∷ names)) rows) ≡ rows_with (ids (name ∷ names)) (all_claimed claim (name ∷ names) rows)
  by shown None is =
      let stays : change_row name.id f (rows_with (ids names) rows) ≡ rows_with (ids names) rows = none-changed name.id f (rows_with (ids names) rows) (none-with name.id names rows other.0) in
      let same : next ≡ rows = none-changed name.id f rows is in
      let none : row_with name.id (all_claimed claim names rows) ≡ None = found-other claim name.id names other.0 rows ∙ is in
      let left : all_claimed claim (name ∷ names) (rows_with (ids (name ∷ names)) rows) ≡ all_claimed claim names (rows_with (ids names) rows) = rw (is, stays) refl in
      let right : rows_with (ids (name ∷ names)) (all_claimed claim names rows) ≡ rows_with (ids names) (all_claimed claim names rows) = rw none refl in
      left ∙ (shown rows ∙ (sym right ∙ ap (λ (rs : List Row). rows_with (ids (name ∷ names)) (all_claimed claim names rs)) (sym same)))
  by shown (Some r) is =
      let here : bytes_eq r.id name.id ≡ true = found-id name.id rows r is in
      let id_is : (f r).id ≡ name.id = keeps-claimed claim r ∙ (bytes_eq-Decides r.id name.id).0 here in
      let apart : others (f r).id names ≡ true = ap (λ i. others i names) id_is ∙ other.0 in
      let front : all_claimed claim names (f r ∷ rows_with (ids names) rows) ≡ f r ∷ all_claimed claim names (rows_with (ids names) rows) = head-stays claim names (f r) apart (rows_with (ids names) rows) in
      let first : row_with name.id (all_claimed claim names next) ≡ Some (f r) = found-other claim name.id names other.0 next ∙ changed-found name.id f (keeps-claimed claim) rows r is in
      let rest : rows_with (ids names) (all_claimed claim names next) ≡ all_claimed claim names (rows_with (ids names) rows) =
      sym (shown next) ∙ ap (all_claimed claim names) (others-found name.id f (keeps-claimed claim) names other.0 rows) in
      let back : rows_with (ids (name ∷ names)) (all_claimed claim names next) ≡ f r ∷ rows_with (ids names) (all_claimed claim names next) = rw first refl in
      rw (is, here) (front ∙ (ap (λ (rs : List Row). f r ∷ rs) (sym rest) ∙ sym back))

-- ---- picks are of different tasks

-- what is picked is one of the tasks that wait in the queue
fold-one : (P : Row → Type 0) (best : Row) (rows : List Row) → P best → AllByRecursion P rows → P (fold better best rows)
fold-one P best [] p all = p
fold-one P best (row ∷ rows) p all = fold-one P (better best row) rows (by (goes_before row best) refl) all.1 where
  by : (b : Bool) → goes_before row best ≡ b → P (better best row)
  by true is = rw is all.0
  by false is = rw is p

reduce-one : (P : Row → Type 0) (rows : List Row) (r : Row) → AllByRecursion P rows → reduce better rows ≡ Some r → P r
reduce-one P [] r all is = cc
reduce-one P (row ∷ rows) r all is = let same : fold better row rows ≡ r = cc in subst P same (fold-one P row rows all.0 all.1)

each-filter : (P : Row → Type 0) (test : Row → Bool) (rows : List Row) → AllByRecursion P rows → AllByRecursion (λ row. (test row ≡ true) × P row) (filter test rows)
each-filter P test [] all = tt
each-filter P test (row ∷ rows) all = by (each-filter P test rows all.1) (test row) refl where
  by : AllByRecursion (λ row. (test row ≡ true) × P row) (filter test rows) → (b : Bool) → test row ≡ b → AllByRecursion (λ row. (test row ≡ true) × P row) (filter test (row ∷ rows))
  by rest true is = rw is ((is, all.0), rest)
  by rest false is = rw is rest

pub pick-one : (P : Row → Type 0) (queue : TaskQueue) (rows : List Row) (r : Row) → AllByRecursion P rows → pick queue rows ≡ Some r → (waits_in queue r ≡ true) × P r
pick-one P queue rows r all is = reduce-one (λ row. (waits_in queue row ≡ true) × P row) (filter (waits_in queue) rows) r (each-filter P (waits_in queue) rows all) is

abbrev Apart : List ℕ → Row → Type 0
Apart id row = bytes_eq row.id id ≡ false

apart-without : (id : List ℕ) (rows : List Row) → AllByRecursion (Apart id) (without id rows)
apart-without id [] = tt
apart-without id (row ∷ rows) = by (apart-without id rows) (bytes_eq row.id id) refl where
  by : AllByRecursion (Apart id) (without id rows) → (b : Bool) → bytes_eq row.id id ≡ b → AllByRecursion (Apart id) (without id (row ∷ rows))
  by rest true is = rw is rest
  by rest false is = rw is (is, rest)

pub each-without : (P : Row → Type 0) (id : List ℕ) (rows : List Row) → AllByRecursion P rows → AllByRecursion P (without id rows)
each-without P id [] all = tt
each-without P id (row ∷ rows) all = by (each-without P id rows all.1) (bytes_eq row.id id) refl where
  by : AllByRecursion P (without id rows) → (b : Bool) → bytes_eq row.id id ≡ b → AllByRecursion P (without id (row ∷ rows))
  by rest true is = rw is rest
  by rest false is = rw is (all.0, rest)

-- a name is that of a task that is apart
apart-name : (id : List ℕ) (name : RunName) (picked : Option Row) → ((r : Row) → picked ≡ Some r → Apart id r) → option_map_or (names_last name) picked false ≡ true → not (bytes_eq name.id id) ≡ true
apart-name id name None apart named = cc
apart-name id name (Some r) apart named =
    let same : r.id ≡ name.id = (bytes_eq-Decides r.id name.id).0 (and_parts (bytes_eq r.id name.id) (length r.runs == name.run + 1) named).0 in
    let no_ : bytes_eq name.id id ≡ false = ap (λ i. bytes_eq i id) (sym same) ∙ apart r refl in
    rw no_ refl

picks-apart : (queue : TaskQueue) (id : List ℕ) (names : List RunName) (rows : List Row) → AllByRecursion (Apart id) rows → are_picks queue names rows ≡ true → others id names ≡ true
picks-apart queue id [] rows all are = refl
picks-apart queue id (name ∷ names) rows all are =
    let parts = and_parts (option_map_or (names_last name) (pick queue rows) false) (are_picks queue names (without name.id rows)) are in
    let first = apart-name id name (pick queue rows) (λ r is. (pick-one (Apart id) queue rows r all is).1) parts.0 in
    let rest = picks-apart queue id names (without name.id rows) (each-without (Apart id) name.id rows all) parts.1 in
    rw (first, rest) refl

pub picks-other : (queue : TaskQueue) (names : List RunName) (rows : List Row) → are_picks queue names rows ≡ true → AreOther names
picks-other queue [] rows are = tt
picks-other queue (name ∷ names) rows are =
    let parts = and_parts (option_map_or (names_last name) (pick queue rows) false) (are_picks queue names (without name.id rows)) are in
    (picks-apart queue name.id names (without name.id rows) (apart-without name.id rows) parts.1, picks-other queue names (without name.id rows) parts.1)

-- the first ones of a queue are of different tasks
first-other : (names : List RunName) (rows : List Row) → are_first names rows ≡ true → AreOther names
first-other [] rows are = tt
first-other (name ∷ names) rows are = by (row_with name.id rows) are where
  by : (o : Option Row) → option_map_or (λ row. are_picks row.definition.queue (name ∷ names) rows) o false ≡ true → AreOther (name ∷ names)
  by None are = cc
  by (Some row) are = picks-other row.definition.queue (name ∷ names) rows are

-- ---- what a plan shows

pub deed-shown : (contents : Contents) (at number : ℕ) (deed : Deed) → may_be contents at (kind_of deed) ≡ true → rows_after at number deed (named_rows (kind_of deed) contents.rows) ≡ named_rows (kind_of deed) (rows_after at number deed contents.rows)
deed-shown contents at number (Create row) may = refl
deed-shown contents at number (Schedule id) may = one-found id (scheduled number at) (λ row. (scheduled-later number at row).id) contents.rows
deed-shown contents at number (Rerun id) may = one-found id (run_again number at) (λ row. (again-later number at row).id) contents.rows
deed-shown contents at number (Cancel id) may = one-found id (canceled at) (λ row. (canceled-later at row).id) contents.rows
deed-shown contents at number (TakesRuns claim) may =
    let parts = and_parts (may_keep at claim.taken_until) (nat_le (length claim.runs) 32 && are_first claim.runs contents.rows) may in
    let first = (and_parts (nat_le (length claim.runs) 32) (are_first claim.runs contents.rows) parts.1).1 in
    all-shown (claim_of at claim) claim.runs (first-other claim.runs contents.rows first) contents.rows
deed-shown contents at number (Reclaim r) may = one-found r.id (reclaimed r.run r.taken_until) (λ row. (reclaimed-later r.run r.taken_until row).id) contents.rows
deed-shown contents at number (Resolve r) may =
    one-found r.id (resolved r.run (reason_of r.reason) number at) (λ row. (resolved-later r.run (reason_of r.reason) number at row).id) contents.rows

-- ---- the runs that are picked may be claimed

-- a pending task has a run
has-run : (runs : List Run) → option_map_or is_pending_run (last_or None runs) false ≡ true → (length runs == (length runs - 1) + 1) ≡ true
has-run [] pending = cc
has-run (run ∷ runs) pending = same-eqb (suc (length runs)) ((suc (length runs) - 1) + 1) (omega arith) where
  same-eqb : (a b : ℕ) → a ≡ b → (a == b) ≡ true
  same-eqb a b e = by (a == b) refl where
    by : (t : Bool) → (a == b) ≡ t → (a == b) ≡ true
    by true is = is
    by false is = absurd (eqb-false a b is e)

bytes-same : (bs : List ℕ) → bytes_eq bs bs ≡ true
bytes-same bs = (bytes_eq-Decides bs bs).1 refl

-- each pick is the pick
picks-are : (most : ℕ) (queue : TaskQueue) (rows : List Row) → are_picks queue (picks most queue rows) rows ≡ true
picks-are zero queue rows = refl
picks-are (suc count) queue rows = by (λ rs. picks-are count queue rs) (pick queue rows) refl where
  nothing : (rs : List Row) → AllByRecursion (λ row. Unit {0}) rs
  nothing [] = tt
  nothing (r ∷ rs) = (tt, nothing rs)

  by : ((rs : List Row) → are_picks queue (picks count queue rs) rs ≡ true) → (o : Option Row) → pick queue rows ≡ o → are_picks queue (picks (suc count) queue rows) rows ≡ true
  by are None is = rw is refl
  by are (Some row) is =
      let waits = (pick-one (λ row. Unit {0}) queue rows row (nothing rows) is).0 in
      let pending = (and_parts (is_pending row) (is_same_queue row.definition.queue queue) waits).0 in
      let last = has-run row.runs pending in
      let rest = are (without row.id rows) in
      rw (is, is, bytes-same row.id, last) rest

-- no more runs are picked than are asked for
pub picks-few : (most : ℕ) (queue : TaskQueue) (rows : List Row) → length (picks most queue rows) ≤ most
picks-few zero queue rows = omega arith
picks-few (suc count) queue rows = by (λ rs. picks-few count queue rs) (pick queue rows) refl where
  by : ((rs : List Row) → length (picks count queue rs) ≤ count) → (o : Option Row) → pick queue rows ≡ o → length (picks (suc count) queue rows) ≤ suc count
  by few None is = rw is (omega arith)
  by few (Some row) is = let rest = few (without row.id rows) in rw is (omega (arith, rest))

-- a task with an id of its own is found by it
abbrev pub Stands : List Row → Row → Type 0
Stands rows row = row_with row.id rows ≡ Some row

stand-more : (first : Row) (rows more : List Row) → AllByRecursion (λ id. bytes_eq first.id id ≡ false) (map (λ row. row.id) more) → AllByRecursion (Stands rows) more → AllByRecursion (Stands (first ∷ rows)) more
stand-more first rows [] other all = tt
stand-more first rows (row ∷ more) other all = (rw (other.0) all.0, stand-more first rows more other.1 all.1)

pub each-stands : (rows : List Row) → HaveOwnIds rows → AllByRecursion (Stands rows) rows
each-stands [] own = tt
each-stands (row ∷ rows) own =
    let ids_of : List (List ℕ) = map (λ (r : Row). r.id) rows in
    (rw (bytes-same row.id) refl, stand-more row rows rows (IsDistinct-head bytes_eq row.id ids_of own) (each-stands rows (IsDistinct-tail bytes_eq row.id ids_of own)))

same-queue : (a b : TaskQueue) → is_same_queue a b ≡ true → a ≡ b
same-queue a b same =
    let parts = and_parts (bytes_eq a.provisioner_id b.provisioner_id) (bytes_eq a.worker_type b.worker_type) same in
    let first : a.provisioner_id ≡ b.provisioner_id = (bytes_eq-Decides a.provisioner_id b.provisioner_id).0 parts.0 in
    let second : a.worker_type ≡ b.worker_type = (bytes_eq-Decides a.worker_type b.worker_type).0 parts.1 in
    ap (λ (p : List ℕ). record a { provisioner_id = p }) first ∙ ap (λ (w : List ℕ). record b { worker_type = w }) second

-- the runs that are picked, if there are some, are the first ones of their queue
pub picks-first : (most : ℕ) (queue : TaskQueue) (rows : List Row) (name : RunName) (names : List RunName) → HaveOwnIds rows → picks most queue rows ≡ name ∷ names → are_first (name ∷ names) rows ≡ true
picks-first zero queue rows name names own is = cc
picks-first (suc count) queue rows name names own is = by (pick queue rows) refl where
  are : are_picks queue (name ∷ names) rows ≡ true
  are = ap (λ (ns : List RunName). are_picks queue ns rows) (sym is) ∙ picks-are (suc count) queue rows

  by : (o : Option Row) → pick queue rows ≡ o → are_first (name ∷ names) rows ≡ true
  by None none = let nothing : [] ≡ name ∷ names = rw none at is in cc
  by (Some row) some =
      let first : last_name row ∷ picks count queue (without row.id rows) ≡ name ∷ names = rw some at is in
      let called : last_name row ≡ name = cc in
      let one = pick-one (Stands rows) queue rows row (each-stands rows own) some in
      let found : row_with name.id rows ≡ Some row = subst (λ (n : RunName). row_with n.id rows ≡ Some row) called one.1 in
      let own_queue : row.definition.queue ≡ queue = same-queue row.definition.queue queue (and_parts (is_pending row) (is_same_queue row.definition.queue queue) one.0).1 in
      rw found (subst (λ (q : TaskQueue). are_picks q (name ∷ names) rows ≡ true) (sym own_queue) are)
