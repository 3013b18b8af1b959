-- The task of a list that a token names.
use Rattle.std.proofs.Common.{◌≡◌, ℕ, zero, suc, ◌+◌, ◌<◌, ◌≤◌, Bool, true, false, List, [], ◌∷◌, length, drop, get_or, filter, Some, None, refl, ◌∙◌, ap, arith}
use Rattle.std.specs.List.{position}
use Rattle.std.specs.Option.{option_map_or}
use Rattle.std.proofs.lemmas.List.Quantifiers.{position-Some}
use Rattle.run_states.specs.Rows.{Row}
use Rattle.task_index.specs.declared.lists.TaskList.{TaskList}
use Rattle.task_index.specs.Changes.{on_row, has_id}
use Rattle.task_index.specs.Lists.{is_listed, listed, behind_id}
use Rattle.task_index.proofs.PlaceLemmas.{place-found, place-lost}

-- ---- the task that a token names

pub token-lost : (list : TaskList) (token : List ℕ) (rows : List Row) → position (has_id token) rows ≡ None → on_row (is_listed list) token rows ≡ false
token-lost list token rows is = ap (λ o. option_map_or (is_listed list) o false) (place-lost (has_id token) rows is)

pub token-found : (list : TaskList) (token : List ℕ) (rows : List Row) (place : ℕ) (d : Row) (b : Bool) → position (has_id token) rows ≡ Some place → is_listed list (get_or rows place d) ≡ b → on_row (is_listed list) token rows ≡ b
token-found list token rows place d b is same = ap (λ o. option_map_or (is_listed list) o false) (place-found (has_id token) rows place d is) ∙ same

behind-at : (test : Row → Bool) (id : List ℕ) (rows : List Row) (place : ℕ) (d : Row) → place < length rows → has_id id (get_or rows place d) ≡ true → ((k : ℕ) → k < place → has_id id (get_or rows k d) ≡ false) → test (get_or rows place d) ≡ true
    → filter test (drop (suc place) rows) ≡ behind_id id (filter test rows)
behind-at test id [] place d lt is below passes = absurd (omega arith)
behind-at test id (row ∷ rows) zero d lt is below passes = rw (passes, is) refl
behind-at test id (row ∷ rows) (suc place) d lt is below passes = by (behind-at test id rows place d (omega arith) is (λ k less. below (suc k) (omega arith)) passes) (below zero (omega arith)) (test row) refl where
  by : filter test (drop (suc place) rows) ≡ behind_id id (filter test rows) → has_id id row ≡ false → (b : Bool) → test row ≡ b → filter test (drop (suc place) rows) ≡ behind_id id (filter test (row ∷ rows))
  by rest other true here = rw (here, other) rest
  by rest other false here = rw here rest

-- behind it are the tasks of the list behind it
pub token-behind : (list : TaskList) (token : List ℕ) (rows : List Row) (place : ℕ) (d : Row) → position (has_id token) rows ≡ Some place → is_listed list (get_or rows place d) ≡ true → listed list (drop (place + 1) rows) ≡ behind_id token (listed list rows)
token-behind list token rows place d is passes =
    let at = position-Some (has_id token) rows place d is in
    let next : place + 1 ≡ suc place = omega arith in
    ap (λ n. listed list (drop n rows)) next ∙ behind-at (is_listed list) token rows place d at.0 at.1 at.2 passes

-- so they come from a place on
pub token-start : (list : TaskList) (token : List ℕ) (rows : List Row) (place : ℕ) (d : Row) → position (has_id token) rows ≡ Some place → is_listed list (get_or rows place d) ≡ true
    → (on_row (is_listed list) token rows ≡ true) × (place + 1 ≤ length rows) × (listed list (drop (place + 1) rows) ≡ behind_id token (listed list rows))
token-start list token rows place d is passes =
    let within = (position-Some (has_id token) rows place d is).0 in
    (token-found list token rows place d true is passes, omega arith, token-behind list token rows place d is passes)
