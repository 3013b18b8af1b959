-- The first task that is ready becomes pending: then those are ready that were so besides.
use Rattle.std.proofs.Common.{◌≡◌, ℕ, zero, suc, ◌+◌, ◌<◌, Bool, true, List, [], ◌∷◌, length, count_by, Some, refl, ap, sym, ◌∙◌, subst, arith}
use Rattle.std.specs.List.{list_any, position}
use Rattle.std.proofs.lemmas.List.Quantifiers.{position-Some}
use Rattle.run_states.specs.Runs.{change_at}
use Rattle.run_states.specs.Rows.{Row, scheduled}
use Rattle.run_states.proofs.RunLemmas.{set-at}
use Rattle.task_index.specs.Contents.{Contents}
use Rattle.task_index.specs.Ready.{is_ready, started, settled}
use Rattle.task_index.specs.Due.{change_first}
use Rattle.task_index.specs.Sweep.{numbered}
use Rattle.task_index.proofs.PlaceLemmas.{place-changed, place-any}
use Rattle.task_index.proofs.ReadyLemmas.{settled-first}

-- the place of the first that passes is one of the list
pub first-within : {A : Type 0} (test : A → Bool) (xs : List A) (place : ℕ) → position test xs ≡ Some place → place < length xs
first-within test [] place is = cc
first-within test (x ∷ xs) place is = (position-Some test (x ∷ xs) place x is).0

first-any : {A : Type 0} (test : A → Bool) (xs : List A) (place : ℕ) → position test xs ≡ Some place → list_any test xs ≡ true
first-any test [] place is = cc
first-any test (x ∷ xs) place is = place-any test (x ∷ xs) place x is

first-changed : {A : Type 0} (test : A → Bool) (f : A → A) (xs : List A) (place : ℕ) → position test xs ≡ Some place → change_first test f xs ≡ change_at place f xs
first-changed test f [] place is = cc
first-changed test f (x ∷ xs) place is = sym (place-changed test f (x ∷ xs) place x is) ∙ set-at f (x ∷ xs) place x

pub change-length : {A : Type 0} (f : A → A) (xs : List A) (place : ℕ) → length (change_at place f xs) ≡ length xs
change-length f [] place = refl
change-length f (x ∷ xs) zero = refl
change-length f (x ∷ xs) (suc place) = ap suc (change-length f xs place)

-- what is left to settle makes the whole, and is one task less
pub record IsStep (rows new : List Row) (number at : ℕ) : Type 0 where
  pub rest : started (is_ready new) (number + 1) at new ≡ started (is_ready rows) number at rows
  pub fewer : count_by (is_ready new) new + 1 ≡ count_by (is_ready rows) rows

pub first-starts : (rows : List Row) (number at place : ℕ) → position (is_ready rows) rows ≡ Some place → IsStep rows (change_at place (scheduled number at) rows) number at
unfolding settled
first-starts rows number at place is =
    let once = settled-first (numbered rows number) at (first-any (is_ready rows) rows place is) in
    let first : List Row = change_first (is_ready rows) (scheduled number at) rows in
    let drawn : number + count_by (is_ready rows) rows ≡ number + 1 + count_by (is_ready first) first = ap (λ (c : Contents). c.next) once in
    let step : IsStep rows first number at = record { rest = sym (ap (λ (c : Contents). c.rows) once); fewer = omega arith } in
    subst (λ (rs : List Row). IsStep rows rs number at) (first-changed (is_ready rows) (scheduled number at) rows place is) step
