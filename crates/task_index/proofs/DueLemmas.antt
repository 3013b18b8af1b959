-- What falls due of tasks, and how one of them changes.
use Rattle.std.proofs.Common.{◌⊎◌, inl, inr, ◌≡◌, ℕ, ◌+◌, ◌≤◌, ◌<◌, Bool, true, false, not, ◌||◌, cond, List, [], ◌∷◌, map, length, Option, Some, None, refl, ap, sym, ◌∙◌, arith, nat_le, ◌==◌}
use Rattle.std.specs.List.{list_any, list_all}
use Rattle.std.specs.Option.{option_map_or, option_to_list}
use Rattle.std.proofs.lemmas.Bool.{leb-true, leb-false, lt-leb, eq-eqb, eqb-true, and_parts, or_cases}
use Rattle.std.proofs.Math.Bool.{or-true}
use Rattle.std.proofs.lemmas.List.Folds.{list_any-append, list_all-append}
use Rattle.std.proofs.Math.ListN.{length-append}
use Rattle.run_states.specs.Rows.{Row, is_resolved, claim_due, loses_claim, exceeded, due_moments}
use Rattle.run_states.specs.Moves.{expired}
use Rattle.run_states.specs.Later.{RowLater, RowsLater}
use Rattle.run_states.proofs.LaterLemmas.{RowLater-refl, RowsLater-refl}
use Rattle.run_states.proofs.ClaimLemmas.{claim-open, resolved-due, exceeded-due, open-due, expired-claim}
use Rattle.task_index.specs.Due.{all_due_moments, meets_deadline, change_first}

or_none : (a b : Bool) → (a || b) ≡ false → (a ≡ false) × (b ≡ false)
or_none true b is = cc
or_none false b is = (refl, is)

-- the parts of a test that fails
pub any_none : (a b : Bool) → (a || b) ≡ false → (a ≡ false) × (b ≡ false)
any_none a b is = or_none a b is

-- ---- one task

not-false : (b : Bool) → not b ≡ true → b ≡ false
not-false true e = cc
not-false false e = refl

pub meets : (at : ℕ) (row : Row) → meets_deadline at row ≡ true → (is_resolved row ≡ false) × (row.definition.deadline ≡ at)
meets at row is =
    let parts = and_parts (not (is_resolved row)) (row.definition.deadline == at) is in
    (not-false (is_resolved row) parts.0, eqb-true row.definition.deadline at parts.1)

-- the claim of a task that falls due
pub record Loses (at : ℕ) (row : Row) : Type 0 where
  pub due : ℕ
  pub claim : claim_due row ≡ Some due
  pub reached : nat_le due at ≡ true

pub loses : (at : ℕ) (row : Row) → loses_claim at row ≡ true → Loses at row
loses at row is = by (claim_due row) refl is where
  by : (o : Option ℕ) → claim_due row ≡ o → option_map_or (λ due. nat_le due at) o false ≡ true → Loses at row
  by None claim is = cc
  by (Some u) claim is = record { due = u; claim = claim; reached = is }

-- all that falls due of a task does so at this moment or later
abbrev pub from : ℕ → Row → Bool
from at row = list_all (nat_le at) (due_moments row)

pub from-rows : (at : ℕ) (rows : List Row) → list_all (nat_le at) (all_due_moments rows) ≡ true → list_all (from at) rows ≡ true
from-rows at [] all = refl
from-rows at (row ∷ rows) all =
    let parts = and_parts (from at row) (list_all (nat_le at) (all_due_moments rows)) (sym (list_all-append (nat_le at) (due_moments row) (all_due_moments rows)) ∙ all) in
    rw (parts.0, from-rows at rows parts.1) refl

pub from-deadline : (at : ℕ) (row : Row) → is_resolved row ≡ false → from at row ≡ true → at ≤ row.definition.deadline
from-deadline at row open_ all =
    let first = and_parts (nat_le at row.definition.deadline) (list_all (nat_le at) (option_to_list (claim_due row))) (sym (ap (list_all (nat_le at)) (open-due row open_)) ∙ all) in
    leb-true at row.definition.deadline first.0

-- ---- something falls due at this moment: a deadline, or the end of a claim

-- the deadline of a task that is not resolved is later, where it does not come now
pub past : (at : ℕ) (row : Row) → is_resolved row ≡ false → from at row ≡ true → meets_deadline at row ≡ false → at < row.definition.deadline
past at row open_ all no_deadline = by (nat_le row.definition.deadline at) refl where
  by : (b : Bool) → nat_le row.definition.deadline at ≡ b → at < row.definition.deadline
  by true le =
      let h : row.definition.deadline ≤ at = leb-true row.definition.deadline at le in
      let k : at ≤ row.definition.deadline = from-deadline at row open_ all in
      let e : row.definition.deadline ≡ at = omega arith in
      let yes : meets_deadline at row ≡ true = rw (open_, eq-eqb row.definition.deadline at e) refl in
      let no_ : true ≡ false = sym yes ∙ no_deadline in absurd (cc)
  by false gt = leb-false row.definition.deadline at gt

or_false : (b : Bool) → (b || false) ≡ b
or_false true = refl
or_false false = refl

some-one : (at : ℕ) (row : Row) → from at row ≡ true → list_any (λ due. nat_le due at) (due_moments row) ≡ true → meets_deadline at row ≡ false → loses_claim at row ≡ true
some-one at row all some_ no_deadline = by (is_resolved row) refl (claim_due row) refl where
  later : is_resolved row ≡ false → nat_le row.definition.deadline at ≡ false
  later open_ = lt-leb row.definition.deadline at (past at row open_ all no_deadline)

  by : (b : Bool) → is_resolved row ≡ b → (o : Option ℕ) → claim_due row ≡ o → loses_claim at row ≡ true
  by true is o claim = let none : false ≡ true = sym (ap (list_any (λ due. nat_le due at)) (resolved-due row is)) ∙ some_ in cc
  by false is None claim =
      let due : due_moments row ≡ row.definition.deadline ∷ [] = open-due row is ∙ ap (λ (o : Option ℕ). row.definition.deadline ∷ option_to_list o) claim in
      let here : (nat_le row.definition.deadline at || false) ≡ true = sym (ap (list_any (λ due. nat_le due at)) due) ∙ some_ in
      let none : false ≡ true = sym (ap (λ b. b || false) (later is)) ∙ here in cc
  by false is (Some u) claim =
      let due : due_moments row ≡ row.definition.deadline ∷ u ∷ [] = open-due row is ∙ ap (λ (o : Option ℕ). row.definition.deadline ∷ option_to_list o) claim in
      let here : (nat_le row.definition.deadline at || (nat_le u at || false)) ≡ true = sym (ap (list_any (λ due. nat_le due at)) due) ∙ some_ in
      let there : (nat_le u at || false) ≡ true = sym (ap (λ b. b || (nat_le u at || false)) (later is)) ∙ here in
      ap (λ (o : Option ℕ). option_map_or (λ due. nat_le due at) o false) claim ∙ (sym (or_false (nat_le u at)) ∙ there)

pub some-lost : (at : ℕ) (rows : List Row) → list_all (from at) rows ≡ true → list_any (λ due. nat_le due at) (all_due_moments rows) ≡ true → list_any (meets_deadline at) rows ≡ false → list_any (loses_claim at) rows ≡ true
some-lost at [] all some_ none = cc
some-lost at (row ∷ rows) all some_ none =
    by (some-lost at rows) (or_cases (list_any (λ due. nat_le due at) (due_moments row)) (list_any (λ due. nat_le due at) (all_due_moments rows))
    (sym (list_any-append (λ due. nat_le due at) (due_moments row) (all_due_moments rows)) ∙ some_))
  where
    alls : (from at row ≡ true) × (list_all (from at) rows ≡ true)
    alls = and_parts (from at row) (list_all (from at) rows) all

    nones : (meets_deadline at row ≡ false) × (list_any (meets_deadline at) rows ≡ false)
    nones = any_none (meets_deadline at row) (list_any (meets_deadline at) rows) none

    by : (list_all (from at) rows ≡ true → list_any (λ due. nat_le due at) (all_due_moments rows) ≡ true → list_any (meets_deadline at) rows ≡ false → list_any (loses_claim at) rows ≡ true)
        → (list_any (λ due. nat_le due at) (due_moments row) ≡ true) ⊎ (list_any (λ due. nat_le due at) (all_due_moments rows) ≡ true) → list_any (loses_claim at) (row ∷ rows) ≡ true
    by rest (inl here) = rw (some-one at row alls.0 here nones.0) refl
    by rest (inr there) = rw (rest alls.1 there nones.1) (or-true (loses_claim at row))

-- ---- a task that is changed has fewer moments at which something of it falls due

meets-fewer : (at : ℕ) (row : Row) → meets_deadline at row ≡ true → length (due_moments (exceeded at row)) < length (due_moments row)
meets-fewer at row is =
    let before : length (due_moments row) ≡ length (row.definition.deadline ∷ option_to_list (claim_due row)) = ap length (open-due row (meets at row is).0) in
    let after : length (due_moments (exceeded at row)) ≡ 0 = ap length (exceeded-due at row) in
    omega arith

due-few : (row : Row) → claim_due row ≡ None → length (due_moments row) ≤ 1
due-few row none = by (is_resolved row) refl where
  by : (b : Bool) → is_resolved row ≡ b → length (due_moments row) ≤ 1
  by true is = let e : length (due_moments row) ≡ 0 = ap length (resolved-due row is) in omega arith
  by false is = let e : length (due_moments row) ≡ 1 = ap length (open-due row is ∙ ap (λ (o : Option ℕ). row.definition.deadline ∷ option_to_list o) none) in omega arith

loses-fewer : (number at : ℕ) (row : Row) → loses_claim at row ≡ true → length (due_moments (expired number at row)) < length (due_moments row)
loses-fewer number at row is =
    let l = loses at row is in
    let before : length (due_moments row) ≡ 2 = ap length (open-due row (claim-open row l.due l.claim) ∙ ap (λ (o : Option ℕ). row.definition.deadline ∷ option_to_list o) l.claim) in
    let after = due-few (expired number at row) (expired-claim number at row is) in
    omega arith

-- ---- the first of a list that passes a test is changed

change-fewer : (test : Row → Bool) (f : Row → Row) (rows : List Row) → ((row : Row) → test row ≡ true → length (due_moments (f row)) < length (due_moments row)) → list_any test rows ≡ true
    → length (all_due_moments (change_first test f rows)) < length (all_due_moments rows)
change-fewer test f [] fewer some_ = cc
change-fewer test f (row ∷ rows) fewer some_ = by (change-fewer test f rows fewer) (test row) refl where
  by : (list_any test rows ≡ true → length (all_due_moments (change_first test f rows)) < length (all_due_moments rows)) → (b : Bool) → test row ≡ b
      → length (all_due_moments (change_first test f (row ∷ rows))) < length (all_due_moments (row ∷ rows))
  by rest true is =
      let here = fewer row is in
      let after : length (all_due_moments (change_first test f (row ∷ rows))) ≡ length (due_moments (f row)) + length (all_due_moments rows) =
      ap (λ b. length (all_due_moments (cond b (f row ∷ rows) (row ∷ change_first test f rows)))) is ∙ length-append (due_moments (f row)) (all_due_moments rows) in
      let before : length (all_due_moments (row ∷ rows)) ≡ length (due_moments row) + length (all_due_moments rows) = length-append (due_moments row) (all_due_moments rows) in
      omega arith
  by rest false is =
      let there = rest (rw is at some_) in
      let after : length (all_due_moments (change_first test f (row ∷ rows))) ≡ length (due_moments row) + length (all_due_moments (change_first test f rows)) =
      ap (λ b. length (all_due_moments (cond b (f row ∷ rows) (row ∷ change_first test f rows)))) is ∙ length-append (due_moments row) (all_due_moments (change_first test f rows)) in
      let before : length (all_due_moments (row ∷ rows)) ≡ length (due_moments row) + length (all_due_moments rows) = length-append (due_moments row) (all_due_moments rows) in
      omega arith

pub meets-turn : (at : ℕ) (rows : List Row) → list_any (meets_deadline at) rows ≡ true → length (all_due_moments (change_first (meets_deadline at) (exceeded at) rows)) < length (all_due_moments rows)
meets-turn at rows some_ = change-fewer (meets_deadline at) (exceeded at) rows (meets-fewer at) some_

pub loses-turn : (number at : ℕ) (rows : List Row) → list_any (loses_claim at) rows ≡ true → length (all_due_moments (change_first (loses_claim at) (expired number at) rows)) < length (all_due_moments rows)
loses-turn number at rows some_ = change-fewer (loses_claim at) (expired number at) rows (loses-fewer number at) some_

pub change-stays : (test : Row → Bool) (f : Row → Row) → ((row : Row) → RowLater row (f row)) → (rows : List Row) → RowsLater rows (change_first test f rows)
change-stays test f later [] = tt
change-stays test f later (row ∷ rows) = by (change-stays test f later rows) (test row) refl where
  by : RowsLater rows (change_first test f rows) → (b : Bool) → test row ≡ b → RowsLater (row ∷ rows) (change_first test f (row ∷ rows))
  by rest true is = rw is (later row, RowsLater-refl rows)
  by rest false is = rw is (RowLater-refl row, rest)

pub change-ids : (test : Row → Bool) (f : Row → Row) → ((row : Row) → RowLater row (f row)) → (rows : List Row) → map (λ row. row.id) (change_first test f rows) ≡ map (λ row. row.id) rows
change-ids test f later [] = refl
change-ids test f later (row ∷ rows) = by (change-ids test f later rows) (test row) refl where
  by : map (λ row. row.id) (change_first test f rows) ≡ map (λ row. row.id) rows → (b : Bool) → test row ≡ b → map (λ row. row.id) (change_first test f (row ∷ rows)) ≡ map (λ row. row.id) (row ∷ rows)
  by rest true is = rw is (ap (λ (id : List ℕ). id ∷ map (λ row. row.id) rows) (later row).id)
  by rest false is = rw is (ap (λ (ids : List (List ℕ)). row.id ∷ ids) rest)

pub change-length : (test : Row → Bool) (f : Row → Row) (rows : List Row) → length (change_first test f rows) ≡ length rows
change-length test f [] = refl
change-length test f (row ∷ rows) = by (change-length test f rows) (test row) refl where
  by : length (change_first test f rows) ≡ length rows → (b : Bool) → test row ≡ b → length (change_first test f (row ∷ rows)) ≡ length (row ∷ rows)
  by rest true is = rw is refl
  by rest false is = rw is (omega arith)
