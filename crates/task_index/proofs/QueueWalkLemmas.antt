-- A walk over the first tasks of a queue: what is left of them behind each.
use Rattle.std.proofs.Common.{◌≡◌, ◌≢◌, ℕ, zero, suc, ◌⊎◌, inl, inr, Bool, true, false, ◌||◌, cond, List, [], ◌∷◌, ◌++◌, length, map, Option, Some, None, option_and_then, refl, sym, ap, ◌∙◌, subst, slice_get, slice_set, slice_index_or, bytes_eq, ◌<◌, arith}
use Rattle.std.specs.List.{AllByRecursion}
use Rattle.std.proofs.lemmas.List.Folds.{list_any-append}
use Rattle.std.proofs.lemmas.Map.Keys.{IsDistinct-head, IsDistinct-tail}
use Rattle.std.proofs.lemmas.Slice.Eq.{bytes_eq-Decides}
use Rattle.run_states.specs.Rows.{Row}
use Rattle.task_types.specs.declared.change.RunName.{RunName}
use Rattle.claim_queue.specs.Waits.{Waiting, Waits, best_of}
use Rattle.claim_queue.specs.Walks.{without}
use Rattle.claim_queue.proofs.HeapLemmas.{same?}
use Rattle.task_index.specs.Contents.{HaveOwnIds}
use Rattle.task_index.specs.Left.{is_taken}
use Rattle.task_index.specs.Queues.{held_of, left_of, AreLeft}

-- ---- what is held once a row is written

pub set-same : {A : Type 0} (xs : List (Option A)) (i : ℕ) (y : Option A) → i < length xs → slice_index_or (slice_set xs i y) i None ≡ y
set-same [] i y lt = absurd (omega arith)
set-same (x ∷ xs) zero y lt = refl
set-same (x ∷ xs) (suc i) y lt = set-same xs i y (omega arith)

pub set-none : {A : Type 0} (xs : List (Option A)) (i : ℕ) → slice_index_or (slice_set xs i None) i None ≡ None
set-none [] i = refl
set-none (x ∷ xs) zero = refl
set-none (x ∷ xs) (suc i) = set-none xs i

pub set-other : {A : Type 0} (xs : List (Option A)) (i j : ℕ) (y : Option A) → j ≢ i → slice_index_or (slice_set xs i y) j None ≡ slice_index_or xs j None
set-other [] i j y ne = refl
set-other (x ∷ xs) zero zero y ne = absurd (ne refl)
set-other (x ∷ xs) zero (suc j) y ne = refl
set-other (x ∷ xs) (suc i) zero y ne = refl
set-other (x ∷ xs) (suc i) (suc j) y ne = set-other xs i j y (λ e. ne (ap suc e))

-- ---- an id has one place

same-id : (a b : List ℕ) → bytes_eq a b ≡ true → a ≡ b
same-id a b is = (bytes_eq-Decides a b).0 is

id-same : (a b : List ℕ) → a ≡ b → bytes_eq a b ≡ true
id-same a b is = (bytes_eq-Decides a b).1 is

apart : (id : List ℕ) (rows : List Row) (place : ℕ) (row : Row) → AllByRecursion (λ y. bytes_eq id y ≡ false) (map (λ row. row.id) rows) → slice_get rows place ≡ Some row → id ≡ row.id → ⊥
apart id [] place row all is same = cc
apart id (first ∷ rows) zero row all is same =
    let here : first ≡ row = cc in
    let e : id ≡ first.id = same ∙ sym (ap (λ (r : Row). r.id) here) in
    let both : true ≡ false = sym (id-same id first.id e) ∙ all.0 in
    cc
apart id (first ∷ rows) (suc place) row all is same = apart id rows place row all.1 is same

one-place : (rows : List Row) (i j : ℕ) (row other : Row) → HaveOwnIds rows → slice_get rows i ≡ Some row → slice_get rows j ≡ Some other → row.id ≡ other.id → i ≡ j
one-place [] i j row other own here there same = absurd (cc)
one-place (first ∷ rows) zero zero row other own here there same = refl
one-place (first ∷ rows) zero (suc j) row other own here there same =
    let is : first ≡ row = cc in
    absurd (apart first.id rows j other (IsDistinct-head bytes_eq first.id (map (λ row. row.id) rows) own) there (ap (λ (r : Row). r.id) is ∙ same))
one-place (first ∷ rows) (suc i) zero row other own here there same =
    let is : first ≡ other = cc in
    absurd (apart first.id rows i row (IsDistinct-head bytes_eq first.id (map (λ row. row.id) rows) own) here (ap (λ (r : Row). r.id) is ∙ sym same))
one-place (first ∷ rows) (suc i) (suc j) row other own here there same =
    ap suc (one-place rows i j row other (IsDistinct-tail bytes_eq first.id (map (λ row. row.id) rows) own) here there same)

-- ---- what is left

taken-more : (taken : List RunName) (called : RunName) (row : Row) → is_taken (taken ++ called ∷ []) row ≡ (is_taken taken row || (bytes_eq row.id called.id || false))
taken-more taken called row = list_any-append (λ (n : RunName). bytes_eq row.id n.id) taken (called ∷ [])

or-true : (a : Bool) → (a || true) ≡ true
or-true true = refl
or-true false = refl

or-false : (a : Bool) → (a || false) ≡ a
or-false true = refl
or-false false = refl

-- the task that was given is taken
gone : (taken : List RunName) (called : RunName) (row : Row) → bytes_eq row.id called.id ≡ true → left_of (taken ++ called ∷ []) row ≡ None
gone taken called row is =
    ap (λ t. let o : Option Waiting = cond t None (held_of row) in o) (taken-more taken called row ∙ (ap (λ t. is_taken taken row || (t || false)) is ∙ or-true (is_taken taken row)))

-- and any other is as it was
stays : (taken : List RunName) (called : RunName) (row : Row) → bytes_eq row.id called.id ≡ false → left_of (taken ++ called ∷ []) row ≡ left_of taken row
stays taken called row is =
    ap (λ t. let o : Option Waiting = cond t None (held_of row) in o) (taken-more taken called row ∙ (ap (λ t. is_taken taken row || (t || false)) is ∙ or-false (is_taken taken row)))

module _ (taken : List RunName) (called : RunName) (waits : Waits) (rows : List Row) (row : Row) (own : HaveOwnIds rows) (all : AreLeft taken waits rows) (is : bytes_eq row.id called.id ≡ true) where
  left-at : (place : ℕ) → slice_get rows place ≡ Some row → AreLeft (taken ++ called ∷ []) (without (Some place) waits) rows
  left-at place here = λ k. by k (same? k place) where
    by : (k : ℕ) → (k ≡ place) ⊎ (k ≢ place) → slice_index_or (slice_set waits.rows place None) k None ≡ option_and_then (left_of (taken ++ called ∷ [])) (slice_get rows k)
    by k (inl same) =
        subst (λ n. slice_index_or (slice_set waits.rows place None) n None ≡ option_and_then (left_of (taken ++ called ∷ [])) (slice_get rows n)) (sym same)
        (set-none waits.rows place ∙ sym (ap (option_and_then (left_of (taken ++ called ∷ []))) here ∙ gone taken called row is))
    by k (inr ne) = set-other waits.rows place k None ne ∙ (all k ∙ other (slice_get rows k) refl) where
      other : (r : Option Row) → slice_get rows k ≡ r → option_and_then (left_of taken) (slice_get rows k) ≡ option_and_then (left_of (taken ++ called ∷ [])) (slice_get rows k)
      other None none = ap (option_and_then (left_of taken)) none ∙ sym (ap (option_and_then (left_of (taken ++ called ∷ []))) none)
      other (Some there) some = ap (option_and_then (left_of taken)) some ∙ (kept (bytes_eq there.id called.id) refl ∙ sym (ap (option_and_then (left_of (taken ++ called ∷ []))) some)) where
        kept : (t : Bool) → bytes_eq there.id called.id ≡ t → left_of taken there ≡ left_of (taken ++ called ∷ []) there
        kept false apart_ = sym (stays taken called there apart_)
        kept true same = absurd (ne (one-place rows k place there row own some here (same-id there.id called.id same ∙ sym (same-id row.id called.id is))))

  pub left-next : (name : List ℕ) → option_and_then (slice_get rows) (best_of name waits) ≡ Some row → AreLeft (taken ++ called ∷ []) (without (best_of name waits) waits) rows
  left-next name best = by (best_of name waits) best where
    by : (place : Option ℕ) → option_and_then (slice_get rows) place ≡ Some row → AreLeft (taken ++ called ∷ []) (without place waits) rows
    by None none = absurd (cc)
    by (Some place) here = left-at place here
