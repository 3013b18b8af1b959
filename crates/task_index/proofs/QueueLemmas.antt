-- What is held of the tasks that wait, and the first and the number of those of a queue.
use Rattle.std.proofs.Common.{◌≡◌, ℕ, suc, ◌+◌, Bool, true, false, not, ◌&&◌, cond, List, [], ◌∷◌, length, filter, fold, Option, Some, None, option_map, option_and_then, refl, sym, ap, ◌∙◌, subst, slice_get, slice_index_or, count_by, bytes_eq, arith}
use Rattle.std.specs.List.{reduce}
use Rattle.std.proofs.lemmas.List.Sums.{length-filter}
use Rattle.task_types.specs.declared.names.TaskQueue.{TaskQueue}
use Rattle.run_states.specs.Rows.{Row, is_pending}
use Rattle.task_types.specs.declared.change.RunName.{RunName}
use Rattle.claim_queue.specs.Held.{held_from}
use Rattle.claim_queue.specs.Waits.{Waiting, Waits, better, best_of, waits_in as is_in, goes_before as waits_before}
use Rattle.task_index.specs.Picks.{is_same_queue, waits_in, waits_under, goes_before, better as better_row, pick}
use Rattle.task_index.specs.Left.{is_taken, left}
use Rattle.task_index.specs.Queues.{name_of, HasOneSlash, waiting_of, held_of, left_of, AreLeft}
use Rattle.task_index.proofs.QueueNameLemmas.{one-queue}
use Rattle.task_index.proofs.ReadyLemmas.{count-same}

-- what is held of each row
abbrev pub Holds : (Row → Option Waiting) → List (Option Waiting) → List Row → Type 0
Holds f held rows = (place : ℕ) → slice_index_or held place None ≡ option_and_then f (slice_get rows place)

-- a filter that lets something through, and one that lets nothing through
taken-in : {A : Type 0} (p : A → Bool) (x : A) (xs : List A) → p x ≡ true → filter p (x ∷ xs) ≡ x ∷ filter p xs
taken-in p x xs is = ap (λ t. cond t (x ∷ filter p xs) (filter p xs)) is

passed-by : {A : Type 0} (p : A → Bool) (x : A) (xs : List A) → p x ≡ false → filter p (x ∷ xs) ≡ filter p xs
passed-by p x xs is = ap (λ t. cond t (x ∷ filter p xs) (filter p xs)) is

-- ---- how many wait

module _ (f : Row → Option Waiting) (name : List ℕ) where
  -- the task is held in the queue of this name
  abbrev test : Row → Bool
  test row = is_in name (f row)

  same-many : (held : List (Option Waiting)) (rows : List Row) → Holds f held rows → length (filter (is_in name) held) ≡ length (filter test rows)
  same-many [] [] all = refl
  same-many [] (row ∷ rows) all =
      let out : test row ≡ false = ap (is_in name) (sym (all 0)) in
      same-many [] rows (λ k. all (suc k)) ∙ sym (ap length (passed-by test row rows out))
  same-many (x ∷ held) [] all =
      let out : is_in name x ≡ false = ap (is_in name) (all 0) in
      ap length (passed-by (is_in name) x held out) ∙ same-many held [] (λ k. all (suc k))
  same-many (x ∷ held) (row ∷ rows) all = by (same-many held rows (λ k. all (suc k))) (is_in name x) refl where
    same : is_in name x ≡ test row
    same = ap (is_in name) (all 0)

    by : length (filter (is_in name) held) ≡ length (filter test rows) → (t : Bool) → is_in name x ≡ t → length (filter (is_in name) (x ∷ held)) ≡ length (filter test (row ∷ rows))
    by rest true is = ap length (taken-in (is_in name) x held is) ∙ (ap suc rest ∙ sym (ap length (taken-in test row rows (sym same ∙ is))))
    by rest false is = ap length (passed-by (is_in name) x held is) ∙ (rest ∙ sym (ap length (passed-by test row rows (sym same ∙ is))))

held-under : (name : List ℕ) (row : Row) (t : Bool) → is_in name (cond t (Some (waiting_of row)) None) ≡ (t && bytes_eq (name_of row.definition.queue) name)
held-under name row true = refl
held-under name row false = refl

-- how many wait in the queue of a name
pub count-is : (name : List ℕ) (waits : Waits) (rows : List Row) → AreLeft [] waits rows → count_by (is_in name) waits.rows ≡ count_by (waits_under name) rows
count-is name waits rows all =
    sym (length-filter (is_in name) waits.rows)
    ∙ (same-many (left_of []) name waits.rows rows all
    ∙ (length-filter (test (left_of []) name) rows
    ∙ count-same (test (left_of []) name) (waits_under name) (λ row. held-under name row (is_pending row)) rows))

-- and under the name of a queue as many as in the queue
pub under-is : (queue : TaskQueue) → HasOneSlash (name_of queue) → (rows : List Row) → count_by (waits_under (name_of queue)) rows ≡ count_by (waits_in queue) rows
under-is queue one rows = count-same (waits_under (name_of queue)) (waits_in queue) (λ row. ap (λ t. is_pending row && t) (one-queue queue row.definition.queue one)) rows

-- ---- the first of a queue

module _ (f : Row → Option Waiting) (told : (row : Row) (waiting : Waiting) → f row ≡ Some waiting → waiting ≡ waiting_of row) (name : List ℕ) (all : List Row) where
  abbrev is_here : Waiting × ℕ → Bool
  is_here row = bytes_eq row.0.queue name

  -- a row that is held, and the task of which it is held
  abbrev Told : Waiting × ℕ → Row → Type 0
  Told here row = (f row ≡ Some here.0) × (slice_get all here.1 ≡ Some row)

  -- both or none
  abbrev Same : Option (Waiting × ℕ) → Option Row → Type 0
  Same None None = Unit {0}
  Same None (Some row) = ⊥
  Same (Some here) None = ⊥
  Same (Some here) (Some row) = Told here row

  -- the tasks from a place on
  abbrev From : ℕ → List Row → Type 0
  From base rows = (k : ℕ) → slice_get all (base + k) ≡ slice_get rows k

  from-first : (base : ℕ) (row : Row) (rows : List Row) → From base (row ∷ rows) → slice_get all base ≡ Some row
  from-first base row rows at = let e : base ≡ base + 0 = omega arith in ap (slice_get all) e ∙ at 0

  from-next : (base : ℕ) (row : Row) (rows : List Row) → From base (row ∷ rows) → From (base + 1) rows
  from-next base row rows at = λ k. let e : (base + 1) + k ≡ base + suc k = omega arith in ap (slice_get all) e ∙ at (suc k)

  -- behind the last task there is none
  from-none : (base : ℕ) → From base [] → From (base + 1) []
  from-none base at = λ k. let e : (base + 1) + k ≡ base + suc k = omega arith in ap (slice_get all) e ∙ at (suc k)

  goes-same : (here there : Waiting × ℕ) (row other : Row) → Told here row → Told there other → waits_before here.0 there.0 ≡ goes_before row other
  goes-same here there row other one two =
      ap (λ (w : Waiting). waits_before w there.0) (told row here.0 one.0) ∙ ap (waits_before (waiting_of row)) (told other there.0 two.0)

  better-same : (best here : Waiting × ℕ) (first row : Row) → Told best first → Told here row → Told (better best here) (better_row first row)
  better-same best here first row one two = by (waits_before here.0 best.0) refl where
    by : (t : Bool) → waits_before here.0 best.0 ≡ t → Told (better best here) (better_row first row)
    by true is =
        let a : here ≡ better best here = sym (ap (λ t. let z : Waiting × ℕ = cond t here best in z) is) in
        let b : row ≡ better_row first row = sym (ap (λ t. let z : Row = cond t row first in z) (sym (goes-same here best row first two one) ∙ is)) in
        subst (λ (z : Waiting × ℕ). Told z (better_row first row)) a (subst (λ (z : Row). Told here z) b two)
    by false is =
        let a : best ≡ better best here = sym (ap (λ t. let z : Waiting × ℕ = cond t here best in z) is) in
        let b : first ≡ better_row first row = sym (ap (λ t. let z : Row = cond t row first in z) (sym (goes-same here best row first two one) ∙ is)) in
        subst (λ (z : Waiting × ℕ). Told z (better_row first row)) a (subst (λ (z : Row). Told best z) b one)

  abbrev here_in : ℕ → List (Option Waiting) → List (Waiting × ℕ)
  here_in base held = filter is_here (held_from base held)

  fold-same : (base : ℕ) (held : List (Option Waiting)) (rows : List Row) (best : Waiting × ℕ) (first : Row) → Holds f held rows → From base rows → Told best first
      → Told (fold better best (here_in base held)) (fold better_row first (filter (test f name) rows))
  fold-same base [] [] best first holds at so = so
  fold-same base [] (row ∷ rows) best first holds at so =
      let out : test f name row ≡ false = ap (is_in name) (sym (holds 0)) in
      subst (λ (rs : List Row). Told best (fold better_row first rs)) (sym (passed-by (test f name) row rows out))
      (fold-same (base + 1) [] rows best first (λ k. holds (suc k)) (from-next base row rows at) so)
  fold-same base (None ∷ held) [] best first holds at so = fold-same (base + 1) held [] best first (λ k. holds (suc k)) (from-none base at) so
  fold-same base (Some waiting ∷ held) [] best first holds at so = let e : Some waiting ≡ None = holds 0 in absurd (cc)
  fold-same base (None ∷ held) (row ∷ rows) best first holds at so =
      let out : test f name row ≡ false = ap (is_in name) (sym (holds 0)) in
      subst (λ (rs : List Row). Told (fold better best (here_in (base + 1) held)) (fold better_row first rs)) (sym (passed-by (test f name) row rows out))
      (fold-same (base + 1) held rows best first (λ k. holds (suc k)) (from-next base row rows at) so)
  fold-same base (Some waiting ∷ held) (row ∷ rows) best first holds at so =
      by (λ b f_ s. fold-same (base + 1) held rows b f_ (λ k. holds (suc k)) (from-next base row rows at) s) (bytes_eq waiting.queue name) refl
    where
      same : bytes_eq waiting.queue name ≡ test f name row
      same = ap (is_in name) (holds 0)

      by : ((b : Waiting × ℕ) (r : Row) → Told b r → Told (fold better b (here_in (base + 1) held)) (fold better_row r (filter (test f name) rows))) → (t : Bool) → bytes_eq waiting.queue name ≡ t
          → Told (fold better best (here_in base (Some waiting ∷ held))) (fold better_row first (filter (test f name) (row ∷ rows)))
      by rest true is =
          let next = better-same best (waiting, base) first row so (sym (holds 0), from-first base row rows at) in
          subst (λ (hs : List (Waiting × ℕ)). Told (fold better best hs) (fold better_row first (filter (test f name) (row ∷ rows)))) (sym (taken-in is_here (waiting, base) (held_from (base + 1) held) is))
          (subst (λ (rs : List Row). Told (fold better (better best (waiting, base)) (here_in (base + 1) held)) (fold better_row first rs)) (sym (taken-in (test f name) row rows (sym same ∙ is)))
          (rest (better best (waiting, base)) (better_row first row) next))
      by rest false is =
          subst (λ (hs : List (Waiting × ℕ)). Told (fold better best hs) (fold better_row first (filter (test f name) (row ∷ rows)))) (sym (passed-by is_here (waiting, base) (held_from (base + 1) held) is))
          (subst (λ (rs : List Row). Told (fold better best (here_in (base + 1) held)) (fold better_row first rs)) (sym (passed-by (test f name) row rows (sym same ∙ is)))
          (rest best first so))

  best-same : (base : ℕ) (held : List (Option Waiting)) (rows : List Row) → Holds f held rows → From base rows → Same (reduce better (here_in base held)) (reduce better_row (filter (test f name) rows))
  best-same base [] [] holds at = tt
  best-same base [] (row ∷ rows) holds at =
      let out : test f name row ≡ false = ap (is_in name) (sym (holds 0)) in
      subst (λ (rs : List Row). Same None (reduce better_row rs)) (sym (passed-by (test f name) row rows out))
      (best-same (base + 1) [] rows (λ k. holds (suc k)) (from-next base row rows at))
  best-same base (None ∷ held) [] holds at = best-same (base + 1) held [] (λ k. holds (suc k)) (from-none base at)
  best-same base (Some waiting ∷ held) [] holds at = let e : Some waiting ≡ None = holds 0 in absurd (cc)
  best-same base (None ∷ held) (row ∷ rows) holds at =
      let out : test f name row ≡ false = ap (is_in name) (sym (holds 0)) in
      subst (λ (rs : List Row). Same (reduce better (here_in (base + 1) held)) (reduce better_row rs)) (sym (passed-by (test f name) row rows out))
      (best-same (base + 1) held rows (λ k. holds (suc k)) (from-next base row rows at))
  best-same base (Some waiting ∷ held) (row ∷ rows) holds at = by (best-same (base + 1) held rows (λ k. holds (suc k)) (from-next base row rows at)) (bytes_eq waiting.queue name) refl where
    same : bytes_eq waiting.queue name ≡ test f name row
    same = ap (is_in name) (holds 0)

    by : Same (reduce better (here_in (base + 1) held)) (reduce better_row (filter (test f name) rows)) → (t : Bool) → bytes_eq waiting.queue name ≡ t
        → Same (reduce better (here_in base (Some waiting ∷ held))) (reduce better_row (filter (test f name) (row ∷ rows)))
    by rest true is =
        subst (λ (hs : List (Waiting × ℕ)). Same (reduce better hs) (reduce better_row (filter (test f name) (row ∷ rows)))) (sym (taken-in is_here (waiting, base) (held_from (base + 1) held) is))
        (subst (λ (rs : List Row). Same (Some (fold better (waiting, base) (here_in (base + 1) held))) (reduce better_row rs)) (sym (taken-in (test f name) row rows (sym same ∙ is)))
        (fold-same (base + 1) held rows (waiting, base) row (λ k. holds (suc k)) (from-next base row rows at) (sym (holds 0), from-first base row rows at)))
    by rest false is =
        subst (λ (hs : List (Waiting × ℕ)). Same (reduce better hs) (reduce better_row (filter (test f name) (row ∷ rows)))) (sym (passed-by is_here (waiting, base) (held_from (base + 1) held) is))
        (subst (λ (rs : List Row). Same (reduce better (here_in (base + 1) held)) (reduce better_row rs)) (sym (passed-by (test f name) row rows (sym same ∙ is)))
        rest)

  -- the task at the place of the first one
  row-same : (best : Option (Waiting × ℕ)) (row : Option Row) → Same best row → option_and_then (slice_get all) (option_map (λ b. b.1) best) ≡ row
  row-same None None so = refl
  row-same None (Some row) so = absurd so
  row-same (Some here) None so = absurd so
  row-same (Some here) (Some row) so = so.1

-- ---- the tasks that wait in a queue, with those of which runs are taken left out

pub told-left : (taken : List RunName) (row : Row) (waiting : Waiting) → left_of taken row ≡ Some waiting → waiting ≡ waiting_of row
told-left taken row waiting is = by (is_taken taken row) refl (is_pending row) refl where
  by : (t : Bool) → is_taken taken row ≡ t → (u : Bool) → is_pending row ≡ u → waiting ≡ waiting_of row
  by true out u here =
      let none : left_of taken row ≡ None = ap (λ t. let o : Option Waiting = cond t None (held_of row) in o) out in
      let both : None ≡ Some waiting = sym none ∙ is in
      absurd (cc)
  by false out false here =
      let none : left_of taken row ≡ None =
      ap (λ t. let o : Option Waiting = cond t None (held_of row) in o) out ∙ ap (λ t. let o : Option Waiting = cond t (Some (waiting_of row)) None in o) here in
      let both : None ≡ Some waiting = sym none ∙ is in
      absurd (cc)
  by false out true here =
      let some : left_of taken row ≡ Some (waiting_of row) =
      ap (λ t. let o : Option Waiting = cond t None (held_of row) in o) out ∙ ap (λ t. let o : Option Waiting = cond t (Some (waiting_of row)) None in o) here in
      let both : Some (waiting_of row) ≡ Some waiting = sym some ∙ is in
      cc

module _ (queue : TaskQueue) (one : HasOneSlash (name_of queue)) where
  test-is : (taken : List RunName) (row : Row) → test (left_of taken) (name_of queue) row ≡ (not (is_taken taken row) && waits_in queue row)
  test-is taken row = by (is_taken taken row) refl (is_pending row) refl where
    out_ : (t : Bool) → is_taken taken row ≡ t → test (left_of taken) (name_of queue) row ≡ is_in (name_of queue) (cond t None (held_of row))
    out_ t is = ap (λ t. is_in (name_of queue) (cond t None (held_of row))) is

    by : (t : Bool) → is_taken taken row ≡ t → (u : Bool) → is_pending row ≡ u → test (left_of taken) (name_of queue) row ≡ (not (is_taken taken row) && waits_in queue row)
    by true out u here = out_ true out ∙ sym (ap (λ t. not t && waits_in queue row) out)
    by false out false here =
        out_ false out
        ∙ (ap (λ u. is_in (name_of queue) (cond u (Some (waiting_of row)) None)) here
        ∙ sym (ap (λ t. not t && waits_in queue row) out ∙ ap (λ u. u && is_same_queue row.definition.queue queue) here))
    by false out true here =
        out_ false out
        ∙ (ap (λ u. is_in (name_of queue) (cond u (Some (waiting_of row)) None)) here
        ∙ (one-queue queue row.definition.queue one
        ∙ sym (ap (λ t. not t && waits_in queue row) out ∙ ap (λ u. u && is_same_queue row.definition.queue queue) here)))

  filters-are : (taken : List RunName) (rows : List Row) → filter (test (left_of taken) (name_of queue)) rows ≡ filter (waits_in queue) (left taken rows)
  filters-are taken [] = refl
  filters-are taken (row ∷ rows) = by (filters-are taken rows) (is_taken taken row) refl (waits_in queue row) refl where
    by : filter (test (left_of taken) (name_of queue)) rows ≡ filter (waits_in queue) (left taken rows) → (t : Bool) → is_taken taken row ≡ t → (u : Bool) → waits_in queue row ≡ u → filter (test (left_of taken) (name_of queue)) (row ∷ rows) ≡ filter (waits_in queue) (left taken (row ∷ rows))
    by rest true out u here =
        passed-by (test (left_of taken) (name_of queue)) row rows (test-is taken row ∙ ap (λ t. not t && waits_in queue row) out)
        ∙ (rest ∙ sym (ap (filter (waits_in queue)) (passed-by (λ r. not (is_taken taken r)) row rows (ap not out))))
    by rest false out false here =
        passed-by (test (left_of taken) (name_of queue)) row rows (test-is taken row ∙ (ap (λ t. not t && waits_in queue row) out ∙ here))
        ∙ (rest ∙ sym (ap (filter (waits_in queue)) (taken-in (λ r. not (is_taken taken r)) row rows (ap not out)) ∙ passed-by (waits_in queue) row (left taken rows) here))
    by rest false out true here =
        taken-in (test (left_of taken) (name_of queue)) row rows (test-is taken row ∙ (ap (λ t. not t && waits_in queue row) out ∙ here))
        ∙ (ap (λ (rs : List Row). row ∷ rs) rest
        ∙ sym (ap (filter (waits_in queue)) (taken-in (λ r. not (is_taken taken r)) row rows (ap not out)) ∙ taken-in (waits_in queue) row (left taken rows) here))

  -- the first of them is the pick
  pub best-is-pick : (taken : List RunName) (waits : Waits) (rows : List Row) → AreLeft taken waits rows → option_and_then (slice_get rows) (best_of (name_of queue) waits) ≡ pick queue (left taken rows)
  best-is-pick taken waits rows all =
      let same = best-same (left_of taken) (told-left taken) (name_of queue) rows 0 waits.rows rows all (λ k. let e : 0 + k ≡ k = omega arith in ap (slice_get rows) e) in
      row-same (left_of taken) (told-left taken) (name_of queue) rows (reduce better (filter (λ row. bytes_eq row.0.queue (name_of queue)) (held_from 0 waits.rows))) (reduce better_row (filter (test (left_of taken) (name_of queue)) rows)) same
      ∙ ap (reduce better_row) (filters-are taken rows)
