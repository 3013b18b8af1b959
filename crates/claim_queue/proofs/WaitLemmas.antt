-- Rows that wait, and the heaps of their queues.
use Rattle.std.proofs.Common.{◌≡◌, ◌≢◌, ℕ, zero, suc, ◌+◌, ◌<◌, ◌⊎◌, inl, inr, cond, List, [], ◌∷◌, length, Option, Some, None, Vec, vec_capacity, refl, sym, ap, ◌∙◌, subst, slice_get, slice_set, slice_index, slice_index_or, arith, length-set}
use Rattle.std.specs.Option.{option_map_or}
use Rattle.std.specs.List.{count_by}
use Rattle.std.specs.Global.{Global}
use Rattle.std.proofs.lemmas.Bool.Decides.{eqb_tells}
use Rattle.std.proofs.lemmas.List.Sums.{sum_by-set}
use Rattle.claim_queue.specs.declared.entries.Entry.{Entry}
use Rattle.claim_queue.specs.declared.turns.Turn.{Turn}
use Rattle.claim_queue.specs.Firsts.{IsHeld}
use Rattle.claim_queue.specs.Heaps.{turn_at, IsIn, HasNoTurn, HasTurn, IsKept, IsPut, IsTaken}
use Rattle.claim_queue.specs.WaitHeaps.{entry_turn, heap_at, memory_at, is_at, AreQueued}
use Rattle.claim_queue.proofs.HeapLemmas.{same?}
use Rattle.claim_queue.proofs.HeldLemmas.{index-held}
use Rattle.claim_queue.proofs.TableLemmas.{get-set-same, get-set-other, held-one, not-both, held-within, has-turn}

-- ---- one heap is another

pub heap-same : (heaps : List (Vec Turn Global)) (queue : ℕ) (v : Vec Turn Global) → queue < length heaps → heap_at queue (slice_set heaps queue v) ≡ v.items
heap-same heaps queue v lt = ap (λ (o : Option (Vec Turn Global)). option_map_or (λ (h : Vec Turn Global). h.items) o []) (get-set-same heaps queue v lt)

pub heap-other : (heaps : List (Vec Turn Global)) (queue other : ℕ) (v : Vec Turn Global) → other ≢ queue → heap_at other (slice_set heaps queue v) ≡ heap_at other heaps
heap-other heaps queue other v ne = ap (λ (o : Option (Vec Turn Global)). option_map_or (λ (h : Vec Turn Global). h.items) o []) (get-set-other heaps queue other v ne)

pub memory-same : (heaps : List (Vec Turn Global)) (queue : ℕ) (v : Vec Turn Global) → queue < length heaps → memory_at queue (slice_set heaps queue v) ≡ vec_capacity v
memory-same heaps queue v lt = ap (λ (o : Option (Vec Turn Global)). option_map_or (λ (h : Vec Turn Global). vec_capacity h) o 0) (get-set-same heaps queue v lt)

pub memory-other : (heaps : List (Vec Turn Global)) (queue other : ℕ) (v : Vec Turn Global) → other ≢ queue → memory_at other (slice_set heaps queue v) ≡ memory_at other heaps
memory-other heaps queue other v ne = ap (λ (o : Option (Vec Turn Global)). option_map_or (λ (h : Vec Turn Global). vec_capacity h) o 0) (get-set-other heaps queue other v ne)

-- the heap that is read
pub heap-here : (heaps : List (Vec Turn Global)) (queue : ℕ) (d v : Vec Turn Global) → queue < length heaps → v ≡ slice_index_or heaps queue d → (heap_at queue heaps ≡ v.items) × (memory_at queue heaps ≡ vec_capacity v)
heap-here [] queue d v lt is = absurd (omega arith)
heap-here (h ∷ heaps) zero d v lt is = (ap (λ (x : Vec Turn Global). x.items) (sym is), ap (λ (x : Vec Turn Global). vec_capacity x) (sym is))
heap-here (h ∷ heaps) (suc queue) d v lt is = heap-here heaps queue d v (omega arith) is

-- ---- rows that change

-- how many rows are at a queue where one row is written
pub count-set : (queue row : ℕ) (rows : List (Option Entry)) (was next : Option Entry) → slice_get rows row ≡ Some was → row < length rows
    → count_by (is_at queue) (slice_set rows row next) + cond (is_at queue was) 1 0 ≡ count_by (is_at queue) rows + cond (is_at queue next) 1 0
count-set queue row rows was next is lt =
    subst (λ (o : Option Entry). count_by (is_at queue) (slice_set rows row next) + cond (is_at queue o) 1 0 ≡ count_by (is_at queue) rows + cond (is_at queue next) 1 0) (index-held rows row was None is)
    (sum_by-set (λ x. cond (is_at queue x) 1 0) rows row next None lt)

is-one : (queue : ℕ) (entry : Entry) → entry.queue ≡ queue → ◌≡◌ {A = ℕ} (cond (is_at queue (Some entry)) 1 0) 1
is-one queue entry is = elim (eqb_tells entry.queue queue) [ inl p ↦ ap (λ b. cond b 1 0) p.0 | inr p ↦ absurd (p.1 is) ]

is-none : (queue : ℕ) (entry : Entry) → queue ≢ entry.queue → ◌≡◌ {A = ℕ} (cond (is_at queue (Some entry)) 1 0) 0
is-none queue entry ne = elim (eqb_tells entry.queue queue) [ inl p ↦ absurd (ne (sym p.1)) | inr p ↦ ap (λ b. cond b 1 0) p.0 ]

module _ (rows : List (Option Entry)) (heaps : List (Vec Turn Global)) (places : List ℕ) (queued : AreQueued rows heaps places) where
  pub wait-absent : (queue row : ℕ) → slice_get rows row ≡ Some None → HasNoTurn row (heap_at queue heaps)
  wait-absent queue row none = λ place lt same.
      let told_ = queued.told queue (turn_at (heap_at queue heaps) place) (place, lt, refl) in
      not-both rows row told_.0 none (subst (λ n. IsHeld rows n told_.0) same told_.1)

  pub wait-held : (row : ℕ) (entry : Entry) → IsHeld rows row entry → HasTurn row (heap_at entry.queue heaps) places
  wait-held row entry is = has-turn (heap_at entry.queue heaps) places (entry_turn entry row) (queued.kept entry.queue).1 (queued.found row entry is)

  -- a row in one heap has no turn in another
  apart-none : (queue other : ℕ) → other ≢ queue → (turn : Turn) → IsIn turn (heap_at other heaps) → HasNoTurn turn.row (heap_at queue heaps)
  apart-none queue other ne turn in_ = λ place lt same.
      let here = queued.told other turn in_ in
      let there = queued.told queue (turn_at (heap_at queue heaps) place) (place, lt, refl) in
      let one : here.0 ≡ there.0 = held-one rows turn.row here.0 there.0 here.1 (subst (λ n. IsHeld rows n there.0) same there.1) in
      ne (sym here.2 ∙ (ap (λ (e : Entry). e.queue) one ∙ there.2))

  -- the places of the rows in the other heaps stay
  others-kept : (queue other : ℕ) (moved : List ℕ) → length moved ≡ length places → other ≢ queue
      → ((row : ℕ) (entry : Entry) → IsHeld rows row entry → HasNoTurn row (heap_at queue heaps) → slice_index moved row ≡ slice_index places row) → IsKept (heap_at other heaps) moved
  others-kept queue other moved long ne stay = (
    (queued.kept other).0,
    λ place lt.
        let turn = turn_at (heap_at other heaps) place in
        let known = (queued.kept other).1 place lt in
        let told_ = queued.told other turn (place, lt, refl) in
        let fits = known.0 in
        (omega arith, stay turn.row told_.0 told_.1 (apart-none queue other ne turn (place, lt, refl)) ∙ known.1),
  )

  -- ---- a row gets an entry

  module _ (v : Vec Turn Global) (moved : List ℕ) (row : ℕ) (entry : Entry) (none : slice_get rows row ≡ Some None) (lt : row < length rows) (in_heaps : entry.queue < length heaps)
      (p : IsPut (entry_turn entry row) (heap_at entry.queue heaps) v.items places moved) (kept : IsKept v.items moved) (more : length v.items ≡ length (heap_at entry.queue heaps) + 1) (long : length moved ≡ length places) where
    abbrev after : List (Option Entry)
    after = slice_set rows row (Some entry)

    abbrev later : List (Vec Turn Global)
    later = slice_set heaps entry.queue v

    stays : (other : ℕ) (e : Entry) → IsHeld rows other e → IsHeld after other e × (other ≢ row)
    stays other e is =
        let ne : other ≢ row = λ same. not-both rows row e none (subst (λ n. IsHeld rows n e) same is) in
        (get-set-other rows row other (Some entry) ne ∙ is, ne)

    put-told-here : (turn : Turn) → (IsIn turn (heap_at entry.queue heaps) × (turn.row ≢ row)) ⊎ (turn ≡ entry_turn entry row) → (e : Entry) × IsHeld after turn.row e × (e.queue ≡ entry.queue) × (turn ≡ entry_turn e turn.row)
    put-told-here turn (inl h) = let t = queued.told entry.queue turn h.0 in (t.0, (stays turn.row t.0 t.1).0, t.2, t.3)
    put-told-here turn (inr is) =
        subst (λ (t : Turn). (e : Entry) × IsHeld after t.row e × (e.queue ≡ entry.queue) × (t ≡ entry_turn e t.row)) (sym is) (entry, get-set-same rows row (Some entry) lt, refl, refl)

    put-told : (queue : ℕ) (turn : Turn) → IsIn turn (heap_at queue later) → (queue ≡ entry.queue) ⊎ (queue ≢ entry.queue) → (e : Entry) × IsHeld after turn.row e × (e.queue ≡ queue) × (turn ≡ entry_turn e turn.row)
    put-told queue turn in_ (inl is) =
        let here : IsIn turn v.items = subst (λ (l : List Turn). IsIn turn l) (ap (λ n. heap_at n later) is ∙ heap-same heaps entry.queue v in_heaps) in_ in
        let t = put-told-here turn (p.come turn here) in
        (t.0, t.1, t.2 ∙ sym is, t.3)
    put-told queue turn in_ (inr ne) =
        let there : IsIn turn (heap_at queue heaps) = subst (λ (l : List Turn). IsIn turn l) (heap-other heaps entry.queue queue v ne) in_ in
        let t = queued.told queue turn there in
        (t.0, (stays turn.row t.0 t.1).0, t.2, t.3)

    put-found-old : (other : ℕ) (e : Entry) → IsIn (entry_turn e other) (heap_at e.queue heaps) → other ≢ row → (e.queue ≡ entry.queue) ⊎ (e.queue ≢ entry.queue) → IsIn (entry_turn e other) (heap_at e.queue later)
    put-found-old other e in_ ne (inl is) =
        let here : IsIn (entry_turn e other) v.items = p.stay (entry_turn e other) (subst (λ n. IsIn (entry_turn e other) (heap_at n heaps)) is in_) ne in
        subst (λ (l : List Turn). IsIn (entry_turn e other) l) (sym (ap (λ n. heap_at n later) is ∙ heap-same heaps entry.queue v in_heaps)) here
    put-found-old other e in_ ne (inr not) = subst (λ (l : List Turn). IsIn (entry_turn e other) l) (sym (heap-other heaps entry.queue e.queue v not)) in_

    put-found : (other : ℕ) (e : Entry) → IsHeld after other e → (other ≡ row) ⊎ (other ≢ row) → IsIn (entry_turn e other) (heap_at e.queue later)
    put-found other e is (inl same) =
        let one : entry ≡ e = held-one after row entry e (get-set-same rows row (Some entry) lt) (subst (λ n. IsHeld after n e) same is) in
        let here : IsIn (entry_turn entry row) (heap_at entry.queue later) = subst (λ (l : List Turn). IsIn (entry_turn entry row) l) (sym (heap-same heaps entry.queue v in_heaps)) p.here in
        subst (λ (n : ℕ). IsIn (entry_turn e n) (heap_at e.queue later)) (sym same) (subst (λ (x : Entry). IsIn (entry_turn x row) (heap_at x.queue later)) one here)
    put-found other e is (inr ne) = put-found-old other e (queued.found other e (sym (get-set-other rows row other (Some entry) ne) ∙ is)) ne (same? e.queue entry.queue)

    put-kept : (queue : ℕ) → (queue ≡ entry.queue) ⊎ (queue ≢ entry.queue) → IsKept (heap_at queue later) moved
    put-kept queue (inl is) = subst (λ (l : List Turn). IsKept l moved) (sym (ap (λ n. heap_at n later) is ∙ heap-same heaps entry.queue v in_heaps)) kept
    put-kept queue (inr ne) =
        subst (λ (l : List Turn). IsKept l moved) (sym (heap-other heaps entry.queue queue v ne))
        (others-kept entry.queue queue moved long ne (λ other e is absent. p.others other (stays other e is).1 absent))

    put-count : (queue : ℕ) → (queue ≡ entry.queue) ⊎ (queue ≢ entry.queue) → length (heap_at queue later) ≡ count_by (is_at queue) after
    put-count queue (inl is) =
        let there : length (heap_at queue later) ≡ length v.items = ap length (ap (λ n. heap_at n later) is ∙ heap-same heaps entry.queue v in_heaps) in
        let old : length (heap_at entry.queue heaps) ≡ count_by (is_at queue) rows = ap (λ n. length (heap_at n heaps)) (sym is) ∙ queued.count queue in
        let counted : count_by (is_at queue) after + 0 ≡ count_by (is_at queue) rows + cond (is_at queue (Some entry)) 1 0 = count-set queue row rows None (Some entry) none lt in
        let one = is-one queue entry (sym is) in
        omega arith
    put-count queue (inr ne) =
        let there : length (heap_at queue later) ≡ count_by (is_at queue) rows = ap length (heap-other heaps entry.queue queue v ne) ∙ queued.count queue in
        let counted : count_by (is_at queue) after + 0 ≡ count_by (is_at queue) rows + cond (is_at queue (Some entry)) 1 0 = count-set queue row rows None (Some entry) none lt in
        let zero_ = is-none queue entry ne in
        omega arith

    pub wait-put : AreQueued after later moved
    wait-put = record {
      told = λ queue turn in_. put-told queue turn in_ (same? queue entry.queue);
      found = λ other e is. put-found other e is (same? other row);
      kept = λ queue. put-kept queue (same? queue entry.queue);
      count = λ queue. put-count queue (same? queue entry.queue);
      wide = let wide = queued.wide in omega (arith, length-set rows row (Some entry));
    }

  -- ---- a row has no entry any more

  module _ (v : Vec Turn Global) (moved : List ℕ) (row : ℕ) (entry : Entry) (held_ : IsHeld rows row entry) (in_heaps : entry.queue < length heaps)
      (p : IsTaken row (heap_at entry.queue heaps) v.items places moved) (kept : IsKept v.items moved) (less : length v.items + 1 ≡ length (heap_at entry.queue heaps)) (long : length moved ≡ length places) where
    abbrev gone : List (Option Entry)
    gone = slice_set rows row None

    abbrev left : List (Vec Turn Global)
    left = slice_set heaps entry.queue v

    lt : row < length rows
    lt = held-within rows row entry held_

    taken-told : (queue : ℕ) (turn : Turn) → IsIn turn (heap_at queue left) → (queue ≡ entry.queue) ⊎ (queue ≢ entry.queue) → (e : Entry) × IsHeld gone turn.row e × (e.queue ≡ queue) × (turn ≡ entry_turn e turn.row)
    taken-told queue turn in_ (inl is) =
        let here : IsIn turn v.items = subst (λ (l : List Turn). IsIn turn l) (ap (λ n. heap_at n left) is ∙ heap-same heaps entry.queue v in_heaps) in_ in
        let h = p.come turn here in
        let t = queued.told entry.queue turn h.0 in
        (t.0, get-set-other rows row turn.row None h.1 ∙ t.1, t.2 ∙ sym is, t.3)
    taken-told queue turn in_ (inr ne) =
        let there : IsIn turn (heap_at queue heaps) = subst (λ (l : List Turn). IsIn turn l) (heap-other heaps entry.queue queue v ne) in_ in
        let t = queued.told queue turn there in
        let apart : turn.row ≢ row = λ same. ne (sym t.2 ∙ ap (λ (x : Entry). x.queue) (held-one rows row t.0 entry (subst (λ n. IsHeld rows n t.0) same t.1) held_)) in
        (t.0, get-set-other rows row turn.row None apart ∙ t.1, t.2, t.3)

    taken-found-old : (other : ℕ) (e : Entry) → IsIn (entry_turn e other) (heap_at e.queue heaps) → other ≢ row → (e.queue ≡ entry.queue) ⊎ (e.queue ≢ entry.queue) → IsIn (entry_turn e other) (heap_at e.queue left)
    taken-found-old other e in_ ne (inl is) =
        let here : IsIn (entry_turn e other) v.items = p.stay (entry_turn e other) (subst (λ n. IsIn (entry_turn e other) (heap_at n heaps)) is in_) ne in
        subst (λ (l : List Turn). IsIn (entry_turn e other) l) (sym (ap (λ n. heap_at n left) is ∙ heap-same heaps entry.queue v in_heaps)) here
    taken-found-old other e in_ ne (inr not) = subst (λ (l : List Turn). IsIn (entry_turn e other) l) (sym (heap-other heaps entry.queue e.queue v not)) in_

    taken-found : (other : ℕ) (e : Entry) → IsHeld gone other e → (other ≡ row) ⊎ (other ≢ row) → IsIn (entry_turn e other) (heap_at e.queue left)
    taken-found other e is (inl same) = absurd (not-both gone row e (get-set-same rows row None lt) (subst (λ n. IsHeld gone n e) same is))
    taken-found other e is (inr ne) = taken-found-old other e (queued.found other e (sym (get-set-other rows row other None ne) ∙ is)) ne (same? e.queue entry.queue)

    taken-kept : (queue : ℕ) → (queue ≡ entry.queue) ⊎ (queue ≢ entry.queue) → IsKept (heap_at queue left) moved
    taken-kept queue (inl is) = subst (λ (l : List Turn). IsKept l moved) (sym (ap (λ n. heap_at n left) is ∙ heap-same heaps entry.queue v in_heaps)) kept
    taken-kept queue (inr ne) =
        subst (λ (l : List Turn). IsKept l moved) (sym (heap-other heaps entry.queue queue v ne))
        (others-kept entry.queue queue moved long ne (λ other e is absent. p.others other absent))

    taken-count : (queue : ℕ) → (queue ≡ entry.queue) ⊎ (queue ≢ entry.queue) → length (heap_at queue left) ≡ count_by (is_at queue) gone
    taken-count queue (inl is) =
        let there : length (heap_at queue left) ≡ length v.items = ap length (ap (λ n. heap_at n left) is ∙ heap-same heaps entry.queue v in_heaps) in
        let old : length (heap_at entry.queue heaps) ≡ count_by (is_at queue) rows = ap (λ n. length (heap_at n heaps)) (sym is) ∙ queued.count queue in
        let counted : count_by (is_at queue) gone + cond (is_at queue (Some entry)) 1 0 ≡ count_by (is_at queue) rows + 0 = count-set queue row rows (Some entry) None held_ lt in
        let one = is-one queue entry (sym is) in
        omega arith
    taken-count queue (inr ne) =
        let there : length (heap_at queue left) ≡ count_by (is_at queue) rows = ap length (heap-other heaps entry.queue queue v ne) ∙ queued.count queue in
        let counted : count_by (is_at queue) gone + cond (is_at queue (Some entry)) 1 0 ≡ count_by (is_at queue) rows + 0 = count-set queue row rows (Some entry) None held_ lt in
        let zero_ = is-none queue entry ne in
        omega arith

    pub wait-taken : AreQueued gone left moved
    wait-taken = record {
      told = λ queue turn in_. taken-told queue turn in_ (same? queue entry.queue);
      found = λ other e is. taken-found other e is (same? other row);
      kept = λ queue. taken-kept queue (same? queue entry.queue);
      count = λ queue. taken-count queue (same? queue entry.queue);
      wide = let wide = queued.wide in omega (arith, length-set rows row None);
    }
