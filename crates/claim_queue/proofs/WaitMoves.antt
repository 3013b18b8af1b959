-- What the calls of rows that wait see, and what they leave, by what the calls in them tell.
use Rattle.std.proofs.Common.{◌≡◌, ℕ, ◌+◌, ◌-◌, ◌<◌, ◌≤◌, false, List, [], ◌∷◌, length, Option, Some, None, IsSome, Vec, vec_capacity, refl, sym, ap, ◌∙◌, subst, slice_get, slice_set, slice_index_or, arith}
use Rattle.std.specs.Global.{Global}
use Rattle.std.specs.Option.{option_map_or}
use Rattle.std.specs.List.{count_by}
use Rattle.std.specs.Str.{bytes_eq}
use Rattle.std.proofs.lemmas.List.Sums.{count_by-le-length}
use Rattle.claim_queue.specs.declared.entries.Entry.{Entry}
use Rattle.claim_queue.specs.declared.queues.Queue.{Queue}
use Rattle.claim_queue.specs.declared.turns.Turn.{Turn}
use Rattle.claim_queue.specs.Waits.{Waiting, Waits, room_in, waits_in, count_in, queue_of, spare_in, best_of}
use Rattle.claim_queue.specs.Places.{name_at, told, told_rows, ArePlaced}
use Rattle.claim_queue.specs.Firsts.{IsHeld, IsBest}
use Rattle.claim_queue.specs.Counts.{AreFew}
use Rattle.claim_queue.specs.Heaps.{turn_at, HasNoTurn, HasTurn, IsKept, IsPut, IsTaken}
use Rattle.claim_queue.specs.WaitHeaps.{entry_turn, top_row, heap_at, memory_at, room_at, is_at, AreQueued, HaveHeaps}
use Rattle.claim_queue.proofs.HeldLemmas.{within-held, index-held}
use Rattle.claim_queue.proofs.LeastLemmas.{best-is, best-one}
use Rattle.claim_queue.proofs.TableLemmas.{held-within, held-some}
use Rattle.claim_queue.proofs.WaitLemmas.{heap-here, wait-absent, wait-held, wait-put, wait-taken}
use Rattle.claim_queue.proofs.QueueLemmas.{count-place, count-unknown, room-here, told-held, held-told, best-unknown, best-none, best-top}
use Rattle.claim_queue.proofs.ReserveLemmas.{have-more}

-- the best row is what the queue's definition says
pub best-shown : (name : List ℕ) (queues : List Queue) (rows : List (Option Waiting)) (waits : Waits) (best : Option ℕ) → queues ≡ waits.queues → rows ≡ waits.rows → IsBest name (record { queues = queues; rows = rows }) best → best ≡ best_of name waits
best-shown name queues rows waits best same_queues same_rows is =
    let there : IsBest name (record { queues = waits.queues; rows = waits.rows }) best =
    subst (λ (k : List Queue). IsBest name (record { queues = k; rows = waits.rows }) best) same_queues
    (subst (λ (r : List (Option Waiting)). IsBest name (record { queues = queues; rows = r }) best) same_rows is) in
    best-one name waits best (best_of name waits) there (best-is name waits)

module _ (queues : List Queue) (rows : List (Option Entry)) (heaps : List (Vec Turn Global)) (places : List ℕ) (placed : ArePlaced (length queues) rows) (queued : AreQueued rows heaps places) (have : HaveHeaps queues heaps) where
  -- how many rows wait in the queue at a place
  pub count-heap : (place : ℕ) (name : List ℕ) (waits : Waits) → told_rows queues rows ≡ waits.rows → place < length queues → name_at place queues ≡ name → length (heap_at place heaps) ≡ count_in name waits
  count-heap place name waits told_ within named =
      queued.count place ∙ (count-place queues place name have.apart within named rows placed ∙ ap (count_by (waits_in name)) told_)

  -- room that is left is memory that is left
  pub room-left : (place : ℕ) (name : List ℕ) (waits : Waits) → queues ≡ waits.queues → told_rows queues rows ≡ waits.rows → place < length queues → name_at place queues ≡ name → 1 ≤ spare_in name waits
      → length (heap_at place heaps) < memory_at place heaps
  room-left place name waits same told_ within named spare =
      let count = count-heap place name waits told_ within named in
      let room : room_in name waits.queues ≡ room_at place queues = ap (room_in name) (sym same) ∙ room-here queues place name have.apart within named in
      let memory = have.memory place within in
      let left : 1 ≤ room_in name waits.queues - count_in name waits = spare in
      omega arith

  abbrev seen : Waits
  seen = record { queues = queues; rows = told_rows queues rows }

  -- the best row stands at the top
  pub best-heap : (place : ℕ) (name : List ℕ) → place < length queues → name_at place queues ≡ name → IsBest name seen (top_row (heap_at place heaps))
  best-heap place name within named = by (heap_at place heaps) refl where
    by : (heap : List Turn) → heap_at place heaps ≡ heap → IsBest name seen (top_row (heap_at place heaps))
    by [] is = subst (λ (h : List Turn). IsBest name seen (top_row h)) (sym is) (best-none queues rows heaps places name placed queued place have.apart within named (ap length is))
    by (turn ∷ turns) is =
        let some : 0 < length (heap_at place heaps) = omega (arith, ap length is) in
        let top : IsBest name seen (Some (turn_at (turn ∷ turns) 0).row) =
        subst (λ (h : List Turn). IsBest name seen (Some (turn_at h 0).row)) is (best-top queues rows heaps places name placed queued place have.apart within named some) in
        subst (λ (h : List Turn). IsBest name seen (top_row h)) (sym is) top

  pub best-some : (place : ℕ) (name : List ℕ) (waits : Waits) (v : Vec Turn Global) → queues ≡ waits.queues → told_rows queues rows ≡ waits.rows → place < length queues → name_at place queues ≡ name → v ≡ slice_index_or heaps place v
      → top_row v.items ≡ best_of name waits
  best-some place name waits v same told_ within named here =
      let in_heaps : place < length heaps = let e = have.long in omega arith in
      let is : heap_at place heaps ≡ v.items = (heap-here heaps place v v in_heaps here).0 in
      best-shown name queues (told_rows queues rows) waits (top_row v.items) same told_ (subst (λ (h : List Turn). IsBest name seen (top_row h)) is (best-heap place name within named))

  pub best-no-queue : (name : List ℕ) (waits : Waits) → queues ≡ waits.queues → told_rows queues rows ≡ waits.rows → ((place : ℕ) → place < length queues → bytes_eq (name_at place queues) name ≡ false) → None ≡ best_of name waits
  best-no-queue name waits same told_ none = best-shown name queues (told_rows queues rows) waits None same told_ (best-unknown queues rows heaps places name placed queued none)

  -- how many rows wait in a queue, by its heap as it is read
  pub count-some : (place : ℕ) (name : List ℕ) (waits : Waits) (v : Vec Turn Global) → told_rows queues rows ≡ waits.rows → place < length queues → name_at place queues ≡ name → v ≡ slice_index_or heaps place v
      → (length v.items ≡ count_in name waits) × (length v.items ≤ length rows)
  count-some place name waits v told_ within named here =
      let in_heaps : place < length heaps = let e = have.long in omega arith in
      let is : heap_at place heaps ≡ v.items = (heap-here heaps place v v in_heaps here).0 in
      let count : length v.items ≡ count_by (is_at place) rows = sym (ap length is) ∙ queued.count place in
      let short = count_by-le-length (is_at place) rows in
      (sym (ap length is) ∙ count-heap place name waits told_ within named, omega arith)

  -- and in one that stands at no place
  pub count-none : (name : List ℕ) (waits : Waits) → told_rows queues rows ≡ waits.rows → ((place : ℕ) → place < length queues → bytes_eq (name_at place queues) name ≡ false) → count_in name waits ≡ 0
  count-none name waits told_ none = sym (ap (count_by (waits_in name)) told_) ∙ count-unknown queues name none rows placed

  -- for how many more rows there is room
  pub spare-some : (place : ℕ) (name : List ℕ) (waits : Waits) (v : Vec Turn Global) → queues ≡ waits.queues → told_rows queues rows ≡ waits.rows → place < length queues → name_at place queues ≡ name → v ≡ slice_index_or heaps place v
      → room_in name queues - length v.items ≡ spare_in name waits
  spare-some place name waits v same told_ within named here =
      ap (λ n. room_in name queues - n) (count-some place name waits v told_ within named here).0 ∙ ap (λ (k : List Queue). room_in name k - count_in name waits) same

  -- ---- the heap of the queue of an entry, as it is borrowed

  module _ (entry : Entry) (v : Vec Turn Global) (given : List ℕ) (within : entry.queue < length queues) (here : v ≡ slice_index_or heaps entry.queue v) (same : given ≡ places) where
    in_heaps : entry.queue < length heaps
    in_heaps = let e = have.long in omega arith

    here_is : heap_at entry.queue heaps ≡ v.items
    here_is = (heap-here heaps entry.queue v v in_heaps here).0

    memory_is : memory_at entry.queue heaps ≡ vec_capacity v
    memory_is = (heap-here heaps entry.queue v v in_heaps here).1

    pub wait-room : (name : List ℕ) (waits : Waits) → queues ≡ waits.queues → told_rows queues rows ≡ waits.rows → name_at entry.queue queues ≡ name → 1 ≤ spare_in name waits → length v.items < vec_capacity v
    wait-room name waits same_queues told_ named spare =
        let left = room-left entry.queue name waits same_queues told_ within named spare in
        let long : length (heap_at entry.queue heaps) ≡ length v.items = ap length here_is in
        let memory = memory_is in
        omega arith

    pub wait-few : (name : List ℕ) (waits : Waits) (old new : ℕ) → told_rows queues rows ≡ waits.rows → name_at entry.queue queues ≡ name → AreFew (length v.items) old new → AreFew (count_in name waits) old new
    wait-few name waits old new told_ named few =
        subst (λ n. AreFew n old new) (sym (ap length here_is) ∙ count-heap entry.queue name waits told_ within named) few

    pub wait-kept : IsKept v.items given
    wait-kept = subst (λ (l : List ℕ). IsKept v.items l) (sym same) (subst (λ (h : List Turn). IsKept h places) here_is (queued.kept entry.queue))

    pub wait-turn-absent : (turn : Turn) (row : ℕ) → turn ≡ entry_turn entry row → slice_get rows row ≡ Some None → HasNoTurn turn.row v.items × (turn.row < length given)
    wait-turn-absent turn row is none =
        let row_is : turn.row ≡ row = ap (λ (t : Turn). t.row) is in
        let absent : HasNoTurn turn.row (heap_at entry.queue heaps) = subst (λ n. HasNoTurn n (heap_at entry.queue heaps)) (sym row_is) (wait-absent rows heaps places queued entry.queue row none) in
        let lt = within-held rows row None none in
        let wide = queued.wide in
        let long : length given ≡ length places = ap length same in
        (subst (λ (h : List Turn). HasNoTurn turn.row h) here_is absent, omega arith)

    pub wait-added : (next : Vec Turn Global) (moved : List ℕ) (turn : Turn) (row : ℕ) → turn ≡ entry_turn entry row → slice_get rows row ≡ Some None → IsPut turn v.items next.items given moved → IsKept next.items moved
        → length next.items ≡ length v.items + 1 → length moved ≡ length given → AreQueued (slice_set rows row (Some entry)) (slice_set heaps entry.queue next) moved
    wait-added next moved turn row is none p kept more long =
        let put_ : IsPut (entry_turn entry row) (heap_at entry.queue heaps) next.items places moved =
        subst (λ (h : List Turn). IsPut (entry_turn entry row) h next.items places moved) (sym here_is)
        (subst (λ (l : List ℕ). IsPut (entry_turn entry row) v.items next.items l moved) same (subst (λ (t : Turn). IsPut t v.items next.items given moved) is p)) in
        let more_ : length next.items ≡ length (heap_at entry.queue heaps) + 1 = more ∙ ap (λ (h : List Turn). length h + 1) (sym here_is) in
        wait-put rows heaps places queued next moved row entry none (within-held rows row None none) in_heaps put_ kept more_ (long ∙ ap length same)

    pub wait-row-held : (row : ℕ) → IsHeld rows row entry → HasTurn row v.items given
    wait-row-held row held_ =
        subst (λ (l : List ℕ). HasTurn row v.items l) (sym same) (subst (λ (h : List Turn). HasTurn row h places) here_is (wait-held rows heaps places queued row entry held_))

    pub wait-removed : (next : Vec Turn Global) (moved : List ℕ) (row : ℕ) → IsHeld rows row entry → IsTaken row v.items next.items given moved → IsKept next.items moved
        → length next.items + 1 ≡ length v.items → length moved ≡ length given → AreQueued (slice_set rows row None) (slice_set heaps entry.queue next) moved
    wait-removed next moved row held_ p kept less long =
        let taken : IsTaken row (heap_at entry.queue heaps) next.items places moved =
        subst (λ (h : List Turn). IsTaken row h next.items places moved) (sym here_is) (subst (λ (l : List ℕ). IsTaken row v.items next.items l moved) same p) in
        let less_ : length next.items + 1 ≡ length (heap_at entry.queue heaps) = less ∙ ap length (sym here_is) in
        wait-taken rows heaps places queued next moved row entry held_ in_heaps taken kept less_ (long ∙ ap length same)

    pub wait-memory : (next : Vec Turn Global) → vec_capacity v ≤ vec_capacity next → HaveHeaps queues (slice_set heaps entry.queue next)
    wait-memory next more = have-more queues heaps have entry.queue (name_at entry.queue queues) 0 next within refl (subst (λ n. n ≤ vec_capacity next) (sym memory_is) more)

-- ---- the entry of a row that waits, as it is read

module _ (queues : List Queue) (rows : List (Option Entry)) (waits : Waits) (row : ℕ) (told_ : told_rows queues rows ≡ waits.rows) where
  entry-held : IsSome (slice_index_or waits.rows row None) → (entry : Entry) × IsHeld rows row entry
  entry-held some =
      let was = held-some waits.rows row some in
      let e = told-held queues rows row was.0 (subst (λ (l : List (Option Waiting)). IsHeld l row was.0) (sym told_) was.1) in
      (e.0, e.1)

  pub entry-here : (read : Option Entry) (entry : Entry) → IsSome (slice_index_or waits.rows row None) → read ≡ slice_index_or rows row read → read ≡ Some entry → IsHeld rows row entry
  entry-here read entry some here is =
      let e = entry-held some in
      let there : slice_index_or rows row read ≡ Some e.0 = index-held rows row (Some e.0) read e.1 in
      let both : Some e.0 ≡ Some entry = sym there ∙ (sym here ∙ is) in
      let same : e.0 ≡ entry = cc in
      subst (λ (x : Entry). IsHeld rows row x) same e.1

  pub entry-there : (read : Option Entry) → IsSome (slice_index_or waits.rows row None) → read ≡ slice_index_or rows row read → read ≡ None → ⊥
  entry-there read some here is =
      let e = entry-held some in
      let there : slice_index_or rows row read ≡ Some e.0 = index-held rows row (Some e.0) read e.1 in
      let both : Some e.0 ≡ None = sym there ∙ (sym here ∙ is) in
      cc

  pub entry-within : IsSome (slice_index_or waits.rows row None) → row < length rows
  entry-within some = let e = entry-held some in held-within rows row e.0 e.1

  -- the queue in which the row waits is that of its entry
  pub entry-queue : (entry : Entry) → IsHeld rows row entry → name_at entry.queue queues ≡ queue_of row waits
  entry-queue entry is =
      let seen_ : IsHeld waits.rows row (told queues entry) = subst (λ (l : List (Option Waiting)). IsHeld l row (told queues entry)) told_ (held-told queues rows row entry is) in
      let read : slice_index_or waits.rows row None ≡ Some (told queues entry) = index-held waits.rows row (Some (told queues entry)) None seen_ in
      sym (ap (λ (o : Option Waiting). option_map_or (λ (w : Waiting). w.queue) o []) read)
