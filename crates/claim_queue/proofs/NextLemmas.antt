-- The next turn of a queue stands in its heap, and so do those that were given.
use Rattle.std.proofs.Common.{◌≡◌, ℕ, ◌+◌, ◌*◌, ◌<◌, ◌≤◌, true, false, List, Option, Some, None, IfSome, IfNone, option_map, refl, sym, ap, ◌∙◌, subst, length, slice_get, slice_index, slice_index_or, Vec, arith}
use Rattle.std.specs.Global.{Global}
use Rattle.std.specs.Str.{bytes_eq}
use Rattle.claim_queue.specs.declared.entries.Entry.{Entry}
use Rattle.claim_queue.specs.declared.queues.Queue.{Queue}
use Rattle.claim_queue.specs.declared.turns.Turn.{Turn}
use Rattle.claim_queue.specs.Waits.{Waiting, Waits, waits_in}
use Rattle.claim_queue.specs.Firsts.{IsHeld, IsBest}
use Rattle.claim_queue.specs.Places.{name_at, told, told_rows, ArePlaced}
use Rattle.claim_queue.specs.Heaps.{turn_at, IsOrdered, IsIn}
use Rattle.claim_queue.specs.WaitHeaps.{entry_turn, heap_at, AreQueued, HaveHeaps}
use Rattle.claim_queue.specs.Behind.{is_behind, IsNoEarlier, IsAmong, AreGivenUnder, IsFirstUnder, waiting_turn, IsTurnBehind, IsNextTurn, IsPlaceOf, was_given, left_row, left_from, given_in}
use Rattle.claim_queue.specs.Counts.{AreAtMost}
use Rattle.claim_queue.proofs.BehindLemmas.{under-top}
use Rattle.claim_queue.proofs.GivenLemmas.{fewer-by}
use Rattle.claim_queue.proofs.QueueLemmas.{name-same, told-held, held-told, best-unknown, in-heap}
use Rattle.claim_queue.proofs.WaitLemmas.{heap-here}
use Rattle.claim_queue.proofs.WalkLemmas.{left-at, left-held, row-goes}

-- ---- the next turn stands in the heap of the queue

module _ (queues : List Queue) (rows : List (Option Entry)) (heaps : List (Vec Turn Global)) (places : List ℕ) (placed : ArePlaced (length queues) rows) (queued : AreQueued rows heaps places) (have : HaveHeaps queues heaps) (place : ℕ) (within : place < length queues) where
  next-in-heap : (last first : Option Turn) → IsFirstUnder 0 (heap_at place heaps) last first → IsNextTurn (name_at place queues) (told_rows queues rows) last first
  next-in-heap last first f = record { found = found first f.found; least = least } where
    found : (first : Option Turn) → IfSome first (λ turn. IsIn turn (heap_at place heaps) × (is_behind last turn ≡ true)) → IfSome first (IsTurnBehind (name_at place queues) (told_rows queues rows) last)
    found None g = tt
    found (Some turn) g =
        let t = queued.told place turn g.0 in
        record {
          waiting = told queues t.0;
          held = held-told queues rows turn.row t.0 t.1;
          here = name-same (name_at t.0.queue queues) (name_at place queues) (ap (λ n. name_at n queues) t.2);
          same = t.3;
          behind = g.1;
        }

    least : (row : ℕ) (waiting : Waiting) → IsHeld (told_rows queues rows) row waiting → bytes_eq waiting.queue (name_at place queues) ≡ true → is_behind last (waiting_turn waiting row) ≡ true → IsNoEarlier (waiting_turn waiting row) first
    least row waiting held here behind =
        let e = told-held queues rows row waiting held in
        let in_ = in-heap queues rows heaps places (name_at place queues) placed queued place have.apart within refl row e.0 e.1 (ap (λ (w : Waiting). bytes_eq w.queue (name_at place queues)) e.2 ∙ here) in
        let is : turn_at (heap_at place heaps) in_.0 ≡ waiting_turn waiting row = in_.2 ∙ ap (λ (w : Waiting). waiting_turn w row) e.2 in
        let up = under-top in_.0 in
        subst (λ (t : Turn). IsNoEarlier t first) is (f.least up.0 in_.0 up.1 in_.1 (subst (λ (t : Turn). is_behind last t ≡ true) (sym is) behind))

  -- by the heap as it is read
  pub next-ordered : (v : Vec Turn Global) → v ≡ slice_index_or heaps place v → IsOrdered v.items
  next-ordered v here =
      let in_heaps : place < length heaps = let e = have.long in omega arith in
      subst (λ (h : List Turn). IsOrdered h) (heap-here heaps place v v in_heaps here).0 (queued.kept place).0

  pub next-some : (waits : Waits) (v : Vec Turn Global) (last first : Option Turn) → queues ≡ waits.queues → told_rows queues rows ≡ waits.rows → v ≡ slice_index_or heaps place v → IsFirstUnder 0 v.items last first
      → IsNextTurn (name_at place waits.queues) waits.rows last first
  next-some waits v last first same told_ here f =
      let in_heaps : place < length heaps = let e = have.long in omega arith in
      let is : heap_at place heaps ≡ v.items = (heap-here heaps place v v in_heaps here).0 in
      let next_ = next-in-heap last first (subst (λ (h : List Turn). IsFirstUnder 0 h last first) (sym is) f) in
      subst (λ (k : List Queue). IsNextTurn (name_at place k) waits.rows last first) same (subst (λ (r : List (Option Waiting)). IsNextTurn (name_at place queues) r last first) told_ next_)

  -- ---- the rows that were given stand at the places that the look passes

  given-few : (last : Option Turn) (given : List ℕ) → AreGivenUnder 0 (heap_at place heaps) last given → length given ≤ given_in (name_at place queues) last (record { queues = queues; rows = told_rows queues rows })
  given-few last given g =
      let most = fewer-by (name_at place queues) after row given (told_rows queues rows) g.apart own was gone still in
      omega arith
    where
      after : List (Option Waiting)
      after = left_from (name_at place queues) last 0 (told_rows queues rows)

      row : ℕ → ℕ
      row = λ k. (turn_at (heap_at place heaps) k).row

      entry : (k : ℕ) → IsAmong k given → (e : Entry) × IsHeld rows (turn_at (heap_at place heaps) k).row e × (e.queue ≡ place) × (turn_at (heap_at place heaps) k ≡ entry_turn e (turn_at (heap_at place heaps) k).row)
      entry k among = queued.told place (turn_at (heap_at place heaps) k) (k, (g.each k among).2, refl)

      here : (k : ℕ) (among : IsAmong k given) → bytes_eq (name_at (entry k among).0.queue queues) (name_at place queues) ≡ true
      here k among = name-same (name_at (entry k among).0.queue queues) (name_at place queues) (ap (λ n. name_at n queues) (entry k among).2)

      own : (one other : ℕ) → IsAmong one given → IsAmong other given → (turn_at (heap_at place heaps) one).row ≡ (turn_at (heap_at place heaps) other).row → one ≡ other
      own one other in_one in_other same =
          let p = (queued.kept place).1 one (g.each one in_one).2 in
          let q = (queued.kept place).1 other (g.each other in_other).2 in
          sym p.1 ∙ (ap (slice_index places) same ∙ q.1)

      was : (k : ℕ) → IsAmong k given → (x : Option Waiting) × (slice_get (told_rows queues rows) (turn_at (heap_at place heaps) k).row ≡ Some x) × (waits_in (name_at place queues) x ≡ true)
      was k among = let e = entry k among in (Some (told queues e.0), held-told queues rows (turn_at (heap_at place heaps) k).row e.0 e.1, here k among)

      gone : (k : ℕ) → IsAmong k given → (x : Option Waiting) → slice_get (left_from (name_at place queues) last 0 (told_rows queues rows)) (turn_at (heap_at place heaps) k).row ≡ Some x → waits_in (name_at place queues) x ≡ false
      gone k among x is =
          let e = entry k among in
          let at = (turn_at (heap_at place heaps) k).row in
          let not_behind : is_behind last (waiting_turn (told queues e.0) at) ≡ false = subst (λ (t : Turn). is_behind last t ≡ false) e.3 (g.each k among).3 in
          let was_ : was_given (name_at place queues) last at (told queues e.0) ≡ true =
          row-goes (is_behind last (waiting_turn (told queues e.0) at)) (bytes_eq (name_at e.0.queue queues) (name_at place queues)) not_behind (here k among) in
          let none : left_row (name_at place queues) last at (Some (told queues e.0)) ≡ None = rw was_ refl in
          let read : slice_get (left_from (name_at place queues) last 0 (told_rows queues rows)) at ≡ Some None =
          left-at (name_at place queues) last (told_rows queues rows) at
          ∙ (ap (option_map (left_row (name_at place queues) last at)) (held-told queues rows at e.0 e.1) ∙ ap (λ (o : Option Waiting). Some o) none) in
          let both : Some x ≡ Some None = sym is ∙ read in
          let same : x ≡ None = cc in
          ap (waits_in (name_at place queues)) same

      still : (k : ℕ) (x : Option Waiting) → slice_get (left_from (name_at place queues) last 0 (told_rows queues rows)) k ≡ Some x → waits_in (name_at place queues) x ≡ true
          → (y : Option Waiting) × (slice_get (told_rows queues rows) k ≡ Some y) × (waits_in (name_at place queues) y ≡ true)
      still k None is waits = absurd (cc)
      still k (Some waiting) is waits = (Some waiting, (left-held (name_at place queues) last (told_rows queues rows) k waiting is).0, waits)

  pub next-few : (waits : Waits) (v : Vec Turn Global) (last : Option Turn) (given : List ℕ) (old new : ℕ) → queues ≡ waits.queues → told_rows queues rows ≡ waits.rows → v ≡ slice_index_or heaps place v → AreGivenUnder 0 v.items last given
      → AreAtMost (3 * length given + 1) old new → AreAtMost (3 * given_in (name_at place waits.queues) last waits + 1) old new
  next-few waits v last given old new same told_ here g few =
      let in_heaps : place < length heaps = let e = have.long in omega arith in
      let is : heap_at place heaps ≡ v.items = (heap-here heaps place v v in_heaps here).0 in
      let most = given-few last given (subst (λ (h : List Turn). AreGivenUnder 0 h last given) (sym is) g) in
      let fits : AreAtMost (3 * given_in (name_at place queues) last (record { queues = queues; rows = told_rows queues rows }) + 1) old new = (few.0, (let le = few.1 in omega arith)) in
      subst (λ (k : List Queue). AreAtMost (3 * given_in (name_at place k) last waits + 1) old new) same
      (subst (λ (r : List (Option Waiting)). AreAtMost (3 * given_in (name_at place queues) last (record { queues = waits.queues; rows = r }) + 1) old new) told_ fits)

-- ---- where the queue stands

module _ (queues : List Queue) (rows : List (Option Entry)) (heaps : List (Vec Turn Global)) (places : List ℕ) (placed : ArePlaced (length queues) rows) (queued : AreQueued rows heaps places) where
  pub place-is : (place : Option ℕ) (name : List ℕ) (waits : Waits) → queues ≡ waits.queues → told_rows queues rows ≡ waits.rows
      → IfSome place (λ p. (p < length queues) × (name_at p queues ≡ name)) → IfNone place ((p : ℕ) → p < length queues → bytes_eq (name_at p queues) name ≡ false) → IsPlaceOf place name waits
  place-is None name waits same told_ some none =
      let best : IsBest name (record { queues = queues; rows = told_rows queues rows }) None = best-unknown queues rows heaps places name placed queued none in
      subst (λ (r : List (Option Waiting)). IsBest name (record { queues = waits.queues; rows = r }) None) told_ best
  place-is (Some place) name waits same told_ some none = subst (λ (k : List Queue). (place < length k) × (name_at place k ≡ name)) same some
