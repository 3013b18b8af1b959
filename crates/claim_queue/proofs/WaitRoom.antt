-- Room that is made for rows that wait.
use Rattle.std.proofs.Common.{◌≡◌, ℕ, ◌+◌, ◌<◌, ◌≤◌, ◌^◌, false, List, [], ◌∷◌, ◌++◌, length, map, Option, Result, Ok, Err, MatchResult, Vec, vec_capacity, refl, sym, ap, ◌∙◌, subst, slice_set, slice_index_or, arith, length-append}
use Rattle.std.specs.Global.{Global}
use Rattle.std.specs.Str.{bytes_eq}
use Rattle.std.proofs.lemmas.List.{length-map}
use Rattle.claim_queue.specs.declared.entries.Entry.{Entry}
use Rattle.claim_queue.specs.declared.queues.Queue.{Queue}
use Rattle.claim_queue.specs.declared.turns.Turn.{Turn}
use Rattle.claim_queue.specs.Held.{up_to}
use Rattle.claim_queue.specs.Waits.{Waits, raised}
use Rattle.claim_queue.specs.Places.{name_at, ArePlaced}
use Rattle.claim_queue.specs.Heaps.{IsWider}
use Rattle.claim_queue.specs.WaitHeaps.{memory_at, AreQueued, HaveHeaps}
use Rattle.claim_queue.proofs.PlaceLemmas.{placed-after}
use Rattle.claim_queue.proofs.WaitLemmas.{heap-here}
use Rattle.claim_queue.proofs.WiderLemmas.{HoldSame, queued-wider, queued-roomier}
use Rattle.claim_queue.proofs.ReserveLemmas.{same-heaps, have-more, have-raised, same-behind, have-new}

-- what always holds of how rows that wait are kept
abbrev pub AreWell : List Queue → List (Option Entry) → List (Vec Turn Global) → List ℕ → Type 0
AreWell queues rows heaps places = (length rows < 2 ^ 32) × ArePlaced (length queues) rows × AreQueued rows heaps places × HaveHeaps queues heaps

module _ (queues : List Queue) (rows : List (Option Entry)) (heaps : List (Vec Turn Global)) (places wider : List ℕ) (well : AreWell queues rows heaps places) (w : IsWider places wider) where
  -- all stays, and there may be more places
  pub well-stays : (later : List Queue) (after : List (Option Entry)) (next : List (Vec Turn Global)) → later ≡ queues → after ≡ rows → next ≡ heaps → AreWell later after next wider
  well-stays later after next same_queues same_rows same_heaps =
      subst (λ (k : List Queue). AreWell k after next wider) (sym same_queues)
      (subst (λ (r : List (Option Entry)). AreWell queues r next wider) (sym same_rows)
      (subst (λ (h : List (Vec Turn Global)). AreWell queues rows h wider) (sym same_heaps)
      (well.0, well.1, queued-roomier rows heaps heaps places wider well.2 (λ queue. refl) w, well.3)))

  -- ---- a queue that is known

  module _ (queue : ℕ) (v next : Vec Turn Global) (within : queue < length queues) (here : v ≡ slice_index_or heaps queue v) (items : next.items ≡ v.items) (more : vec_capacity v ≤ vec_capacity next) where
    in_heaps : queue < length heaps
    in_heaps = let e = well.3.long in omega arith

    hold : HoldSame heaps (slice_set heaps queue next)
    hold = same-heaps heaps queue next in_heaps (items ∙ sym (heap-here heaps queue v v in_heaps here).0)

    memory : memory_at queue heaps ≤ vec_capacity next
    memory = let m = (heap-here heaps queue v v in_heaps here).1 in omega arith

    -- its heap has more memory
    pub well-kept : (after : List (Option Entry)) → after ≡ rows → AreWell queues after (slice_set heaps queue next) wider
    well-kept after same_rows =
        subst (λ (r : List (Option Entry)). AreWell queues r (slice_set heaps queue next) wider) (sym same_rows)
        (well.0, well.1, queued-roomier rows heaps (slice_set heaps queue next) places wider well.2 hold w, have-more queues heaps well.3 queue (name_at queue queues) 0 next within refl memory)

    -- and there is room in it, and for all rows below a number
    pub well-wider : (name : List ℕ) (room below : ℕ) (later : List Queue) (grown : List (Option Entry)) → name_at queue queues ≡ name → later ≡ map (raised name room) queues → grown ≡ up_to below rows → length grown < 2 ^ 32 → below ≤ length wider → room ≤ vec_capacity next
        → AreWell later grown (slice_set heaps queue next) wider
    well-wider name room below later grown named later_is grown_is small le enough =
        let long : length later ≡ length queues = ap length later_is ∙ length-map queues (raised name room) in (
          small,
          placed-after (length queues) (length later) rows grown below well.1 (omega arith) grown_is,
          subst (λ (r : List (Option Entry)). AreQueued r (slice_set heaps queue next) wider) (sym grown_is) (queued-wider rows heaps (slice_set heaps queue next) places wider below well.2 hold w le),
          subst (λ (k : List Queue). HaveHeaps k (slice_set heaps queue next)) (sym later_is) (have-raised queues heaps well.3 queue name room next within named memory enough),
        )

  -- ---- a queue that is new

  pub well-new : (made : Queue) (v : Vec Turn Global) (below : ℕ) (later : List Queue) (grown : List (Option Entry)) (next : List (Vec Turn Global)) → ((place : ℕ) → place < length queues → bytes_eq (name_at place queues) made.name ≡ false) → later ≡ queues ++ made ∷ [] → next ≡ heaps ++ v ∷ []
      → v.items ≡ [] → made.room ≤ vec_capacity v → grown ≡ up_to below rows → length grown < 2 ^ 32 → below ≤ length wider → AreWell later grown next wider
  well-new made v below later grown next none later_is next_is empty enough grown_is small le =
      let long : length later ≡ length queues + 1 = ap length later_is ∙ length-append queues (made ∷ []) in
      let queued : AreQueued grown (heaps ++ v ∷ []) wider =
      subst (λ (r : List (Option Entry)). AreQueued r (heaps ++ v ∷ []) wider) (sym grown_is) (queued-wider rows heaps (heaps ++ v ∷ []) places wider below well.2 (same-behind heaps v empty) w le) in
      let have : HaveHeaps later (heaps ++ v ∷ []) = subst (λ (k : List Queue). HaveHeaps k (heaps ++ v ∷ [])) (sym later_is) (have-new queues heaps well.3 made v enough none) in (
        small,
        placed-after (length queues) (length later) rows grown below well.1 (omega arith) grown_is,
        subst (λ (h : List (Vec Turn Global)). AreQueued grown h wider) (sym next_is) queued,
        subst (λ (h : List (Vec Turn Global)). HaveHeaps later h) (sym next_is) have,
      )

-- ---- what a call tells, by what it left and what was there

pub told-result : {A E : Type 0} (result : Result A E) (new made seen wanted old : Waits) → MatchResult result (λ _. new ≡ made) (λ _. new ≡ seen) → made ≡ wanted → seen ≡ old → MatchResult result (λ _. new ≡ wanted) (λ _. new ≡ old)
told-result (Ok x) new made seen wanted old p q r = p ∙ q
told-result (Err e) new made seen wanted old p q r = p ∙ r
