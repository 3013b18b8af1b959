-- Room that is made in a queue.
use Rattle.std.proofs.Common.{◌≡◌, ◌≢◌, ℕ, zero, suc, ◌+◌, ◌<◌, ◌≤◌, ◌⊎◌, inl, inr, Bool, true, false, max, List, [], ◌∷◌, ◌++◌, length, map, Option, Some, None, Vec, vec_capacity, refl, sym, ap, ◌∙◌, slice_get, slice_set, arith, length-append, length-set}
use Rattle.std.specs.Option.{option_map_or}
use Rattle.std.specs.Global.{Global}
use Rattle.std.specs.Str.{bytes_eq}
use Rattle.std.proofs.lemmas.List.{length-map}
use Rattle.claim_queue.specs.declared.queues.Queue.{Queue}
use Rattle.claim_queue.specs.declared.turns.Turn.{Turn}
use Rattle.claim_queue.specs.Waits.{raised}
use Rattle.claim_queue.specs.Places.{name_at}
use Rattle.claim_queue.specs.WaitHeaps.{heap_at, memory_at, room_at, HaveHeaps}
use Rattle.claim_queue.proofs.HeapLemmas.{same?}
use Rattle.claim_queue.proofs.PlaceLemmas.{name-raised, name-front}
use Rattle.claim_queue.proofs.WaitLemmas.{heap-same, heap-other, memory-same, memory-other}
use Rattle.claim_queue.proofs.QueueLemmas.{name-same, other-name}
use Rattle.claim_queue.proofs.WiderLemmas.{HoldSame}

-- ---- a queue that is known

room-raised : (name : List ℕ) (room : ℕ) (queues : List Queue) (place : ℕ) → room_at place (map (raised name room) queues) ≤ max (room_at place queues) room
room-raised name room [] place = omega arith
room-raised name room (queue ∷ queues) zero = by (bytes_eq queue.name name) refl where
  by : (t : Bool) → bytes_eq queue.name name ≡ t → room_at zero (map (raised name room) (queue ∷ queues)) ≤ max queue.room room
  by true is = rw is (omega arith)
  by false is = rw is (omega arith)
room-raised name room (queue ∷ queues) (suc place) = room-raised name room queues place

room-stays : (name : List ℕ) (room : ℕ) (queues : List Queue) (place : ℕ) → place < length queues → bytes_eq (name_at place queues) name ≡ false → room_at place (map (raised name room) queues) ≡ room_at place queues
room-stays name room [] place within ne = absurd (omega arith)
room-stays name room (queue ∷ queues) zero within ne = rw ne refl
room-stays name room (queue ∷ queues) (suc place) within ne = room-stays name room queues place (omega arith) ne

pub same-heaps : (heaps : List (Vec Turn Global)) (queue : ℕ) (v : Vec Turn Global) → queue < length heaps → v.items ≡ heap_at queue heaps → HoldSame heaps (slice_set heaps queue v)
same-heaps heaps queue v lt is = λ other. by other (same? other queue) where
  by : (other : ℕ) → (other ≡ queue) ⊎ (other ≢ queue) → heap_at other (slice_set heaps queue v) ≡ heap_at other heaps
  by other (inl same) = ap (λ n. heap_at n (slice_set heaps queue v)) same ∙ (heap-same heaps queue v lt ∙ (is ∙ ap (λ n. heap_at n heaps) (sym same)))
  by other (inr ne) = heap-other heaps queue other v ne

module _ (queues : List Queue) (heaps : List (Vec Turn Global)) (have : HaveHeaps queues heaps) (queue : ℕ) (name : List ℕ) (room : ℕ) (v : Vec Turn Global) (within : queue < length queues) (named : name_at queue queues ≡ name) (more : memory_at queue heaps ≤ vec_capacity v) where
  in_heaps : queue < length heaps
  in_heaps = let e = have.long in omega arith

  memory-more : (other : ℕ) → other < length queues → room_at other queues ≤ memory_at other (slice_set heaps queue v)
  memory-more other lt = by (same? other queue) where
    old : room_at other queues ≤ memory_at other heaps
    old = have.memory other lt

    by : (other ≡ queue) ⊎ (other ≢ queue) → room_at other queues ≤ memory_at other (slice_set heaps queue v)
    by (inl is) =
        let now : memory_at other (slice_set heaps queue v) ≡ vec_capacity v = ap (λ n. memory_at n (slice_set heaps queue v)) is ∙ memory-same heaps queue v in_heaps in
        let was : memory_at other heaps ≡ memory_at queue heaps = ap (λ n. memory_at n heaps) is in
        omega (arith, old)
    by (inr ne) = let now = memory-other heaps queue other v ne in omega (arith, old)

  -- the heap of one queue has more memory
  pub have-more : HaveHeaps queues (slice_set heaps queue v)
  have-more = record { long = length-set heaps queue v ∙ have.long; apart = have.apart; memory = memory-more }

  -- and there is room in that queue
  pub have-raised : room ≤ vec_capacity v → HaveHeaps (map (raised name room) queues) (slice_set heaps queue v)
  have-raised enough = record {
    long = length-set heaps queue v ∙ (have.long ∙ sym long);
    apart = λ one other p q same. have.apart one other (omega (arith, long)) (omega (arith, long)) (sym (name-raised name room queues one) ∙ (same ∙ name-raised name room queues other));
    memory = λ other lt. memory other (omega (arith, long)) (same? other queue);
  } where
    long : length (map (raised name room) queues) ≡ length queues
    long = length-map queues (raised name room)

    memory : (other : ℕ) → other < length queues → (other ≡ queue) ⊎ (other ≢ queue) → room_at other (map (raised name room) queues) ≤ memory_at other (slice_set heaps queue v)
    memory other lt (inl is) =
        let now : memory_at other (slice_set heaps queue v) ≡ vec_capacity v = ap (λ n. memory_at n (slice_set heaps queue v)) is ∙ memory-same heaps queue v in_heaps in
        let old = memory-more other lt in
        let raise = room-raised name room queues other in
        omega arith
    memory other lt (inr ne) =
        let differs : bytes_eq (name_at other queues) name ≡ false = other-name (name_at other queues) name (λ same. ne (have.apart other queue lt within (same ∙ sym named))) in
        let old = memory-more other lt in
        let stays = room-stays name room queues other lt differs in
        omega arith

-- ---- a queue that is new

get-front : {A : Type 0} (xs : List A) (x : A) (i : ℕ) → i < length xs → slice_get (xs ++ x ∷ []) i ≡ slice_get xs i
get-front [] x i lt = absurd (omega arith)
get-front (y ∷ xs) x zero lt = refl
get-front (y ∷ xs) x (suc i) lt = get-front xs x i (omega arith)

get-back : {A : Type 0} (xs : List A) (x : A) → slice_get (xs ++ x ∷ []) (length xs) ≡ Some x
get-back [] x = refl
get-back (y ∷ xs) x = get-back xs x

get-behind : {A : Type 0} (xs : List A) (x : A) (i : ℕ) → length xs < i → slice_get (xs ++ x ∷ []) i ≡ None
get-behind [] x zero lt = absurd (omega arith)
get-behind [] x (suc i) lt = refl
get-behind (y ∷ xs) x zero lt = absurd (omega arith)
get-behind (y ∷ xs) x (suc i) lt = get-behind xs x i (omega arith)

get-past : {A : Type 0} (xs : List A) (i : ℕ) → length xs ≤ i → slice_get xs i ≡ None
get-past [] i le = refl
get-past (y ∷ xs) zero le = absurd (omega arith)
get-past (y ∷ xs) (suc i) le = get-past xs i (omega arith)

abbrev turns_of : Option (Vec Turn Global) → List Turn
turns_of o = option_map_or (λ (h : Vec Turn Global). h.items) o []

abbrev memory_of : Option (Vec Turn Global) → ℕ
memory_of o = option_map_or (λ (h : Vec Turn Global). vec_capacity h) o 0

abbrev room_of : Option Queue → ℕ
room_of o = option_map_or (λ (q : Queue). q.room) o 0

abbrev name_of : Option Queue → List ℕ
name_of o = option_map_or (λ (q : Queue). q.name) o []

-- an empty heap behind the others
pub same-behind : (heaps : List (Vec Turn Global)) (v : Vec Turn Global) → v.items ≡ [] → HoldSame heaps (heaps ++ v ∷ [])
same-behind heaps v empty = λ queue. by queue (same? queue (length heaps)) where
  past : (queue : ℕ) → length heaps ≤ queue → heap_at queue heaps ≡ []
  past queue le = ap turns_of (get-past heaps queue le)

  far : (queue : ℕ) → queue ≢ length heaps → (queue < length heaps) ⊎ (length heaps < queue)
  far queue ne = grind arith

  apart : (queue : ℕ) → (queue < length heaps) ⊎ (length heaps < queue) → heap_at queue (heaps ++ v ∷ []) ≡ heap_at queue heaps
  apart queue (inl lt) = ap turns_of (get-front heaps v queue lt)
  apart queue (inr lt) = ap turns_of (get-behind heaps v queue lt) ∙ sym (past queue (omega arith))

  by : (queue : ℕ) → (queue ≡ length heaps) ⊎ (queue ≢ length heaps) → heap_at queue (heaps ++ v ∷ []) ≡ heap_at queue heaps
  by queue (inl is) = ap (λ n. heap_at n (heaps ++ v ∷ [])) is ∙ (ap turns_of (get-back heaps v) ∙ (empty ∙ sym (past queue (omega arith))))
  by queue (inr ne) = apart queue (far queue ne)

module _ (queues : List Queue) (heaps : List (Vec Turn Global)) (have : HaveHeaps queues heaps) (made : Queue) (v : Vec Turn Global) where
  abbrev more_queues : List Queue
  more_queues = queues ++ made ∷ []

  long-queues : length more_queues ≡ length queues + 1
  long-queues = length-append queues (made ∷ [])

  long-heaps : length (heaps ++ v ∷ []) ≡ length heaps + 1
  long-heaps = length-append heaps (v ∷ [])

  name-back : name_at (length queues) more_queues ≡ made.name
  name-back = ap name_of (get-back queues made)

  pub have-new : made.room ≤ vec_capacity v → ((place : ℕ) → place < length queues → bytes_eq (name_at place queues) made.name ≡ false) → HaveHeaps more_queues (heaps ++ v ∷ [])
  have-new enough none = record {
    long = let e = have.long in omega (arith, long-queues, long-heaps);
    apart = λ one other p q same. apart one other p q same (same? one (length queues)) (same? other (length queues));
    memory = λ queue lt. memory queue lt (same? queue (length queues));
  } where
    differs : (place : ℕ) → place < length queues → name_at place more_queues ≡ made.name → ⊥
    differs place lt same = let yes_ = name-same (name_at place queues) made.name (sym (name-front queues (made ∷ []) place lt) ∙ same) in let no_ = none place lt in let both : true ≡ false = sym yes_ ∙ no_ in cc

    apart : (one other : ℕ) → one < length more_queues → other < length more_queues → name_at one more_queues ≡ name_at other more_queues → (one ≡ length queues) ⊎ (one ≢ length queues) → (other ≡ length queues) ⊎ (other ≢ length queues) → one ≡ other
    apart one other p q same (inl is) (inl too) = is ∙ sym too
    apart one other p q same (inl is) (inr ne) =
        let lt : other < length queues = omega (arith, long-queues) in
        absurd (differs other lt (sym same ∙ (ap (λ n. name_at n more_queues) is ∙ name-back)))
    apart one other p q same (inr ne) (inl is) =
        let lt : one < length queues = omega (arith, long-queues) in
        absurd (differs one lt (same ∙ (ap (λ n. name_at n more_queues) is ∙ name-back)))
    apart one other p q same (inr ne) (inr not) =
        let lt : one < length queues = omega (arith, long-queues) in
        let too : other < length queues = omega (arith, long-queues) in
        have.apart one other lt too (sym (name-front queues (made ∷ []) one lt) ∙ (same ∙ name-front queues (made ∷ []) other too))

    memory : (queue : ℕ) → queue < length more_queues → (queue ≡ length queues) ⊎ (queue ≢ length queues) → room_at queue more_queues ≤ memory_at queue (heaps ++ v ∷ [])
    memory queue lt (inl is) =
        let room : room_at queue more_queues ≡ made.room = ap (λ n. room_at n more_queues) is ∙ ap room_of (get-back queues made) in
        let at : queue ≡ length heaps = is ∙ sym have.long in
        let here : memory_at queue (heaps ++ v ∷ []) ≡ vec_capacity v = ap (λ n. memory_at n (heaps ++ v ∷ [])) at ∙ ap memory_of (get-back heaps v) in
        omega arith
    memory queue lt (inr ne) =
        let within : queue < length queues = omega (arith, long-queues) in
        let in_heaps : queue < length heaps = let e = have.long in omega arith in
        let room : room_at queue more_queues ≡ room_at queue queues = ap room_of (get-front queues made queue within) in
        let here : memory_at queue (heaps ++ v ∷ []) ≡ memory_at queue heaps = ap memory_of (get-front heaps v queue in_heaps) in
        let old = have.memory queue within in
        omega arith
