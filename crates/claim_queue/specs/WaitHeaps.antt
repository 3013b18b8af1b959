-- How the heaps of the queues are kept. The contracts of private functions alone speak of these.
use Rattle.std.specs.Prelude.{◌≡◌, ℕ, ◌<◌, ◌≤◌, ◌==◌, Bool, false, List, [], length, Option, option_map, Vec, vec_capacity, slice_get}
use Rattle.std.specs.Option.{option_map_or}
use Rattle.std.specs.List.{count_by}
use Rattle.std.specs.Global.{Global}
use Rattle.claim_queue.specs.declared.entries.Entry.{Entry}
use Rattle.claim_queue.specs.declared.queues.Queue.{Queue}
use Rattle.claim_queue.specs.declared.turns.Turn.{Turn}
use Rattle.claim_queue.specs.Waits.{rank}
use Rattle.claim_queue.specs.Places.{name_at}
use Rattle.claim_queue.specs.Firsts.{IsHeld}
use Rattle.claim_queue.specs.Heaps.{IsIn, IsKept}

-- the turn of a row that waits
abbrev pub entry_turn : Entry → ℕ → Turn
entry_turn entry row = record { first = rank entry.priority; second = entry.number; row = row }

-- the row of the turn at the top of a heap
abbrev pub top_row : List Turn → Option ℕ
top_row heap = option_map (λ turn. turn.row) (slice_get heap 0)

-- the turns in the heap of a queue, by the queue's place
abbrev pub heap_at : ℕ → List (Vec Turn Global) → List Turn
heap_at queue heaps = option_map_or (λ heap. heap.items) (slice_get heaps queue) []

-- for how many turns the heap of a queue has memory
abbrev pub memory_at : ℕ → List (Vec Turn Global) → ℕ
memory_at queue heaps = option_map_or (λ heap. vec_capacity heap) (slice_get heaps queue) 0

-- for how many rows room was made in a queue, by its place
abbrev pub room_at : ℕ → List Queue → ℕ
room_at place queues = option_map_or (λ queue. queue.room) (slice_get queues place) 0

-- a row waits in the queue at a place
abbrev pub is_at : ℕ → Option Entry → Bool
is_at queue row = option_map_or (λ entry. entry.queue == queue) row false

-- each row that waits has its turn in the heap of its queue, and no other row has one there
pub record AreQueued (rows : List (Option Entry)) (heaps : List (Vec Turn Global)) (places : List ℕ) : Type 0 where
  pub told : (queue : ℕ) (turn : Turn) → IsIn turn (heap_at queue heaps)
      → (entry : Entry) × IsHeld rows turn.row entry × (entry.queue ≡ queue) × (turn ≡ entry_turn entry turn.row)
  pub found : (row : ℕ) (entry : Entry) → IsHeld rows row entry → IsIn (entry_turn entry row) (heap_at entry.queue heaps)
  pub kept : (queue : ℕ) → IsKept (heap_at queue heaps) places
  pub count : (queue : ℕ) → length (heap_at queue heaps) ≡ count_by (is_at queue) rows
  pub wide : length rows ≤ length places

-- no two queues have one name
abbrev pub AreNamedApart : List Queue → Type 0
AreNamedApart queues = (one other : ℕ) → one < length queues → other < length queues → name_at one queues ≡ name_at other queues → one ≡ other

-- each queue has a heap with memory for as many turns as it has room for rows
pub record HaveHeaps (queues : List Queue) (heaps : List (Vec Turn Global)) : Type 0 where
  pub long : length heaps ≡ length queues
  pub apart : AreNamedApart queues
  pub memory : (queue : ℕ) → queue < length queues → room_at queue queues ≤ memory_at queue heaps
