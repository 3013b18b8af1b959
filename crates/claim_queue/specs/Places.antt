-- How rows that wait are kept: each with the place of its queue. The contracts of private functions alone speak of these.
use Rattle.std.specs.Prelude.{ℕ, ◌<◌, List, [], ◌∷◌, map, Option, Some, None, option_map, slice_get}
use Rattle.std.specs.Option.{option_map_or}
use Rattle.claim_queue.specs.declared.entries.Entry.{Entry}
use Rattle.claim_queue.specs.declared.queues.Queue.{Queue}
use Rattle.claim_queue.specs.Waits.{Waiting}

-- the name of the queue at a place
abbrev pub name_at : ℕ → List Queue → List ℕ
name_at place queues = option_map_or (λ queue. queue.name) (slice_get queues place) []

-- a row that waits, by its entry: in the queue at the entry's place
abbrev pub told : List Queue → Entry → Waiting
told queues entry = record { queue = name_at entry.queue queues; priority = entry.priority; number = entry.number }

-- the rows that wait, by their entries
abbrev pub told_rows : List Queue → List (Option Entry) → List (Option Waiting)
told_rows queues rows = map (option_map (told queues)) rows

-- each entry has a place of so many
abbrev pub ArePlaced : ℕ → List (Option Entry) → Type 0
ArePlaced places [] = Unit {0}
ArePlaced places (None ∷ rows) = ArePlaced places rows
ArePlaced places (Some entry ∷ rows) = (entry.queue < places) × ArePlaced places rows
