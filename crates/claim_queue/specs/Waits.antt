-- Rows that wait for a worker, each in its queue (the queue service of the Taskcluster reference: by priority, then the longest waiting).
use Rattle.std.specs.Prelude.{ℕ, ◌+◌, ◌-◌, max, Bool, false, ◌&&◌, ◌||◌, ◌==◌, nat_lt, List, [], ◌∷◌, ◌++◌, map, find, filter, Option, None, option_map, slice_index_or, if◌then◌else◌}
use Rattle.std.specs.Option.{option_map_or}
use Rattle.std.specs.List.{list_any, count_by, reduce}
use Rattle.std.specs.Str.{bytes_eq}
use Rattle.task_types.specs.declared.choices.Priority.{Priority}
use Rattle.task_types.specs.declared.choices.Priority.TheVariants.{Highest, VeryHigh, High, Medium, Low, VeryLow, Lowest}
use Rattle.claim_queue.specs.declared.queues.Queue.{Queue}
use Rattle.claim_queue.specs.Held.{up_to, held_from}

-- a row that waits: in which queue, with which priority, and with the number that it drew
pub record Waiting : Type 0 where
  pub queue : List ℕ
  pub priority : Priority
  pub number : ℕ

-- the queues for which room was made, and of each row where it waits, if it is held
pub record Waits : Type 0 where
  pub queues : List Queue
  pub rows : List (Option Waiting)

-- no queue, and no row
abbrev pub no_waits : Waits
no_waits = record { queues = []; rows = [] }

-- for how many rows room was made in the queue
abbrev pub room_in : List ℕ → List Queue → ℕ
room_in name queues = option_map_or (λ queue. queue.room) (find (λ queue. bytes_eq queue.name name) queues) 0

-- a row is held, and waits in the queue
abbrev pub waits_in : List ℕ → Option Waiting → Bool
waits_in name row = option_map_or (λ waiting. bytes_eq waiting.queue name) row false

-- how many rows wait in the queue
abbrev pub count_in : List ℕ → Waits → ℕ
count_in name waits = count_by (waits_in name) waits.rows

-- the queue in which a row waits
abbrev pub queue_of : ℕ → Waits → List ℕ
queue_of row waits = option_map_or (λ waiting. waiting.queue) (slice_index_or waits.rows row None) []

-- for how many more rows there is room in the queue
abbrev pub spare_in : List ℕ → Waits → ℕ
spare_in name waits = room_in name waits.queues - count_in name waits

-- room was made in the queue
abbrev pub knows : List ℕ → List Queue → Bool
knows name queues = list_any (λ queue. bytes_eq queue.name name) queues

-- a queue where there is room for so many at least, if it has this name
abbrev pub raised : List ℕ → ℕ → Queue → Queue
raised name room queue = if bytes_eq queue.name name then record { name = queue.name; room = max queue.room room } else queue

-- the queues where there is room in one of them for so many at least; it comes behind the others if it is none of them
abbrev pub with_room : List ℕ → ℕ → List Queue → List Queue
with_room name room queues =
    if knows name queues then map (raised name room) queues else queues ++ record { name = name; room = room } ∷ []

-- there is room in a queue for so many more, and for all rows below a number
abbrev pub roomier : List ℕ → ℕ → ℕ → Waits → Waits
roomier name more below waits =
    record { queues = with_room name (count_in name waits + more) waits.queues; rows = up_to below waits.rows }

-- the place of a priority, the highest first
abbrev pub rank : Priority → ℕ
rank Highest = 0
rank VeryHigh = 1
rank High = 2
rank Medium = 3
rank Low = 4
rank VeryLow = 5
rank Lowest = 6

-- one goes before another: by its priority, and of one priority by the lesser number
abbrev pub goes_before : Waiting → Waiting → Bool
goes_before one other =
    nat_lt (rank one.priority) (rank other.priority) || ((rank one.priority == rank other.priority) && nat_lt one.number other.number)

-- of two that wait, each with its row, the one that goes before the other, and else the first
abbrev pub better : Waiting × ℕ → Waiting × ℕ → Waiting × ℕ
better best row = if goes_before row.0 best.0 then row else best

-- the row that is claimed next in a queue: of those that wait in it the one that goes before all others
abbrev pub best_of : List ℕ → Waits → Option ℕ
best_of name waits =
    option_map (λ best. best.1) (reduce better (filter (λ row. bytes_eq row.0.queue name) (held_from 0 waits.rows)))
