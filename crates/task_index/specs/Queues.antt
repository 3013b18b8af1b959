-- The tasks that wait for a worker, each by its place and in its queue. The contracts of private functions alone speak of these.
use Rattle.std.specs.Prelude.{◌≡◌, ℕ, ◌+◌, ◌<◌, ◌≤◌, ◌==◌, false, List, [], Option, Some, None, map, filter, length, count_by, vec_len, vec_capacity, option_and_then, slice_get, slice_set, slice_index_or, bytes_eq, if◌then◌else◌}
use Rattle.std.specs.List.{AllByRecursion}
use Rattle.std.specs.Option.{ForSome}
use Rattle.task_types.specs.Forms.{queue_name}
use Rattle.task_types.specs.declared.names.TaskQueue.{TaskQueue}
use Rattle.run_states.specs.Rows.{Row, is_pending}
use Rattle.task_types.specs.declared.change.RunName.{RunName}
use Rattle.claim_queue.specs.Waits.{Waiting, Waits, room_in, spare_in}
use Rattle.task_index.specs.declared.queues.Queues.{Queues}
use Rattle.task_index.specs.Picks.{number_of}
use Rattle.task_index.specs.Left.{is_taken}

-- the name of a queue
abbrev pub name_of : TaskQueue → List ℕ
name_of queue = queue_name queue.provisioner_id queue.worker_type

-- a name with one slash, which so has two parts in one way alone
abbrev pub HasOneSlash : List ℕ → Type 0
HasOneSlash name = length (filter (λ byte. byte == 47) name) ≡ 1

-- how a task waits: in its queue, with its priority, and with the number that its last run drew
abbrev pub waiting_of : Row → Waiting
waiting_of row = record { queue = name_of row.definition.queue; priority = row.definition.priority; number = number_of row }

-- the same, where the task is pending
abbrev pub held_of : Row → Option Waiting
held_of row = if is_pending row then Some (waiting_of row) else None

-- the same, where no run of the task is among those
abbrev pub left_of : List RunName → Row → Option Waiting
left_of taken row = if is_taken taken row then None else held_of row

-- what is held at a place, if something is
abbrev pub held_at : ℕ → Waits → Option Waiting
held_at place waits = slice_index_or waits.rows place None

-- something, or nothing, is held of a row
abbrev pub with_row : ℕ → Option Waiting → Waits → Waits
with_row place waiting waits = record { queues = waits.queues; rows = slice_set waits.rows place waiting }

-- the tasks that are held are those that wait, without those of which a run is among those
abbrev pub AreLeft : List RunName → Waits → List Row → Type 0
AreLeft taken waits rows = (place : ℕ) → held_at place waits ≡ option_and_then (left_of taken) (slice_get rows place)

-- the names of the queues of some tasks
abbrev pub queue_names : List Row → List (List ℕ)
queue_names rows = map (λ row. name_of row.definition.queue) rows

-- how often a name is among these
abbrev pub times_named : List ℕ → List (List ℕ) → ℕ
times_named name names = count_by (λ other. bytes_eq other name) names

-- there is room for one task more of the queue of a name, behind tasks whose queues have these names: in its queue, and for its row and name
pub record HasRoomFor (name : List ℕ) (names : List (List ℕ)) (queues : Queues) : Type 0 where
  pub slash : HasOneSlash name
  pub queue : times_named name names + 1 ≤ room_in name queues.pending.queues
  pub row : length names < length queues.pending.rows
  pub memory : vec_len queues.names < vec_capacity queues.names

-- there is room for tasks whose queues have these names: each has its name, and a row of its own; and in each queue there is room for all its
-- tasks, and for one more in that of the task that is to come
pub record HaveRoom (queues : Queues) (names : List (List ℕ)) : Type 0 where
  pub named : queues.names.items ≡ names
  pub slashes : AllByRecursion HasOneSlash names
  pub long : length names ≤ length queues.pending.rows
  pub room : (name : List ℕ) → times_named name names ≤ room_in name queues.pending.queues
  pub next : ForSome queues.next (λ name. HasRoomFor name names queues)

-- a task is of the queue of a name, and there is room for it there and at a place
pub record MayAdd (name : List ℕ) (row : Row) (place : ℕ) (queues : Queues) : Type 0 where
  pub named : name ≡ name_of row.definition.queue
  pub memory : vec_len queues.names < vec_capacity queues.names
  pub free : slice_get queues.pending.rows place ≡ Some None
  pub room : 1 ≤ spare_in name queues.pending

-- of each task it is held how it waits, where it does, and there is room for all to wait at once
pub record AreQueues (queues : Queues) (rows : List Row) : Type 0 where
  pub kept : HaveRoom queues (queue_names rows)
  pub held : AreLeft [] queues.pending rows

-- the same, but for what is held of the task at a place
pub record AreQueuesBut (place : ℕ) (queues : Queues) (rows : List Row) : Type 0 where
  pub kept : HaveRoom queues (queue_names rows)
  pub others : (other : ℕ) → (other == place) ≡ false → held_at other queues.pending ≡ option_and_then held_of (slice_get rows other)

-- the same, where queues are kept
abbrev pub MayBeQueues : Option Queues → List Row → Type 0
MayBeQueues None rows = Unit {0}
MayBeQueues (Some queues) rows = AreQueues queues rows

-- there is room for a task of the queue of a name, where queues are kept
abbrev pub MayBeNoted : List ℕ → Option Queues → Type 0
MayBeNoted name None = Unit {0}
MayBeNoted name (Some queues) = queues.next ≡ Some name

-- queues are right, where they are kept, but for what is held of the task at a place
abbrev pub MayBeQueuesBut : ℕ → Option Queues → List Row → Type 0
MayBeQueuesBut place None rows = Unit {0}
MayBeQueuesBut place (Some queues) rows = AreQueuesBut place queues rows
