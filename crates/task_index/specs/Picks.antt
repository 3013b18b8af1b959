-- Which run is claimed next in a queue (the queue service of the Taskcluster reference: by priority, then the longest waiting).
use Rattle.std.specs.Prelude.{ℕ, zero, suc, ◌+◌, ◌-◌, Bool, true, false, not, ◌&&◌, ◌==◌, List, [], ◌∷◌, length, filter, Option, Some, None, option_and_then, unwrap_or, bytes_eq, if◌then◌else◌}
use Rattle.std.specs.Option.{option_map_or}
use Rattle.std.specs.List.{reduce}
use Rattle.task_types.specs.Forms.{queue_name}
use Rattle.task_types.specs.declared.names.TaskQueue.{TaskQueue}
use Rattle.run_states.specs.Rows.{Row, last_run, is_pending}
use Rattle.task_types.specs.declared.change.RunName.{RunName}
use Rattle.claim_queue.specs.Waits.{Waiting, goes_before as waits_before}

-- two queues are one: by both parts of their names
abbrev pub is_same_queue : TaskQueue → TaskQueue → Bool
is_same_queue a b = bytes_eq a.provisioner_id b.provisioner_id && bytes_eq a.worker_type b.worker_type

-- a task waits for a worker in a queue
abbrev pub waits_in : TaskQueue → Row → Bool
waits_in queue row = is_pending row && is_same_queue row.definition.queue queue

-- a task waits for a worker in the queue of this name
abbrev pub waits_under : List ℕ → Row → Bool
waits_under name row = is_pending row && bytes_eq (queue_name row.definition.queue.provisioner_id row.definition.queue.worker_type) name

-- the number that the last run of a task drew
abbrev pub number_of : Row → ℕ
number_of row = unwrap_or (option_and_then (λ run. run.number) (last_run row)) 0

-- how a task waits (its queue is compared before)
abbrev pub waiting_of : Row → Waiting
waiting_of row = record { queue = []; priority = row.definition.priority; number = number_of row }

-- one task goes before another: by its priority, and of one priority by the lesser number
abbrev pub goes_before : Row → Row → Bool
goes_before one other = waits_before (waiting_of one) (waiting_of other)

-- of two tasks the one that goes before the other, and else the first
abbrev pub better : Row → Row → Row
better best row = if goes_before row best then row else best

-- the task whose run is claimed next in a queue, if one waits there
abbrev pub pick : TaskQueue → List Row → Option Row
pick queue rows = reduce better (filter (waits_in queue) rows)

-- the other tasks
abbrev pub without : List ℕ → List Row → List Row
without id rows = filter (λ row. not (bytes_eq row.id id)) rows

-- the last run of a task, by its name
abbrev pub last_name : Row → RunName
last_name row = record { id = row.id; run = length row.runs - 1 }

-- the run that is picked, if there is one, and then those that are picked of the other tasks
abbrev pub picked : (Row → List RunName) → Option Row → List RunName
picked others None = []
picked others (Some row) = last_name row ∷ others row

-- the runs that are claimed next in a queue, so many, or all that wait: each the pick of the tasks that are left
abbrev pub picks : ℕ → TaskQueue → List Row → List RunName
picks zero queue rows = []
picks (suc count) queue rows = picked (λ row. picks count queue (without row.id rows)) (pick queue rows)

-- a name is that of the last run of a task
abbrev pub names_last : RunName → Row → Bool
names_last name row = bytes_eq row.id name.id && (length row.runs == name.run + 1)

-- the runs of these names are, each in its turn, the pick of the tasks that are left
abbrev pub are_picks : TaskQueue → List RunName → List Row → Bool
are_picks queue [] rows = true
are_picks queue (name ∷ names) rows =
    option_map_or (names_last name) (pick queue rows) false && are_picks queue names (without name.id rows)
