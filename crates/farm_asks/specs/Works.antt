-- What a change is answered, given the tasks that it names as they stand after it (the queue service of the Taskcluster reference; which keys
-- a body has is this project's profile).
use Rattle.std.specs.Prelude.{ℕ, ◌-◌, pos, List, [], ◌∷◌, ◌++◌, map, length, codes, Option, Some, None, option_and_then, slice_get}
use Rattle.farm_text.specs.Document.{Document, null, whole, text, array, object, items_of, members_of}
use Rattle.task_types.specs.declared.change.Change.{Change}
use Rattle.task_types.specs.declared.change.Kind.{Kind}
use Rattle.task_types.specs.declared.change.Kind.TheVariants.{Claim as TakesRuns, Reclaim}
use Rattle.run_states.specs.declared.run.Claim.{Claim}
use Rattle.run_states.specs.Rows.{Row}
use Rattle.task_statuses.specs.Statuses.{moment_doc, definition_of, status_of}
use Rattle.farm_asks.specs.Replies.{status_body}

-- what a worker is told of a run that it has: its number, the status of its task, until when it is the worker's, more, and whose it is
abbrev pub held_run : ℕ → Row → Claim → List (List ℕ × Document) → Document
held_run run row claim more =
    object (members_of (
    (codes "runId", whole (pos run))
    ∷ (codes "status", status_of row)
    ∷ (codes "takenUntil", moment_doc claim.taken_until)
    ∷ more
    ++ (codes "workerGroup", text claim.worker_group)
    ∷ (codes "workerId", text claim.worker_id)
    ∷ []))

-- the same, where a worker has it
abbrev pub held_by : ℕ → Row → Option Claim → List (List ℕ × Document) → Document
held_by run row None more = null
held_by run row (Some claim) more = held_run run row claim more

-- the claim of the run of this number
abbrev pub claim_at : ℕ → Row → Option Claim
claim_at run row = option_and_then (λ r. r.claim) (slice_get row.runs run)

-- a run that its worker keeps
abbrev pub kept_doc : ℕ → Row → Document
kept_doc run row = held_by run row (claim_at run row) []

-- the number of the last run
abbrev pub last_number : Row → ℕ
last_number row = length row.runs - 1

-- the last run of a task, which a worker takes: with the task's definition
abbrev pub taken_doc : Row → Document
taken_doc row = held_by (last_number row) row (claim_at (last_number row) row) ((codes "task", definition_of row.definition) ∷ [])

-- the runs that a worker takes, as the body of an answer
abbrev pub work_body : List Row → Document
work_body rows = object (members_of ((codes "tasks", array (items_of (map taken_doc rows))) ∷ []))

-- what is told of the first of some tasks
abbrev pub of_first : (Row → Document) → List Row → Document
of_first tell [] = null
of_first tell (row ∷ rows) = tell row

-- What a change of each kind is answered: a claim with its runs, a reclaim with its run, and any other with the status of its task.
abbrev pub told_of : Kind → List Row → Document
told_of (TakesRuns claim) rows = work_body rows
told_of (Reclaim r) rows = of_first (kept_doc r.run) rows
told_of _ rows = of_first status_body rows

-- a change of this kind, at a moment
abbrev pub at_moment : ℕ → Kind → Change
at_moment moment kind = record { at = moment; kind = kind }
