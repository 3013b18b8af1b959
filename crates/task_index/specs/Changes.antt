-- Which changes may be made of the tasks, and what each leaves (the queue service of the Taskcluster reference).
use Rattle.std.specs.Prelude.{ℕ, ◌+◌, Bool, true, false, not, ◌&&◌, ◌||◌, nat_lt, nat_le, List, [], ◌∷◌, ◌++◌, length, find, Option, option_map, is_none, bytes_eq}
use Rattle.std.specs.List.{list_all}
use Rattle.std.specs.Option.{option_map_or}
use Rattle.farm_text.specs.declared.moment.TheConstants.{LAST_TOLD_MOMENT}
use Rattle.run_states.specs.declared.reasons.ReasonResolved.{ReasonResolved}
use Rattle.run_states.specs.declared.reasons.ReasonResolved.TheVariants as reasons
use Rattle.run_states.specs.declared.run.Claim.{Claim as RunClaim}
use Rattle.run_states.specs.Rows.{Row, is_unscheduled, is_resolved, is_running_at, new_row, scheduled}
use Rattle.run_states.specs.Moves.{may_rerun, run_again, canceled, claimed, reclaimed, resolved}
use Rattle.task_types.specs.declared.change.Change.{Change}
use Rattle.task_types.specs.declared.change.Claim.{Claim}
use Rattle.task_types.specs.declared.change.Creation.{Creation}
use Rattle.task_types.specs.declared.change.Kind.{Kind}
use Rattle.task_types.specs.declared.change.Kind.TheVariants.{Tick, Create, Schedule, Rerun, Cancel, Claim as TakesRuns, Reclaim, Resolve}
use Rattle.task_types.specs.declared.change.Report.{Report}
use Rattle.task_types.specs.declared.change.Report.TheVariants as reports
use Rattle.task_types.specs.declared.change.RunName.{RunName}
use Rattle.task_index.specs.Contents.{Contents, row_with}
use Rattle.task_index.specs.Ready.{settled}
use Rattle.task_index.specs.Due.{is_due, change_first, draws, advance}
use Rattle.task_index.specs.Picks.{are_picks}

-- each task that this one waits for stands, and expires no earlier than its deadline; or is the task itself
abbrev pub waits_well : Creation → List Row → Bool
waits_well creation rows =
    list_all (λ id. bytes_eq id creation.id || option_map_or (λ row. nat_le creation.definition.deadline row.definition.expires) (row_with id rows) false)
    creation.definition.dependencies

-- the scheduler of the tasks of a group, as the first of them has it
abbrev pub kept_scheduler : List ℕ → List Row → Option (List ℕ)
kept_scheduler group rows = option_map (λ row. row.definition.scheduler_id) (find (λ row. bytes_eq row.definition.task_group_id group) rows)

-- the task has the scheduler of its group, where that has tasks
abbrev pub may_join : Creation → List Row → Bool
may_join creation rows =
    option_map_or (λ kept. bytes_eq kept creation.definition.scheduler_id) (kept_scheduler creation.definition.task_group_id rows) true

-- a task may be created: no task has the id, its deadline is still to come, it waits well and may join its group, and there is room (own:
-- 1,000,000 tasks)
abbrev pub may_create : Contents → ℕ → Creation → Bool
may_create contents at creation =
    is_none (row_with creation.id contents.rows)
    && (nat_lt at creation.definition.deadline
    && (waits_well creation contents.rows && (may_join creation contents.rows && nat_lt (length contents.rows) 1_000_000)))

-- the change that creates a task at a moment
abbrev pub creating : ℕ → Creation → Change
creating at creation = record { at = at; kind = Create creation }

-- the task with an id stands, and passes a test
abbrev pub on_row : (Row → Bool) → List ℕ → List Row → Bool
on_row test id rows = option_map_or test (row_with id rows) false

-- a run is kept until a moment that is still to come, at most a day later
abbrev pub may_keep : ℕ → ℕ → Bool
may_keep at until = nat_lt at until && nat_le until (at + 86_400_000)

-- the runs are, each in its turn, the pick of the queue of the first one's task
abbrev pub are_first : List RunName → List Row → Bool
are_first [] rows = false
are_first (name ∷ names) rows = on_row (λ row. are_picks row.definition.queue (name ∷ names) rows) name.id rows

-- runs may be claimed: they are 1 to 32, and the first ones of their queue
abbrev pub may_claim : Contents → ℕ → Claim → Bool
may_claim contents at claim =
    may_keep at claim.taken_until && (nat_le (length claim.runs) 32 && are_first claim.runs contents.rows)

-- why a run ends that is reported so
abbrev pub reason_of : Report → ReasonResolved
reason_of reports.Completed = reasons.Completed
reason_of reports.Failed = reasons.Failed
reason_of reports.Superseded = reasons.Superseded
reason_of reports.WorkerShutdown = reasons.WorkerShutdown
reason_of reports.MalformedPayload = reasons.MalformedPayload
reason_of reports.ResourceUnavailable = reasons.ResourceUnavailable
reason_of reports.InternalError = reasons.InternalError
reason_of reports.IntermittentTask = reasons.IntermittentTask

-- What each kind of change needs, a line a kind. A tick is no change of one task: it is made by `advance`.
abbrev pub may_be : Contents → ℕ → Kind → Bool
may_be contents at (Create creation) = may_create contents at creation
may_be contents at (Schedule id) = on_row is_unscheduled id contents.rows
may_be contents at (Rerun id) = on_row (may_rerun at) id contents.rows
may_be contents at (Cancel id) = on_row (λ row. not (is_resolved row)) id contents.rows
may_be contents at (TakesRuns claim) = may_claim contents at claim
may_be contents at (Reclaim r) = may_keep at r.taken_until && on_row (is_running_at r.run) r.id contents.rows
may_be contents at (Resolve r) = on_row (is_running_at r.run) r.id contents.rows
may_be contents at Tick = false

-- a change may be made: at a moment that a clock may tell, which is not before the last, where nothing is due, and what its kind needs holds
abbrev pub may_apply : Contents → Change → Bool
may_apply contents change =
    nat_le contents.last change.at
    && (nat_le change.at LAST_TOLD_MOMENT && (not (is_due contents change.at) && may_be contents change.at change.kind))

-- a task is created: it stands behind the others, without a run
abbrev pub created : Contents → ℕ → Creation → Contents
created contents at creation = record {
  rows = contents.rows ++ new_row creation.id creation.definition ∷ [];
  last = at;
  next = contents.next;
}

-- a task has this id
abbrev pub has_id : List ℕ → Row → Bool
has_id id row = bytes_eq row.id id

-- the task with an id is changed
abbrev pub change_row : List ℕ → (Row → Row) → List Row → List Row
change_row id f rows = change_first (has_id id) f rows

-- the claim of each run that a worker takes at a moment
abbrev pub claim_of : ℕ → Claim → RunClaim
claim_of at claim =
    record { worker_group = claim.worker_group; worker_id = claim.worker_id; started = at; taken_until = claim.taken_until }

-- a worker takes runs, one after the other
abbrev pub all_claimed : RunClaim → List RunName → List Row → List Row
all_claimed claim [] rows = rows
all_claimed claim (name ∷ names) rows = all_claimed claim names (change_row name.id (claimed claim) rows)

-- the task with an id is changed at a moment, and draws so many numbers
abbrev pub changed : Contents → ℕ → List Row → ℕ → Contents
changed contents at rows drawn = record { rows = rows; last = at; next = contents.next + drawn }

-- what a change of each kind makes of the tasks, before they settle
abbrev pub after_kind : Contents → ℕ → Kind → Contents
after_kind contents at Tick = advance contents at
after_kind contents at (Create creation) = created contents at creation
after_kind contents at (Schedule id) = changed contents at (change_row id (scheduled contents.next at) contents.rows) 1
after_kind contents at (Rerun id) = changed contents at (change_row id (run_again contents.next at) contents.rows) 1
after_kind contents at (Cancel id) = changed contents at (change_row id (canceled at) contents.rows) 0
after_kind contents at (TakesRuns claim) = changed contents at (all_claimed (claim_of at claim) claim.runs contents.rows) 0
after_kind contents at (Reclaim r) = changed contents at (change_row r.id (reclaimed r.run r.taken_until) contents.rows) 0
after_kind contents at (Resolve r) =
    changed contents at (change_row r.id (resolved r.run (reason_of r.reason) contents.next at) contents.rows)
    (draws (reason_of r.reason) (row_with r.id contents.rows))

-- and then they settle (an advance settles at each of its turns)
abbrev pub after_change : Contents → ℕ → Kind → Contents
after_change contents at Tick = advance contents at
after_change contents at kind = settled (after_kind contents at kind) at

-- what a change leaves that may be made
unfoldable pub applied : Contents → Change → Contents
applied contents change = after_change contents change.at change.kind
