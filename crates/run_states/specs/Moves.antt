-- What workers and callers do to a task, and what each of these is answered (the queue service of the Taskcluster reference).
use Rattle.std.specs.Prelude.{ℕ, ◌+◌, ◌-◌, min, ◌&&◌, not, nat_le, nat_lt, Bool, true, false, [], ◌∷◌, ◌++◌, length, Option, Some, None, Result, Ok, Err, slice_get, if◌then◌else◌}
use Rattle.std.specs.Option.{option_map_or}
use Rattle.run_states.specs.declared.reasons.ReasonCreated.{ReasonCreated}
use Rattle.run_states.specs.declared.reasons.ReasonCreated.TheVariants.{Rerun}
use Rattle.run_states.specs.declared.reasons.ReasonResolved.{ReasonResolved}
use Rattle.run_states.specs.declared.reasons.ReasonResolved.TheVariants.{Canceled, ClaimExpired}
use Rattle.run_states.specs.declared.refusal.Refusal.{Refusal}
use Rattle.run_states.specs.declared.refusal.Refusal.TheVariants as refusals
use Rattle.run_states.specs.declared.run.Claim.{Claim}
use Rattle.run_states.specs.Reasons.{retry_after}
use Rattle.run_states.specs.Runs.{pending_run, taken, kept, ended, ended_for, change_last, change_at}
use Rattle.run_states.specs.Rows.{Row, is_unscheduled, is_resolved, is_pending, is_running_at, loses_claim, finished}

-- a worker takes the pending run of a task; any other task stays
abbrev pub claimed : Claim → Row → Row
claimed claim row = if is_pending row then record row { runs = change_last (taken claim) row.runs } else row

-- a worker keeps a running run until this moment; any other run stays
abbrev pub reclaimed : ℕ → ℕ → Row → Row
reclaimed number moment row = if is_running_at number row then record row { runs = change_at number (kept moment) row.runs } else row

-- a task gets one more pending run, and has one retry fewer, while it has one left
abbrev pub retried : ReasonCreated → ℕ → ℕ → Row → Row
retried created number at row =
    if nat_lt 0 row.retries_left
    then record row { retries_left = row.retries_left - 1; runs = row.runs ++ pending_run created number at ∷ [] }
    else row

-- a task after the end of a run, where a new run is to be made for this reason, or none
abbrev pub followed : Option ReasonCreated → ℕ → ℕ → Row → Row
followed None number at row = row
followed (Some created) number at row = retried created number at row

-- the run at a place ends for a reason, and is followed by a new run where the reason has one and a retry is left
abbrev pub closed : ℕ → ReasonResolved → ℕ → ℕ → Row → Row
closed place reason number at row =
    followed (retry_after reason) number at (record row { runs = change_at place (ended reason at) row.runs })

-- a running run is resolved for this reason; any other run stays
abbrev pub resolved : ℕ → ReasonResolved → ℕ → ℕ → Row → Row
resolved run reason number at row = if is_running_at run row then closed run reason number at row else row

-- the claim of a task falls due, where it does so at this moment or before: its last run ends, and a new one follows while a retry is left
abbrev pub expired : ℕ → ℕ → Row → Row
expired number at row = if loses_claim at row then closed (length row.runs - 1) ClaimExpired number at row else row

-- a task is canceled: it is resolved, if it was not
abbrev pub canceled : ℕ → Row → Row
canceled at row = finished Canceled at row

-- a task may be run again: it is resolved, its deadline is still to come, and it has fewer than 50 runs
abbrev pub may_rerun : ℕ → Row → Bool
may_rerun at row = is_resolved row && (nat_lt at row.definition.deadline && nat_lt (length row.runs) 50)

-- a resolved task is run again, where it may be: it gets one more pending run, and the retries of its definition, as far as they and all
-- the runs are 50
abbrev pub run_again : ℕ → ℕ → Row → Row
run_again number at row =
    if may_rerun at row
    then record row {
      retries_left = min row.definition.retries (50 - (length row.runs + 1));
      runs = row.runs ++ pending_run Rerun number at ∷ [];
    }
    else row

-- why a run that is not running is refused: there is none of this number, or it is not running
abbrev pub run_refusal : ℕ → Row → Refusal
run_refusal number row = if nat_lt number (length row.runs) then refusals.NotRunning else refusals.NoRun

-- the answer to a reclaim
abbrev pub reclaim_answer : ℕ → Row → Result Bool Refusal
reclaim_answer number row = if is_running_at number row then Ok true else Err (run_refusal number row)

-- the run of this number is there, and ended for this reason
abbrev pub ended_for_at : ℕ → ReasonResolved → Row → Bool
ended_for_at number reason row = option_map_or (ended_for reason) (slice_get row.runs number) false

-- the answer to a report: a running run is resolved, one that ended so already stays, and any other is refused
abbrev pub resolve_answer : ℕ → ReasonResolved → Row → Result Bool Refusal
resolve_answer number reason row =
    if is_running_at number row then Ok true
    else if ended_for_at number reason row then Ok false
    else Err (run_refusal number row)

-- the answer to a rerun: a pending or running task stays; of an unscheduled task, at or after the deadline, and with 50 runs it is refused
abbrev pub rerun_answer : ℕ → Row → Result Bool Refusal
rerun_answer at row =
    if is_unscheduled row then Err refusals.Unscheduled
    else if not (is_resolved row) then Ok false
    else if nat_le row.definition.deadline at then Err refusals.DeadlineCame
    else if nat_le 50 (length row.runs) then Err refusals.FiftyRuns
    else Ok true
