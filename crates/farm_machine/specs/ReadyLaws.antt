-- What holds of tasks that wait for others in every history of a farm: none is left ready, and none is scheduled twice.
use Rattle.std.specs.Prelude.{◌≡◌, ℕ, true, false, List, ◌++◌, map, Some}
use Rattle.history.specs.Histories.{end_state}
use Rattle.task_types.specs.declared.change.Change.{Change}
use Rattle.task_types.specs.declared.change.Kind.TheVariants.{Schedule}
use Rattle.run_states.specs.Rows.{Row}
use Rattle.task_index.specs.Changes.{after_kind}
use Rattle.task_index.specs.Contents.{Contents, HaveOwnIds}
use Rattle.task_index.specs.Ready.{is_ready, id_serves, has_ready}
use Rattle.farm_rows.specs.Starts.{starts, more_starts, starts_once, may_start, starts_by}
use Rattle.task_types.specs.declared.choices.Requires.{Requires}
use Rattle.farm_machine.specs.Changes.{changed}
use Rattle.farm_machine.specs.Entry.{Entry}
use Rattle.farm_machine.specs.Replay.{Restores}
use Rattle.farm_machine.specs.State.{State}
use Rattle.farm_machine.specs.Step.{farm_rules}

-- None ready: whatever entries come, no task is ready after them, where none was (of a farm that begins there is none, empty or from records).
abbrev pub LeavesNoneReady : Type 0
LeavesNoneReady =
    (opening : State) (history : List Entry) → has_ready opening.contents ≡ false
    → has_ready (end_state farm_rules opening history).contents ≡ false

-- Once: whatever entries come, no task was scheduled twice, where none was.
abbrev pub IsScheduledOnce : Type 0
IsScheduledOnce =
    (opening : State) (history : List Entry) → starts_once opening.contents.rows ≡ true
    → starts_once (end_state farm_rules opening history).contents.rows ≡ true

-- the tasks as a change itself leaves them, before they settle
abbrev pub rows_by : Contents → Change → List Row
rows_by contents change = (after_kind contents change.at change.kind).rows

-- How many first runs each task has by a change, task by task: by the change itself those that it had, one more where the change schedules the
-- task, and none where it creates it; and as the tasks settle one more for each that is ready by that, and no more for any other.
pub record StartsEach (contents : Contents) (moment : ℕ) (change : Change) : Type 0 where
  pub by_itself : map starts (rows_by contents change) ≡ starts_by change.kind contents.rows
  pub where_ready : map starts (changed contents moment (Some change)).rows ≡ more_starts (is_ready (rows_by contents change)) (rows_by contents change)

-- Ready: a change that schedules no task by itself makes a first run of each task that is ready by it, and of no other.
abbrev pub StartsWhereReady : Type 0
StartsWhereReady =
    (contents : Contents) (moment : ℕ) (change : Change) → may_start change.kind ≡ false → StartsEach contents moment change

-- Scheduled: a change that schedules a task makes one of that task, where it had no run, and of each that is ready by that, and of no other,
-- where the tasks have ids of their own (a farm's always have).
abbrev pub StartsWhatItSchedules : Type 0
StartsWhatItSchedules =
    (contents : Contents) (moment at : ℕ) (id : List ℕ) → HaveOwnIds contents.rows
    → StartsEach contents moment (record { at = at; kind = Schedule id })

-- For good: in a farm that began from records (an empty one from none), a task that serves those that wait for it does so whatever comes: a
-- rerun of it takes nothing back.
abbrev pub IsServedForGood : Type 0
IsServedForGood =
    (opening : State) (records : List Change) (before after : List Entry) (needs : Requires) (id : List ℕ)
    → Restores records opening.contents
    → id_serves needs (end_state farm_rules opening before).contents.rows id ≡ true
    → id_serves needs (end_state farm_rules opening (before ++ after)).contents.rows id ≡ true
