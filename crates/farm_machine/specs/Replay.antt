-- Replay: the changes that records tell are made one after the other, from no tasks. A change that may not come there has no meaning.
use Rattle.std.specs.Prelude.{◌≡◌, ℕ, ◌≤◌, nat_le, Bool, true, false, ◌&&◌, List, [], ◌∷◌, ◌++◌, Option, Some, None, Result, Ok, Err, if◌then◌else◌}
use Rattle.std.specs.Option.{option_to_list}
use Rattle.std.specs.List.{flat_map}
use Rattle.history.specs.Histories.{IsLegal, end_state}
use Rattle.farm_text.specs.declared.moment.TheConstants.{LAST_TOLD_MOMENT}
use Rattle.task_types.specs.declared.change.Change.{Change}
use Rattle.task_types.specs.declared.change.Kind.{Kind}
use Rattle.task_types.specs.declared.change.Kind.TheVariants.{Tick}
use Rattle.farm_record.specs.Records.{tick_at}
use Rattle.task_index.specs.Changes.{may_apply, applied}
use Rattle.task_index.specs.Contents.{Contents, no_contents, HaveOwnIds}
use Rattle.task_index.specs.Due.{is_due, advance}
use Rattle.task_index.specs.Ready.{has_ready}
use Rattle.farm_rows.specs.Starts.{starts_once}
use Rattle.farm_asks.specs.Questions.{Asking}
use Rattle.farm_machine.specs.Entry.{Entry, tick, call, finished}
use Rattle.farm_machine.specs.State.{State}
use Rattle.farm_machine.specs.Step.{IsToKeep, farm_rules}
use Rattle.farm_asks.specs.Works.{at_moment}

-- a tick may come at a moment that is not before the last, that a clock may tell, and at which something is due
abbrev pub may_tick : Contents → ℕ → Bool
may_tick contents moment = nat_le contents.last moment && (nat_le moment LAST_TOLD_MOMENT && is_due contents moment)

-- a change of this kind may come: a tick, or one of the tasks
abbrev pub may_come : Contents → ℕ → Kind → Bool
may_come contents at Tick = may_tick contents at
may_come contents at kind = may_apply contents (at_moment at kind)

-- what it leaves
abbrev pub left_by : Contents → ℕ → Kind → Contents
left_by contents at Tick = advance contents at
left_by contents at kind = applied contents (at_moment at kind)

abbrev pub may_replay : Contents → Change → Bool
may_replay contents change = may_come contents change.at change.kind

abbrev pub after_replay : Contents → Change → Contents
after_replay contents change = left_by contents change.at change.kind

-- what changes leave one after the other, or none where one of them may not come
abbrev pub replayed : Contents → List Change → Option Contents
replayed contents [] = Some contents
replayed contents (change ∷ changes) =
    if may_replay contents change then replayed (after_replay contents change) changes else None

-- something was tried that may come or not: it was done exactly where it may; and nothing changed where it may not, or memory ran out
abbrev pub IsTried : {E : Type 0} → Bool → Contents → Contents → Result Bool E → Contents → Type 0
IsTried may after old (Ok true) new = (may ≡ true) × (new ≡ after)
IsTried may after old (Ok false) new = (may ≡ false) × (new ≡ old)
IsTried may after old (Err e) new = new ≡ old

-- the changes that an entry keeps on a disk: a tick, or that of a finished call
abbrev pub records_by : Entry → List Change
records_by (tick moment) = tick_at moment ∷ []
records_by (call asking (finished judgement)) = option_to_list judgement.change
records_by (call asking outcome) = []

-- those of a history, in order
abbrev pub records_of : List Entry → List Change
records_of history = flat_map records_by history

-- the replay of these changes has the rows and the next number of these contents, and a last moment that is no greater
pub record Restores (changes : List Change) (contents : Contents) : Type 0 where
  pub reached : Contents
  pub replays : replayed no_contents changes ≡ Some reached
  pub rows : reached.rows ≡ contents.rows
  pub next : reached.next ≡ contents.next
  pub last : reached.last ≤ contents.last

-- Sound: what changes leave that may be replayed from no tasks has no task that is ready, none that was scheduled twice, and ids of their own.
abbrev pub ReplaysAreSound : Type 0
ReplaysAreSound =
    (changes : List Change) (contents : Contents) → replayed no_contents changes ≡ Some contents
    → (has_ready contents ≡ false) × (starts_once contents.rows ≡ true) × HaveOwnIds contents.rows

-- Restored: the records that an opening was replayed from, and those of a legal history since, restore the history's end.
abbrev pub RecordsRestore : Type 0
RecordsRestore =
    (opening : State) (records : List Change) (history : List Entry)
    → Restores records opening.contents → IsLegal farm_rules opening history
    → Restores (records ++ records_of history) (end_state farm_rules opening history).contents

-- Followed: what a call is about to keep may be replayed behind the records that restore its state.
abbrev pub KeptMayFollow : Type 0
KeptMayFollow =
    (state : State) (records : List Change) (asking : Asking) (change : Change)
    → Restores records state.contents → IsToKeep state asking change
    → (reached : Contents) × (replayed no_contents (records ++ change ∷ []) ≡ Some reached)

-- Cut short: the first of some changes that may be replayed may be replayed without the others.
abbrev pub FrontsReplay : Type 0
FrontsReplay =
    (records more : List Change) (reached : Contents)
    → replayed no_contents (records ++ more) ≡ Some reached → (middle : Contents) × (replayed no_contents records ≡ Some middle)
