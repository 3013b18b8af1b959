-- What an ask of a farm does to its disk, and what the disk has of a history.
use Rattle.std.specs.Prelude.{◌≡◌, ℕ, ◌+◌, ◌≤◌, true, false, Bool, ◌⊎◌, List, [], ◌∷◌, ◌++◌, length}
use Rattle.causes.specs.Causes.{Rose}
use Rattle.disk_base.specs.Contents.{Contents as Disk}
use Rattle.task_types.specs.declared.change.Change.{Change}
use Rattle.history.specs.Asks.{IsAsk}
use Rattle.history.specs.Histories.{entries, end_state, Leads}
use Rattle.farm_asks.specs.declared.config.Config.{Config}
use Rattle.farm_asks.specs.declared.reply.Asked.{Asked}
use Rattle.farm_asks.specs.Questions.{Asking}
use Rattle.farm_machine.specs.Entry.{Entry, call, disk_failed}
use Rattle.farm_machine.specs.Law.{Opening}
use Rattle.farm_machine.specs.Replay.{records_of, Restores}
use Rattle.farm_machine.specs.State.{State}
use Rattle.farm_machine.specs.Step.{IsToKeep, farm_rules, ticks_before}
use Rattle.task_index.specs.Contents.{Contents}
use Rattle.farm_core.specs.Records.{KeepsRecords, HasRecords, IsFailed}

-- the state of a farm
abbrev pub state_of : Config → Contents → Bool → State
state_of config contents halted = record { config = config; contents = contents; halted = halted }

-- the changes whose record failed in one ask: none, or what the call in which the disk failed was about to keep
abbrev pub AreFailedBy : State → Asking → Asked → Entry → List Change → Type 0
AreFailedBy old asking answer entry failed =
    (failed ≡ [])
    ⊎ ((change : Change) × (entry ≡ call asking disk_failed) × IsToKeep (end_state farm_rules old (ticks_before old asking answer)) asking change
    × (failed ≡ change ∷ []))

-- One ask of a farm at work: it is one step, or a tick and one; and, over a disk that tells what it holds, the records of its entries, in
-- their order, are kept on the disk, but for the one record in which the disk failed. Then the farm has halted, and only then. Over any disk the
-- count of records grows by those that were kept, also where the farm halted.
pub record AsksDisk (tells : Type 0) (old : State) (old_disk : Disk) (old_end old_count : ℕ) (asking : Asking) (answer : Asked) (new : State) (new_disk : Disk) (new_end new_count : ℕ) : Type 0 where
  pub call : Entry
  pub step : IsAsk farm_rules old asking answer call new
  pub failed : List Change
  pub failed_by : AreFailedBy old asking answer call failed
  pub whole : new.halted ≡ false → failed ≡ []
  pub keeps : tells → KeepsRecords old_disk old_end new_disk new_end (records_of (entries farm_rules old asking answer call)) failed
  pub counted : new_count ≡ old_count + length (records_of (entries farm_rules old asking answer call))

-- The count of the disk's faults does not fall: it rose where the farm halted, and stays where it did not.
pub record TellsFaults (opening now : ℕ) (halted : Bool) : Type 0 where
  pub later : opening ≤ now
  pub rose : halted ≡ true → Rose opening now
  pub stays : halted ≡ false → now ≡ opening

-- What a farm holds of a history since an opening: its disk's count, and where the disk tells it, the records of the opening and of the history,
-- and perhaps the one that failed.
pub record HoldsHistory (tells : Type 0) (disk : Disk) (end faults : ℕ) (state : State) (opening : Opening) (seen : List Entry) : Type 0 where
  pub counts : TellsFaults opening.faults faults state.halted
  pub failed : List Change
  pub failed_in : (failed ≡ []) ⊎ ((change : Change) × IsFailed opening.state seen change × (failed ≡ change ∷ []))
  pub records : tells → HasRecords disk end state (opening.records ++ records_of seen) failed

-- A farm at work was asked, that held a legal history since an opening whose records restore its state.
pub record WasAsked (tells : Type 0) (old new : Disk) : Type 0 where
  pub opening : Opening
  pub seen : List Entry
  pub state : State
  pub end : ℕ
  pub count : ℕ
  pub faults : ℕ
  pub restores : Restores opening.records opening.state.contents
  pub leads : Leads farm_rules opening.state seen state
  pub at_work : state.halted ≡ false
  pub holds : HoldsHistory tells old end faults state opening seen
  pub asking : Asking
  pub answer : Asked
  pub now : State
  pub end_now : ℕ
  pub count_now : ℕ
  pub asks : AsksDisk tells state old end count asking answer now new end_now count_now
