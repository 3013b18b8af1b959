-- The disk of a run: its opening, and what it has at the end.
use Rattle.std.specs.Prelude.{◌≡◌, ◌≢◌, ℕ, Bool, true, false, List, [], Option, Some, Ok, Err, option_to_list}
use Rattle.causes.specs.Causes.{Rose}
use Rattle.disk_journal.specs.declared.fault.OpenFault.{OpenFault}
use Rattle.disk_journal.specs.declared.fault.OpenFault.TheVariants as faults
use Rattle.task_index.specs.Contents.{Contents, no_contents}
use Rattle.farm_asks.specs.declared.config.Config.{Config}
use Rattle.farm_machine.specs.Entry.{Entry}
use Rattle.farm_machine.specs.Law.{Opening}
use Rattle.farm_machine.specs.Replay.{replayed}
use Rattle.farm_core.specs.Farm.{HoldsHistory}
use Rattle.farm_core.specs.Opened.{HasOpened, IsFarmDamaged, KeepsRefused}
use Rattle.farm_core.specs.Records.{AreRecords, Recorded}
use Rattle.disk_base.specs.Contents.{StopsLeave}
use Rattle.disk_journal.specs.Images.{IsImage, IsWithin}
use Rattle.disk_journal.specs.Records.{Opens}
use Rattle.farm_machine.specs.State.{State}
use Rattle.farm_machine.specs.Step.{farm_rules}
use Rattle.history.specs.Histories.{end_state}
use Rattle.console_commands.specs.declared.status.Status.{Status}
use Rattle.console_commands.specs.declared.status.Status.TheVariants.{Disk, NoMemory, Damaged}
use Rattle.houses.specs.House.{CanOpenAmong, WasOpened, after_opened, Lendings}
use Rattle.farm_cli.specs.Used.{LeavesConsole}
use Rattle.farm_cli.specs.Views.{Views}

-- the status that a refused opening calls for
abbrev pub status_of_fault : OpenFault → Status
status_of_fault faults.Disk = Disk
status_of_fault (faults.Damaged place) = Damaged
status_of_fault faults.NoMemory = NoMemory

-- the house refused to open the disk, and nothing else was asked for
pub record IsMissing {F S C N T I D : Type 0} (old new : Lendings F S C N T I D) (before now : ℕ) (name : List ℕ) (status : Status) : Type 0 where
  pub status_is : status ≡ Disk
  pub rose : Rose before now
  pub could : CanOpenAmong old.disk name (Err (record {}))
  pub left : LeavesConsole old new

-- why a disk has no farm that could be opened: a call of it failed; or none did, and what it holds is damaged at this place, or memory ran out
abbrev pub IsRefusedFor : {F S C N T I D : Type 0} → Views F S C N T I D → S → S → OpenFault → Type 0
IsRefusedFor views given back faults.Disk = Rose (views.disk_faults given) (views.disk_faults back)
IsRefusedFor views given back (faults.Damaged place) =
    (views.disk_faults back ≡ views.disk_faults given) × (views.disk_tells → IsFarmDamaged (views.disk_contents given).bytes place)
IsRefusedFor views given back faults.NoMemory = views.disk_faults back ≡ views.disk_faults given

-- The disk was opened, had no farm that could be opened, and came back; and nothing else was asked for. Over what an earlier farm left, a stop since
-- then leaves what it might have left before, or the same records, or these and the one that was pending behind them. Where no call of it failed it keeps
-- what it had.
pub record WasUnopened {F S C N T I D : Type 0} (views : Views F S C N T I D) (old new : Lendings F S C N T I D) (before now : ℕ) (name : List ℕ) (status : Status) : Type 0 where
  pub openings : now ≡ before
  pub given : S
  pub back : S
  pub disk : WasOpened old.disk new.disk name given back
  pub fault : OpenFault
  pub why : IsRefusedFor views given back fault
  pub stops : views.disk_tells → (bodies : List (List ℕ)) (pending : Option (List ℕ)) → IsImage [] bodies pending (views.disk_contents given).bytes
      → StopsLeave (views.disk_contents given) (views.disk_contents back) (IsWithin [] bodies (option_to_list pending))
  pub untouched : views.disk_tells → fault ≢ faults.Disk → KeepsRefused (views.disk_contents given) (views.disk_contents back)
  pub status_is : status ≡ status_of_fault fault
  pub console : new.console ≡ old.console
  pub clock : new.clock ≡ old.clock
  pub draws : new.draws ≡ old.draws
  pub doors : new.doors ≡ old.doors

-- the disk of this name was opened, and a farm from it, with this configuration and these tables
pub record HasFarm {F S C N T I D : Type 0} (views : Views F S C N T I D) (old new : Lendings F S C N T I D) (before now : ℕ) (name : List ℕ) (set_up config : Config) (contents : Contents) (recorded : Recorded S) : Type 0 where
  pub openings : now ≡ before
  pub given : S
  pub could : CanOpenAmong old.disk name (Ok given)
  pub lends : new ≡ record old { disk = after_opened old.disk }
  pub config_is : config ≡ set_up
  pub at_work : recorded.halted ≡ false
  pub kept : views.disk_faults recorded.disk ≡ views.disk_faults given
  pub opened : HasOpened views.disk_tells (views.disk_contents given).bytes (views.disk_contents recorded.disk) recorded.end recorded.count contents

-- A history begins from what a disk held: its tasks are the replay of these records, which are those of the disk's file, where the disk tells it.
pub record BeginsFrom {F S C N T I D : Type 0} (views : Views F S C N T I D) (given : S) (config : Config) (opening : Opening) : Type 0 where
  pub config_is : opening.state.config ≡ config
  pub at_work : opening.state.halted ≡ false
  pub faults : opening.faults ≡ views.disk_faults given
  pub leaves : replayed no_contents opening.records ≡ Some opening.state.contents
  pub bodies : List (List ℕ)
  pub recorded : AreRecords opening.records bodies
  pub opens : views.disk_tells → Opens [] (views.disk_contents given).bytes bodies

-- A disk holds a history that begins so: its count, and where it tells what it holds the records of the opening and of the history in their order,
-- in each image, and perhaps the one in which a call of it failed.
pub record DiskHolds {F S C N T I D : Type 0} (views : Views F S C N T I D) (disk : S) (state : State) (opening : Opening) (history : List Entry) : Type 0 where
  pub end : ℕ
  pub holds : HoldsHistory views.disk_tells (views.disk_contents disk) end (views.disk_faults disk) state opening history

-- The disk of this name was opened, a history was led through that begins from what it held, and it came back: at the end it holds that history.
-- `answer` and `serve` are two ways into this.
pub record LedOver {F S C N T I D : Type 0} (views : Views F S C N T I D) (old new : Lendings F S C N T I D) (config : Config) (name : List ℕ) (opening : Opening) (history : List Entry) : Type 0 where
  pub disk_given : S
  pub disk_back : S
  pub disk : WasOpened old.disk new.disk name disk_given disk_back
  pub begins : BeginsFrom views disk_given config opening
  pub holds : DiskHolds views disk_back (end_state farm_rules opening.state history) opening history

-- over a disk that failed the disk is the first cause
abbrev pub over_disk : Bool → Status → Status
over_disk true status = Disk
over_disk false status = status
