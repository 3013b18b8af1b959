-- What an opening of a farm finds on a disk.
use Rattle.std.specs.Prelude.{◌≡◌, ℕ, false, ◌⊎◌, List, [], ◌∷◌, ◌++◌, length, Some, Result, Ok, Err}
use Rattle.disk_base.specs.Contents.{Contents as Disk, LeftNow}
use Rattle.disk_journal.specs.Images.{IsWithin}
use Rattle.disk_journal.specs.Keeping.{IsReady}
use Rattle.disk_journal.specs.Opening.{IsStill, ClosesGate}
use Rattle.disk_journal.specs.Records.{records, Opens, IsDamaged, IsDamagedBehind}
use Rattle.task_types.specs.declared.change.Change.{Change}
use Rattle.farm_record.specs.Records.{IsRecord}
use Rattle.task_index.specs.Contents.{Contents, no_contents}
use Rattle.farm_machine.specs.Replay.{may_replay, replayed}
use Rattle.farm_core.specs.Records.{AreRecords}

-- the bodies are records of changes whose replay leaves these contents
pub record Replays (bodies : List (List ℕ)) (contents : Contents) : Type 0 where
  pub changes : List Change
  pub recorded : AreRecords changes bodies
  pub leaves : replayed no_contents changes ≡ Some contents

-- the body at this place is no record of a change that may come behind those before it
pub record IsBroken (bodies : List (List ℕ)) (place : ℕ) : Type 0 where
  pub before : List (List ℕ)
  pub body : List ℕ
  pub after : List (List ℕ)
  pub are : bodies ≡ before ++ body ∷ after
  pub at : place ≡ length (records before)
  pub contents : Contents
  pub replays : Replays before contents
  pub broken : (change : Change) → IsRecord change body → may_replay contents change ≡ false

-- a file's whole open records are these bodies: it opens to them, or is damaged behind them
abbrev pub HasBodies : List ℕ → List (List ℕ) → Type 0
HasBodies file bodies = Opens [] file bodies ⊎ ((place : ℕ) × IsDamagedBehind [] file bodies place)

-- A file is no farm's: none of its bodies is broken, and behind them its journal is damaged at this place; or the body there is broken.
abbrev pub IsFarmDamaged : List ℕ → ℕ → Type 0
IsFarmDamaged file place =
    ((bodies : List (List ℕ)) × IsDamagedBehind [] file bodies place × ((contents : Contents) × Replays bodies contents))
    ⊎ ((bodies : List (List ℕ)) × HasBodies file bodies × IsBroken bodies place)

-- A disk that was refused though no call of it failed: where its journal is damaged it is as it was; where it is whole each image opens to the
-- same bodies.
pub record KeepsRefused (old new : Disk) : Type 0 where
  pub as_it_was : (place : ℕ) → IsDamaged [] old.bytes place → IsStill old new
  pub untouched : (bodies : List (List ℕ)) → Opens [] old.bytes bodies → (image : List ℕ) → LeftNow new image → Opens [] image bodies

-- a file that a stop leaves within records that may be replayed, which is not damaged
pub record IsSound (file : List ℕ) : Type 0 where
  pub bodies : List (List ℕ)
  pub more : List (List ℕ)
  pub contents : Contents
  pub replays : Replays (bodies ++ more) contents
  pub within : IsWithin [] bodies more file
  pub undamaged : (place : ℕ) → IsFarmDamaged file place → ⊥

-- A farm was opened: its contents are the replay of so many bodies; and where the disk tells what it holds, these are the bodies of its file, and
-- they are ready on it, and nothing but the gate behind them was written.
pub record HasOpened (tells : Type 0) (file : List ℕ) (disk : Disk) (end count : ℕ) (contents : Contents) : Type 0 where
  pub bodies : List (List ℕ)
  pub replays : Replays bodies contents
  pub counted : count ≡ length bodies
  pub opens : tells → Opens [] file bodies
  pub ready : tells → IsReady [] disk end bodies
  pub gate : tells → ClosesGate file end disk.bytes

-- the disk of what was opened, or the one beside the fault
abbrev pub disk_left : {D O F : Type 0} → (O → D) → Result O (F × D) → D
disk_left disk_of (Ok opened) = disk_of opened
disk_left disk_of (Err refused) = refused.1
