-- How the bodies of a journal are read and replayed in the code; for private clauses.
use Rattle.std.specs.Prelude.{◌≡◌, ℕ, true, false, ◌⊎◌, Bool, List, Result, Ok, Err}
use Rattle.disk_journal.specs.declared.fault.OpenFault.{OpenFault}
use Rattle.disk_journal.specs.declared.fault.OpenFault.TheVariants.{Disk, Damaged, NoMemory}
use Rattle.task_types.specs.declared.change.Change.{Change}
use Rattle.farm_record.specs.Records.{IsRecord}
use Rattle.task_index.specs.Contents.{Contents}
use Rattle.farm_machine.specs.Replay.{may_replay, after_replay}
use Rattle.farm_core.specs.Opened.{Replays, IsBroken}

-- a body was read and its change replayed, or it is broken
abbrev pub IsRead : {E : Type 0} → Contents → List ℕ → Result Bool E → Contents → Type 0
IsRead old body (Ok true) new = (change : Change) × IsRecord change body × (may_replay old change ≡ true) × (new ≡ after_replay old change)
IsRead old body (Ok false) new = (change : Change) → IsRecord change body → may_replay old change ≡ false
IsRead old body (Err e) new = Unit {0}

-- all bodies were replayed, or one is broken
abbrev pub IsRestored : List (List ℕ) → Result Contents OpenFault → Type 0
IsRestored bodies (Ok contents) = Replays bodies contents
IsRestored bodies (Err (Damaged place)) = IsBroken bodies place
IsRestored bodies (Err NoMemory) = Unit {0}
IsRestored bodies (Err Disk) = ⊥

-- The first fault of a disk whose journal was refused so behind these bodies: of a damaged one that of a body, where one is broken.
abbrev pub IsFirstFault : List (List ℕ) → OpenFault → OpenFault → Type 0
IsFirstFault bodies (Damaged place) first = ((first ≡ Damaged place) × ((contents : Contents) × Replays bodies contents)) ⊎ IsRestored bodies (Err first)
IsFirstFault bodies NoMemory first = first ≡ NoMemory
IsFirstFault bodies Disk first = first ≡ Disk
