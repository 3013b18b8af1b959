-- What an opening does to a disk.
use Rattle.std.specs.Prelude.{◌≡◌, ◌≢◌, ℕ, ◌≤◌, List, [], ◌∷◌, slice_index_or, Result, Ok, Err, IsErrOf, OnOk}
use Rattle.causes.specs.Causes.{Rose}
use Rattle.disk_base.specs.Contents.{Contents, IsSettled, StopsLeave, StopsAddNothing}
use Rattle.disk_base.specs.Calls.{written, Torn}
use Rattle.disk_journal.specs.declared.fault.OpenFault.{OpenFault}
use Rattle.disk_journal.specs.declared.fault.OpenFault.TheVariants.{Disk}

-- a disk is as it was, but for the moment
pub record IsStill (old new : Contents) : Type 0 where
  pub same : new.bytes ≡ old.bytes
  pub stops : StopsAddNothing old new

-- A count never falls, a fault of the disk came only where it rose, and what is no fault of the disk leaves it as it was.
pub record HasOpenCause {T : Type 0} (before now : ℕ) (result : Result T OpenFault) : Type 0 where
  pub later : before ≤ now
  pub failed : IsErrOf result Disk → Rose before now
  pub kept : OnOk result (now ≡ before)
  pub spared : (fault : OpenFault) → fault ≢ Disk → IsErrOf result fault → now ≡ before

-- what an opening answered: of what it hands back beside a fault, the fault alone
abbrev pub answer_of : {T R F : Type 0} → (R → F) → Result T R → Result T F
answer_of fault_of (Ok opened) = Ok opened
answer_of fault_of (Err refused) = Err (fault_of refused)

-- a closed gate is put at the end place of a file where it does not stand there, and no other byte changes
pub record ClosesGate (file : List ℕ) (end : ℕ) (new : List ℕ) : Type 0 where
  pub closed : slice_index_or file end 1 ≡ 0 → new ≡ file
  pub mended : slice_index_or file end 1 ≢ 0 → new ≡ written end (0 ∷ []) file

-- The gate behind the bodies was closed where it was not.
pub record Mends {T E : Type 0} (end : ℕ) (file : List ℕ) (old new : Contents) (result : Result T E) : Type 0 where
  pub settled : OnOk result (IsSettled new)
  pub closed : OnOk result (slice_index_or file end 1 ≡ 0 → new.bytes ≡ file)
  pub mended : OnOk result (slice_index_or file end 1 ≢ 0 → new.bytes ≡ written end (0 ∷ []) file)
  pub stops : StopsLeave old new (λ image. (slice_index_or file end 1 ≢ 0) × Torn end 1 file image)
