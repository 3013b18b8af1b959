-- What a house in memory holds.
use Rattle.std.specs.Prelude.{ℕ, List, bytes_eq, string_bytes, vec_capacity, Bool, true, false, Option, Some, None}
use Rattle.houses.specs.declared.lending.Lending.{Lending}
use Rattle.houses.specs.declared.lending.Lending.TheVariants.{Ready, Out, Back, Untold}
use Rattle.listeners.specs.declared.coming.MemoryListener.{MemoryListener}
use Rattle.houses.specs.declared.memory_doors.MemoryDoors.{MemoryDoors}
use Rattle.houses.specs.declared.memory_doors.MemoryDoors.TheVariants.{Shut, Opened, Silent}
use Rattle.houses.specs.House.{Held, holds, refuses, Files, unopened, out, back, untold, Doors, shut, ajar, silent}

-- the file, where it is asked for by its name
abbrev pub held_if : {T : Type 0} → Bool → T → Held T
held_if true file = holds file
held_if false file = refuses

-- the only file of a house, which has this name
abbrev pub only_file : {T : Type 0} → List ℕ → T → List ℕ → Held T
only_file name file asked = held_if (bytes_eq name asked) file

-- what the house tells of its files, of which it has this one
abbrev pub files_of : {T : Type 0} → List ℕ → Lending T → Files T
files_of name (Ready file) = unopened (only_file name file)
files_of name Out = out
files_of name (Back file) = back file
files_of name Untold = untold

-- what it tells of its disks, of which it has this one, or none
abbrev pub disks_of : {T : Type 0} → Option (List ℕ × Lending T) → Files T
disks_of None = unopened (λ name. refuses)
disks_of (Some (name, disk)) = files_of name disk

-- what it tells of its doors, of which it has this one, or none
abbrev pub doors_of : MemoryDoors → Doors MemoryListener
doors_of (Shut None kept) = shut (vec_capacity kept) (λ address. refuses)
doors_of (Shut (Some named) kept) = shut (vec_capacity kept) (only_file (string_bytes named.address) named.door)
doors_of (Opened kept) = ajar (vec_capacity kept) kept.items
doors_of Silent = silent
