-- What a farm file is taken for: what it sets, or why it is refused (this project's own format).
use Rattle.std.specs.Prelude.{◌≡◌, ℕ, List, Option, IfSome}
use Rattle.causes.specs.Causes.{Rose}
use Rattle.farm_asks.specs.declared.config.Config.{Config}
use Rattle.farm_files.specs.Farms.{Says}
use Rattle.farm_files.specs.Files.{Breaks}
use Rattle.farm_files.specs.declared.fault.Fault.{Fault}
use Rattle.farm_files.specs.declared.reading.TheConstants.{LONGEST_FILE}
use Rattle.console_commands.specs.declared.status.Status.{Status}
use Rattle.console_commands.specs.declared.status.Status.TheVariants.{FarmFile, Read, NoMemory}

-- the file breaks no rule, and sets a farm up so
abbrev pub SetsUp : List ℕ → Config → Type 0
SetsUp bytes config = Says LONGEST_FILE bytes config

-- the file breaks a rule
abbrev pub HasFault : List ℕ → Type 0
HasFault bytes = (fault : Fault) × Breaks LONGEST_FILE bytes fault

-- Why a farm file was not taken: it breaks a rule, or a read of it failed. Want of memory is free. Unless a read failed, the count of them is as it was.
abbrev pub FileRefused : Option (List ℕ) → ℕ → ℕ → Status → Type 0
FileRefused left before now FarmFile = IfSome left HasFault × (now ≡ before)
FileRefused left before now Read = Rose before now
FileRefused left before now NoMemory = now ≡ before
FileRefused left before now _ = ⊥

-- the same of bytes that were read
abbrev pub BytesRefused : List ℕ → Status → Type 0
BytesRefused bytes FarmFile = HasFault bytes
BytesRefused bytes NoMemory = Unit {0}
BytesRefused bytes _ = ⊥
