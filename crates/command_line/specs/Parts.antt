-- What the steps of reading a command line say of clap's values.
use Rattle.std.specs.Prelude.{◌≡◌, ◌≢◌, ℕ, List, false}
use Rattle.clap.specs.Words.{App, app_of}
use Rattle.clap.specs.declared.builder.Command.{Command as Program}
use Rattle.clap.specs.declared.builder.command.Command.TheViews.{out-Command}
use Rattle.clap.specs.declared.error.ErrorKind.{ErrorKind}
use Rattle.clap.specs.declared.error.ErrorKind.TheVariants.{OutOfMemory}
use Rattle.command_line.specs.Words.{with_disk, with_farm}
use Rattle.command_line.specs.declared.reading.WordsFault.{WordsFault}
use Rattle.command_line.specs.declared.reading.WordsFault.TheVariants.{Usage, NoMemory}

-- the built command is this one, and has no argument that its subcommands share
abbrev pub IsPlainLeaf : App → Program → Type 0
IsPlainLeaf app program = (app_of program ≡ app) × ((out-Command program).has_globals ≡ false)

-- the built command has this name, and takes FARM and nothing else
abbrev pub IsLeaf : List ℕ → Program → Type 0
IsLeaf name program = IsPlainLeaf (with_farm name) program

-- the built command has this name, and takes FARM and `--disk` and nothing else
abbrev pub IsDiskLeaf : List ℕ → Program → Type 0
IsDiskLeaf name program = IsPlainLeaf (with_disk name) program

-- a text for the user comes only of an error other than want of memory
abbrev pub TellsOf : ErrorKind → WordsFault → Type 0
TellsOf kind (Usage text) = kind ≢ OutOfMemory
TellsOf kind NoMemory = Unit {0}
