-- What a run did with what its house lent it.
use Rattle.std.specs.Prelude.{◌≡◌, ℕ, ◌+◌, ◌⊎◌, List, Option, Some, None, IfSome, Err}
use Rattle.causes.specs.Causes.{Rose}
use Rattle.command_line.specs.declared.command.Command.{Command}
use Rattle.command_line.specs.declared.command.Command.TheVariants.{OverFarm, Sign, Bulk, Render}
use Rattle.command_line.specs.declared.command.Work.{Work}
use Rattle.command_line.specs.declared.command.Work.TheVariants.{Answer, Expand, Check, Serve}
use Rattle.command_line.specs.declared.load.Load.{Load}
use Rattle.command_line.specs.declared.signing.Signing.{Signing}
use Rattle.farm_files.specs.declared.reading.TheConstants.{LONGEST_FILE}
use Rattle.farm_asks.specs.declared.config.Config.{Config}
use Rattle.http_wire.specs.Whole.{piece_size, LosesWithin}
use Rattle.console_commands.specs.declared.status.Status.{Status}
use Rattle.console_commands.specs.declared.status.Status.TheVariants.{Usage, Opening, NoMemory}
use Rattle.farm_cli.specs.Checking.{Checks, CheckedOver}
use Rattle.farm_cli.specs.Disks.{IsMissing, WasUnopened}
use Rattle.console_commands.specs.Expanding.{Expands}
use Rattle.farm_cli.specs.FarmFile.{SetsUp, FileRefused}
use Rattle.farm_cli.specs.Heard.{ServedOver}
use Rattle.houses.specs.House.{CanOpenAmong, WasOpened, Lendings}
use Rattle.farm_cli.specs.Loading.{Loads}
use Rattle.console_commands.specs.Rendering.{Renders}
use Rattle.farm_cli.specs.Serving.{Conversed, ConversedOver}
use Rattle.console_commands.specs.Signing.{Signs}
use Rattle.farm_cli.specs.Used.{LeavesConsole, UsedConsole}
use Rattle.farm_cli.specs.Views.{Views}

-- the disk of this name was opened and this was done over the farm that it keeps, or it has no farm that could be opened
abbrev pub DidOver : {F S C N T I D : Type 0} → Views F S C N T I D → Lendings F S C N T I D → Lendings F S C N T I D → ℕ → ℕ → List ℕ → Status → Type 0 → Type 0
DidOver views old new before now name status Did = Did ⊎ (WasUnopened views old new before now name status ⊎ IsMissing old new before now name status)

-- work was done over a farm that was set up so
abbrev pub Obeyed : {F S C N T I D : Type 0} → Views F S C N T I D → Lendings F S C N T I D → Lendings F S C N T I D → ℕ → ℕ → Config → Work → Status → Type 0
Obeyed views old new before now config (Answer None) status = (now ≡ before) × Conversed views old new config status
Obeyed views old new before now config (Answer (Some disk)) status = DidOver views old new before now disk status (ConversedOver views old new before now config disk status)
Obeyed views old new before now config (Serve service) status = DidOver views old new before now service.disk status (ServedOver views old new before now config service status)
Obeyed views old new before now config Expand status = (now ≡ before) × UsedConsole views old new (λ before after. Expands config.roles before after status)
Obeyed views old new before now config (Check None) status = (now ≡ before) × UsedConsole views old new (λ before after. Checks config before after status)
Obeyed views old new before now config (Check (Some disk)) status = DidOver views old new before now disk status (CheckedOver views old new before now config disk status)

-- A farm file was opened, read, and came back: no read of it failed, and it sets a farm up, over which the work was done; or it was not taken.
abbrev pub RanOverFile : {F S C N T I D : Type 0} → Views F S C N T I D → Lendings F S C N T I D → Lendings F S C N T I D → ℕ → ℕ → Work → F → F → Status → Type 0
RanOverFile views old new before now work opened closed status =
    ((config : Config) × IfSome (views.file_left opened) (λ bytes. SetsUp bytes config) × (views.file_faults closed ≡ views.file_faults opened)
    × Obeyed views old new before now config work status)
    ⊎ (FileRefused (views.file_left opened) (views.file_faults opened) (views.file_faults closed) status × (now ≡ before) × LeavesConsole old new)

-- the opening of the farm file was refused, and nothing else was asked for
pub record WasRefused {F S C N T I D : Type 0} (old new : Lendings F S C N T I D) (before now : ℕ) (name : List ℕ) (status : Status) : Type 0 where
  pub status_is : status ≡ Opening
  pub rose : Rose before now
  pub could : CanOpenAmong old.file name (Err (record {}))
  pub file : new.file ≡ old.file
  pub others : LeavesConsole old new

-- the farm file was opened, and came back after a run over it; no more was read of it than one piece past its greatest length
pub record RanOver {F S C N T I D : Type 0} (views : Views F S C N T I D) (old new : Lendings F S C N T I D) (before now : ℕ) (farm : List ℕ) (work : Work) (status : Status) : Type 0 where
  pub opened : F
  pub closed : F
  pub file : WasOpened old.file new.file farm opened closed
  pub lost : LosesWithin (LONGEST_FILE + piece_size) (views.file_left opened) (views.file_left closed)
  pub ran : RanOverFile views old new before now work opened closed status

-- a request was signed, and no farm file was asked for
pub record RanSigning {F S C N T I D : Type 0} (views : Views F S C N T I D) (old new : Lendings F S C N T I D) (before now : ℕ) (signing : Signing) (status : Status) : Type 0 where
  pub openings : now ≡ before
  pub file : new.file ≡ old.file
  pub used : UsedConsole views old new (λ before after. Signs signing before after status)

-- a generated load was run, and no farm file was asked for
pub record RanLoad {F S C N T I D : Type 0} (views : Views F S C N T I D) (old new : Lendings F S C N T I D) (before now : ℕ) (load : Load) (status : Status) : Type 0 where
  pub openings : now ≡ before
  pub file : new.file ≡ old.file
  pub used : UsedConsole views old new (λ before after. Loads load before after status)

-- a template was rendered, and no farm file was asked for
pub record RanRendering {F S C N T I D : Type 0} (views : Views F S C N T I D) (old new : Lendings F S C N T I D) (before now : ℕ) (status : Status) : Type 0 where
  pub openings : now ≡ before
  pub file : new.file ≡ old.file
  pub used : UsedConsole views old new (λ before after. Renders before after status)

-- a command was run
abbrev pub RanCommand : {F S C N T I D : Type 0} → Views F S C N T I D → Lendings F S C N T I D → Lendings F S C N T I D → ℕ → ℕ → Command → Status → Type 0
RanCommand views old new before now (OverFarm farm work) status = WasRefused old new before now farm status ⊎ RanOver views old new before now farm work status
RanCommand views old new before now (Sign signing) status = RanSigning views old new before now signing status
RanCommand views old new before now (Bulk load) status = RanLoad views old new before now load status
RanCommand views old new before now Render status = RanRendering views old new before now status

-- the words were refused: they have no reading, or memory ran out; and nothing was asked for
pub record WordsRefused {F S C N T I D : Type 0} (old new : Lendings F S C N T I D) (before now : ℕ) (said : Option Command) (status : Status) : Type 0 where
  pub why : (status ≡ NoMemory) ⊎ ((status ≡ Usage) × (said ≡ None))
  pub openings : now ≡ before
  pub file : new.file ≡ old.file
  pub others : LeavesConsole old new

-- A run by its words: they were refused, or the command that they ask for was run.
abbrev pub Ran : {F S C N T I D : Type 0} → Views F S C N T I D → Lendings F S C N T I D → Lendings F S C N T I D → ℕ → ℕ → Option Command → Status → Type 0
Ran views old new before now said status =
    WordsRefused old new before now said status ⊎ ((command : Command) × (said ≡ Some command) × RanCommand views old new before now command status)
