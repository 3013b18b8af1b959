-- Why a run ended with its status.
use Rattle.std.specs.Prelude.{◌≡◌, ℕ, ◌≤◌, ◌⊎◌, List, length, Option, Some, None, IfSome}
use Rattle.causes.specs.Causes.{Rose}
use Rattle.command_line.specs.declared.command.Command.{Command}
use Rattle.command_line.specs.declared.command.Command.TheVariants.{OverFarm, Sign, Bulk, Render}
use Rattle.command_line.specs.declared.command.Work.{Work}
use Rattle.command_line.specs.declared.command.Work.TheVariants.{Answer, Expand, Check, Serve}
use Rattle.command_line.specs.declared.load.Load.{Load}
use Rattle.command_line.specs.declared.signing.Signing.{Signing}
use Rattle.command_line.specs.Words.{disk_of}
use Rattle.farm_core.specs.Opened.{IsFarmDamaged}
use Rattle.farm_asks.specs.declared.config.Config.{Config}
use Rattle.console_commands.specs.declared.status.Status.{Status}
use Rattle.console_commands.specs.declared.status.Status.TheVariants.{Done, Usage, FarmFile, Input, Opening, Disk, Door, Read, Write, NoMemory, Wire, Damaged}
use Rattle.farm_cli.specs.Ends.{EndsWith}
use Rattle.console_commands.specs.Expanding.{IsExpansion, IsBadInput}
use Rattle.farm_cli.specs.FarmFile.{SetsUp, HasFault}
use Rattle.farm_cli.specs.Faults.{IsServed, IsDoorBroken, IsLinkUnread, IsLinkUnwritten, IsLinkCut}
use Rattle.houses.specs.House.{WasLent, WasOpened, Lendings}
use Rattle.console_commands.specs.Inputs.{longest_input}
use Rattle.console_commands.specs.Rendering.{IsRendering, IsUnrendered}
use Rattle.console_commands.specs.Signing.{IsTooLong}
use Rattle.farm_cli.specs.Views.{Views}

-- the farm file that the words name was opened and came back
pub record FileLent {F S C N T I D : Type 0} (old new : Lendings F S C N T I D) (said : Option Command) : Type 0 where
  pub farm : List ℕ
  pub work : Work
  pub asked : said ≡ Some (OverFarm farm work)
  pub opened : F
  pub closed : F
  pub file : WasOpened old.file new.file farm opened closed

-- the farm file breaks a rule, and no read of it failed
pub record FileHasFault {F S C N T I D : Type 0} (views : Views F S C N T I D) (old new : Lendings F S C N T I D) (said : Option Command) : Type 0 where
  pub lent : FileLent old new said
  pub fault : IfSome (views.file_left lent.opened) HasFault
  pub reads_kept : views.file_faults lent.closed ≡ views.file_faults lent.opened

-- the farm file's count of faults rose
pub record FileFailed {F S C N T I D : Type 0} (views : Views F S C N T I D) (old new : Lendings F S C N T I D) (said : Option Command) : Type 0 where
  pub lent : FileLent old new said
  pub rose : Rose (views.file_faults lent.opened) (views.file_faults lent.closed)

-- the disk of this name was opened and came back, and no call of it failed
pub record DiskKept {F S C N T I D : Type 0} (views : Views F S C N T I D) (old new : Lendings F S C N T I D) (name : List ℕ) : Type 0 where
  pub given : S
  pub back : S
  pub disk : WasOpened old.disk new.disk name given back
  pub kept : views.disk_faults back ≡ views.disk_faults given

-- the same of the disk that is asked for, if one is
abbrev pub KeepsDisk : {F S C N T I D : Type 0} → Views F S C N T I D → Lendings F S C N T I D → Lendings F S C N T I D → Option (List ℕ) → Type 0
KeepsDisk views old new None = new.disk ≡ old.disk
KeepsDisk views old new (Some name) = DiskKept views old new name

-- the farm file sets a farm up, no read of it failed, nor a call of the disk, and this is so of that farm and of the work
pub record FileTaken {F S C N T I D : Type 0} (views : Views F S C N T I D) (old new : Lendings F S C N T I D) (said : Option Command) (IsSo : Config → Work → Type 0) : Type 0 where
  pub lent : FileLent old new said
  pub config : Config
  pub sets_up : IfSome (views.file_left lent.opened) (λ bytes. SetsUp bytes config)
  pub reads_kept : views.file_faults lent.closed ≡ views.file_faults lent.opened
  pub disk : KeepsDisk views old new (disk_of lent.work)
  pub is_so : IsSo config lent.work

-- the farm file sets a farm up, and the disk that the work asks for was opened and came back, and this is so of it
pub record DiskMet {F S C N T I D : Type 0} (views : Views F S C N T I D) (old new : Lendings F S C N T I D) (said : Option Command) (IsSo : S → S → Type 0) : Type 0 where
  pub lent : FileLent old new said
  pub config : Config
  pub sets_up : IfSome (views.file_left lent.opened) (λ bytes. SetsUp bytes config)
  pub reads_kept : views.file_faults lent.closed ≡ views.file_faults lent.opened
  pub name : List ℕ
  pub asked : disk_of lent.work ≡ Some name
  pub given : S
  pub back : S
  pub disk : WasOpened old.disk new.disk name given back
  pub is_so : IsSo given back

-- a call of the disk failed
abbrev pub DiskFailed : {F S C N T I D : Type 0} → Views F S C N T I D → Lendings F S C N T I D → Lendings F S C N T I D → Option Command → Type 0
DiskFailed views old new said = DiskMet views old new said (λ given back. Rose (views.disk_faults given) (views.disk_faults back))

-- no call of the disk failed, and what it held is no farm's, where it tells what it holds
abbrev pub DiskDamaged : {F S C N T I D : Type 0} → Views F S C N T I D → Lendings F S C N T I D → Lendings F S C N T I D → Option Command → Type 0
DiskDamaged views old new said =
    (place : ℕ) × DiskMet views old new said (λ given back.
    (views.disk_faults back ≡ views.disk_faults given) × (views.disk_tells → IsFarmDamaged (views.disk_contents given).bytes place))

-- the console was lent and came back, this count of its faults rose, and the other is as it was
pub record ConsoleFailed {F S C N T I D : Type 0} (faults others : C → ℕ) (old new : Lendings F S C N T I D) : Type 0 where
  pub given : C
  pub back : C
  pub lent : WasLent old.console new.console given back
  pub rose : Rose (faults given) (faults back)
  pub kept : others back ≡ others given

-- the console was lent and came back, no call to it failed, and this is so of what it held
pub record ConsoleHeld {F S C N T I D : Type 0} (views : Views F S C N T I D) (old new : Lendings F S C N T I D) (IsSo : List ℕ → Type 0) : Type 0 where
  pub given : C
  pub back : C
  pub lent : WasLent old.console new.console given back
  pub reads_kept : views.console_read_faults back ≡ views.console_read_faults given
  pub writes_kept : views.console_write_faults back ≡ views.console_write_faults given
  pub held : IfSome (views.console_left given) IsSo

-- a request was to be signed, no farm file was asked for, and this is so of what was to be signed
pub record SigningTaken {F S C N T I D : Type 0} (old new : Lendings F S C N T I D) (said : Option Command) (IsSo : Signing → Type 0) : Type 0 where
  pub signing : Signing
  pub asked : said ≡ Some (Sign signing)
  pub file : new.file ≡ old.file
  pub is_so : IsSo signing

-- a generated load was to be run, no farm file was asked for, and this is so
pub record LoadTaken {F S C N T I D : Type 0} (old new : Lendings F S C N T I D) (said : Option Command) (IsSo : Type 0) : Type 0 where
  pub load : Load
  pub asked : said ≡ Some (Bulk load)
  pub file : new.file ≡ old.file
  pub is_so : IsSo

-- a template was to be rendered, no farm file was asked for, and this is so
pub record RenderingTaken {F S C N T I D : Type 0} (old new : Lendings F S C N T I D) (said : Option Command) (IsSo : Type 0) : Type 0 where
  pub asked : said ≡ Some Render
  pub file : new.file ≡ old.file
  pub is_so : IsSo

-- work over a farm is done: the messages of `answer` end well, and each connection of `serve` does, the input of `expand` has an expansion
abbrev pub IsDone : {F S C N T I D : Type 0} → Views F S C N T I D → Lendings F S C N T I D → Lendings F S C N T I D → Config → Work → Type 0
IsDone views old new config (Answer disk) = ConsoleHeld views old new (λ bytes. EndsWith bytes Done)
IsDone views old new config (Serve service) = IsServed views old new service
IsDone views old new config Expand = ConsoleHeld views old new (λ input. (text : List ℕ) × IsExpansion config.roles input text)
IsDone views old new config (Check disk) = ConsoleHeld views old new (λ bytes. Unit {0})

-- a request is signed: its body, if it has a content type, is not too long
abbrev pub IsSigningDone : {F S C N T I D : Type 0} → Views F S C N T I D → Lendings F S C N T I D → Lendings F S C N T I D → Option (List ℕ) → Type 0
IsSigningDone views old new None = ConsoleHeld views old new (λ bytes. Unit {0})
IsSigningDone views old new (Some content_type) = ConsoleHeld views old new (λ body. length body ≤ longest_input)

-- the body of a request is refused
abbrev pub IsSigningRefused : {F S C N T I D : Type 0} → Views F S C N T I D → Lendings F S C N T I D → Lendings F S C N T I D → Option (List ℕ) → Type 0
IsSigningRefused views old new None = ⊥
IsSigningRefused views old new (Some content_type) = ConsoleHeld views old new IsTooLong

-- reads of the console failed: that of a request's body
abbrev pub IsSigningUnread : {F S C N T I D : Type 0} → Views F S C N T I D → Lendings F S C N T I D → Lendings F S C N T I D → Option (List ℕ) → Type 0
IsSigningUnread views old new None = ⊥
IsSigningUnread views old new (Some content_type) = ConsoleFailed views.console_read_faults views.console_write_faults old new

-- an input was refused: that of `expand`
abbrev pub IsRefused : {F S C N T I D : Type 0} → Views F S C N T I D → Lendings F S C N T I D → Lendings F S C N T I D → Config → Work → Type 0
IsRefused views old new config (Answer disk) = ⊥
IsRefused views old new config (Serve service) = ⊥
IsRefused views old new config Expand = ConsoleHeld views old new (IsBadInput config.roles)
IsRefused views old new config (Check disk) = ⊥

-- a connection ended inside a message or by what is no request: that of `answer`, or one of `serve`
abbrev pub IsCut : {F S C N T I D : Type 0} → Views F S C N T I D → Lendings F S C N T I D → Lendings F S C N T I D → Config → Work → Type 0
IsCut views old new config (Answer disk) = ConsoleHeld views old new (λ bytes. EndsWith bytes Wire)
IsCut views old new config (Serve service) = IsLinkCut views old new service
IsCut views old new config Expand = ⊥
IsCut views old new config (Check disk) = ⊥

-- reads failed: those of the console, or of a link
abbrev pub IsUnread : {F S C N T I D : Type 0} → Views F S C N T I D → Lendings F S C N T I D → Lendings F S C N T I D → Config → Work → Type 0
IsUnread views old new config (Answer disk) = ConsoleFailed views.console_read_faults views.console_write_faults old new
IsUnread views old new config (Serve service) = IsLinkUnread views old new service
IsUnread views old new config Expand = ConsoleFailed views.console_read_faults views.console_write_faults old new
IsUnread views old new config (Check disk) = ⊥

-- writes failed: those of the console, or of a link
abbrev pub IsUnwritten : {F S C N T I D : Type 0} → Views F S C N T I D → Lendings F S C N T I D → Lendings F S C N T I D → Config → Work → Type 0
IsUnwritten views old new config (Serve service) = ConsoleFailed views.console_write_faults views.console_read_faults old new ⊎ IsLinkUnwritten views old new service
IsUnwritten views old new config work = ConsoleFailed views.console_write_faults views.console_read_faults old new

-- a door failed: one of `serve`
abbrev pub IsUnheld : {F S C N T I D : Type 0} → Views F S C N T I D → Lendings F S C N T I D → Lendings F S C N T I D → Work → Type 0
IsUnheld views old new (Serve service) = IsDoorBroken views old new service
IsUnheld views old new work = ⊥

-- Each status comes only where this is so, and of several causes the one with the least number stands. Want of memory alone is free.
abbrev pub HasReason : {F S C N T I D : Type 0} → Views F S C N T I D → Lendings F S C N T I D → Lendings F S C N T I D → ℕ → ℕ → Option Command → Status → Type 0
HasReason views old new before now said Done =
    (now ≡ before) × (FileTaken views old new said (IsDone views old new)
    ⊎ (SigningTaken old new said (λ signing. IsSigningDone views old new signing.content_type)
    ⊎ (LoadTaken old new said (ConsoleHeld views old new (λ bytes. Unit {0}))
    ⊎ RenderingTaken old new said (ConsoleHeld views old new (λ input. (text : List ℕ) × IsRendering input text)))))
HasReason views old new before now said Usage = said ≡ None
HasReason views old new before now said FarmFile = (now ≡ before) × FileHasFault views old new said
HasReason views old new before now said Input =
    (now ≡ before) × (FileTaken views old new said (IsRefused views old new)
    ⊎ (SigningTaken old new said (λ signing. IsSigningRefused views old new signing.content_type)
    ⊎ RenderingTaken old new said (ConsoleHeld views old new IsUnrendered)))
HasReason views old new before now said Opening = Rose before now
HasReason views old new before now said Disk = Rose before now ⊎ ((now ≡ before) × DiskFailed views old new said)
HasReason views old new before now said Door = Rose before now ⊎ ((now ≡ before) × FileTaken views old new said (λ config work. IsUnheld views old new work))
HasReason views old new before now said Read =
    (now ≡ before) × (FileFailed views old new said
    ⊎ (FileTaken views old new said (IsUnread views old new)
    ⊎ (SigningTaken old new said (λ signing. IsSigningUnread views old new signing.content_type)
    ⊎ RenderingTaken old new said (ConsoleFailed views.console_read_faults views.console_write_faults old new))))
HasReason views old new before now said Write =
    (now ≡ before) × (FileTaken views old new said (IsUnwritten views old new)
    ⊎ (SigningTaken old new said (λ signing. ConsoleFailed views.console_write_faults views.console_read_faults old new)
    ⊎ (LoadTaken old new said (ConsoleFailed views.console_write_faults views.console_read_faults old new)
    ⊎ RenderingTaken old new said (ConsoleFailed views.console_write_faults views.console_read_faults old new))))
HasReason views old new before now said NoMemory = Unit {0}
HasReason views old new before now said Wire = (now ≡ before) × FileTaken views old new said (IsCut views old new)
HasReason views old new before now said Damaged = (now ≡ before) × DiskDamaged views old new said
