-- What a run has to do where no count of faults rose.
use Rattle.std.specs.Prelude.{◌≡◌, ℕ, ◌⊎◌, List, [], ◌++◌, length, Option, Some, None}
use Rattle.std.specs.Io.KnownBytes.{Appends}
use Rattle.causes.specs.Causes.{Rose}
use Rattle.command_line.specs.declared.command.Command.{Command}
use Rattle.command_line.specs.declared.command.Command.TheVariants.{OverFarm, Sign, Bulk, Render}
use Rattle.command_line.specs.declared.command.Work.{Work}
use Rattle.command_line.specs.declared.command.Work.TheVariants.{Answer, Expand, Check, Serve}
use Rattle.command_line.specs.declared.load.Load.{Load}
use Rattle.command_line.specs.declared.signing.Signing.{Signing}
use Rattle.command_line.specs.Words.{disk_of}
use Rattle.farm_core.specs.Opened.{IsFarmDamaged}
use Rattle.farm_machine.specs.Law.{Opening as History}
use Rattle.http_wire.specs.declared.message.Message.{Message}
use Rattle.http_wire.specs.declared.message.Wire.{Wire as Reason}
use Rattle.http_wire.specs.declared.message.Wire.TheVariants as wire
use Rattle.http_wire.specs.Stream.{Ending, stopped, closed, full, Messages}
use Rattle.farm_asks.specs.declared.config.Config.{Config}
use Rattle.farm_asks.specs.declared.reply.Reply.{Reply}
use Rattle.farm_machine.specs.State.{State, empty_state}
use Rattle.api_routes.specs.ReplyText.{wire_text}
use Rattle.farm_core.specs.Diskless.{HaveNoDisk}
use Rattle.farm_server.specs.Served.{Ask, messages_of, reply_texts}
use Rattle.farm_server.specs.declared.served.TheConstants.{REQUESTS}
use Rattle.houses.specs.declared.lending.Lending.TheVariants.{Ready, Back}
use Rattle.console_commands.specs.declared.status.Status.{Status}
use Rattle.console_commands.specs.declared.status.Status.TheVariants.{Done, Usage, FarmFile, Input, Opening, Disk, NoMemory, Wire, Damaged}
use Rattle.farm_cli.specs.Checking.{check_text, disk_text}
use Rattle.farm_cli.specs.Disks.{BeginsFrom}
use Rattle.console_commands.specs.Expanding.{IsExpansion, IsBadInput}
use Rattle.farm_cli.specs.FarmFile.{SetsUp, HasFault}
use Rattle.houses.specs.House.{Held, holds, refuses, unopened, back, Lendings}
use Rattle.farm_cli.specs.Loading.{IsLoadLine}
use Rattle.console_commands.specs.Rendering.{IsRendering, IsUnrendered}
use Rattle.farm_cli.specs.Serving.{IsHistoryOf}
use Rattle.console_commands.specs.Signing.{signed_line, IsSigned, IsTooLong}
use Rattle.farm_cli.specs.Views.{Views}

-- the status that a reason to stop calls for: an input that ends where a message would begin is read to its end
abbrev pub stop_status : Reason → Status
stop_status wire.End = Done
stop_status reason = Wire

-- the status that the end of a list of messages calls for
abbrev pub status_for : Ending → Status
status_for (stopped reason) = stop_status reason
status_for closed = Done
status_for full = Done

-- the wire's own reply after a list of messages that ends so
abbrev pub own_text : Ending → List ℕ
own_text (stopped reason) = wire_text reason
own_text closed = []
own_text full = []

-- the words ask for this work over a farm, and the house has this of its farm file, which was not opened yet
pub record HasFile {F S C N T I D : Type 0} (old : Lendings F S C N T I D) (said : Option Command) (work : Work) (held : Held F) : Type 0 where
  pub farm : List ℕ
  pub asked : said ≡ Some (OverFarm farm work)
  pub at : List ℕ → Held F
  pub files : old.file ≡ unopened at
  pub there : at farm ≡ held

-- the count of refused openings did not rise, nor that of the farm file's reads
pub record NoFileFault {F S C N T I D : Type 0} (views : Views F S C N T I D) (new : Lendings F S C N T I D) (before now : ℕ) (file : F) : Type 0 where
  pub openings : ¬ (Rose before now)
  pub reads : (file' : F) → new.file ≡ back file' → ¬ (Rose (views.file_faults file) (views.file_faults file'))

-- the house has this of the disk of this name, which was not opened yet
pub record HasDisk {F S C N T I D : Type 0} (old : Lendings F S C N T I D) (name : List ℕ) (held : Held S) : Type 0 where
  pub at : List ℕ → Held S
  pub disks : old.disk ≡ unopened at
  pub there : at name ≡ held

-- the count of the disk's calls that failed did not rise
abbrev pub NoDiskFault : {F S C N T I D : Type 0} → Views F S C N T I D → Lendings F S C N T I D → S → Type 0
NoDiskFault {F} {S} views new disk = (disk' : S) → new.disk ≡ back disk' → ¬ (Rose (views.disk_faults disk) (views.disk_faults disk'))

-- the disk is there, tells what it holds, which is not damaged, and does not fail
pub record HasSoundDisk {F S C N T I D : Type 0} (views : Views F S C N T I D) (old new : Lendings F S C N T I D) (name : List ℕ) (disk : S) : Type 0 where
  pub has : HasDisk old name (holds disk)
  pub tells : views.disk_tells
  pub sound : (place : ℕ) → ¬ IsFarmDamaged (views.disk_contents disk).bytes place
  pub well : NoDiskFault views new disk

-- the counts of the console's reads and writes did not rise
pub record NoConsoleFault {F S C N T I D : Type 0} (views : Views F S C N T I D) (new : Lendings F S C N T I D) (console : C) : Type 0 where
  pub reads : (console' : C) → new.console ≡ Back console' → ¬ (Rose (views.console_read_faults console) (views.console_read_faults console'))
  pub writes : (console' : C) → new.console ≡ Back console' → ¬ (Rose (views.console_write_faults console) (views.console_write_faults console'))

-- Each message of the list was answered, in one history of the farm, and then the wire replied where it refuses what came.
pub record AnswersAll {F S C N T I D : Type 0} (views : Views F S C N T I D) (new : Lendings F S C N T I D) (console : C) (start : State) (messages : List Message) (ending : Ending) (status : Status) : Type 0 where
  pub status_is : status ≡ status_for ending
  pub console' : C
  pub came_back : new.console ≡ Back console'
  pub asks : List Ask
  pub replies : List Reply
  pub all : messages_of asks ≡ messages
  pub history : IsHistoryOf start asks replies
  pub no_disk : HaveNoDisk history.history
  pub written : Appends (views.console_written console) (views.console_written console') (reply_texts REQUESTS asks replies ++ own_text ending)

-- the console came back, this text was written there, and the run is done
pub record WritesAll {F S C N T I D : Type 0} (views : Views F S C N T I D) (new : Lendings F S C N T I D) (console : C) (text : List ℕ) (status : Status) : Type 0 where
  pub done : status ≡ Done
  pub console' : C
  pub came_back : new.console ≡ Back console'
  pub written : Appends (views.console_written console) (views.console_written console') text

-- What `answer` has to do over a farm that begins so, where the console is known and does not fail: it answers each message.
abbrev pub Answers : {F S C N T I D : Type 0} → Views F S C N T I D → Lendings F S C N T I D → C → State → Status → Type 0
Answers views new console start status =
    (bytes : List ℕ) (messages : List Message) (ending : Ending)
    → views.console_left console ≡ Some bytes → Messages REQUESTS bytes messages ending → AnswersAll views new console start messages ending status

-- What `serve` has to do over a sound disk: its history begins from what the disk held, and it ends by none of the disk's faults.
abbrev pub ServesSoundly : {F S C N T I D : Type 0} → Views F S C N T I D → S → Config → Status → Type 0
ServesSoundly views disk config status = (opening : History) × BeginsFrom views disk config opening × ¬ (status ≡ Disk) × ¬ (status ≡ Damaged)

-- What work has to do over a farm that is set up so, where the console is known and does not fail: `answer` answers each message, `expand`
-- writes the expansion of its input or refuses it, `check` writes its line. Over a sound disk the farm is what the disk held.
abbrev pub Finishes : {F S C N T I D : Type 0} → Views F S C N T I D → Lendings F S C N T I D → Lendings F S C N T I D → C → Config → Work → Status → Type 0
Finishes views old new console config (Answer None) status = Answers views new console (empty_state config) status
Finishes {F} {S} views old new console config (Answer (Some name)) status =
    (disk : S) → HasSoundDisk views old new name disk → (opening : History) × BeginsFrom views disk config opening × Answers views new console opening.state status
Finishes {F} {S} views old new console config (Serve service) status = (disk : S) → HasSoundDisk views old new service.disk disk → ServesSoundly views disk config status
Finishes views old new console config Expand status =
    (input : List ℕ) → views.console_left console ≡ Some input
    → ((text : List ℕ) × IsExpansion config.roles input text × WritesAll views new console text status)
    ⊎ (IsBadInput config.roles input × (status ≡ Input))
Finishes views old new console config (Check None) status = WritesAll views new console (check_text config) status
Finishes {F} {S} views old new console config (Check (Some name)) status =
    (disk : S) → HasSoundDisk views old new name disk
    → (opening : History) × BeginsFrom views disk config opening
    × WritesAll views new console (disk_text config (length opening.records) (length opening.state.contents.rows)) status

-- What `sign` has to do, by the content type, where the console is known and does not fail: it writes its line, or refuses a body that is too long.
abbrev pub FinishesSigning : {F S C N T I D : Type 0} → Views F S C N T I D → Lendings F S C N T I D → C → Signing → Option (List ℕ) → Status → Type 0
FinishesSigning views new console signing None status = WritesAll views new console (signed_line signing None) status
FinishesSigning views new console signing (Some content_type) status =
    (body : List ℕ) → views.console_left console ≡ Some body
    → ((text : List ℕ) × IsSigned signing content_type body text × WritesAll views new console text status)
    ⊎ (IsTooLong body × (status ≡ Input))

-- Over a console that does not fail a run signs what its words ask for, or memory runs out.
abbrev pub CompletesSigning : {F S C N T I D : Type 0} → Views F S C N T I D → Lendings F S C N T I D → Lendings F S C N T I D → Option Command → Status → Type 0
CompletesSigning {F} {C} views old new said status =
    (signing : Signing) (console : C) → said ≡ Some (Sign signing) → old.console ≡ Ready console → NoConsoleFault views new console
    → (status ≡ NoMemory) ⊎ FinishesSigning views new console signing signing.content_type status

-- Over a console that does not fail a run writes the line of the load that its words ask for, or memory runs out.
abbrev pub CompletesLoad : {F S C N T I D : Type 0} → Views F S C N T I D → Lendings F S C N T I D → Lendings F S C N T I D → Option Command → Status → Type 0
CompletesLoad {F} {C} views old new said status =
    (load : Load) (console : C) → said ≡ Some (Bulk load) → old.console ≡ Ready console → NoConsoleFault views new console
    → (status ≡ NoMemory) ⊎ ((text : List ℕ) × IsLoadLine load text × WritesAll views new console text status)

-- Over a console that does not fail a run writes the rendering of its input or refuses the input, or memory runs out.
abbrev pub CompletesRendering : {F S C N T I D : Type 0} → Views F S C N T I D → Lendings F S C N T I D → Lendings F S C N T I D → Option Command → Status → Type 0
CompletesRendering {F} {C} views old new said status =
    (input : List ℕ) (console : C) → said ≡ Some Render → old.console ≡ Ready console → views.console_left console ≡ Some input → NoConsoleFault views new console
    → (status ≡ NoMemory) ⊎ (((text : List ℕ) × IsRendering input text × WritesAll views new console text status) ⊎ (IsUnrendered input × (status ≡ Input)))

-- Over a farm file that breaks no rule and a console that does not fail, a run finishes its work, or memory runs out.
abbrev pub Completes : {F S C N T I D : Type 0} → Views F S C N T I D → Lendings F S C N T I D → Lendings F S C N T I D → ℕ → ℕ → Option Command → Status → Type 0
Completes {F} {C} views old new before now said status =
    (work : Work) (file : F) (bytes : List ℕ) (console : C)
    → HasFile old said work (holds file) → views.file_left file ≡ Some bytes → ¬ HasFault bytes → NoFileFault views new before now file
    → old.console ≡ Ready console → NoConsoleFault views new console
    → (status ≡ NoMemory) ⊎ ((config : Config) × SetsUp bytes config × Finishes views old new console config work status)

-- a farm file that breaks a rule is refused
abbrev pub RefusesFile : {F S C N T I D : Type 0} → Views F S C N T I D → Lendings F S C N T I D → Lendings F S C N T I D → ℕ → ℕ → Option Command → Status → Type 0
RefusesFile {F} views old new before now said status =
    (work : Work) (file : F) (bytes : List ℕ)
    → HasFile old said work (holds file) → views.file_left file ≡ Some bytes → HasFault bytes → NoFileFault views new before now file
    → (status ≡ NoMemory) ⊎ (status ≡ FarmFile)

-- a farm file that is not there cannot be opened
abbrev pub MissesFile : {F S C N T I D : Type 0} → Lendings F S C N T I D → Option Command → Status → Type 0
MissesFile old said status = (work : Work) → HasFile old said work refuses → (status ≡ NoMemory) ⊎ (status ≡ Opening)

-- a disk that is damaged is told so, where the farm file breaks no rule
abbrev pub RefusesDisk : {F S C N T I D : Type 0} → Views F S C N T I D → Lendings F S C N T I D → Lendings F S C N T I D → ℕ → ℕ → Option Command → Status → Type 0
RefusesDisk {F} {S} views old new before now said status =
    (work : Work) (file : F) (bytes name : List ℕ) (disk : S) (place : ℕ)
    → HasFile old said work (holds file) → views.file_left file ≡ Some bytes → ¬ HasFault bytes → NoFileFault views new before now file
    → disk_of work ≡ Some name → HasDisk old name (holds disk) → views.disk_tells → IsFarmDamaged (views.disk_contents disk).bytes place → NoDiskFault views new disk
    → (status ≡ NoMemory) ⊎ (status ≡ Damaged)

-- a disk that the house refuses to open cannot be used, where the farm file breaks no rule and can be read
abbrev pub MissesDisk : {F S C N T I D : Type 0} → Views F S C N T I D → Lendings F S C N T I D → Lendings F S C N T I D → Option Command → Status → Type 0
MissesDisk {F} {S} views old new said status =
    (work : Work) (file : F) (bytes name : List ℕ)
    → HasFile old said work (holds file) → views.file_left file ≡ Some bytes → ¬ HasFault bytes
    → ((file' : F) → new.file ≡ back file' → ¬ (Rose (views.file_faults file) (views.file_faults file')))
    → disk_of work ≡ Some name → HasDisk old name refuses → (status ≡ NoMemory) ⊎ (status ≡ Disk)

-- words without a reading are told so
abbrev pub TellsUsage : Option Command → Status → Type 0
TellsUsage said status = said ≡ None → (status ≡ NoMemory) ⊎ (status ≡ Usage)
