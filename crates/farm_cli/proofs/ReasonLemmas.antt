-- A run has the reason of its status.
use Rattle.std.proofs.Common.{◌≡◌, ℕ, ◌≤◌, ◌⊎◌, Bool, true, false, List, length, Option, Some, None, refl, sym, ap, ◌∙◌, subst, inl, inr}
use Rattle.std.specs.Prelude.{IfSome}
use Rattle.command_line.specs.declared.command.Command.{Command}
use Rattle.command_line.specs.declared.command.Command.TheVariants.{OverFarm, Sign, Bulk, Render}
use Rattle.command_line.specs.declared.command.Work.{Work}
use Rattle.command_line.specs.declared.command.Work.TheVariants.{Answer, Expand, Check, Serve}
use Rattle.command_line.specs.declared.load.Load.{Load}
use Rattle.command_line.specs.declared.service.Service.{Service}
use Rattle.command_line.specs.declared.signing.Signing.{Signing}
use Rattle.farm_asks.specs.declared.config.Config.{Config}
use Rattle.causes.specs.Causes.{Rose}
use Rattle.command_line.specs.Words.{disk_of}
use Rattle.disk_journal.specs.declared.fault.OpenFault.{OpenFault}
use Rattle.disk_journal.specs.declared.fault.OpenFault.TheVariants as faults
use Rattle.farm_core.specs.Farm.{TellsFaults}
use Rattle.history.specs.Histories.{end_state}
use Rattle.farm_machine.specs.Entry.{Entry}
use Rattle.farm_machine.specs.Step.{farm_rules}
use Rattle.role_expand.specs.Roles.{RoleData}
use Rattle.http_wire.specs.declared.message.Message.{Message}
use Rattle.http_wire.specs.Calls.{LinkState}
use Rattle.farm_server.specs.Served.{messages_of, EndsAs, IsCaused}
use Rattle.farm_server.specs.declared.served.TheConstants.{REQUESTS}
use Rattle.farm_server.specs.declared.served.Served.{Served}
use Rattle.farm_server.specs.declared.served.Served.TheVariants as served
use Rattle.console_commands.specs.declared.status.Status.{Status}
use Rattle.console_commands.specs.declared.status.Status.TheVariants.{Done, Usage, FarmFile, Input, Opening, Disk, Door, Read, Write, NoMemory, Wire, Damaged}
use Rattle.farm_cli.specs.Checking.{CheckedOver, check_text, disk_text}
use Rattle.farm_cli.specs.Disks.{IsMissing, IsRefusedFor, WasUnopened, over_disk, status_of_fault}
use Rattle.farm_cli.specs.Heard.{IsUnheard, IsHeard, ServedOver}
use Rattle.console_commands.specs.Inputs.{Tells, longest_input}
use Rattle.console_commands.specs.Expanding.{IsExpansion, Expands}
use Rattle.farm_cli.specs.FarmFile.{SetsUp, FileRefused}
use Rattle.houses.specs.House.{WasLent, WasOpened, Lendings}
use Rattle.farm_cli.specs.Reasons.{DiskMet, FileLent, FileTaken, KeepsDisk, SigningTaken, LoadTaken, RenderingTaken, ConsoleFailed, IsDone, IsRefused, IsCut, IsUnread, IsUnwritten, IsUnheld, IsSigningDone, IsSigningRefused, IsSigningUnread, HasReason}
use Rattle.farm_cli.specs.Run.{DidOver, Obeyed, RanOverFile, RanCommand, Ran}
use Rattle.farm_cli.specs.Ends.{EndsWith, status_of}
use Rattle.farm_cli.specs.Serving.{status_over, Conversed, ConversedOver}
use Rattle.farm_cli.specs.Loading.{Loads}
use Rattle.console_commands.specs.Rendering.{IsRendering, Renders}
use Rattle.console_commands.specs.Signing.{IsSigned, Signs, SignsAs}
use Rattle.farm_cli.specs.Views.{Views, outside_of, talk_of}
use Rattle.farm_cli.proofs.FaultLemmas.{ends_with}
use Rattle.farm_cli.proofs.HeardLemmas.{ReasonOf, ReasonOf-heard}

-- a farm file was taken, and this command was obeyed over it
record Taken {F S C N T I D : Type 0} (views : Views F S C N T I D) (old new : Lendings F S C N T I D) (before now : ℕ) (said : Option Command) (config : Config) (farm : List ℕ) (work : Work) : Type 0 where
  openings : now ≡ before
  asked : said ≡ Some (OverFarm farm work)
  opened : F
  closed : F
  file : WasOpened old.file new.file farm opened closed
  sets_up : IfSome (views.file_left opened) (λ bytes. SetsUp bytes config)
  reads_kept : views.file_faults closed ≡ views.file_faults opened
  disk : KeepsDisk views old new (disk_of work)

-- the same without what is known of the house's openings and of the disk
record Opened {F S C N T I D : Type 0} (views : Views F S C N T I D) (old new : Lendings F S C N T I D) (said : Option Command) (config : Config) (farm : List ℕ) (work : Work) : Type 0 where
  asked : said ≡ Some (OverFarm farm work)
  opened : F
  closed : F
  file : WasOpened old.file new.file farm opened closed
  sets_up : IfSome (views.file_left opened) (λ bytes. SetsUp bytes config)
  reads_kept : views.file_faults closed ≡ views.file_faults opened

taken-by : {F S C N T I D : Type 0} (views : Views F S C N T I D) (old new : Lendings F S C N T I D) (before now : ℕ) (said : Option Command) (config : Config) (farm : List ℕ) (work : Work)
    → Opened views old new said config farm work → now ≡ before → KeepsDisk views old new (disk_of work) → Taken views old new before now said config farm work
taken-by views old new before now said config farm work o openings disk = record {
  openings = openings;
  asked = o.asked;
  opened = o.opened;
  closed = o.closed;
  file = o.file;
  sets_up = o.sets_up;
  reads_kept = o.reads_kept;
  disk = disk;
}

FileTaken-from : {F S C N T I D : Type 0} (views : Views F S C N T I D) (old new : Lendings F S C N T I D) (before now : ℕ) (said : Option Command) (config : Config) (farm : List ℕ) (work : Work) (IsSo : Config → Work → Type 0)
    → Taken views old new before now said config farm work → IsSo config work → (now ≡ before) × FileTaken views old new said IsSo
FileTaken-from views old new before now said config farm work IsSo taken so = (
  taken.openings,
  record {
    lent = record { farm = farm; work = work; asked = taken.asked; opened = taken.opened; closed = taken.closed; file = taken.file };
    config = config;
    sets_up = taken.sets_up;
    reads_kept = taken.reads_kept;
    disk = taken.disk;
    is_so = so;
  },
)

-- the same, where something else may also be
FileTaken-or : {F S C N T I D : Type 0} (views : Views F S C N T I D) (old new : Lendings F S C N T I D) (before now : ℕ) (said : Option Command) (config : Config) (farm : List ℕ) (work : Work) (IsSo : Config → Work → Type 0) (Other : Type 0)
    → Taken views old new before now said config farm work → IsSo config work → (now ≡ before) × (FileTaken views old new said IsSo ⊎ Other)
FileTaken-or views old new before now said config farm work IsSo Other taken so =
    let file = FileTaken-from views old new before now said config farm work IsSo taken so in (file.0, inl file.1)

-- a connection that ended so has the reason of its status
HasReason-served : {F S C N T I D : Type 0} (views : Views F S C N T I D) (old new : Lendings F S C N T I D) (before now : ℕ) (said : Option Command) (config : Config) (farm : List ℕ) (name : Option (List ℕ)) (given back : C) (clock clock' : T) (draws draws' : I) (messages : List Message) (served : Served)
    → Taken views old new before now said config farm (Answer name) → WasLent old.console new.console given back
    → IfSome (views.console_left given) (λ bytes. EndsAs REQUESTS bytes messages served)
    → IsCaused (outside_of views given clock draws) (outside_of views back clock' draws') served
    → HasReason views old new before now said (status_of served)
HasReason-served views old new before now said config farm name given back clock clock' draws draws' messages served.Closed taken lent ends cause =
    FileTaken-or views old new before now said config farm (Answer name) (IsDone views old new) _ taken (record { given = given; back = back; lent = lent; reads_kept = cause.0; writes_kept = cause.1; held = ends_with (views.console_left given) messages served.Closed ends })
HasReason-served views old new before now said config farm name given back clock clock' draws draws' messages served.Full taken lent ends cause =
    FileTaken-or views old new before now said config farm (Answer name) (IsDone views old new) _ taken (record { given = given; back = back; lent = lent; reads_kept = cause.0; writes_kept = cause.1; held = ends_with (views.console_left given) messages served.Full ends })
HasReason-served views old new before now said config farm name given back clock clock' draws draws' messages served.EndedInside taken lent ends cause =
    FileTaken-from views old new before now said config farm (Answer name) (IsCut views old new) taken (record { given = given; back = back; lent = lent; reads_kept = cause.0; writes_kept = cause.1; held = ends_with (views.console_left given) messages served.EndedInside ends })
HasReason-served views old new before now said config farm name given back clock clock' draws draws' messages (served.WireFault reason) taken lent ends cause =
    FileTaken-from views old new before now said config farm (Answer name) (IsCut views old new) taken (record { given = given; back = back; lent = lent; reads_kept = cause.0; writes_kept = cause.1; held = ends_with (views.console_left given) messages (served.WireFault reason) ends })
HasReason-served views old new before now said config farm name given back clock clock' draws draws' messages served.ReadFault taken lent ends cause =
    let failed = FileTaken-from views old new before now said config farm (Answer name) (IsUnread views old new) taken (record { given = given; back = back; lent = lent; rose = cause.0; kept = cause.1 }) in (failed.0, inr (inl failed.1))
HasReason-served views old new before now said config farm name given back clock clock' draws draws' messages served.WriteFault taken lent ends cause =
    FileTaken-or views old new before now said config farm (Answer name) (IsUnwritten views old new) _ taken (record { given = given; back = back; lent = lent; rose = cause.0; kept = cause.1 })
HasReason-served views old new before now said config farm name given back clock clock' draws draws' messages served.NoMemory taken lent ends cause = tt

HasReason-conversed : {F S C N T I D : Type 0} (views : Views F S C N T I D) (old new : Lendings F S C N T I D) (before now : ℕ) (said : Option Command) (config : Config) (farm : List ℕ) (status : Status)
    → Opened views old new said config farm (Answer None) → now ≡ before → Conversed views old new config status → HasReason views old new before now said status
HasReason-conversed views old new before now said config farm status opened openings ran =
    rw ran.status_is (HasReason-served views old new before now said config farm None ran.console_given ran.console_back ran.clock_given ran.clock_back ran.draws_given ran.draws_back (messages_of ran.asks) ran.served
    (taken-by views old new before now said config farm (Answer None) opened openings ran.disk) ran.console ran.spoke.taken ran.spoke.cause)

-- ---- over a disk

-- what is at work has not fallen
not_fallen : {b : Bool} → b ≡ false → b ≡ true → ⊥
not_fallen still fell = let e : true ≡ false = sym fell ∙ still in cc

DiskMet-from : {F S C N T I D : Type 0} (views : Views F S C N T I D) (old new : Lendings F S C N T I D) (said : Option Command) (config : Config) (farm name : List ℕ) (work : Work) (given back : S) (IsSo : S → S → Type 0)
    → Opened views old new said config farm work → disk_of work ≡ Some name → WasOpened old.disk new.disk name given back → IsSo given back → DiskMet views old new said IsSo
DiskMet-from views old new said config farm name work given back IsSo opened asked disk so = record {
  lent = record { farm = farm; work = work; asked = opened.asked; opened = opened.opened; closed = opened.closed; file = opened.file };
  config = config;
  sets_up = opened.sets_up;
  reads_kept = opened.reads_kept;
  name = name;
  asked = asked;
  given = given;
  back = back;
  disk = disk;
  is_so = so;
}

-- the disk could not be opened
HasReason-unopened : {F S C N T I D : Type 0} (views : Views F S C N T I D) (old new : Lendings F S C N T I D) (before now : ℕ) (said : Option Command) (config : Config) (farm name : List ℕ) (work : Work) (status : Status)
    → Opened views old new said config farm work → disk_of work ≡ Some name → WasUnopened views old new before now name status → HasReason views old new before now said status
HasReason-unopened views old new before now said config farm name work status opened asked ran = by ran.fault ran.why ran.status_is
  where
    by : (fault : OpenFault) → IsRefusedFor views ran.given ran.back fault → status ≡ status_of_fault fault → HasReason views old new before now said status
    by faults.Disk why is = rw is (inr (ran.openings, DiskMet-from views old new said config farm name work ran.given ran.back _ opened asked ran.disk why))
    by (faults.Damaged place) why is = rw is (ran.openings, (place, DiskMet-from views old new said config farm name work ran.given ran.back _ opened asked ran.disk why))
    by faults.NoMemory why is = rw is tt

HasReason-missing : {F S C N T I D : Type 0} (views : Views F S C N T I D) (old new : Lendings F S C N T I D) (before now : ℕ) (said : Option Command) (name : List ℕ) (status : Status)
    → IsMissing old new before now name status → HasReason views old new before now said status
HasReason-missing views old new before now said name status ran = rw ran.status_is (inl ran.rose)

-- a connection over the farm of a disk ended
HasReason-conversed_over : {F S C N T I D : Type 0} (views : Views F S C N T I D) (old new : Lendings F S C N T I D) (before now : ℕ) (said : Option Command) (config : Config) (farm name : List ℕ) (status : Status)
    → Opened views old new said config farm (Answer (Some name)) → ConversedOver views old new before now config name status → HasReason views old new before now said status
HasReason-conversed_over {S} views old new before now said config farm name status opened ran = by _ refl
  where
    counts : TellsFaults ran.opening.faults (views.disk_faults ran.led.disk_back) (end_state farm_rules ran.opening.state ran.history.history).halted
    counts = ran.led.holds.holds.counts

    by : (halted : Bool) → (end_state farm_rules ran.opening.state ran.history.history).halted ≡ halted → HasReason views old new before now said status
    by true fell =
        let rose : Rose (views.disk_faults ran.led.disk_given) (views.disk_faults ran.led.disk_back) = subst (λ (n : ℕ). Rose n (views.disk_faults ran.led.disk_back)) ran.led.begins.faults (counts.rose fell) in
        let is : status ≡ Disk = ran.status_is ∙ ap (λ (b : Bool). status_over b ran.served) fell in
        rw is (inr (ran.openings, DiskMet-from views old new said config farm name (Answer (Some name)) ran.led.disk_given ran.led.disk_back _ opened refl ran.led.disk rose))
    by false still =
        let kept : views.disk_faults ran.led.disk_back ≡ views.disk_faults ran.led.disk_given = counts.stays still ∙ ran.led.begins.faults in
        let is : status ≡ status_of ran.served = ran.status_is ∙ ap (λ (b : Bool). status_over b ran.served) still in
        rw is (HasReason-served views old new before now said config farm (Some name) ran.console_given ran.console_back ran.clock_given ran.clock_back ran.draws_given ran.draws_back (messages_of ran.asks) ran.served
        (taken-by views old new before now said config farm (Answer (Some name)) opened ran.openings (record { given = ran.led.disk_given; back = ran.led.disk_back; disk = ran.led.disk; kept = kept }))
        ran.console ran.spoke.taken ran.spoke.cause)

-- an input that has this expansion has one
has_expansion : (left : Option (List ℕ)) (roles : List RoleData) (text : List ℕ) → IfSome left (λ input. IsExpansion roles input text)
    → IfSome left (λ input. (t : List ℕ) × IsExpansion roles input t)
has_expansion None roles text h = tt
has_expansion (Some input) roles text h = (text, h)

-- an expansion that ended so has the reason of its status
HasReason-expanded : {F S C N T I D : Type 0} (views : Views F S C N T I D) (old new : Lendings F S C N T I D) (before now : ℕ) (said : Option Command) (config : Config) (farm : List ℕ) (given back : C) (status : Status)
    → Taken views old new before now said config farm Expand → WasLent old.console new.console given back
    → Expands config.roles (talk_of views given) (talk_of views back) status → HasReason views old new before now said status
HasReason-expanded views old new before now said config farm given back Done taken lent did =
    FileTaken-or views old new before now said config farm Expand (IsDone views old new) _ taken (record { given = given; back = back; lent = lent; reads_kept = did.3; writes_kept = did.4.1; held = has_expansion (views.console_left given) config.roles did.0 did.1 })
HasReason-expanded views old new before now said config farm given back Usage taken lent did = absurd did.4
HasReason-expanded views old new before now said config farm given back FarmFile taken lent did = absurd did.4
HasReason-expanded views old new before now said config farm given back Opening taken lent did = absurd did.4
HasReason-expanded views old new before now said config farm given back Disk taken lent did = absurd did.4
HasReason-expanded views old new before now said config farm given back Door taken lent did = absurd did.4
HasReason-expanded views old new before now said config farm given back Damaged taken lent did = absurd did.4
HasReason-expanded views old new before now said config farm given back Wire taken lent did = absurd did.4
HasReason-expanded views old new before now said config farm given back Input taken lent did =
    FileTaken-or views old new before now said config farm Expand (IsRefused views old new) _ taken (record { given = given; back = back; lent = lent; reads_kept = did.1; writes_kept = did.2.faults; held = did.0 })
HasReason-expanded views old new before now said config farm given back Read taken lent did =
    let failed = FileTaken-from views old new before now said config farm Expand (IsUnread views old new) taken (record { given = given; back = back; lent = lent; rose = did.0; kept = did.1.faults }) in (failed.0, inr (inl failed.1))
HasReason-expanded views old new before now said config farm given back Write taken lent did =
    FileTaken-or views old new before now said config farm Expand (IsUnwritten views old new) _ taken (record { given = given; back = back; lent = lent; rose = did.4.1; kept = did.3 })
HasReason-expanded views old new before now said config farm given back NoMemory taken lent did = tt

-- whatever was there to read
anything : (left : Option (List ℕ)) → IfSome left (λ bytes. Unit {0})
anything None = tt
anything (Some bytes) = tt

-- a count that ended so has the reason of its status
HasReason-checked : {F S C N T I D : Type 0} (views : Views F S C N T I D) (old new : Lendings F S C N T I D) (before now : ℕ) (said : Option Command) (config : Config) (farm text : List ℕ) (name : Option (List ℕ)) (given back : C) (status : Status)
    → Taken views old new before now said config farm (Check name) → WasLent old.console new.console given back
    → Tells text (talk_of views given) (talk_of views back) status → HasReason views old new before now said status
HasReason-checked views old new before now said config farm text name given back Done taken lent did =
    FileTaken-or views old new before now said config farm (Check name) (IsDone views old new) _ taken (record { given = given; back = back; lent = lent; reads_kept = did.0.faults; writes_kept = did.1.1; held = anything (views.console_left given) })
HasReason-checked views old new before now said config farm text name given back Usage taken lent did = absurd did.1
HasReason-checked views old new before now said config farm text name given back FarmFile taken lent did = absurd did.1
HasReason-checked views old new before now said config farm text name given back Input taken lent did = absurd did.1
HasReason-checked views old new before now said config farm text name given back Opening taken lent did = absurd did.1
HasReason-checked views old new before now said config farm text name given back Disk taken lent did = absurd did.1
HasReason-checked views old new before now said config farm text name given back Door taken lent did = absurd did.1
HasReason-checked views old new before now said config farm text name given back Damaged taken lent did = absurd did.1
HasReason-checked views old new before now said config farm text name given back Read taken lent did = absurd did.1
HasReason-checked views old new before now said config farm text name given back Wire taken lent did = absurd did.1
HasReason-checked views old new before now said config farm text name given back Write taken lent did =
    FileTaken-or views old new before now said config farm (Check name) (IsUnwritten views old new) _ taken (record { given = given; back = back; lent = lent; rose = did.1.1; kept = did.0.faults })
HasReason-checked views old new before now said config farm text name given back NoMemory taken lent did = tt

HasReason-checked_over : {F S C N T I D : Type 0} (views : Views F S C N T I D) (old new : Lendings F S C N T I D) (before now : ℕ) (said : Option Command) (config : Config) (farm name : List ℕ) (status : Status)
    → Opened views old new said config farm (Check (Some name)) → CheckedOver views old new before now config name status → HasReason views old new before now said status
HasReason-checked_over views old new before now said config farm name status opened ran =
    HasReason-checked views old new before now said config farm (disk_text config (length ran.opening.records) (length ran.opening.state.contents.rows)) (Some name) ran.given ran.back status
    (taken-by views old new before now said config farm (Check (Some name)) opened ran.openings (record { given = ran.disk_given; back = ran.disk_back; disk = ran.disk; kept = ran.kept }))
    ran.console ran.did

-- ---- many connections over the farm of a disk

-- a door was opened for them
HasReason-serving : {F S C N T I D : Type 0} (views : Views F S C N T I D) (old new : Lendings F S C N T I D) (before now : ℕ) (said : Option Command) (config : Config) (farm : List ℕ) (service : Service) (status : Status)
    → Taken views old new before now said config farm (Serve service) → ReasonOf views old new service status → HasReason views old new before now said status
HasReason-serving views old new before now said config farm service Done taken why = FileTaken-or views old new before now said config farm (Serve service) (IsDone views old new) _ taken why
HasReason-serving views old new before now said config farm service Door taken why =
    inr (FileTaken-from views old new before now said config farm (Serve service) (λ config work. IsUnheld views old new work) taken why)
HasReason-serving views old new before now said config farm service Read taken why =
    let failed = FileTaken-from views old new before now said config farm (Serve service) (IsUnread views old new) taken why in (failed.0, inr (inl failed.1))
HasReason-serving views old new before now said config farm service Write taken why = FileTaken-or views old new before now said config farm (Serve service) (IsUnwritten views old new) _ taken why
HasReason-serving views old new before now said config farm service NoMemory taken why = tt
HasReason-serving views old new before now said config farm service Wire taken why = FileTaken-from views old new before now said config farm (Serve service) (IsCut views old new) taken why
HasReason-serving views old new before now said config farm service Usage taken why = absurd why
HasReason-serving views old new before now said config farm service FarmFile taken why = absurd why
HasReason-serving views old new before now said config farm service Input taken why = absurd why
HasReason-serving views old new before now said config farm service Opening taken why = absurd why
HasReason-serving views old new before now said config farm service Disk taken why = absurd why
HasReason-serving views old new before now said config farm service Damaged taken why = absurd why

-- no door was opened
HasReason-unheard : {F S C N T I D : Type 0} (views : Views F S C N T I D) (old new : Lendings F S C N T I D) (before now : ℕ) (said : Option Command) (address : List ℕ) (history : List Entry) (status : Status)
    → IsUnheard old new before now address history status → HasReason views old new before now said status
HasReason-unheard views old new before now said address history status unheard = elim unheard.why [
  | inl none ↦ rw none.0 tt
  | inr refused ↦ rw refused.0 (inl refused.1)
]

HasReason-served_over : {F S C N T I D : Type 0} (views : Views F S C N T I D) (old new : Lendings F S C N T I D) (before now : ℕ) (said : Option Command) (config : Config) (farm : List ℕ) (service : Service) (status : Status)
    → Opened views old new said config farm (Serve service) → ServedOver views old new before now config service status → HasReason views old new before now said status
HasReason-served_over {S} views old new before now said config farm service status opened ran = by _ refl
  where
    counts : TellsFaults ran.opening.faults (views.disk_faults ran.led.disk_back) (end_state farm_rules ran.opening.state ran.history).halted
    counts = ran.led.holds.holds.counts

    by : (halted : Bool) → (end_state farm_rules ran.opening.state ran.history).halted ≡ halted → HasReason views old new before now said status
    by true fell =
        let rose : Rose (views.disk_faults ran.led.disk_given) (views.disk_faults ran.led.disk_back) = subst (λ (n : ℕ). Rose n (views.disk_faults ran.led.disk_back)) ran.led.begins.faults (counts.rose fell) in
        let is : status ≡ Disk = ran.status_is ∙ ap (λ (b : Bool). over_disk b ran.calls_for) fell in
        elim ran.did [
          | inl unheard ↦ absurd (not_fallen (ran.led.begins.at_work) (rw unheard.none at fell))
          | inr heard ↦ rw is (inr (heard.openings, DiskMet-from views old new said config farm service.disk (Serve service) ran.led.disk_given ran.led.disk_back _ opened refl ran.led.disk rose))
        ]
    by false still =
        let kept : views.disk_faults ran.led.disk_back ≡ views.disk_faults ran.led.disk_given = counts.stays still ∙ ran.led.begins.faults in
        let is : status ≡ ran.calls_for = ran.status_is ∙ ap (λ (b : Bool). over_disk b ran.calls_for) still in
        elim ran.did [
          | inl unheard ↦ rw is (HasReason-unheard views old new before now said service.listen ran.history ran.calls_for unheard)
          | inr heard ↦ rw is (HasReason-serving views old new before now said config farm service ran.calls_for
              (taken-by views old new before now said config farm (Serve service) opened heard.openings (record { given = ran.led.disk_given; back = ran.led.disk_back; disk = ran.led.disk; kept = kept }))
              (ReasonOf-heard views old new before now service ran.opening.state ran.history ran.calls ran.calls_for heard))
        ]

HasReason-did : {F S C N T I D : Type 0} (views : Views F S C N T I D) (old new : Lendings F S C N T I D) (before now : ℕ) (said : Option Command) (config : Config) (farm name : List ℕ) (work : Work) (status : Status) (Did : Type 0)
    → Opened views old new said config farm work → disk_of work ≡ Some name → (Did → HasReason views old new before now said status) → DidOver views old new before now name status Did
    → HasReason views old new before now said status
HasReason-did views old new before now said config farm name work status Did opened asked by (inl did) = by did
HasReason-did views old new before now said config farm name work status Did opened asked by (inr (inl ran)) =
    HasReason-unopened views old new before now said config farm name work status opened asked ran
HasReason-did views old new before now said config farm name work status Did opened asked by (inr (inr ran)) = HasReason-missing views old new before now said name status ran

HasReason-obeyed : {F S C N T I D : Type 0} (views : Views F S C N T I D) (old new : Lendings F S C N T I D) (before now : ℕ) (said : Option Command) (config : Config) (farm : List ℕ) (work : Work) (status : Status)
    → Opened views old new said config farm work → Obeyed views old new before now config work status → HasReason views old new before now said status
HasReason-obeyed views old new before now said config farm (Answer None) status opened ran = HasReason-conversed views old new before now said config farm status opened ran.0 ran.1
HasReason-obeyed views old new before now said config farm (Answer (Some name)) status opened ran =
    HasReason-did views old new before now said config farm name (Answer (Some name)) status _ opened refl
    (λ did. HasReason-conversed_over views old new before now said config farm name status opened did) ran
HasReason-obeyed views old new before now said config farm (Serve service) status opened ran =
    HasReason-did views old new before now said config farm service.disk (Serve service) status _ opened refl
    (λ did. HasReason-served_over views old new before now said config farm service status opened did) ran
HasReason-obeyed views old new before now said config farm Expand status opened ran =
    let used = ran.1 in
    HasReason-expanded views old new before now said config farm used.given used.back status (taken-by views old new before now said config farm Expand opened ran.0 used.disk) used.console used.did
HasReason-obeyed views old new before now said config farm (Check None) status opened ran =
    let used = ran.1 in
    HasReason-checked views old new before now said config farm (check_text config) None used.given used.back status (taken-by views old new before now said config farm (Check None) opened ran.0 used.disk) used.console used.did
HasReason-obeyed views old new before now said config farm (Check (Some name)) status opened ran =
    HasReason-did views old new before now said config farm name (Check (Some name)) status _ opened refl
    (λ did. HasReason-checked_over views old new before now said config farm name status opened did) ran

-- a farm file that was not taken
HasReason-refused : {F S C N T I D : Type 0} (views : Views F S C N T I D) (old new : Lendings F S C N T I D) (before now : ℕ) (said : Option Command) (lent : FileLent old new said) (status : Status)
    → now ≡ before → FileRefused (views.file_left lent.opened) (views.file_faults lent.opened) (views.file_faults lent.closed) status → HasReason views old new before now said status
HasReason-refused views old new before now said lent Done openings why = absurd why
HasReason-refused views old new before now said lent Usage openings why = absurd why
HasReason-refused views old new before now said lent Input openings why = absurd why
HasReason-refused views old new before now said lent Opening openings why = absurd why
HasReason-refused views old new before now said lent Disk openings why = absurd why
HasReason-refused views old new before now said lent Door openings why = absurd why
HasReason-refused views old new before now said lent Damaged openings why = absurd why
HasReason-refused views old new before now said lent Write openings why = absurd why
HasReason-refused views old new before now said lent Wire openings why = absurd why
HasReason-refused views old new before now said lent FarmFile openings why = (openings, record { lent = lent; fault = why.0; reads_kept = why.1 })
HasReason-refused views old new before now said lent Read openings why = (openings, inl (record { lent = lent; rose = why }))
HasReason-refused views old new before now said lent NoMemory openings why = tt

HasReason-over : {F S C N T I D : Type 0} (views : Views F S C N T I D) (old new : Lendings F S C N T I D) (before now : ℕ) (said : Option Command) (farm : List ℕ) (work : Work) (opened closed : F) (status : Status)
    → said ≡ Some (OverFarm farm work) → WasOpened old.file new.file farm opened closed → RanOverFile views old new before now work opened closed status
    → HasReason views old new before now said status
HasReason-over views old new before now said farm work opened closed status asked file (inl ran) =
    HasReason-obeyed views old new before now said ran.0 farm work status (record { asked = asked; opened = opened; closed = closed; file = file; sets_up = ran.1; reads_kept = ran.2 }) ran.3
HasReason-over views old new before now said farm work opened closed status asked file (inr ran) =
    HasReason-refused views old new before now said (record { farm = farm; work = work; asked = asked; opened = opened; closed = closed; file = file }) status ran.1 ran.0

-- ---- a request is signed

-- what is known of its run
record Signed {F S C N T I D : Type 0} (old new : Lendings F S C N T I D) (before now : ℕ) (said : Option Command) (signing : Signing) (given back : C) : Type 0 where
  openings : now ≡ before
  asked : said ≡ Some (Sign signing)
  file : new.file ≡ old.file
  lent : WasLent old.console new.console given back

SigningTaken-from : {F S C N T I D : Type 0} (old new : Lendings F S C N T I D) (before now : ℕ) (said : Option Command) (signing : Signing) (given back : C) (IsSo : Signing → Type 0)
    → Signed old new before now said signing given back → IsSo signing → SigningTaken old new said IsSo
SigningTaken-from old new before now said signing given back IsSo ran so = record { signing = signing; asked = ran.asked; file = ran.file; is_so = so }

-- its body is not too long
short_body : (left : Option (List ℕ)) (signing : Signing) (content_type text : List ℕ) → IfSome left (λ body. IsSigned signing content_type body text)
    → IfSome left (λ body. length body ≤ longest_input)
short_body None signing content_type text h = tt
short_body (Some body) signing content_type text h = h.short

module _ {F S C N T I D : Type 0} (views : Views F S C N T I D) (old new : Lendings F S C N T I D) (signing : Signing) (given back : C) (lent : WasLent old.console new.console given back) where
  signing_done : (kind : Option (List ℕ)) → SignsAs signing kind (talk_of views given) (talk_of views back) Done → IsSigningDone views old new kind
  signing_done None did = record { given = given; back = back; lent = lent; reads_kept = did.0.faults; writes_kept = did.1.1; held = anything (views.console_left given) }
  signing_done (Some content_type) did = record {
    given = given;
    back = back;
    lent = lent;
    reads_kept = did.3;
    writes_kept = did.4.1;
    held = short_body (views.console_left given) signing content_type did.0 did.1;
  }

  signing_refused : (kind : Option (List ℕ)) → SignsAs signing kind (talk_of views given) (talk_of views back) Input → IsSigningRefused views old new kind
  signing_refused None did = did.1
  signing_refused (Some content_type) did = record { given = given; back = back; lent = lent; reads_kept = did.1; writes_kept = did.2.faults; held = did.0 }

  signing_unread : (kind : Option (List ℕ)) → SignsAs signing kind (talk_of views given) (talk_of views back) Read → IsSigningUnread views old new kind
  signing_unread None did = did.1
  signing_unread (Some content_type) did = record { given = given; back = back; lent = lent; rose = did.0; kept = did.1.faults }

  signing_unwritten : (kind : Option (List ℕ)) → SignsAs signing kind (talk_of views given) (talk_of views back) Write
      → ConsoleFailed views.console_write_faults views.console_read_faults old new
  signing_unwritten None did = record { given = given; back = back; lent = lent; rose = did.1.1; kept = did.0.faults }
  signing_unwritten (Some content_type) did = record { given = given; back = back; lent = lent; rose = did.4.1; kept = did.3 }

-- no other status ends it
abbrev NeverSigns : Status → Type 0
NeverSigns status = (signing : Signing) (kind : Option (List ℕ)) (before after : LinkState) → SignsAs signing kind before after status → ⊥

never_usage : NeverSigns Usage
never_usage signing None before after did = did.1
never_usage signing (Some content_type) before after did = did.4

never_farm_file : NeverSigns FarmFile
never_farm_file signing None before after did = did.1
never_farm_file signing (Some content_type) before after did = did.4

never_opening : NeverSigns Opening
never_opening signing None before after did = did.1
never_opening signing (Some content_type) before after did = did.4

never_disk : NeverSigns Disk
never_disk signing None before after did = did.1
never_disk signing (Some content_type) before after did = did.4

never_door : NeverSigns Door
never_door signing None before after did = did.1
never_door signing (Some content_type) before after did = did.4

never_damaged : NeverSigns Damaged
never_damaged signing None before after did = did.1
never_damaged signing (Some content_type) before after did = did.4

never_wire : NeverSigns Wire
never_wire signing None before after did = did.1
never_wire signing (Some content_type) before after did = did.4

HasReason-signed : {F S C N T I D : Type 0} (views : Views F S C N T I D) (old new : Lendings F S C N T I D) (before now : ℕ) (said : Option Command) (signing : Signing) (given back : C) (status : Status)
    → Signed old new before now said signing given back → Signs signing (talk_of views given) (talk_of views back) status → HasReason views old new before now said status
HasReason-signed views old new before now said signing given back Done ran did =
    (ran.openings, inr (inl (SigningTaken-from old new before now said signing given back _ ran (signing_done views old new signing given back ran.lent signing.content_type did))))
HasReason-signed views old new before now said signing given back Usage ran did = absurd (never_usage signing signing.content_type _ _ did)
HasReason-signed views old new before now said signing given back FarmFile ran did = absurd (never_farm_file signing signing.content_type _ _ did)
HasReason-signed views old new before now said signing given back Input ran did =
    (ran.openings, inr (inl (SigningTaken-from old new before now said signing given back _ ran (signing_refused views old new signing given back ran.lent signing.content_type did))))
HasReason-signed views old new before now said signing given back Opening ran did = absurd (never_opening signing signing.content_type _ _ did)
HasReason-signed views old new before now said signing given back Disk ran did = absurd (never_disk signing signing.content_type _ _ did)
HasReason-signed views old new before now said signing given back Door ran did = absurd (never_door signing signing.content_type _ _ did)
HasReason-signed views old new before now said signing given back Damaged ran did = absurd (never_damaged signing signing.content_type _ _ did)
HasReason-signed views old new before now said signing given back Read ran did =
    (ran.openings, inr (inr (inl (SigningTaken-from old new before now said signing given back _ ran (signing_unread views old new signing given back ran.lent signing.content_type did)))))
HasReason-signed views old new before now said signing given back Write ran did =
    (ran.openings, inr (inl (SigningTaken-from old new before now said signing given back _ ran (signing_unwritten views old new signing given back ran.lent signing.content_type did))))
HasReason-signed views old new before now said signing given back NoMemory ran did = tt
HasReason-signed views old new before now said signing given back Wire ran did = absurd (never_wire signing signing.content_type _ _ did)

-- ---- a generated load is run

-- what is known of its run
record Loaded {F S C N T I D : Type 0} (old new : Lendings F S C N T I D) (before now : ℕ) (said : Option Command) (load : Load) (given back : C) : Type 0 where
  openings : now ≡ before
  asked : said ≡ Some (Bulk load)
  file : new.file ≡ old.file
  lent : WasLent old.console new.console given back

LoadTaken-from : {F S C N T I D : Type 0} (old new : Lendings F S C N T I D) (before now : ℕ) (said : Option Command) (load : Load) (given back : C) (IsSo : Type 0)
    → Loaded old new before now said load given back → IsSo → LoadTaken old new said IsSo
LoadTaken-from old new before now said load given back IsSo ran so = record { load = load; asked = ran.asked; file = ran.file; is_so = so }

HasReason-loaded : {F S C N T I D : Type 0} (views : Views F S C N T I D) (old new : Lendings F S C N T I D) (before now : ℕ) (said : Option Command) (load : Load) (given back : C) (status : Status)
    → Loaded old new before now said load given back → Loads load (talk_of views given) (talk_of views back) status → HasReason views old new before now said status
HasReason-loaded views old new before now said load given back Done ran did = (
  ran.openings,
  inr (inr (inl (LoadTaken-from old new before now said load given back _ ran
      (record { given = given; back = back; lent = ran.lent; reads_kept = did.2.0.faults; writes_kept = did.2.1.1; held = anything (views.console_left given) })))),
)
HasReason-loaded views old new before now said load given back Usage ran did = absurd did.2.1
HasReason-loaded views old new before now said load given back FarmFile ran did = absurd did.2.1
HasReason-loaded views old new before now said load given back Input ran did = absurd did.2.1
HasReason-loaded views old new before now said load given back Opening ran did = absurd did.2.1
HasReason-loaded views old new before now said load given back Disk ran did = absurd did.2.1
HasReason-loaded views old new before now said load given back Door ran did = absurd did.2.1
HasReason-loaded views old new before now said load given back Damaged ran did = absurd did.2.1
HasReason-loaded views old new before now said load given back Read ran did = absurd did.2.1
HasReason-loaded views old new before now said load given back Write ran did = (
  ran.openings,
  inr (inr (inl (LoadTaken-from old new before now said load given back _ ran
      (record { given = given; back = back; lent = ran.lent; rose = did.2.1.1; kept = did.2.0.faults })))),
)
HasReason-loaded views old new before now said load given back NoMemory ran did = tt
HasReason-loaded views old new before now said load given back Wire ran did = absurd did.2.1

-- ---- a template is rendered

-- what is known of its run
record Rendered {F S C N T I D : Type 0} (old new : Lendings F S C N T I D) (before now : ℕ) (said : Option Command) (given back : C) : Type 0 where
  openings : now ≡ before
  asked : said ≡ Some Render
  file : new.file ≡ old.file
  lent : WasLent old.console new.console given back

RenderingTaken-from : {F S C N T I D : Type 0} (old new : Lendings F S C N T I D) (before now : ℕ) (said : Option Command) (given back : C) (IsSo : Type 0)
    → Rendered old new before now said given back → IsSo → RenderingTaken old new said IsSo
RenderingTaken-from old new before now said given back IsSo ran so = record { asked = ran.asked; file = ran.file; is_so = so }

-- an input that has this rendering has one
has_rendering : (left : Option (List ℕ)) (text : List ℕ) → IfSome left (λ input. IsRendering input text) → IfSome left (λ input. (t : List ℕ) × IsRendering input t)
has_rendering None text h = tt
has_rendering (Some input) text h = (text, h)

HasReason-rendered : {F S C N T I D : Type 0} (views : Views F S C N T I D) (old new : Lendings F S C N T I D) (before now : ℕ) (said : Option Command) (given back : C) (status : Status)
    → Rendered old new before now said given back → Renders (talk_of views given) (talk_of views back) status → HasReason views old new before now said status
HasReason-rendered views old new before now said given back Done ran did = (
  ran.openings,
  inr (inr (inr (RenderingTaken-from old new before now said given back _ ran
      (record { given = given; back = back; lent = ran.lent; reads_kept = did.3; writes_kept = did.4.1; held = has_rendering (views.console_left given) did.0 did.1 })))),
)
HasReason-rendered views old new before now said given back Usage ran did = absurd did.4
HasReason-rendered views old new before now said given back FarmFile ran did = absurd did.4
HasReason-rendered views old new before now said given back Input ran did = (
  ran.openings,
  inr (inr (RenderingTaken-from old new before now said given back _ ran
      (record { given = given; back = back; lent = ran.lent; reads_kept = did.1; writes_kept = did.2.faults; held = did.0 }))),
)
HasReason-rendered views old new before now said given back Opening ran did = absurd did.4
HasReason-rendered views old new before now said given back Disk ran did = absurd did.4
HasReason-rendered views old new before now said given back Door ran did = absurd did.4
HasReason-rendered views old new before now said given back Damaged ran did = absurd did.4
HasReason-rendered views old new before now said given back Read ran did = (
  ran.openings,
  inr (inr (inr (RenderingTaken-from old new before now said given back _ ran (record { given = given; back = back; lent = ran.lent; rose = did.0; kept = did.1.faults })))),
)
HasReason-rendered views old new before now said given back Write ran did = (
  ran.openings,
  inr (inr (inr (RenderingTaken-from old new before now said given back _ ran (record { given = given; back = back; lent = ran.lent; rose = did.4.1; kept = did.3 })))),
)
HasReason-rendered views old new before now said given back NoMemory ran did = tt
HasReason-rendered views old new before now said given back Wire ran did = absurd did.4

-- ---- a run

HasReason-command : {F S C N T I D : Type 0} (views : Views F S C N T I D) (old new : Lendings F S C N T I D) (before now : ℕ) (said : Option Command) (command : Command) (status : Status)
    → said ≡ Some command → RanCommand views old new before now command status → HasReason views old new before now said status
HasReason-command views old new before now said (OverFarm farm work) status asked (inl ran) = rw ran.status_is ran.rose
HasReason-command views old new before now said (OverFarm farm work) status asked (inr ran) =
    HasReason-over views old new before now said farm work ran.opened ran.closed status asked ran.file ran.ran
HasReason-command views old new before now said (Sign signing) status asked ran =
    HasReason-signed views old new before now said signing ran.used.given ran.used.back status
    (record { openings = ran.openings; asked = asked; file = ran.file; lent = ran.used.console }) ran.used.did
HasReason-command views old new before now said (Bulk load) status asked ran =
    HasReason-loaded views old new before now said load ran.used.given ran.used.back status
    (record { openings = ran.openings; asked = asked; file = ran.file; lent = ran.used.console }) ran.used.did
HasReason-command views old new before now said Render status asked ran =
    HasReason-rendered views old new before now said ran.used.given ran.used.back status
    (record { openings = ran.openings; asked = asked; file = ran.file; lent = ran.used.console }) ran.used.did

HasReason-words : {F S C N T I D : Type 0} (views : Views F S C N T I D) (old new : Lendings F S C N T I D) (before now : ℕ) (said : Option Command) (status : Status)
    → (status ≡ NoMemory) ⊎ ((status ≡ Usage) × (said ≡ None)) → HasReason views old new before now said status
HasReason-words views old new before now said status (inl none) = rw none tt
HasReason-words views old new before now said status (inr usage) = rw usage.0 usage.1

pub HasReason-from_run : {F S C N T I D : Type 0} (views : Views F S C N T I D) (old new : Lendings F S C N T I D) (before now : ℕ) (said : Option Command) (status : Status)
    → Ran views old new before now said status → HasReason views old new before now said status
HasReason-from_run views old new before now said status (inl refused) = HasReason-words views old new before now said status refused.why
HasReason-from_run views old new before now said status (inr ran) = HasReason-command views old new before now said ran.0 status ran.1 ran.2
