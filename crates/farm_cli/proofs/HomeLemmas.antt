-- All that a run asked for is home again.
use Rattle.std.proofs.Common.{◌≡◌, ℕ, Bool, true, false, nat_lt, if◌then◌else◌, List, [], ◌∷◌, ◌++◌, length, map, Option, Some, None, refl, sym, ◌∙◌, inl, inr}
use Rattle.command_line.specs.declared.command.Command.{Command}
use Rattle.command_line.specs.declared.command.Command.TheVariants.{OverFarm, Sign, Bulk, Render}
use Rattle.command_line.specs.declared.command.Work.{Work}
use Rattle.command_line.specs.declared.command.Work.TheVariants.{Answer, Expand, Check, Serve}
use Rattle.command_line.specs.declared.service.Service.{Service}
use Rattle.farm_asks.specs.declared.config.Config.{Config}
use Rattle.houses.specs.declared.lending.Lending.{Lending}
use Rattle.houses.specs.declared.lending.Lending.TheVariants.{Ready, Out, Back, Untold}
use Rattle.console_commands.specs.declared.status.Status.{Status}
use Rattle.console_commands.specs.declared.status.Status.TheVariants.{Done, Usage, FarmFile, Input, Opening, Disk, Door, Read, Write, NoMemory, Wire, Damaged}
use Rattle.farm_cli.specs.Checking.{CheckedOver}
use Rattle.farm_cli.specs.Serving.{ConversedOver}
use Rattle.farm_cli.specs.Heard.{IsUnheard, IsHeard, ServedOver}
use Rattle.farm_cli.specs.Home.{IsHome, AreHome, DoorsAreHome, AllHome}
use Rattle.houses.specs.House.{after_giving, after_return, WasLent, Files, unopened, out, back, untold, after_opened, after_closing, WasOpened, Doors, shut, ajar, silent, CanListen, after_listened, after_leaving, all_left, Lendings}
use Rattle.farm_cli.specs.Notes.{TellsLine, TellsStatus}
use Rattle.farm_cli.specs.Used.{LeavesConsole, UsedConsole}
use Rattle.farm_cli.specs.Run.{DidOver, Obeyed, RanOverFile, RanCommand, Ran}
use Rattle.http_wire.specs.Calls.{LinkState}
use Rattle.farm_cli.specs.Views.{Views}

IsHome-same : {T : Type 0} (old new : Lending T) → new ≡ old → IsHome old new
IsHome-same old new same = record { kept = λ x e. inl (same ∙ e); not_out = λ e. sym same ∙ e }

out_from_lent : {T : Type 0} (old : Lending T) (object : T) → after_return (after_giving old) object ≡ Out → old ≡ Out
out_from_lent (Ready x) object e = cc
out_from_lent Out object e = refl
out_from_lent (Back x) object e = cc
out_from_lent Untold object e = cc

IsHome-lent : {T : Type 0} (old new : Lending T) (given object : T) → WasLent old new given object → IsHome old new
IsHome-lent old new given object lent = record {
  kept = λ x e. inr (object, rw e at lent.returned);
  not_out = λ e. out_from_lent old object (sym lent.returned ∙ e);
}

AreHome-same : {T : Type 0} (old new : Files T) → new ≡ old → AreHome old new
AreHome-same old new same = record { kept = λ at e. inl (same ∙ e); not_out = λ e. sym same ∙ e }

out_from_opened : {T : Type 0} (old : Files T) (file : T) → after_closing (after_opened old) file ≡ out → old ≡ out
out_from_opened (unopened at) file e = cc
out_from_opened out file e = refl
out_from_opened (back x) file e = cc
out_from_opened untold file e = cc

AreHome-opened : {T : Type 0} (old new : Files T) (name : List ℕ) (opened closed : T) → WasOpened old new name opened closed → AreHome old new
AreHome-opened old new name opened closed file = record {
  kept = λ at e. inr (closed, rw e at file.returned);
  not_out = λ e. out_from_opened old closed (sym file.returned ∙ e);
}

DoorsAreHome-same : {D : Type 0} (old new : Doors D) → new ≡ old → DoorsAreHome old new
DoorsAreHome-same old new same = record { kept = λ room at e. inl (same ∙ e); not_out = λ room e. sym same ∙ e }

-- once a door came back, not all are out
left_one : {D : Type 0} (doors : Doors D) (door : D) (room : ℕ) → after_leaving doors door ≡ ajar room [] → ⊥
left_one (shut n at) door room e = cc
left_one silent door room e = cc
left_one {D = D} (ajar n kept) door room e = kept_or_not (nat_lt (length kept) n) e
  where
    some : (xs : List D) → xs ++ door ∷ [] ≡ [] → ⊥
    some [] e = cc
    some (x ∷ xs) e = cc

    kept_or_not : (b : Bool) → (if b then ajar n (kept ++ door ∷ []) else silent) ≡ ajar room [] → ⊥
    kept_or_not true e = some kept cc
    kept_or_not false e = cc

left_some : {D : Type 0} (doors : Doors D) (back : List D) → ((room : ℕ) → doors ≡ ajar room [] → ⊥) → (room : ℕ) → all_left doors back ≡ ajar room [] → ⊥
left_some doors [] none room e = none room e
left_some doors (door ∷ others) none room e = left_some (after_leaving doors door) others (left_one doors door) room e

DoorsAreHome-listened : {D : Type 0} (old new : Doors D) (first : D) (others : List D) → new ≡ all_left (after_listened old) (first ∷ others) → DoorsAreHome old new
DoorsAreHome-listened old new first others is = record {
  kept = λ room at e. inr (first, others, rw e at is);
  not_out = λ room e. absurd (left_some (after_leaving (after_listened old) first) others (left_one (after_listened old) first) room (sym is ∙ e));
}

-- a disk, the console, the clock and the draws are home
record ConsoleHome {F S C N T I D : Type 0} (old new : Lendings F S C N T I D) : Type 0 where
  disk : AreHome old.disk new.disk
  console : IsHome old.console new.console
  clock : IsHome old.clock new.clock
  draws : IsHome old.draws new.draws
  doors : DoorsAreHome old.doors new.doors

ConsoleHome-left : {F S C N T I D : Type 0} (old new : Lendings F S C N T I D) → LeavesConsole old new → ConsoleHome old new
ConsoleHome-left old new left = record {
  disk = AreHome-same old.disk new.disk left.disk;
  console = IsHome-same old.console new.console left.console;
  clock = IsHome-same old.clock new.clock left.clock;
  draws = IsHome-same old.draws new.draws left.draws;
  doors = DoorsAreHome-same old.doors new.doors left.doors;
}

ConsoleHome-used : {F S C N T I D : Type 0} (views : Views F S C N T I D) (old new : Lendings F S C N T I D) (Did : LinkState → LinkState → Type 0) → UsedConsole views old new Did → ConsoleHome old new
ConsoleHome-used views old new Did used = record {
  disk = AreHome-same old.disk new.disk used.disk;
  console = IsHome-lent old.console new.console used.given used.back used.console;
  clock = IsHome-same old.clock new.clock used.clock;
  draws = IsHome-same old.draws new.draws used.draws;
  doors = DoorsAreHome-same old.doors new.doors used.doors;
}

ConsoleHome-conversed_over : {F S C N T I D : Type 0} (views : Views F S C N T I D) (old new : Lendings F S C N T I D) (before now : ℕ) (config : Config) (name : List ℕ) (status : Status) → ConversedOver views old new before now config name status → ConsoleHome old new
ConsoleHome-conversed_over views old new before now config name status ran = record {
  disk = AreHome-opened old.disk new.disk name ran.led.disk_given ran.led.disk_back ran.led.disk;
  console = IsHome-lent old.console new.console ran.console_given ran.console_back ran.console;
  clock = IsHome-lent old.clock new.clock ran.clock_given ran.clock_back ran.clock;
  draws = IsHome-lent old.draws new.draws ran.draws_given ran.draws_back ran.draws;
  doors = DoorsAreHome-same old.doors new.doors ran.doors;
}

ConsoleHome-checked_over : {F S C N T I D : Type 0} (views : Views F S C N T I D) (old new : Lendings F S C N T I D) (before now : ℕ) (config : Config) (name : List ℕ) (status : Status) → CheckedOver views old new before now config name status → ConsoleHome old new
ConsoleHome-checked_over views old new before now config name status ran = record {
  disk = AreHome-opened old.disk new.disk name ran.disk_given ran.disk_back ran.disk;
  console = IsHome-lent old.console new.console ran.given ran.back ran.console;
  clock = IsHome-same old.clock new.clock ran.clock;
  draws = IsHome-same old.draws new.draws ran.draws;
  doors = DoorsAreHome-same old.doors new.doors ran.doors;
}

ConsoleHome-heard : {F S C N T I D : Type 0} (views : Views F S C N T I D) (old new : Lendings F S C N T I D) (before now : ℕ) (config : Config) (service : Service) (status : Status) → ServedOver views old new before now config service status → ConsoleHome old new
ConsoleHome-heard views old new before now config service status ran = elim ran.did [
  | inl unheard ↦ record {
    disk = AreHome-opened old.disk new.disk service.disk ran.led.disk_given ran.led.disk_back ran.led.disk;
    console = IsHome-same old.console new.console unheard.console;
    clock = IsHome-same old.clock new.clock unheard.clock;
    draws = IsHome-same old.draws new.draws unheard.draws;
    doors = DoorsAreHome-same old.doors new.doors unheard.doors;
  }
  | inr heard ↦ record {
    disk = AreHome-opened old.disk new.disk service.disk ran.led.disk_given ran.led.disk_back ran.led.disk;
    console = IsHome-lent old.console new.console heard.lent.console_given heard.lent.console_back heard.lent.console;
    clock = IsHome-lent old.clock new.clock heard.lent.clock_given heard.lent.first.clock heard.lent.clock;
    draws = IsHome-lent old.draws new.draws heard.lent.draws_given heard.lent.first.draws heard.lent.draws;
    doors = DoorsAreHome-listened old.doors new.doors heard.lent.first.door (map (λ worker. worker.door) heard.lent.others) heard.lent.doors;
  }
]

ConsoleHome-did : {F S C N T I D : Type 0} (views : Views F S C N T I D) (old new : Lendings F S C N T I D) (before now : ℕ) (name : List ℕ) (status : Status) (Did : Type 0) → (Did → ConsoleHome old new) → DidOver views old new before now name status Did → ConsoleHome old new
ConsoleHome-did views old new before now name status Did home (inl did) = home did
ConsoleHome-did views old new before now name status Did home (inr (inl ran)) = record {
  disk = AreHome-opened old.disk new.disk name ran.given ran.back ran.disk;
  console = IsHome-same old.console new.console ran.console;
  clock = IsHome-same old.clock new.clock ran.clock;
  draws = IsHome-same old.draws new.draws ran.draws;
  doors = DoorsAreHome-same old.doors new.doors ran.doors;
}
ConsoleHome-did views old new before now name status Did home (inr (inr ran)) = ConsoleHome-left old new ran.left

ConsoleHome-obeyed : {F S C N T I D : Type 0} (views : Views F S C N T I D) (old new : Lendings F S C N T I D) (before now : ℕ) (config : Config) (work : Work) (status : Status) → Obeyed views old new before now config work status → ConsoleHome old new
ConsoleHome-obeyed views old new before now config (Answer None) status ran =
    let did = ran.1 in
    record {
      disk = AreHome-same old.disk new.disk did.disk;
      console = IsHome-lent old.console new.console did.console_given did.console_back did.console;
      clock = IsHome-lent old.clock new.clock did.clock_given did.clock_back did.clock;
      draws = IsHome-lent old.draws new.draws did.draws_given did.draws_back did.draws;
      doors = DoorsAreHome-same old.doors new.doors did.doors;
    }
ConsoleHome-obeyed views old new before now config (Answer (Some name)) status ran =
    ConsoleHome-did views old new before now name status _ (ConsoleHome-conversed_over views old new before now config name status) ran
ConsoleHome-obeyed views old new before now config (Serve service) status ran =
    ConsoleHome-did views old new before now service.disk status _ (ConsoleHome-heard views old new before now config service status) ran
ConsoleHome-obeyed views old new before now config Expand status ran = ConsoleHome-used views old new _ ran.1
ConsoleHome-obeyed views old new before now config (Check None) status ran = ConsoleHome-used views old new _ ran.1
ConsoleHome-obeyed views old new before now config (Check (Some name)) status ran =
    ConsoleHome-did views old new before now name status _ (ConsoleHome-checked_over views old new before now config name status) ran

ConsoleHome-over : {F S C N T I D : Type 0} (views : Views F S C N T I D) (old new : Lendings F S C N T I D) (before now : ℕ) (work : Work) (opened closed : F) (status : Status) → RanOverFile views old new before now work opened closed status → ConsoleHome old new
ConsoleHome-over views old new before now work opened closed status (inl ran) = ConsoleHome-obeyed views old new before now ran.0 work status ran.3
ConsoleHome-over views old new before now work opened closed status (inr ran) = ConsoleHome-left old new ran.2

ConsoleHome-command : {F S C N T I D : Type 0} (views : Views F S C N T I D) (old new : Lendings F S C N T I D) (before now : ℕ) (command : Command) (status : Status) → RanCommand views old new before now command status → ConsoleHome old new
ConsoleHome-command views old new before now (OverFarm farm work) status (inl ran) = ConsoleHome-left old new ran.others
ConsoleHome-command views old new before now (OverFarm farm work) status (inr ran) = ConsoleHome-over views old new before now work ran.opened ran.closed status ran.ran
ConsoleHome-command views old new before now (Sign signing) status ran = ConsoleHome-used views old new _ ran.used
ConsoleHome-command views old new before now (Bulk load) status ran = ConsoleHome-used views old new _ ran.used
ConsoleHome-command views old new before now Render status ran = ConsoleHome-used views old new _ ran.used

ConsoleHome-ran : {F S C N T I D : Type 0} (views : Views F S C N T I D) (old new : Lendings F S C N T I D) (before now : ℕ) (said : Option Command) (status : Status) → Ran views old new before now said status → ConsoleHome old new
ConsoleHome-ran views old new before now said status (inl ran) = ConsoleHome-left old new ran.others
ConsoleHome-ran views old new before now said status (inr ran) = ConsoleHome-command views old new before now ran.0 status ran.2

AreHome-command : {F S C N T I D : Type 0} (views : Views F S C N T I D) (old new : Lendings F S C N T I D) (before now : ℕ) (command : Command) (status : Status) → RanCommand views old new before now command status → AreHome old.file new.file
AreHome-command views old new before now (OverFarm farm work) status (inl ran) = AreHome-same old.file new.file ran.file
AreHome-command views old new before now (OverFarm farm work) status (inr ran) = AreHome-opened old.file new.file farm ran.opened ran.closed ran.file
AreHome-command views old new before now (Sign signing) status ran = AreHome-same old.file new.file ran.file
AreHome-command views old new before now (Bulk load) status ran = AreHome-same old.file new.file ran.file
AreHome-command views old new before now Render status ran = AreHome-same old.file new.file ran.file

AreHome-ran : {F S C N T I D : Type 0} (views : Views F S C N T I D) (old new : Lendings F S C N T I D) (before now : ℕ) (said : Option Command) (status : Status) → Ran views old new before now said status → AreHome old.file new.file
AreHome-ran views old new before now said status (inl ran) = AreHome-same old.file new.file ran.file
AreHome-ran views old new before now said status (inr ran) = AreHome-command views old new before now ran.0 status ran.2

IsHome-told : {N : Type 0} (written : N → Option (List ℕ)) (faults : N → ℕ) (old new : Lending N) (line : List ℕ) → TellsLine written faults old new line → IsHome old new
IsHome-told written faults old new line told = IsHome-lent old new told.given told.back told.lent

IsHome-status : {N : Type 0} (written : N → Option (List ℕ)) (faults : N → ℕ) (old new : Lending N) (status : Status) → TellsStatus written faults old new status → IsHome old new
IsHome-status written faults old new Done told = IsHome-same old new told
IsHome-status written faults old new Usage told = IsHome-told written faults old new told.0 told.2
IsHome-status written faults old new FarmFile told = IsHome-told written faults old new told.0 told.2
IsHome-status written faults old new Input told = IsHome-told written faults old new told.0 told.2
IsHome-status written faults old new Opening told = IsHome-told written faults old new told.0 told.2
IsHome-status written faults old new Disk told = IsHome-told written faults old new told.0 told.2
IsHome-status written faults old new Door told = IsHome-told written faults old new told.0 told.2
IsHome-status written faults old new Damaged told = IsHome-told written faults old new told.0 told.2
IsHome-status written faults old new Read told = IsHome-told written faults old new told.0 told.2
IsHome-status written faults old new Write told = IsHome-told written faults old new told.0 told.2
IsHome-status written faults old new NoMemory told = IsHome-told written faults old new told.0 told.2
IsHome-status written faults old new Wire told = IsHome-told written faults old new told.0 told.2

pub AllHome-from_run : {F S C N T I D : Type 0} (views : Views F S C N T I D) (old new : Lendings F S C N T I D) (before now : ℕ) (said : Option Command) (status : Status)
    → Ran views old new before now said status → TellsStatus views.notes_written views.notes_faults old.notes new.notes status
    → AllHome old new
AllHome-from_run views old new before now said status ran told =
    let home = ConsoleHome-ran views old new before now said status ran in
    record {
      file = AreHome-ran views old new before now said status ran;
      disk = home.disk;
      console = home.console;
      notes = IsHome-status views.notes_written views.notes_faults old.notes new.notes status told;
      clock = home.clock;
      draws = home.draws;
      doors = home.doors;
    }
