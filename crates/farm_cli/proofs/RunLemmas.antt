-- What the calls of a run leave together.
use Rattle.std.proofs.Common.{◌≡◌, ◌≢◌, ℕ, ◌+◌, ◌⊎◌, suc, true, false, Bool, List, [], ◌∷◌, length, Option, Some, None, refl, sym, ap, subst, ◌∙◌, inl, inr}
use Rattle.causes.specs.Causes.{Rose}
use Rattle.disk_journal.specs.declared.fault.OpenFault.{OpenFault}
use Rattle.disk_journal.specs.declared.fault.OpenFault.TheVariants as faults
use Rattle.history.specs.Asks.{AsksInTurn, LeadsAlone}
use Rattle.history.specs.Histories.{end_state}
use Rattle.task_types.specs.declared.change.Change.{Change}
use Rattle.task_index.specs.Contents.{Contents}
use Rattle.farm_core.specs.Farm.{HoldsHistory, state_of}
use Rattle.farm_core.specs.Opened.{IsFarmDamaged}
use Rattle.farm_core.specs.Records.{AreRecords, Recorded}
use Rattle.farm_core.proofs.HoldLemmas.{holds-opened}
use Rattle.command_line.specs.declared.command.Command.{Command}
use Rattle.command_line.specs.declared.command.Command.TheVariants.{OverFarm, Sign, Bulk, Render}
use Rattle.command_line.specs.declared.command.Work.{Work}
use Rattle.command_line.specs.declared.command.Work.TheVariants.{Answer, Expand, Check, Serve}
use Rattle.command_line.specs.declared.load.Load.{Load}
use Rattle.command_line.specs.declared.service.Service.{Service}
use Rattle.command_line.specs.declared.signing.Signing.{Signing}
use Rattle.farm_files.specs.declared.reading.TheConstants.{LONGEST_FILE}
use Rattle.http_wire.specs.Whole.{piece_size, LosesWithin}
use Rattle.farm_asks.specs.declared.config.Config.{Config}
use Rattle.farm_machine.specs.Entry.{Entry}
use Rattle.farm_machine.specs.Law.{Opening, opened}
use Rattle.farm_machine.specs.State.{State}
use Rattle.farm_machine.specs.Step.{farm_rules}
use Rattle.farm_asks.specs.declared.reply.Reply.{Reply}
use Rattle.farm_core.specs.Diskless.{HaveNoDisk}
use Rattle.farm_server.specs.Served.{Ask, questions_of, Spoke}
use Rattle.farm_server.specs.declared.served.Served.{Served}
use Rattle.farm_serving.specs.Connections.{Station}
use Rattle.farm_cli.specs.Checking.{CheckedOver, counts_disk_text}
use Rattle.console_commands.specs.Inputs.{Tells}
use Rattle.farm_asks.specs.Config.{counts_of}
use Rattle.farm_asks.specs.declared.config.ConfigCounts.{ConfigCounts}
use Rattle.farm_cli.specs.Disks.{BeginsFrom, DiskHolds, HasFarm, IsMissing, IsRefusedFor, LedOver, WasUnopened}
use Rattle.farm_cli.specs.Heard.{workers_of, ServesLent, IsUnheard, IsHeard, ServedOver}
use Rattle.farm_crews.specs.Serves.{ServesFarm, NeverServed}
use Rattle.houses.specs.House.{CanGive, after_giving, after_return, WasLent, after_opened, after_closing, CanOpenAmong, WasOpened, Doors, after_listened, Lendings}
use Rattle.farm_cli.specs.Used.{LeavesConsole, UsedConsole}
use Rattle.farm_cli.specs.Run.{DidOver, Obeyed, RanOverFile, RanLoad, RanRendering, RanSigning, RanCommand, Ran}
use Rattle.farm_cli.specs.Ends.{status_of}
use Rattle.farm_cli.specs.Serving.{IsHistoryOf, Conversed, ConversedOver, status_over}
use Rattle.http_wire.specs.Calls.{LinkState}
use Rattle.farm_cli.specs.Views.{Views, outside_of, talk_of}
use Rattle.console_commands.specs.declared.status.Status.{Status}
use Rattle.console_commands.specs.declared.status.Status.TheVariants.{Disk}
use Rattle.std.specs.Prelude.{Ok}

-- records one for one are as many
records-length : (changes : List Change) (bodies : List (List ℕ)) → AreRecords changes bodies → length changes ≡ length bodies
records-length [] bodies are = sym (ap length are)
records-length (change ∷ changes) [] are = absurd are
records-length (change ∷ changes) (body ∷ bodies) are = ap suc (records-length changes bodies are.1)

-- three objects were lent, and came back
pub record WereLent {F S C N T I D : Type 0} (old new : Lendings F S C N T I D) (console console' : C) (clock clock' : T) (draws draws' : I) : Type 0 where
  pub console_lent : WasLent old.console new.console console console'
  pub clock_lent : WasLent old.clock new.clock clock clock'
  pub draws_lent : WasLent old.draws new.draws draws draws'
  pub disk_left : new.disk ≡ old.disk
  pub doors_left : new.doors ≡ old.doors

-- one after another
pub WereLent-from_calls : {F S C N T I D : Type 0} (l0 l1 l2 l3 l4 l5 l6 : Lendings F S C N T I D) (console console' : C) (clock clock' : T) (draws draws' : I)
    → CanGive l0.console console → l1 ≡ record l0 { console = after_giving l0.console }
    → CanGive l1.clock clock → l2 ≡ record l1 { clock = after_giving l1.clock }
    → CanGive l2.draws draws → l3 ≡ record l2 { draws = after_giving l2.draws }
    → l4 ≡ record l3 { console = after_return l3.console console' }
    → l5 ≡ record l4 { clock = after_return l4.clock clock' }
    → l6 ≡ record l5 { draws = after_return l5.draws draws' }
    → WereLent l0 l6 console console' clock clock' draws draws'
WereLent-from_calls l0 l1 l2 l3 l4 l5 l6 console console' clock clock' draws draws' g1 e1 g2 e2 g3 e3 e4 e5 e6 = record {
  console_lent = record { could = g1; returned = rw (e6, e5, e4, e3, e2, e1) refl };
  clock_lent = record { could = rw e1 at g2; returned = rw (e6, e5, e4, e3, e2, e1) refl };
  draws_lent = record { could = rw (e2, e1) at g3; returned = rw (e6, e5, e4, e3, e2, e1) refl };
  disk_left = rw (e6, e5, e4, e3, e2, e1) refl;
  doors_left = rw (e6, e5, e4, e3, e2, e1) refl;
}

-- three objects were lent between the opening of a disk and its return
pub record LentOver {F S C N T I D : Type 0} (old new : Lendings F S C N T I D) (name : List ℕ) (disk disk' : S) (console console' : C) (clock clock' : T) (draws draws' : I) : Type 0 where
  pub disk_lent : WasOpened old.disk new.disk name disk disk'
  pub console_lent : WasLent old.console new.console console console'
  pub clock_lent : WasLent old.clock new.clock clock clock'
  pub draws_lent : WasLent old.draws new.draws draws draws'
  pub doors_left : new.doors ≡ old.doors

pub LentOver-from : {F S C N T I D : Type 0} (old l0 l6 new : Lendings F S C N T I D) (name : List ℕ) (disk disk' : S) (console console' : C) (clock clock' : T) (draws draws' : I)
    → CanOpenAmong old.disk name (Ok disk) → l0 ≡ record old { disk = after_opened old.disk } → WereLent l0 l6 console console' clock clock' draws draws'
    → new ≡ record l6 { disk = after_closing l6.disk disk' } → LentOver old new name disk disk' console console' clock clock' draws draws'
LentOver-from old l0 l6 new name disk disk' console console' clock clock' draws draws' could opens were closes = record {
  disk_lent = record { could = could; returned = rw (closes, were.disk_left, opens) refl };
  console_lent = rw closes (rw opens at were.console_lent);
  clock_lent = rw closes (rw opens at were.clock_lent);
  draws_lent = rw closes (rw opens at were.draws_lent);
  doors_left = rw (closes, were.doors_left, opens) refl;
}

-- ---- a farm that could not be opened

-- the fault of an opening has its reason
pub IsRefusedFor-by : {F S C N T I D : Type 0} (views : Views F S C N T I D) (given back : S) (fault : OpenFault) → (fault ≡ faults.Disk → Rose (views.disk_faults given) (views.disk_faults back))
    → (fault ≢ faults.Disk → views.disk_faults back ≡ views.disk_faults given)
    → (views.disk_tells → (place : ℕ) → fault ≡ faults.Damaged place → IsFarmDamaged (views.disk_contents given).bytes place) → IsRefusedFor views given back fault
IsRefusedFor-by views given back faults.Disk rose spared damaged = rose refl
IsRefusedFor-by views given back (faults.Damaged place) rose spared damaged = (spared (λ is. cc), λ tells. damaged tells place refl)
IsRefusedFor-by views given back faults.NoMemory rose spared damaged = spared (λ is. cc)

-- ---- a farm that was opened from a disk

-- the status over a farm that has halted, and over one at work
pub halted_status : (halted : Bool) (served : Served) (status : Status) → halted ≡ true → status ≡ Disk → status ≡ status_over halted served
halted_status true served status fell is = is
halted_status false served status fell is = cc

pub work_status : (halted : Bool) (served : Served) (status : Status) → halted ≡ false → status ≡ status_of served → status ≡ status_over halted served
work_status true served status still is = cc
work_status false served status still is = is

-- the opening of its history
abbrev pub begun_from : Config → Contents → List Change → ℕ → Opening
begun_from config contents changes faults = record { state = state_of config contents false; records = changes; faults = faults }

module _ {F S C N T I D : Type 0} (views : Views F S C N T I D) (old new : Lendings F S C N T I D) (before now : ℕ) (name : List ℕ) (set_up config : Config) (contents : Contents) (recorded : Recorded S)
    (has : HasFarm views old new before now name set_up config contents recorded) where
  -- the opening of its history
  abbrev pub has_opening : Opening
  has_opening = begun_from config contents has.opened.replays.changes (views.disk_faults has.given)

  pub has_begun : BeginsFrom views has.given set_up has_opening
  has_begun = record {
    config_is = has.config_is;
    at_work = refl;
    faults = refl;
    leaves = has.opened.replays.leaves;
    bodies = has.opened.bodies;
    recorded = has.opened.replays.recorded;
    opens = has.opened.opens;
  }

  -- it holds its history, which is empty
  pub has_held : HoldsHistory views.disk_tells (views.disk_contents recorded.disk) recorded.end (views.disk_faults recorded.disk) (state_of config contents recorded.halted) has_opening []
  has_held =
      let P : ℕ → Bool → Type 0 = λ n b. HoldsHistory views.disk_tells (views.disk_contents recorded.disk) recorded.end n (state_of config contents b) has_opening [] in
      let begun : P (views.disk_faults has.given) false =
      holds-opened views.disk_tells (views.disk_contents has.given).bytes (views.disk_contents recorded.disk) recorded.end recorded.count (views.disk_faults has.given) config contents has.opened in
      subst (λ (n : ℕ). P n recorded.halted) (sym has.kept) (subst (P (views.disk_faults has.given)) (sym has.at_work) begun)

  -- so many records were told of
  pub has_counted : recorded.count ≡ length has_opening.records
  has_counted = has.opened.counted ∙ sym (records-length has.opened.replays.changes has.opened.bodies has.opened.replays.recorded)

-- the opening of a farm that begins in a state, on no disk
abbrev pub begun : State → Opening
begun state = record { state = state; records = []; faults = 0 }

-- a history of its own, in which no disk had a part
pub record IsOwnHistory (start : State) (asks : List Ask) (replies : List Reply) : Type 0 where
  pub history : IsHistoryOf start asks replies
  pub no_disk : HaveNoDisk history.history

-- the asks of one that stood for nothing, and stands only for what leads alone to a state without a disk, are such a history
pub IsOwnHistory-from_turns : (start state : State) (old new : Opening → List Entry → List ℕ → Type 0) (asks : List Ask) (replies : List Reply)
    → old (begun start) [] []
    → AsksInTurn farm_rules opened old new (questions_of asks) replies
    → ((seen : List Entry) (mine : List ℕ) → new (begun start) seen mine → LeadsAlone farm_rules start seen mine state × HaveNoDisk seen)
    → IsOwnHistory start asks replies
IsOwnHistory-from_turns start state old new asks replies fresh turns alone =
    let gains = turns (begun start) [] [] fresh in
    let both = alone gains.since gains.gained gains.stands_now in
    let leads = both.0 in
    record {
      history = record {
        history = gains.since;
        legal = leads.legal;
        made = leads.made;
        asked = rw (← leads.all) gains.asked;
        replied = rw (← leads.all) gains.replied;
      };
      no_disk = both.1;
    }

-- the same of one that a disk keeps, and what the disk holds of it
pub record HasHistory {F S C N T I D : Type 0} (views : Views F S C N T I D) (disk : S) (state : State) (opening : Opening) (asks : List Ask) (replies : List Reply) : Type 0 where
  pub history : IsHistoryOf opening.state asks replies
  pub ends : state ≡ end_state farm_rules opening.state history.history
  pub holds : DiskHolds views disk state opening history.history

pub HasHistory-from_turns : {F S C N T I D : Type 0} (views : Views F S C N T I D) (disk : S) (end : ℕ) (opening : Opening) (state : State) (old new : Opening → List Entry → List ℕ → Type 0) (asks : List Ask) (replies : List Reply)
    → old opening [] []
    → AsksInTurn farm_rules opened old new (questions_of asks) replies
    → ((seen : List Entry) (mine : List ℕ) → new opening seen mine
    → LeadsAlone farm_rules opening.state seen mine state × HoldsHistory views.disk_tells (views.disk_contents disk) end (views.disk_faults disk) state opening seen)
    → HasHistory views disk state opening asks replies
HasHistory-from_turns views disk end opening state old new asks replies fresh turns alone =
    let gains = turns opening [] [] fresh in
    let both = alone gains.since gains.gained gains.stands_now in
    let leads = both.0 in
    record {
      history = record {
        history = gains.since;
        legal = leads.legal;
        made = leads.made;
        asked = rw (← leads.all) gains.asked;
        replied = rw (← leads.all) gains.replied;
      };
      ends = leads.leads;
      holds = record { end = end; holds = both.1 };
    }

module _ {F S C N T I D : Type 0} (views : Views F S C N T I D) (old l0 new : Lendings F S C N T I D) (before now0 now : ℕ) (name : List ℕ) (set_up config : Config) (contents : Contents) (recorded : Recorded S)
    (has : HasFarm views old l0 before now0 name set_up config contents recorded) (back : S) (console console' : C) (clock clock' : T) (draws draws' : I) where
  -- the console was served over the farm of a disk, and the disk came back
  pub ConversedOver-from : LentOver old new name has.given back console console' clock clock' draws draws' → now ≡ now0 → (asks : List Ask) (replies : List Reply) (served : Served) (state : State) (status : Status)
      → Spoke (outside_of views console clock draws) (outside_of views console' clock' draws') asks replies served
      → HasHistory views back state (has_opening views old l0 before now0 name set_up config contents recorded has) asks replies → status ≡ status_over state.halted served
      → ConversedOver views old new before now set_up name status
  ConversedOver-from lent openings asks replies served state status spoke h status_is = record {
    openings = openings ∙ has.openings;
    console_given = console;
    console_back = console';
    console = lent.console_lent;
    clock_given = clock;
    clock_back = clock';
    clock = lent.clock_lent;
    draws_given = draws;
    draws_back = draws';
    draws = lent.draws_lent;
    doors = lent.doors_left;
    opening = has_opening views old l0 before now0 name set_up config contents recorded has;
    asks = asks;
    replies = replies;
    served = served;
    spoke = spoke;
    history = h.history;
    led = record {
      disk_given = has.given;
      disk_back = back;
      disk = lent.disk_lent;
      begins = has_begun views old l0 before now0 name set_up config contents recorded has;
      holds = subst (λ (s : State). DiskHolds views back s (has_opening views old l0 before now0 name set_up config contents recorded has) h.history.history) h.ends h.holds;
    };
    status_is = status_is ∙ ap (λ (s : State). status_over s.halted served) h.ends;
  }

module _ {F S C N T I D : Type 0} (views : Views F S C N T I D) (old l0 l1 l2 new : Lendings F S C N T I D) (before now0 now : ℕ) (name : List ℕ) (set_up config : Config) (contents : Contents) (recorded : Recorded S)
    (has : HasFarm views old l0 before now0 name set_up config contents recorded) (console console' : C) where
  -- the farm of a disk was counted, and the disk came back before the console was asked for
  pub CheckedOver-from : l1 ≡ record l0 { disk = after_closing l0.disk recorded.disk } → CanGive l1.console console → l2 ≡ record l1 { console = after_giving l1.console }
      → new ≡ record l2 { console = after_return l2.console console' } → now ≡ now0 → (counts : ConfigCounts) (records tasks : ℕ) (status : Status) → counts ≡ counts_of set_up → records ≡ recorded.count → tasks ≡ length contents.rows
      → Tells (counts_disk_text counts records tasks) (talk_of views console) (talk_of views console') status → CheckedOver views old new before now set_up name status
  CheckedOver-from closes gives asks returns openings counts records tasks status counts_is records_is tasks_is told =
      let opens = has.lends in
      let opening : Opening = has_opening views old l0 before now0 name set_up config contents recorded has in
      let counted = records_is ∙ has_counted views old l0 before now0 name set_up config contents recorded has in
      record {
        openings = openings ∙ has.openings;
        disk_given = has.given;
        disk_back = recorded.disk;
        disk = record { could = has.could; returned = rw (returns, asks, closes, opens) refl };
        given = console;
        back = console';
        console = record { could = rw (closes, opens) at gives; returned = rw (returns, asks, closes, opens) refl };
        clock = rw (returns, asks, closes, opens) refl;
        draws = rw (returns, asks, closes, opens) refl;
        doors = rw (returns, asks, closes, opens) refl;
        opening = opening;
        begins = has_begun views old l0 before now0 name set_up config contents recorded has;
        kept = has.kept;
        holds = record {
          end = recorded.end;
          holds = subst (λ (b : Bool). HoldsHistory views.disk_tells (views.disk_contents recorded.disk) recorded.end (views.disk_faults recorded.disk) (state_of config contents b) opening []) has.at_work
              (has_held views old l0 before now0 name set_up config contents recorded has);
        };
        did = rw (counts_is, counted, tasks_is) at told;
      }

-- ---- what was done with the console is said of any lendings that tell the same of it

Conversed-same : {F S C N T I D : Type 0} (views : Views F S C N T I D) (old old' new new' : Lendings F S C N T I D) (config : Config) (status : Status)
    → LeavesConsole old old' → LeavesConsole new new' → Conversed views old new config status → Conversed views old' new' config status
Conversed-same views old old' new new' config status before after h = record {
  disk = after.disk ∙ (h.disk ∙ sym before.disk);
  console_given = h.console_given;
  console_back = h.console_back;
  console = rw (before.console, after.console) h.console;
  clock_given = h.clock_given;
  clock_back = h.clock_back;
  clock = rw (before.clock, after.clock) h.clock;
  draws_given = h.draws_given;
  draws_back = h.draws_back;
  draws = rw (before.draws, after.draws) h.draws;
  doors = after.doors ∙ (h.doors ∙ sym before.doors);
  asks = h.asks;
  replies = h.replies;
  served = h.served;
  spoke = h.spoke;
  history = h.history;
  no_disk = h.no_disk;
  status_is = h.status_is;
}

UsedConsole-same : {F S C N T I D : Type 0} (views : Views F S C N T I D) (old old' new new' : Lendings F S C N T I D) (Did : LinkState → LinkState → Type 0)
    → LeavesConsole old old' → LeavesConsole new new' → UsedConsole views old new Did → UsedConsole views old' new' Did
UsedConsole-same views old old' new new' Did before after h = record {
  disk = after.disk ∙ (h.disk ∙ sym before.disk);
  given = h.given;
  back = h.back;
  console = rw (before.console, after.console) h.console;
  clock = after.clock ∙ (h.clock ∙ sym before.clock);
  draws = after.draws ∙ (h.draws ∙ sym before.draws);
  doors = after.doors ∙ (h.doors ∙ sym before.doors);
  did = h.did;
}

LeavesConsole-same : {F S C N T I D : Type 0} (old old' new new' : Lendings F S C N T I D) → LeavesConsole old old' → LeavesConsole new new' → LeavesConsole old new → LeavesConsole old' new'
LeavesConsole-same old old' new new' before after h = record {
  disk = after.disk ∙ (h.disk ∙ sym before.disk);
  console = after.console ∙ (h.console ∙ sym before.console);
  clock = after.clock ∙ (h.clock ∙ sym before.clock);
  draws = after.draws ∙ (h.draws ∙ sym before.draws);
  doors = after.doors ∙ (h.doors ∙ sym before.doors);
}

LeavesConsole-none : {F S C N T I D : Type 0} (old : Lendings F S C N T I D) → LeavesConsole old old
LeavesConsole-none old = record { disk = refl; console = refl; clock = refl; draws = refl; doors = refl }

LedOver-same : {F S C N T I D : Type 0} (views : Views F S C N T I D) (old old' new new' : Lendings F S C N T I D) (config : Config) (name : List ℕ) (opening : Opening) (history : List Entry)
    → old'.disk ≡ old.disk → new'.disk ≡ new.disk → LedOver views old new config name opening history → LedOver views old' new' config name opening history
LedOver-same views old old' new new' config name opening history first last h = record {
  disk_given = h.disk_given;
  disk_back = h.disk_back;
  disk = rw (first, last) h.disk;
  begins = h.begins;
  holds = h.holds;
}

ConversedOver-same : {F S C N T I D : Type 0} (views : Views F S C N T I D) (old old' new new' : Lendings F S C N T I D) (before now : ℕ) (config : Config) (name : List ℕ) (status : Status)
    → LeavesConsole old old' → LeavesConsole new new' → ConversedOver views old new before now config name status → ConversedOver views old' new' before now config name status
ConversedOver-same views old old' new new' before now config name status first last h = record {
  openings = h.openings;
  console_given = h.console_given;
  console_back = h.console_back;
  console = rw (first.console, last.console) h.console;
  clock_given = h.clock_given;
  clock_back = h.clock_back;
  clock = rw (first.clock, last.clock) h.clock;
  draws_given = h.draws_given;
  draws_back = h.draws_back;
  draws = rw (first.draws, last.draws) h.draws;
  doors = last.doors ∙ (h.doors ∙ sym first.doors);
  opening = h.opening;
  asks = h.asks;
  replies = h.replies;
  served = h.served;
  spoke = h.spoke;
  history = h.history;
  led = LedOver-same views old old' new new' config name h.opening h.history.history first.disk last.disk h.led;
  status_is = h.status_is;
}

CheckedOver-same : {F S C N T I D : Type 0} (views : Views F S C N T I D) (old old' new new' : Lendings F S C N T I D) (before now : ℕ) (config : Config) (name : List ℕ) (status : Status)
    → LeavesConsole old old' → LeavesConsole new new' → CheckedOver views old new before now config name status → CheckedOver views old' new' before now config name status
CheckedOver-same views old old' new new' before now config name status first last h = record {
  openings = h.openings;
  disk_given = h.disk_given;
  disk_back = h.disk_back;
  disk = rw (first.disk, last.disk) h.disk;
  given = h.given;
  back = h.back;
  console = rw (first.console, last.console) h.console;
  clock = last.clock ∙ (h.clock ∙ sym first.clock);
  draws = last.draws ∙ (h.draws ∙ sym first.draws);
  doors = last.doors ∙ (h.doors ∙ sym first.doors);
  opening = h.opening;
  begins = h.begins;
  kept = h.kept;
  holds = h.holds;
  did = h.did;
}

-- what is told of the console, the clock, the draws and the doors is the same
pub record SameLent {F S C N T I D : Type 0} (old old' : Lendings F S C N T I D) : Type 0 where
  pub console : old'.console ≡ old.console
  pub clock : old'.clock ≡ old.clock
  pub draws : old'.draws ≡ old.draws
  pub doors : old'.doors ≡ old.doors

pub SameLent-left : {F S C N T I D : Type 0} (old old' : Lendings F S C N T I D) → LeavesConsole old old' → SameLent old old'
SameLent-left old old' left = record { console = left.console; clock = left.clock; draws = left.draws; doors = left.doors }

IsUnheard-same : {F S C N T I D : Type 0} (old old' new new' : Lendings F S C N T I D) (before now : ℕ) (address : List ℕ) (history : List Entry) (status : Status)
    → SameLent old old' → SameLent new new' → IsUnheard old new before now address history status → IsUnheard old' new' before now address history status
IsUnheard-same old old' new new' before now address history status first last h = record {
  none = h.none;
  why = rw first.doors h.why;
  console = last.console ∙ (h.console ∙ sym first.console);
  clock = last.clock ∙ (h.clock ∙ sym first.clock);
  draws = last.draws ∙ (h.draws ∙ sym first.draws);
  doors = last.doors ∙ (h.doors ∙ sym first.doors);
}

ServesLent-same : {F S C N T I D : Type 0} (views : Views F S C N T I D) (old old' new new' : Lendings F S C N T I D) (opened : Doors D) (door : D) (Did : LinkState → LinkState → Station → List Station → Type 0)
    → SameLent old old' → SameLent new new' → ServesLent views old new opened door Did → ServesLent views old' new' opened door Did
ServesLent-same views old old' new new' opened door Did first last h = record {
  console_given = h.console_given;
  console_back = h.console_back;
  console = rw (first.console, last.console) h.console;
  first = h.first;
  others = h.others;
  clock_given = h.clock_given;
  clock = rw (first.clock, last.clock) h.clock;
  draws_given = h.draws_given;
  draws = rw (first.draws, last.draws) h.draws;
  doors = last.doors ∙ h.doors;
  did = h.did;
}

IsHeard-same : {F S C N T I D : Type 0} (views : Views F S C N T I D) (old old' new new' : Lendings F S C N T I D) (before now : ℕ) (service : Service) (start : State) (history : List Entry) (calls : List ℕ) (status : Status)
    → SameLent old old' → SameLent new new' → IsHeard views old new before now service start history calls status → IsHeard views old' new' before now service start history calls status
IsHeard-same {D = D} views old old' new new' before now service start history calls status first last h =
    let Did : LinkState → LinkState → Station → List Station → Type 0 = λ talk talked lent crew.
    ServesFarm (workers_of service) service.connections talk talked lent crew start history calls status ⊎ ((history ≡ []) × NeverServed talk talked lent crew status) in
    record {
      openings = h.openings;
      door = h.door;
      could = rw first.doors h.could;
      lent = subst (λ (doors : Doors D). ServesLent views old' new' (after_listened doors) h.door Did) (sym first.doors) (ServesLent-same views old old' new new' (after_listened old.doors) h.door Did first last h.lent);
    }

pub did_same : {F S C N T I D : Type 0} (views : Views F S C N T I D) (old old' new new' : Lendings F S C N T I D) (before now : ℕ) (service : Service) (start : State) (history : List Entry) (calls : List ℕ) (status : Status)
    → SameLent old old' → SameLent new new'
    → IsUnheard old new before now service.listen history status ⊎ IsHeard views old new before now service start history calls status
    → IsUnheard old' new' before now service.listen history status ⊎ IsHeard views old' new' before now service start history calls status
did_same views old old' new new' before now service start history calls status first last (inl h) = inl (IsUnheard-same old old' new new' before now service.listen history status first last h)
did_same views old old' new new' before now service start history calls status first last (inr h) = inr (IsHeard-same views old old' new new' before now service start history calls status first last h)

ServedOver-same : {F S C N T I D : Type 0} (views : Views F S C N T I D) (old old' new new' : Lendings F S C N T I D) (before now : ℕ) (config : Config) (service : Service) (status : Status)
    → LeavesConsole old old' → LeavesConsole new new' → ServedOver views old new before now config service status → ServedOver views old' new' before now config service status
ServedOver-same views old old' new new' before now config service status first last h = record {
  opening = h.opening;
  history = h.history;
  calls = h.calls;
  leads = h.leads;
  led = LedOver-same views old old' new new' config service.disk h.opening h.history first.disk last.disk h.led;
  calls_for = h.calls_for;
  did = did_same views old old' new new' before now service h.opening.state h.history h.calls h.calls_for (SameLent-left old old' first) (SameLent-left new new' last) h.did;
  status_is = h.status_is;
}

WasUnopened-same : {F S C N T I D : Type 0} (views : Views F S C N T I D) (old old' new new' : Lendings F S C N T I D) (before now : ℕ) (name : List ℕ) (status : Status)
    → LeavesConsole old old' → LeavesConsole new new' → WasUnopened views old new before now name status → WasUnopened views old' new' before now name status
WasUnopened-same views old old' new new' before now name status first last h = record {
  openings = h.openings;
  given = h.given;
  back = h.back;
  disk = rw (first.disk, last.disk) h.disk;
  fault = h.fault;
  why = h.why;
  stops = h.stops;
  untouched = h.untouched;
  status_is = h.status_is;
  console = last.console ∙ (h.console ∙ sym first.console);
  clock = last.clock ∙ (h.clock ∙ sym first.clock);
  draws = last.draws ∙ (h.draws ∙ sym first.draws);
  doors = last.doors ∙ (h.doors ∙ sym first.doors);
}

IsMissing-same : {F S C N T I D : Type 0} (old old' new new' : Lendings F S C N T I D) (before now : ℕ) (name : List ℕ) (status : Status)
    → LeavesConsole old old' → LeavesConsole new new' → IsMissing old new before now name status → IsMissing old' new' before now name status
IsMissing-same old old' new new' before now name status first last h = record {
  status_is = h.status_is;
  rose = h.rose;
  could = rw first.disk h.could;
  left = LeavesConsole-same old old' new new' first last h.left;
}

DidOver-same : {F S C N T I D : Type 0} (views : Views F S C N T I D) (old old' new new' : Lendings F S C N T I D) (before now : ℕ) (name : List ℕ) (status : Status) (Did Done : Type 0)
    → LeavesConsole old old' → LeavesConsole new new' → (Did → Done) → DidOver views old new before now name status Did → DidOver views old' new' before now name status Done
DidOver-same views old old' new new' before now name status Did Done first last goes (inl did) = inl (goes did)
DidOver-same views old old' new new' before now name status Did Done first last goes (inr (inl h)) = inr (inl (WasUnopened-same views old old' new new' before now name status first last h))
DidOver-same views old old' new new' before now name status Did Done first last goes (inr (inr h)) = inr (inr (IsMissing-same old old' new new' before now name status first last h))

pub Obeyed-same : {F S C N T I D : Type 0} (views : Views F S C N T I D) (old old' new new' : Lendings F S C N T I D) (before now : ℕ) (config : Config) (work : Work) (status : Status)
    → LeavesConsole old old' → LeavesConsole new new' → Obeyed views old new before now config work status → Obeyed views old' new' before now config work status
Obeyed-same views old old' new new' before now config (Answer None) status first last h = (h.0, Conversed-same views old old' new new' config status first last h.1)
Obeyed-same views old old' new new' before now config (Answer (Some name)) status first last h =
    DidOver-same views old old' new new' before now name status _ _ first last (ConversedOver-same views old old' new new' before now config name status first last) h
Obeyed-same views old old' new new' before now config (Serve service) status first last h =
    DidOver-same views old old' new new' before now service.disk status _ _ first last (ServedOver-same views old old' new new' before now config service status first last) h
Obeyed-same views old old' new new' before now config Expand status first last h = (h.0, UsedConsole-same views old old' new new' _ first last h.1)
Obeyed-same views old old' new new' before now config (Check None) status first last h = (h.0, UsedConsole-same views old old' new new' _ first last h.1)
Obeyed-same views old old' new new' before now config (Check (Some name)) status first last h =
    DidOver-same views old old' new new' before now name status _ _ first last (CheckedOver-same views old old' new new' before now config name status first last) h

RanOverFile-same : {F S C N T I D : Type 0} (views : Views F S C N T I D) (old old' new new' : Lendings F S C N T I D) (before now : ℕ) (work : Work) (opened closed : F) (status : Status)
    → LeavesConsole old old' → LeavesConsole new new' → RanOverFile views old new before now work opened closed status → RanOverFile views old' new' before now work opened closed status
RanOverFile-same views old old' new new' before now work opened closed status first last (inl h) =
    inl (h.0, h.1, h.2, Obeyed-same views old old' new new' before now h.0 work status first last h.3)
RanOverFile-same views old old' new new' before now work opened closed status first last (inr h) = inr (h.0, h.1, LeavesConsole-same old old' new new' first last h.2)

-- a file was opened, and a command was run over it
pub RanCommand-opened : {F S C N T I D : Type 0} (views : Views F S C N T I D) (old between new : Lendings F S C N T I D) (before middle now : ℕ) (farm : List ℕ) (work : Work) (file closed : F) (status : Status)
    → middle ≡ before → CanOpenAmong old.file farm (Ok file) → between ≡ record old { file = after_opened old.file }
    → new.file ≡ after_closing between.file closed → LosesWithin (LONGEST_FILE + piece_size) (views.file_left file) (views.file_left closed) → RanOverFile views between new middle now work file closed status
    → RanCommand views old new before now (OverFarm farm work) status
RanCommand-opened views old between new before middle now farm work file closed status kept could opens closes lost ran = inr (record {
  opened = file;
  closed = closed;
  file = record { could = could; returned = rw opens at closes };
  lost = lost;
  ran = subst (λ (n : ℕ). RanOverFile views old new n now work file closed status) kept
      (RanOverFile-same views between old new new middle now work file closed status (record { disk = rw opens refl; console = rw opens refl; clock = rw opens refl; draws = rw opens refl; doors = rw opens refl }) (LeavesConsole-none new) ran);
})

-- a request was signed
pub RanCommand-signed : {F S C N T I D : Type 0} (views : Views F S C N T I D) (old new : Lendings F S C N T I D) (before now : ℕ) (command : Command) (signing : Signing) (status : Status)
    → command ≡ Sign signing → RanSigning views old new before now signing status → RanCommand views old new before now command status
RanCommand-signed views old new before now command signing status is ran = subst (λ c. RanCommand views old new before now c status) (sym is) ran

-- a generated load was run
pub RanCommand-loaded : {F S C N T I D : Type 0} (views : Views F S C N T I D) (old new : Lendings F S C N T I D) (before now : ℕ) (command : Command) (load : Load) (status : Status)
    → command ≡ Bulk load → RanLoad views old new before now load status → RanCommand views old new before now command status
RanCommand-loaded views old new before now command load status is ran = subst (λ c. RanCommand views old new before now c status) (sym is) ran

-- a template was rendered
pub RanCommand-rendered : {F S C N T I D : Type 0} (views : Views F S C N T I D) (old new : Lendings F S C N T I D) (before now : ℕ) (command : Command) (status : Status)
    → command ≡ Render → RanRendering views old new before now status → RanCommand views old new before now command status
RanCommand-rendered views old new before now command status is ran = subst (λ c. RanCommand views old new before now c status) (sym is) ran

-- ---- a run is the same run where later only what is said of notes changes

RanCommand-notes : {F S C N T I D : Type 0} (views : Views F S C N T I D) (old new new' : Lendings F S C N T I D) (before now : ℕ) (command : Command) (status : Status)
    → new'.file ≡ new.file → LeavesConsole new new' → RanCommand views old new before now command status → RanCommand views old new' before now command status
RanCommand-notes views old new new' before now (OverFarm farm work) status file after (inl h) = inl (record {
  status_is = h.status_is;
  rose = h.rose;
  could = h.could;
  file = file ∙ h.file;
  others = LeavesConsole-same old old new new' (LeavesConsole-none old) after h.others;
})
RanCommand-notes views old new new' before now (OverFarm farm work) status file after (inr h) = inr (record {
  opened = h.opened;
  closed = h.closed;
  file = record { could = h.file.could; returned = file ∙ h.file.returned };
  lost = h.lost;
  ran = RanOverFile-same views old old new new' before now work h.opened h.closed status (LeavesConsole-none old) after h.ran;
})
RanCommand-notes views old new new' before now (Sign signing) status file after h = record {
  openings = h.openings;
  file = file ∙ h.file;
  used = UsedConsole-same views old old new new' _ (LeavesConsole-none old) after h.used;
}
RanCommand-notes views old new new' before now (Bulk load) status file after h = record {
  openings = h.openings;
  file = file ∙ h.file;
  used = UsedConsole-same views old old new new' _ (LeavesConsole-none old) after h.used;
}
RanCommand-notes views old new new' before now Render status file after h = record {
  openings = h.openings;
  file = file ∙ h.file;
  used = UsedConsole-same views old old new new' _ (LeavesConsole-none old) after h.used;
}

pub Ran-notes : {F S C N T I D : Type 0} (views : Views F S C N T I D) (old new new' : Lendings F S C N T I D) (before now : ℕ) (said : Option Command) (status : Status)
    → new'.file ≡ new.file → LeavesConsole new new' → Ran views old new before now said status → Ran views old new' before now said status
Ran-notes views old new new' before now said status file after (inl h) = inl (record {
  why = h.why;
  openings = h.openings;
  file = file ∙ h.file;
  others = LeavesConsole-same old old new new' (LeavesConsole-none old) after h.others;
})
Ran-notes views old new new' before now said status file after (inr h) = inr (h.0, h.1, RanCommand-notes views old new new' before now h.0 status file after h.2)
