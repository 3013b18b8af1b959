-- What the calls of `serve` leave together.
use Rattle.std.proofs.Common.{◌≡◌, ℕ, ◌⊎◌, Bool, true, false, List, [], ◌∷◌, map, refl, sym, ap, subst, ◌∙◌, inl, inr}
use Rattle.std.specs.Prelude.{Ok, Err}
use Rattle.causes.specs.Causes.{Rose}
use Rattle.command_line.specs.declared.service.Service.{Service}
use Rattle.history.specs.Asks.{LeadsAlone}
use Rattle.history.specs.Histories.{end_state}
use Rattle.http_wire.specs.Calls.{LinkState}
use Rattle.task_index.specs.Contents.{Contents}
use Rattle.farm_core.specs.Farm.{HoldsHistory, state_of}
use Rattle.farm_core.specs.Records.{Recorded}
use Rattle.farm_asks.specs.declared.config.Config.{Config}
use Rattle.farm_machine.specs.Entry.{Entry}
use Rattle.farm_machine.specs.Law.{Opening, opened}
use Rattle.farm_machine.specs.State.{State}
use Rattle.farm_machine.specs.Step.{farm_rules}
use Rattle.farm_server.specs.declared.gate.NoGate.{NoGate}
use Rattle.farm_serving.specs.Connections.{Station}
use Rattle.farm_serving.specs.declared.worker.Worker.{Worker}
use Rattle.houses.specs.declared.lending.Lending.{Lending}
use Rattle.console_commands.specs.declared.status.Status.{Status}
use Rattle.console_commands.specs.declared.status.Status.TheVariants.{Disk, Door, NoMemory}
use Rattle.farm_cli.specs.Disks.{DiskHolds, HasFarm, LedOver, over_disk}
use Rattle.farm_cli.specs.Heard.{workers_of, station_with, station_of, ServesLent, KeepsTheRest, IsUnheard, IsHeard, ServesDoor, ServedOver}
use Rattle.houses.specs.House.{CanGive, after_giving, after_return, after_opened, after_closing, Doors, CanListen, after_listened, after_leaving, all_left, Lendings}
use Rattle.farm_crews.specs.Serves.{IsLed, ServesAll}
use Rattle.farm_cli.specs.Views.{Views, talk_of}
use Rattle.farm_cli.proofs.RunLemmas.{SameLent, did_same, has_opening, has_begun, has_held}
use Rattle.farm_crews.proofs.ServesLemmas.{IsLed-none}

-- one call after another
pub ServesLent-from_calls : {F S C N T I D : Type 0} (views : Views F S C N T I D) (l0 l1 l2 l3 l4 l5 : Lendings F S C N T I D) (door : D) (console console' : C) (clock : T) (draws : I) (first : Worker D T I NoGate) (others : List (Worker D T I NoGate))
    (Did : LinkState → LinkState → Station → List Station → Type 0)
    → CanGive l0.console console → l1 ≡ record l0 { console = after_giving l0.console }
    → CanGive l1.clock clock → l2 ≡ record l1 { clock = after_giving l1.clock }
    → CanGive l2.draws draws → l3 ≡ record l2 { draws = after_giving l2.draws }
    → l4 ≡ record l3 { console = after_return l3.console console' }
    → l5 ≡ record l4 { clock = after_return l4.clock first.clock; draws = after_return l4.draws first.draws; doors = all_left l4.doors (map (λ worker. worker.door) (first ∷ others)) }
    → Did (talk_of views console) (talk_of views console') (station_with views clock draws door) (map (station_of views) (first ∷ others))
    → ServesLent views l0 l5 l0.doors door Did
ServesLent-from_calls views l0 l1 l2 l3 l4 l5 door console console' clock draws first others Did g1 e1 g2 e2 g3 e3 e4 e5 did = record {
  console_given = console;
  console_back = console';
  console = record { could = g1; returned = rw (e5, e4, e3, e2, e1) refl };
  first = first;
  others = others;
  clock_given = clock;
  clock = record { could = rw e1 at g2; returned = rw (e5, e4, e3, e2, e1) refl };
  draws_given = draws;
  draws = record { could = rw (e2, e1) at g3; returned = rw (e5, e4, e3, e2, e1) refl };
  doors = rw (e5, e4, e3, e2, e1) refl;
  did = did;
}

-- what none of the calls touches is kept
pub KeepsTheRest-from_calls : {F S C N T I D : Type 0} (l0 l1 l2 l3 l4 l5 : Lendings F S C N T I D) (console console' : Lending C) (clock clock' : Lending T) (draws draws' : Lending I) (doors : Doors D) (before now : ℕ)
    → l1 ≡ record l0 { console = console } → l2 ≡ record l1 { clock = clock } → l3 ≡ record l2 { draws = draws } → l4 ≡ record l3 { console = console' }
    → l5 ≡ record l4 { clock = clock'; draws = draws'; doors = doors } → now ≡ before → KeepsTheRest l0 l5 before now
KeepsTheRest-from_calls l0 l1 l2 l3 l4 l5 console console' clock clock' draws draws' doors before now e1 e2 e3 e4 e5 kept = record {
  file = rw (e5, e4, e3, e2, e1) refl;
  disk = rw (e5, e4, e3, e2, e1) refl;
  notes = rw (e5, e4, e3, e2, e1) refl;
  refusals = kept;
}

-- memory ran out before a door was asked for
pub ServesDoor-none : {F S C N T I D : Type 0} (views : Views F S C N T I D) (at : Lendings F S C N T I D) (before : ℕ) (service : Service) (state : State) (Held : Opening → List Entry → Type 0) (status : Status)
    → status ≡ NoMemory → ServesDoor views at at before before service state state Held Held status
ServesDoor-none views at before service state Held status is = record {
  disk = refl;
  history = [];
  calls = [];
  led = IsLed-none state Held;
  did = inl (record { none = refl; why = inl (is, refl); console = refl; clock = refl; draws = refl; doors = refl });
}

-- the house opened no door
pub ServesDoor-refused : {F S C N T I D : Type 0} (views : Views F S C N T I D) (old new : Lendings F S C N T I D) (before now : ℕ) (service : Service) (state : State) (Held : Opening → List Entry → Type 0) (status : Status)
    → status ≡ Door → Rose before now → CanListen old.doors service.listen (Err (record {})) → new ≡ record old { doors = old.doors } → ServesDoor views old new before now service state state Held Held status
ServesDoor-refused views old new before now service state Held status is rose could same = record {
  disk = rw same refl;
  history = [];
  calls = [];
  led = IsLed-none state Held;
  did = inl (record { none = refl; why = inr (is, rose, could); console = rw same refl; clock = rw same refl; draws = rw same refl; doors = rw same refl });
}

-- it opened one
pub ServesDoor-heard : {F S C N T I D : Type 0} (views : Views F S C N T I D) (old between new : Lendings F S C N T I D) (before middle now : ℕ) (service : Service) (door : D) (workers connections : ℕ) (state end : State) (Held Holds : Opening → List Entry → Type 0) (status said : Status)
    → CanListen old.doors service.listen (Ok door) → between ≡ record old { doors = after_listened old.doors } → middle ≡ before → KeepsTheRest between new middle now
    → workers ≡ workers_of service → connections ≡ service.connections → said ≡ status
    → ServesLent views between new between.doors door (λ talk talked lent crew. ServesAll workers connections talk talked lent crew state end Held Holds status)
    → ServesDoor views old new before now service state end Held Holds said
ServesDoor-heard views old between new before middle now service door workers connections state end Held Holds status said could opens kept rest workers_is connections_is said_is lent = record {
  disk = rw opens at rest.disk;
  history = lent.did.history;
  calls = lent.did.calls;
  led = lent.did.led;
  did = inr (record {
    openings = rest.refusals ∙ kept;
    door = door;
    could = could;
    lent = record {
      console_given = lent.console_given;
      console_back = lent.console_back;
      console = rw opens at lent.console;
      first = lent.first;
      others = lent.others;
      clock_given = lent.clock_given;
      clock = rw opens at lent.clock;
      draws_given = lent.draws_given;
      draws = rw opens at lent.draws;
      doors = rw opens at lent.doors;
      did = rw said_is (rw (workers_is, connections_is) at lent.did.did);
    };
  });
}

module _ {F S C N T I D : Type 0} (views : Views F S C N T I D) (old l0 l1 new : Lendings F S C N T I D) (before now0 now1 now : ℕ) (service : Service) (set_up config : Config) (contents : Contents) (recorded : Recorded S)
    (has : HasFarm views old l0 before now0 service.disk set_up config contents recorded) (back : S) (end : ℕ) (state' : State) (Held Holds : Opening → List Entry → Type 0) (said : Status) where
  -- the farm of the disk was served at a door, and the disk came back
  pub ServedOver-from : (served : ServesDoor views l0 l1 now0 now1 service (state_of config contents recorded.halted) state' Held Holds said)
      → Held (has_opening views old l0 before now0 service.disk set_up config contents recorded has) []
      → ((history : List Entry) → Holds (has_opening views old l0 before now0 service.disk set_up config contents recorded has) history
      → HoldsHistory views.disk_tells (views.disk_contents back) end (views.disk_faults back) state' (has_opening views old l0 before now0 service.disk set_up config contents recorded has) history)
      → new ≡ record l1 { disk = after_closing l1.disk back } → now ≡ now1 → (status : Status) → status ≡ over_disk state'.halted said → ServedOver views old new before now set_up service status
  ServedOver-from served held holds closes refusals status status_is =
      let opening : Opening = has_opening views old l0 before now0 service.disk set_up config contents recorded has in
      let opens = has.lends in
      let starts : state_of config contents recorded.halted ≡ opening.state = ap (state_of config contents) has.at_work in
      let goes = holds served.history (served.led.holds opening (sym starts) held) in
      let led_on : LeadsAlone farm_rules opening.state served.history served.calls state' = rw starts at served.led.leads in
      let ends : state' ≡ end_state farm_rules opening.state served.history = led_on.leads in
      record {
        opening = opening;
        history = served.history;
        calls = served.calls;
        leads = subst (λ (s : State). LeadsAlone farm_rules opening.state served.history served.calls s) ends led_on;
        led = record {
          disk_given = has.given;
          disk_back = back;
          disk = record { could = has.could; returned = rw (closes, served.disk, opens) refl };
          begins = has_begun views old l0 before now0 service.disk set_up config contents recorded has;
          holds = record { end = end; holds = subst (λ (s : State). HoldsHistory views.disk_tells (views.disk_contents back) end (views.disk_faults back) s opening served.history) ends goes };
        };
        calls_for = said;
        did = did_same views l0 old l1 new before now service opening.state served.history served.calls said
            (record { console = sym (rw opens refl); clock = sym (rw opens refl); draws = sym (rw opens refl); doors = sym (rw opens refl) })
            (record { console = rw closes refl; clock = rw closes refl; draws = rw closes refl; doors = rw closes refl })
            (rw (starts, has.openings, ← refusals) at served.did);
        status_is = status_is ∙ ap (λ (s : State). over_disk s.halted said) ends;
      }

-- the status over a farm that has halted, and over one at work
pub over_fallen : (halted : Bool) (said status : Status) → halted ≡ true → status ≡ Disk → status ≡ over_disk halted said
over_fallen true said status fell is = is
over_fallen false said status fell is = cc

pub over_still : (halted : Bool) (said status : Status) → halted ≡ false → status ≡ said → status ≡ over_disk halted said
over_still true said status still is = cc
over_still false said status still is = is
