-- Why serving at a door ended with its status.
use Rattle.std.proofs.Common.{◌≡◌, ◌≢◌, ℕ, ◌<◌, ◌⊎◌, List, [], ◌∷◌, map, refl, sym, ◌∙◌, subst, inl, inr}
use Rattle.std.specs.List.{All, sum_by}
use Rattle.causes.specs.Causes.{Rose}
use Rattle.command_line.specs.declared.service.Service.{Service}
use Rattle.http_wire.specs.Calls.{LinkState}
use Rattle.farm_machine.specs.Entry.{Entry}
use Rattle.farm_machine.specs.State.{State}
use Rattle.farm_serving.specs.Connections.{Part, Worked}
use Rattle.farm_serving.specs.Numbers.{by_read, by_write, by_wire, by_memory}
use Rattle.farm_serving.specs.Tally.{of_all, IsTally}
use Rattle.farm_serving.specs.declared.ended.Ended.{Ended}
use Rattle.console_commands.specs.declared.status.Status.{Status}
use Rattle.console_commands.specs.declared.status.Status.TheVariants.{Done, Usage, FarmFile, Input, Opening, Disk, Door, Read, Write, NoMemory, Wire, Damaged}
use Rattle.farm_crews.specs.Crew.{IsWholeCrew, IsDoorFailed}
use Rattle.farm_cli.specs.Faults.{WasServed, IsServed, TwinFailed, IsDoorBroken, IsLinkUnread, IsLinkUnwritten, IsLinkCut}
use Rattle.farm_cli.specs.Heard.{workers_of, station_with, station_of, IsHeard}
use Rattle.houses.specs.House.{Lendings}
use Rattle.console_commands.specs.Inputs.{Tells}
use Rattle.farm_cli.specs.Reasons.{ConsoleFailed}
use Rattle.farm_crews.specs.Serves.{ready_text, ServesReady, ServesFarm, NeverServed}
use Rattle.farm_cli.specs.Views.{Views, talk_of}
use Rattle.farm_cli.proofs.FaultLemmas.{accepts_one, link_unread, link_unwritten, link_cut, went_well, called, quiet, told_whole}

-- the reason that serving at a door gives of each status
abbrev pub ReasonOf : {F S C N T I D : Type 0} → Views F S C N T I D → Lendings F S C N T I D → Lendings F S C N T I D → Service → Status → Type 0
ReasonOf views old new service Done = IsServed views old new service
ReasonOf views old new service Door = IsDoorBroken views old new service
ReasonOf views old new service Read = IsLinkUnread views old new service
ReasonOf views old new service Write = ConsoleFailed views.console_write_faults views.console_read_faults old new ⊎ IsLinkUnwritten views old new service
ReasonOf views old new service NoMemory = Unit {0}
ReasonOf views old new service Wire = IsLinkCut views old new service
ReasonOf views old new service status = ⊥

-- a number that is not 0 is one of something
counted : (n m : ℕ) → n ≡ m → 0 < n → 0 < m
counted n m is some = subst (λ (k : ℕ). 0 < k) is some

module _ {F S C N T I D : Type 0} (views : Views F S C N T I D) (old new : Lendings F S C N T I D) (before now : ℕ) (service : Service) (start : State) (history : List Entry) (calls : List ℕ) (said : Status)
    (heard : IsHeard views old new before now service start history calls said) where
  -- what the workers were asked, whatever status it called for
  abbrev Served : Status → Type 0
  Served status = ServesFarm (workers_of service) service.connections (talk_of views heard.lent.console_given) (talk_of views heard.lent.console_back)
      (station_with views heard.lent.clock_given heard.lent.draws_given heard.door) (map (station_of views) (heard.lent.first ∷ heard.lent.others)) start history calls status

  -- and what it is that they never served
  abbrev Never : Status → Type 0
  Never status = NeverServed (talk_of views heard.lent.console_given) (talk_of views heard.lent.console_back)
      (station_with views heard.lent.clock_given heard.lent.draws_given heard.door) (map (station_of views) (heard.lent.first ∷ heard.lent.others)) status

  was_served : (status : Status) (served : Served status) (IsSo : C → C → List Part → Type 0) → IsSo heard.lent.console_given heard.lent.console_back served.served.serves.0 → WasServed views old new service IsSo
  was_served status served IsSo so = record {
    given = heard.lent.console_given;
    back = heard.lent.console_back;
    console = heard.lent.console;
    door = heard.door;
    could = heard.could;
    crew = heard.lent.first ∷ heard.lent.others;
    doors = heard.lent.doors;
    clock = heard.lent.clock_given;
    draws = heard.lent.draws_given;
    parts = served.served.serves.0;
    began = subst (IsWholeCrew (workers_of service) (station_with views heard.lent.clock_given heard.lent.draws_given heard.door)) (sym served.served.serves.1.began) served.whole;
    became = served.served.serves.1.became;
    worked = served.served.serves.1.worked;
    is_so = so;
  }

  console_failed : Rose (views.console_write_faults heard.lent.console_given) (views.console_write_faults heard.lent.console_back) → views.console_read_faults heard.lent.console_back ≡ views.console_read_faults heard.lent.console_given
      → ConsoleFailed views.console_write_faults views.console_read_faults old new
  console_failed rose kept = record { given = heard.lent.console_given; back = heard.lent.console_back; lent = heard.lent.console; rose = rose; kept = kept }

  -- the last line could not be written
  last_unwritten : (status : Status) (served : Served status) → served.served.last ≡ Write → ConsoleFailed views.console_write_faults views.console_read_faults old new
  last_unwritten status served is =
      let told = rw is at served.served.told in
      console_failed (subst (λ (n : ℕ). Rose n (views.console_write_faults heard.lent.console_back)) served.served.ready.1 told.1.1) (told.0.faults ∙ served.served.unread.faults)

  by_serving : (status : Status) → Served status → ReasonOf views old new service status
  by_serving Done served =
      let s = served.served in
      let tally = s.serves.1.tally in
      let still = quiet s.ended s.last s.status_is in
      let told = told_whole _ s.between _ s.last s.told still.told still.kept in
      was_served Done served _ (
        told.0.faults ∙ s.unread.faults,
        told.1.1 ∙ s.ready.1,
        went_well s.serves.0 (sym tally.accept_faults ∙ still.accepts) (sym tally.read_faults ∙ still.reads) (sym tally.write_faults ∙ still.writes) (sym tally.wire_faults ∙ still.wires) (sym tally.no_memory ∙ still.memory),
      )
  by_serving Door served =
      let s = served.served in
      inl (was_served Door served _ (accepts_one service.connections s.serves.0 s.serves.1.worked (counted s.ended.accept_faults _ s.serves.1.tally.accept_faults (called s.ended s.last Door s.status_is))))
  by_serving Read served =
      let s = served.served in
      was_served Read served _ (link_unread service.connections s.serves.0 s.serves.1.worked (counted s.ended.read_faults _ s.serves.1.tally.read_faults (called s.ended s.last Read s.status_is)))
  by_serving Write served =
      let s = served.served in
      elim (called s.ended s.last Write s.status_is) [
        | inl some ↦ inr (was_served Write served _ (link_unwritten service.connections s.serves.0 s.serves.1.worked (counted s.ended.write_faults _ s.serves.1.tally.write_faults some)))
        | inr is ↦ inl (last_unwritten Write served is)
      ]
  by_serving NoMemory served = tt
  by_serving Wire served =
      let s = served.served in
      was_served Wire served _ (link_cut service.connections s.serves.0 s.serves.1.worked (counted s.ended.wire_faults _ s.serves.1.tally.wire_faults (called s.ended s.last Wire s.status_is)))
  by_serving Usage served = absurd (called served.served.ended served.served.last Usage served.served.status_is)
  by_serving FarmFile served = absurd (called served.served.ended served.served.last FarmFile served.served.status_is)
  by_serving Input served = absurd (called served.served.ended served.served.last Input served.served.status_is)
  by_serving Opening served = absurd (called served.served.ended served.served.last Opening served.served.status_is)
  by_serving Disk served = absurd (called served.served.ended served.served.last Disk served.served.status_is)
  by_serving Damaged served = absurd (called served.served.ended served.served.last Damaged served.served.status_is)

  -- a twin of the door could not be made
  twin_failed : IsDoorFailed (station_with views heard.lent.clock_given heard.lent.draws_given heard.door) (map (station_of views) (heard.lent.first ∷ heard.lent.others)) → TwinFailed views old new service
  twin_failed failed =
      let head : station_of views heard.lent.first ≡ failed.is_crew.first = cc in
      record {
        door = heard.door;
        could = heard.could;
        back = heard.lent.first.door;
        twins = map (λ worker. worker.door) heard.lent.others;
        doors = heard.lent.doors;
        rose = rw (← head) at failed.rose;
      }

  by_never : (status : Status) → Never status → ReasonOf views old new service status
  by_never Door never = inr (twin_failed never.2)
  by_never Write never = inl (console_failed never.1.1 never.0.faults)
  by_never NoMemory never = tt
  by_never Done never = absurd never
  by_never Read never = absurd never
  by_never Wire never = absurd never
  by_never Usage never = absurd never
  by_never FarmFile never = absurd never
  by_never Input never = absurd never
  by_never Opening never = absurd never
  by_never Disk never = absurd never
  by_never Damaged never = absurd never

  pub ReasonOf-heard : ReasonOf views old new service said
  ReasonOf-heard = elim heard.lent.did [
    | inl served ↦ by_serving said served
    | inr never ↦ by_never said never.1
  ]
