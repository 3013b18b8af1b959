-- What `serve` does with what a house lends: the farm of a disk is served at a door and its twins.
use Rattle.std.specs.Prelude.{◌≡◌, ℕ, ◌⊎◌, List, [], ◌∷◌, map, max, None, Ok, Err, Bool, true, false}
use Rattle.causes.specs.Causes.{Rose}
use Rattle.history.specs.Asks.{LeadsAlone}
use Rattle.history.specs.Histories.{end_state}
use Rattle.http_wire.specs.Calls.{LinkState}
use Rattle.command_line.specs.declared.service.Service.{Service}
use Rattle.farm_asks.specs.declared.config.Config.{Config}
use Rattle.farm_machine.specs.Entry.{Entry}
use Rattle.farm_machine.specs.Law.{Opening}
use Rattle.farm_machine.specs.State.{State}
use Rattle.farm_machine.specs.Step.{farm_rules}
use Rattle.farm_server.specs.declared.gate.NoGate.{NoGate}
use Rattle.farm_serving.specs.Connections.{Station, station}
use Rattle.farm_serving.specs.declared.worker.Worker.{Worker}
use Rattle.console_commands.specs.declared.status.Status.{Status}
use Rattle.console_commands.specs.declared.status.Status.TheVariants.{Disk, Door, NoMemory}
use Rattle.farm_cli.specs.Disks.{LedOver, over_disk}
use Rattle.houses.specs.House.{WasLent, Doors, CanListen, after_listened, all_left, Lendings}
use Rattle.farm_crews.specs.Serves.{ServesFarm, NeverServed, IsLed}
use Rattle.farm_cli.specs.Views.{Views, talk_of}

-- how many workers serve: one at least
abbrev pub workers_of : Service → ℕ
workers_of service = max service.workers 1

-- what a worker tells that has this clock, these draws and this door
abbrev pub station_with : {F S C N T I D : Type 0} → Views F S C N T I D → T → I → D → Station
station_with views clock draws door =
    station (views.clock_told clock) (views.draws_told draws) None (views.door_given door) (views.door_taken door) (views.door_out door) (views.door_accepts door) (views.door_faults door)

-- what a worker of a run tells
abbrev pub station_of : {F S C N T I D : Type 0} → Views F S C N T I D → Worker D T I NoGate → Station
station_of views worker = station_with views worker.clock worker.draws worker.door

-- The console, a clock and draws were lent to serve at this door, which was opened then. They came back, from the first of these workers; and the
-- doors of all, in the order of the workers, the one that was opened first. This was done with them.
pub record ServesLent {F S C N T I D : Type 0} (views : Views F S C N T I D) (old new : Lendings F S C N T I D) (opened : Doors D) (door : D) (Did : LinkState → LinkState → Station → List Station → Type 0) : Type 0 where
  pub console_given : C
  pub console_back : C
  pub console : WasLent old.console new.console console_given console_back
  pub first : Worker D T I NoGate
  pub others : List (Worker D T I NoGate)
  pub clock_given : T
  pub clock : WasLent old.clock new.clock clock_given first.clock
  pub draws_given : I
  pub draws : WasLent old.draws new.draws draws_given first.draws
  pub doors : new.doors ≡ all_left opened (map (λ worker. worker.door) (first ∷ others))
  pub did : Did (talk_of views console_given) (talk_of views console_back) (station_with views clock_given draws_given door) (map (station_of views) (first ∷ others))

-- While workers serve at a door its house keeps the rest: its farm files, its disk and its notes are as they were, and no opening was refused.
pub record KeepsTheRest {F S C N T I D : Type 0} (old new : Lendings F S C N T I D) (before now : ℕ) : Type 0 where
  pub file : new.file ≡ old.file
  pub disk : new.disk ≡ old.disk
  pub notes : new.notes ≡ old.notes
  pub refusals : now ≡ before

-- the house gave no door at this address, or memory ran out before it was asked for one; and nothing else was asked for
pub record IsUnheard {F S C N T I D : Type 0} (old new : Lendings F S C N T I D) (before now : ℕ) (address : List ℕ) (history : List Entry) (status : Status) : Type 0 where
  pub none : history ≡ []
  pub why : ((status ≡ NoMemory) × (now ≡ before)) ⊎ ((status ≡ Door) × Rose before now × CanListen old.doors address (Err (record {})))
  pub console : new.console ≡ old.console
  pub clock : new.clock ≡ old.clock
  pub draws : new.draws ≡ old.draws
  pub doors : new.doors ≡ old.doors

-- a door was opened at the address of the service, and workers served there the farm that began in this state, or never did
pub record IsHeard {F S C N T I D : Type 0} (views : Views F S C N T I D) (old new : Lendings F S C N T I D) (before now : ℕ) (service : Service) (start : State) (history : List Entry) (calls : List ℕ) (status : Status) : Type 0 where
  pub openings : now ≡ before
  pub door : D
  pub could : CanListen old.doors service.listen (Ok door)
  pub lent : ServesLent views old new (after_listened old.doors) door (λ talk talked lent crew.
      ServesFarm (workers_of service) service.connections talk talked lent crew start history calls status
      ⊎ ((history ≡ []) × NeverServed talk talked lent crew status))

-- The farm was led through a history by those who served it, or nobody was heard.
pub record ServesDoor {F S C N T I D : Type 0} (views : Views F S C N T I D) (old new : Lendings F S C N T I D) (before now : ℕ) (service : Service) (start end : State) (Held Holds : Opening → List Entry → Type 0) (status : Status) : Type 0 where
  pub disk : new.disk ≡ old.disk
  pub history : List Entry
  pub calls : List ℕ
  pub led : IsLed start end Held Holds history calls
  pub did : IsUnheard old new before now service.listen history status ⊎ IsHeard views old new before now service start history calls status

-- The disk of the service was opened, and the farm that it keeps was served; at the end the disk holds the history that was led through, whose
-- calls, at these places, are those of the connections.
pub record ServedOver {F S C N T I D : Type 0} (views : Views F S C N T I D) (old new : Lendings F S C N T I D) (before now : ℕ) (config : Config) (service : Service) (status : Status) : Type 0 where
  pub opening : Opening
  pub history : List Entry
  pub calls : List ℕ
  pub leads : LeadsAlone farm_rules opening.state history calls (end_state farm_rules opening.state history)
  pub led : LedOver views old new config service.disk opening history
  pub calls_for : Status
  pub did : IsUnheard old new before now service.listen history calls_for ⊎ IsHeard views old new before now service opening.state history calls calls_for
  pub status_is : status ≡ over_disk (end_state farm_rules opening.state history).halted calls_for
