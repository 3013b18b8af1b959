-- Workers that stand ready: at the door that a house lent, and at its twins.
use Rattle.std.specs.Prelude.{◌≡◌, ℕ, ◌≤◌, List, [], ◌∷◌, length, All, None}
use Rattle.causes.specs.Causes.{Rose}
use Rattle.farm_text.specs.Logs.{LogGrows}
use Rattle.farm_text.specs.Told.{IsNewBeside}
use Rattle.farm_text.specs.declared.clock.Clock as clocks
use Rattle.farm_text.specs.declared.draws.Draws as draws
use Rattle.farm_server.specs.declared.gate.NoGate.{NoGate}
use Rattle.farm_serving.specs.Connections.{Station, station}
use Rattle.listeners.specs.declared.door.Listener as doors
use Rattle.farm_serving.specs.declared.worker.Worker.{Worker}
use Rattle.farm_crews.specs.declared.crew.Lack.{Lack}
use Rattle.farm_crews.specs.declared.crew.Lack.TheVariants as lacks
use Rattle.console_commands.specs.declared.status.Status.{Status}
use Rattle.console_commands.specs.declared.status.Status.TheVariants.{Door, NoMemory}

-- the status that a lack of workers calls for
abbrev pub status_of_lack : Lack → Status
status_of_lack lacks.Door = Door
status_of_lack lacks.Memory = NoMemory

-- what a worker tells whose gate does nothing, by the traits of its door, clock and draws
abbrev pub station_by : {D P T I : Type 0} → doors.Ghosts D P → clocks.Ghosts T → draws.Ghosts I → Worker D T I NoGate → Station
station_by door clock ids worker =
    station (clock.told worker.clock) (ids.told worker.draws) None (door.given worker.door) (door.taken worker.door) (door.out worker.door) (door.accepts worker.door) (door.faults worker.door)

-- A worker tells no more than it did before. Of its door's accepts none was made since; a twin that could not be made is counted among its faults.
pub record IsStill (before after : Station) : Type 0 where
  pub moments : LogGrows before.company.moments after.company.moments []
  pub ids : LogGrows before.company.ids after.company.ids []
  pub gate : after.company.gate ≡ before.company.gate
  pub given : LogGrows before.given after.given []
  pub taken : LogGrows before.taken after.taken []
  pub out : after.out ≡ before.out
  pub accepts : after.accepts ≡ before.accepts
  pub faults : before.faults ≤ after.faults

-- A worker beside another one: it tells nothing yet where that one tells, and its door was not used.
pub record IsBeside (first other : Station) : Type 0 where
  pub moments : IsNewBeside first.company.moments other.company.moments
  pub ids : IsNewBeside first.company.ids other.company.ids
  pub gate : other.company.gate ≡ first.company.gate
  pub given : IsNewBeside first.given other.given
  pub taken : IsNewBeside first.taken other.taken
  pub out : other.out ≡ 0
  pub accepts : other.accepts ≡ 0
  pub faults : other.faults ≡ 0

-- Workers stand ready: the first has the door, the clock and the draws that the house lent, and each other one a twin of the door, and a clock and
-- draws beside those.
pub record AreCrew (lent : Station) (crew : List Station) : Type 0 where
  pub first : Station
  pub others : List Station
  pub are : crew ≡ first ∷ others
  pub still : IsStill lent first
  pub beside : All (IsBeside first) others

-- the same of a row in which every worker that was asked for stands: no twin failed
pub record IsWholeCrew (count : ℕ) (lent : Station) (crew : List Station) : Type 0 where
  pub is_crew : AreCrew lent crew
  pub counted : length crew ≡ count
  pub kept : is_crew.first.faults ≡ lent.faults

-- the same of a row that may have fewer workers: no twin failed, so that it is no door that was lacking
pub record IsKeptCrew (lent : Station) (crew : List Station) : Type 0 where
  pub is_crew : AreCrew lent crew
  pub kept : is_crew.first.faults ≡ lent.faults

-- a twin of the first worker's door could not be made, by its count
pub record IsDoorFailed (lent : Station) (crew : List Station) : Type 0 where
  pub is_crew : AreCrew lent crew
  pub rose : Rose lent.faults is_crew.first.faults
