-- Why serving ended with its status: of a door, of a link, or of none.
use Rattle.std.specs.Prelude.{◌≡◌, ◌⊎◌, List, ◌∷◌, map, All, IfSome, Ok}
use Rattle.causes.specs.Causes.{Rose}
use Rattle.command_line.specs.declared.service.Service.{Service}
use Rattle.farm_server.specs.declared.gate.NoGate.{NoGate}
use Rattle.farm_serving.specs.Connections.{Part, Worked}
use Rattle.farm_serving.specs.declared.worker.Worker.{Worker}
use Rattle.console_commands.specs.declared.status.Status.TheVariants.{Wire}
use Rattle.farm_cli.specs.Ends.{EndsWith, HasOne, HasConnection, HasRisen, WentWell}
use Rattle.farm_crews.specs.Crew.{IsWholeCrew}
use Rattle.farm_cli.specs.Heard.{workers_of, station_with, station_of}
use Rattle.houses.specs.House.{WasLent, CanListen, after_listened, all_left, Lendings}
use Rattle.farm_cli.specs.Views.{Views}

-- The console was lent and came back. At the door that the house opened, and at its twins, as many workers as were asked for served, each its part; the doors came back, and
-- this is so of the console and of the parts.
pub record WasServed {F S C N T I D : Type 0} (views : Views F S C N T I D) (old new : Lendings F S C N T I D) (service : Service) (IsSo : C → C → List Part → Type 0) : Type 0 where
  pub given : C
  pub back : C
  pub console : WasLent old.console new.console given back
  pub door : D
  pub could : CanListen old.doors service.listen (Ok door)
  pub crew : List (Worker D T I NoGate)
  pub doors : new.doors ≡ all_left (after_listened old.doors) (map (λ worker. worker.door) crew)
  pub clock : T
  pub draws : I
  pub parts : List Part
  pub began : IsWholeCrew (workers_of service) (station_with views clock draws door) (map (λ part. part.before) parts)
  pub became : map (λ part. part.after) parts ≡ map (station_of views) crew
  pub worked : All (Worked service.connections) parts
  pub is_so : IsSo given back parts

-- serving is done: no call to the console failed, nor an accept, and no connection ended by a fault
abbrev pub IsServed : {F S C N T I D : Type 0} → Views F S C N T I D → Lendings F S C N T I D → Lendings F S C N T I D → Service → Type 0
IsServed views old new service =
    WasServed views old new service (λ given back parts.
    (views.console_read_faults back ≡ views.console_read_faults given) × (views.console_write_faults back ≡ views.console_write_faults given) × All WentWell parts)

-- a twin of the door could not be made: its count of faults rose
pub record TwinFailed {F S C N T I D : Type 0} (views : Views F S C N T I D) (old new : Lendings F S C N T I D) (service : Service) : Type 0 where
  pub door : D
  pub could : CanListen old.doors service.listen (Ok door)
  pub back : D
  pub twins : List D
  pub doors : new.doors ≡ all_left (after_listened old.doors) (back ∷ twins)
  pub rose : Rose (views.door_faults door) (views.door_faults back)

-- a door failed: the count of one that accepted rose, or no twin of it could be made
abbrev pub IsDoorBroken : {F S C N T I D : Type 0} → Views F S C N T I D → Lendings F S C N T I D → Lendings F S C N T I D → Service → Type 0
IsDoorBroken views old new service =
    WasServed views old new service (λ given back parts. HasOne (λ part. HasRisen part.before.faults part.after.faults) parts) ⊎ TwinFailed views old new service

-- reads of a link failed
abbrev pub IsLinkUnread : {F S C N T I D : Type 0} → Views F S C N T I D → Lendings F S C N T I D → Lendings F S C N T I D → Service → Type 0
IsLinkUnread views old new service = WasServed views old new service (λ given back parts. HasConnection (λ c. Rose c.given.read_faults c.back.read_faults) parts)

-- writes of a link failed
abbrev pub IsLinkUnwritten : {F S C N T I D : Type 0} → Views F S C N T I D → Lendings F S C N T I D → Lendings F S C N T I D → Service → Type 0
IsLinkUnwritten views old new service = WasServed views old new service (λ given back parts. HasConnection (λ c. Rose c.given.write_faults c.back.write_faults) parts)

-- a connection ended inside a message or by what is no request
abbrev pub IsLinkCut : {F S C N T I D : Type 0} → Views F S C N T I D → Lendings F S C N T I D → Lendings F S C N T I D → Service → Type 0
IsLinkCut views old new service = WasServed views old new service (λ given back parts. HasConnection (λ c. IfSome c.given.left (λ bytes. EndsWith bytes Wire)) parts)
