-- How connections ended, and which status that calls for.
use Rattle.std.specs.Prelude.{◌≡◌, ℕ, ◌-◌, ◌^◌, ◌<◌, ◌≤◌, ◌⊎◌, List, [], ◌∷◌, All}
use Rattle.http_wire.specs.declared.message.Message.{Message}
use Rattle.farm_server.specs.Served.{EndsAs}
use Rattle.farm_server.specs.declared.served.TheConstants.{REQUESTS}
use Rattle.farm_server.specs.declared.served.Served.{Served}
use Rattle.farm_server.specs.declared.served.Served.TheVariants as served
use Rattle.farm_serving.specs.Connections.{Connection, Part}
use Rattle.console_commands.specs.declared.status.Status.{Status}
use Rattle.console_commands.specs.declared.status.Status.TheVariants.{Done, Read, Write, NoMemory, Wire}

-- the status that a connection ends a run with
abbrev pub status_of : Served → Status
status_of served.Closed = Done
status_of served.Full = Done
status_of served.EndedInside = Wire
status_of (served.WireFault reason) = Wire
status_of served.ReadFault = Read
status_of served.WriteFault = Write
status_of served.NoMemory = NoMemory

-- the list of the messages of these bytes ends in a way that calls for this status
pub record EndsWith (bytes : List ℕ) (status : Status) : Type 0 where
  pub messages : List Message
  pub served : Served
  pub calls_for : status_of served ≡ status
  pub ends : EndsAs REQUESTS bytes messages served

-- one of these is so
abbrev pub HasOne : {A : Type 0} → (A → Type 0) → List A → Type 0
HasOne IsSo [] = ⊥
HasOne IsSo (x ∷ xs) = IsSo x ⊎ HasOne IsSo xs

-- a connection of these parts is so
abbrev pub HasConnection : (Connection → Type 0) → List Part → Type 0
HasConnection IsSo parts = HasOne (λ part. HasOne IsSo part.connections) parts

-- a count of faults rose, or stands at its last value or above
abbrev pub HasRisen : ℕ → ℕ → Type 0
HasRisen before after = (before < after) ⊎ (2 ^ 64 - 1 ≤ after)

-- no accept of a part failed, and each of its connections ended as it has to
pub record WentWell (part : Part) : Type 0 where
  pub accepts : part.failed ≡ 0
  pub connections : All (λ c. status_of c.served ≡ Done) part.connections
