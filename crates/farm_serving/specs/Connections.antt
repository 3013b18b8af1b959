-- What one worker did: its connections, one after the other.
use Rattle.std.specs.Prelude.{◌≡◌, ℕ, ◌+◌, ◌-◌, ◌^◌, ◌≤◌, ◌⊎◌, List, [], ◌∷◌, length, map, flat_map, Option}
use Rattle.farm_text.specs.Logs.{LogGrows}
use Rattle.history.specs.Asks.{AsksInTurn}
use Rattle.http_wire.specs.Calls.{LinkState}
use Rattle.farm_asks.specs.declared.reply.Reply.{Reply}
use Rattle.farm_asks.specs.Questions.{Asking}
use Rattle.farm_machine.specs.Law.{opened}
use Rattle.farm_machine.specs.Step.{farm_rules}
use Rattle.farm_server.specs.Served.{Outside, Ask, questions_of, Spoke, Standing}
use Rattle.farm_server.specs.declared.gate.When.{When}
use Rattle.farm_server.specs.declared.served.Served.{Served}
use Rattle.listeners.specs.Doors.{IsMore}
use Rattle.farm_serving.specs.Numbers.{of_connection}
use Rattle.farm_serving.specs.declared.ended.Ended.{Ended}

-- One connection: its link as it was given and as it was taken back, what was asked over it, the replies, and why it ended.
pub record Connection : Type 0 where
  pub given : LinkState
  pub back : LinkState
  pub asks : List Ask
  pub replies : List Reply
  pub served : Served

-- what a worker's clock, draws and gate have told so far
pub record Company : Type 0 where
  pub moments : Option (List ℕ)
  pub ids : Option (List (List ℕ))
  pub gate : Option (List When)

-- all that a connection has to do with: its link, and the worker's company
abbrev pub outside : LinkState → Company → Outside
outside link company = record {
  left = link.left;
  written = link.written;
  moments = company.moments;
  ids = company.ids;
  gate = company.gate;
  read_faults = link.read_faults;
  write_faults = link.write_faults;
}

-- Connections in turn: each over a link of its own, with the company as the one before it left it.
abbrev pub InTurn : Company → Company → List Connection → Type 0
InTurn before after [] = after ≡ before
InTurn before after (c ∷ cs) =
    (between : Company) × Spoke (outside c.given before) (outside c.back between) c.asks c.replies c.served × InTurn between after cs

-- what a worker tells: its company, and the logs and counts of its door
pub record Station : Type 0 where
  pub company : Company
  pub given : Option (List LinkState)
  pub taken : Option (List (LinkState × ℕ))
  pub out : ℕ
  pub accepts : ℕ
  pub faults : ℕ

-- the same, of what its clock, draws, gate and door tell
abbrev pub station : Option (List ℕ) → Option (List (List ℕ)) → Option (List When) → Option (List LinkState) → Option (List (LinkState × ℕ)) → ℕ → ℕ → ℕ → Station
station moments ids gate given taken out accepts faults =
    record { company = record { moments = moments; ids = ids; gate = gate }; given = given; taken = taken; out = out; accepts = accepts; faults = faults }

-- the part of one worker: what it told before and after, how many of its accepts failed, and its connections
pub record Part : Type 0 where
  pub before : Station
  pub after : Station
  pub failed : ℕ
  pub connections : List Connection

-- a count of faults rose by so many at least, or stands at its last value or above; where there were none it is as it was
abbrev pub HasCounted : ℕ → ℕ → ℕ → Type 0
HasCounted failed before after = ((failed ≡ 0 → after ≡ before) × ((before + failed ≤ after) ⊎ (2 ^ 64 - 1 ≤ after)))

-- A worker made so many accepts, of which some failed. It served each link that its door gave, and handed it back with the number of its messages asked.
pub record Worked (accepts : ℕ) (part : Part) : Type 0 where
  pub tried : part.failed + length part.connections ≡ accepts
  pub turns : InTurn part.before.company part.after.company part.connections
  pub given : LogGrows part.before.given part.after.given (map (λ c. c.given) part.connections)
  pub taken : LogGrows part.before.taken part.after.taken (map (λ c. (c.back, length c.asks)) part.connections)
  pub out : part.after.out ≡ part.before.out
  pub made : IsMore accepts part.before.accepts part.after.accepts
  pub faults : HasCounted part.failed part.before.faults part.after.faults

-- A link that was given so was served, and handed back: what its connection did at the desk, what the worker told before and after, and the numbers of it.
pub record ServesLink (given : LinkState) (old new : Standing) (before after : Station) (ended : Ended) : Type 0 where
  pub back : LinkState
  pub asks : List Ask
  pub replies : List Reply
  pub served : Served
  pub spoke : Spoke (outside given before.company) (outside back after.company) asks replies served
  pub none_given : LogGrows before.given after.given []
  pub taken : LogGrows before.taken after.taken ((back, length asks) ∷ [])
  pub out : after.out + 1 ≡ before.out
  pub none_made : after.accepts ≡ before.accepts
  pub faults : after.faults ≡ before.faults
  pub counted : ended ≡ of_connection (length asks) served
  pub asked : AsksInTurn farm_rules opened old.stands new.stands (questions_of asks) replies
  pub spent : old.spare ≡ new.spare + length asks

-- the questions of connections, in order
abbrev pub questions_in : List Connection → List Asking
questions_in cs = flat_map (λ c. questions_of c.asks) cs

-- and the replies to them
abbrev pub replies_in : List Connection → List Reply
replies_in cs = flat_map (λ c. c.replies) cs
