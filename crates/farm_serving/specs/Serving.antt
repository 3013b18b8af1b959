-- What workers did at one desk: which places of its history are whose.
use Rattle.std.specs.Prelude.{◌≡◌, ◌≢◌, ℕ, ◌+◌, List, [], ◌∷◌, ◌++◌, length, map, flat_map, All, AllPairs, Some}
use mathlib.Core.List.{IsPrefix}
use Rattle.history.specs.Histories.{IsLegal, asked_at, reply_at}
use Rattle.history.specs.Asks.{AsksInTurn, IsRisingWithin}
use Rattle.shared_desk.specs.Standing.{Standing, home_of}
use Rattle.farm_machine.specs.Entry.{Entry}
use Rattle.farm_machine.specs.Law.{opened}
use Rattle.farm_machine.specs.State.{State}
use Rattle.farm_machine.specs.Step.{farm_rules}
use Rattle.farm_server.specs.Served.{questions_of}
use Rattle.farm_server.specs.Served.{Standing as DeskStanding}
use Rattle.farm_serving.specs.Connections.{Connection, Station, Part, Worked, questions_in, replies_in}
use Rattle.farm_serving.specs.Tally.{IsTally}
use Rattle.farm_serving.specs.declared.ended.Ended.{Ended}

-- What one worker did at a desk, with so many accepts: it asked the questions of its connections in turn, and was given their replies.
pub record Works (accepts : ℕ) (old new : DeskStanding) (before after : Station) (ended : Ended) : Type 0 where
  pub failed : ℕ
  pub connections : List Connection
  pub worked : Worked accepts (record { before = before; after = after; failed = failed; connections = connections })
  pub tally : IsTally ended (record { before = before; after = after; failed = failed; connections = connections } ∷ [])
  pub asked : AsksInTurn farm_rules opened old.stands new.stands (questions_in connections) (replies_in connections)
  pub spent : old.spare ≡ new.spare + ended.served

-- A connection's portion of the places: as many as its messages. There stand its questions, with its replies, in order.
pub record IsPortion (opening : State) (seen : List Entry) (c : Connection) (portion : List ℕ) : Type 0 where
  pub each : length portion ≡ length c.asks
  pub asked : map (asked_at farm_rules seen) portion ≡ map Some (questions_of c.asks)
  pub replied : map (reply_at farm_rules opening seen) portion ≡ map Some c.replies

-- these places are cut into portions, connection by connection
abbrev pub ArePortions : State → List Entry → List Connection → List ℕ → Type 0
ArePortions opening seen [] places = places ≡ []
ArePortions opening seen (c ∷ cs) places =
    (portion : List ℕ) × (rest : List ℕ) × (places ≡ portion ++ rest) × IsPortion opening seen c portion × ArePortions opening seen cs rest

-- each part has a share of the places: they rise from this place on, and are cut into portions of its connections
abbrev pub AreShares : State → List Entry → ℕ → List Part → List (List ℕ) → Type 0
AreShares opening seen first [] shares = shares ≡ []
AreShares opening seen first (part ∷ parts) shares =
    (share : List ℕ) × (others : List (List ℕ)) × (shares ≡ share ∷ others) × IsRisingWithin first (length seen) share
    × ArePortions opening seen part.connections share × AreShares opening seen first parts others

-- What a desk that began in this state gained by these parts: the history that it had seen goes on, and its own places gain a share for each part,
-- in all of which no place stands twice.
pub record HasGained (opening : State) (old new : Standing State Entry) (parts : List Part) : Type 0 where
  pub begins : IsPrefix old.seen new.seen
  pub legal : IsLegal farm_rules opening new.seen
  pub shares : List (List ℕ)
  pub mine : new.mine ≡ old.mine ++ flat_map (λ share. share) shares
  pub once : AllPairs (λ place another. place ≢ another) (flat_map (λ share. share) shares)
  pub are : AreShares opening new.seen (length old.seen) parts shares

-- Workers that told this before and that after did these parts, each with so many accepts. These are the numbers of it, and the desk has so many asks less.
pub record AreParts (accepts : ℕ) (old new : Standing State Entry) (befores afters : List Station) (ended : Ended) (parts : List Part) : Type 0 where
  pub began : map (λ part. part.before) parts ≡ befores
  pub became : map (λ part. part.after) parts ≡ afters
  pub worked : All (Worked accepts) parts
  pub tally : IsTally ended parts
  pub home : home_of new ≡ home_of old
  pub spent : old.left ≡ new.left + ended.served

-- What workers did at one desk: their parts, and what the desk gained by them.
abbrev pub Serves : ℕ → Standing State Entry → Standing State Entry → List Station → List Station → Ended → Type 0
Serves accepts old new befores afters ended =
    (parts : List Part) × AreParts accepts old new befores afters ended parts
    × ((opening : State) → old.opening ≡ Some opening → HasGained opening old new parts)

-- the same from a history that is legal
abbrev pub ServesLegal : ℕ → Standing State Entry → Standing State Entry → List Station → List Station → Ended → Type 0
ServesLegal accepts old new befores afters ended =
    (parts : List Part) × AreParts accepts old new befores afters ended parts
    × ((opening : State) → old.opening ≡ Some opening → IsLegal farm_rules opening old.seen → HasGained opening old new parts)
