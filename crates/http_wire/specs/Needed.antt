-- How much is taken from a link: what is needed for a message, and the rest of the last piece.
use Rattle.std.specs.Prelude.{◌≡◌, ℕ, ◌+◌, ◌<◌, ◌≤◌, ◌⊎◌, List, [], ◌∷◌, ◌++◌, length, Option, Some}
use Rattle.std.specs.Io.KnownBytes.{Consumes}
use Rattle.http_wire.specs.Head.{head_limit, IsOpen}
use Rattle.http_wire.specs.Stream.{whole, stops, Gives}
use Rattle.http_wire.specs.Whole.{piece_size}
use Rattle.http_wire.specs.declared.message.Message.{Message}
use Rattle.http_wire.specs.declared.message.Wire.TheVariants.{End, EndedInside}

-- were these bytes all of the input, it would end before a message or inside one
abbrev pub IsUnfinished : List ℕ → Type 0
IsUnfinished bytes = Gives bytes (stops End) ⊎ Gives bytes (stops EndedInside)

-- A stream lost an unfinished message, and behind that a piece at most: the link was last read for this message.
pub record LosesUnfinished (before now : Option (List ℕ)) : Type 0 where
  pub seen : List ℕ
  pub last : List ℕ
  pub lost : Consumes before now (seen ++ last)
  pub unfinished : IsUnfinished seen
  pub piece : length last ≤ piece_size

-- these are the first messages of the bytes, and rest follows them
abbrev pub AreFollowedBy : List ℕ → List Message → List ℕ → Type 0
AreFollowedBy bytes [] rest = rest ≡ bytes
AreFollowedBy bytes (m ∷ ms) rest = (next : List ℕ) × Gives bytes (whole m next) × AreFollowedBy next ms rest

-- a stream lost less than a piece
abbrev pub LosesFew : Option (List ℕ) → Option (List ℕ) → Type 0
LosesFew before now = (gone : List ℕ) × Consumes before now gone × (length gone < piece_size)

-- Behind these messages less than a piece was taken: the link was last read for one of them.
abbrev pub TakesTo : List ℕ → List Message → Option (List ℕ) → Type 0
TakesTo bytes ms left = (rest : List ℕ) × AreFollowedBy bytes ms rest × LosesFew (Some rest) left

-- Behind these messages an unfinished one was taken, and a piece at most.
abbrev pub TakesInto : List ℕ → List Message → Option (List ℕ) → Type 0
TakesInto bytes ms left = (rest : List ℕ) × AreFollowedBy bytes ms rest × LosesUnfinished (Some rest) left

-- The bytes held grew, by a piece at most since they held neither a head nor a fault, and fewer bytes than a head may have.
pub record GrowsOpen (old new : List ℕ) : Type 0 where
  pub seen : List ℕ
  pub last : List ℕ
  pub is : new ≡ (old ++ seen) ++ last
  pub piece : length last ≤ piece_size
  pub short : length (old ++ seen) < head_limit
  pub open_ : IsOpen (old ++ seen)

-- the same, or they are as they were
abbrev pub GrowsNeeded : List ℕ → List ℕ → Type 0
GrowsNeeded old new = (new ≡ old) ⊎ GrowsOpen old new

-- what was read for a body of so many bytes, of which some are held: nothing, or no more than it lacks
abbrev pub TakesLacking : ℕ → ℕ → Option (List ℕ) → Option (List ℕ) → Type 0
TakesLacking held size before now = (gone : List ℕ) × Consumes before now gone × ((gone ≡ []) ⊎ (held + length gone ≤ size))
