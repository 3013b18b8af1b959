-- Messages that were taken from a stream so far, as the loop over them keeps it.
use Rattle.std.proofs.Common.{◌≡◌, ℕ, false, List, [], ◌∷◌, Option, Some, None}
use Rattle.http_wire.specs.declared.message.Message.{Message}
use Rattle.http_wire.specs.Needed.{AreFollowedBy}

-- Calls took these messages from a stream, one after another, and left this of it, where it is known.
abbrev pub TakesKnown : Option (List ℕ) → List Message → Option (List ℕ) → Type 0
TakesKnown None ms after = Unit {0}
TakesKnown (Some bytes) ms None = ⊥
TakesKnown (Some bytes) ms (Some rest) = AreFollowedBy bytes ms rest

-- none of the messages closes
abbrev pub NoneCloses : List Message → Type 0
NoneCloses [] = Unit {0}
NoneCloses (m ∷ ms) = (m.closes ≡ false) × NoneCloses ms
