-- The messages of a stream of bytes, and how their list ends.
use Rattle.std.specs.Prelude.{◌≡◌, ℕ, Bool, true, false, ◌-◌, ◌<◌, ◌⊎◌, List, [], ◌∷◌, length, take, drop, if◌then◌else◌, nat_le, nat_eq, Option, Some, None, Result, Ok, Err}
use Rattle.std.specs.Bool.{MatchBool}
use Rattle.httparse.specs.Grammar.{RequestHead}
use Rattle.http_wire.specs.Framing.{named_fields, body_length}
use Rattle.http_wire.specs.Head.{Next, message, fault, too_large, ended, inside, Begins}
use Rattle.http_wire.specs.Message.{message_of}
use Rattle.http_wire.specs.declared.message.Message.{Message}
use Rattle.http_wire.specs.declared.message.Wire.{Wire}
use Rattle.http_wire.specs.declared.message.Wire.TheVariants.{End, HeadFault, HeadTooLarge, EndedInside, ReadFault, NoMemory}

-- the next thing that a stream gives: a message and the bytes after it, or the reason why there is none
pub data Outcome : Type 0 where
  whole : Message → List ℕ → Outcome
  stops : Wire → Outcome

-- the body is the next n bytes
abbrev pub with_body : RequestHead → List ℕ → Result ℕ Wire → Outcome
with_body h rest (Err wire) = stops wire
with_body h rest (Ok n) = if nat_le n (length rest) then whole (message_of h (take n rest)) (drop n rest) else stops EndedInside

-- what becomes of that which comes next
abbrev pub finish : Next → Outcome
finish (message h rest) = with_body h rest (body_length (named_fields h))
finish fault = stops HeadFault
finish too_large = stops HeadTooLarge
finish ended = stops End
finish inside = stops EndedInside

-- the outcome of these bytes, which are all of the input
abbrev pub Gives : List ℕ → Outcome → Type 0
Gives bytes outcome = (next : Next) × Begins bytes next × (outcome ≡ finish next)

-- how a list of messages ends: no further message came, the last one closes, or the room is used up
pub data Ending : Type 0 where
  stopped : Wire → Ending
  closed full : Ending

-- how a list ends whose last message closes, with that much room left
abbrev pub closing : ℕ → Ending
closing room = if nat_eq room 0 then full else closed

-- The messages of the bytes, which are all of the input, where there is room for so many, and how their list ends.
abbrev pub Messages : ℕ → List ℕ → List Message → Ending → Type 0
Messages room bytes [] e = ((room ≡ 0) × (e ≡ full)) ⊎ ((0 < room) × ((wire : Wire) × Gives bytes (stops wire) × (e ≡ stopped wire)))
Messages room bytes (m ∷ ms) e =
    (0 < room) × ((rest : List ℕ) × Gives bytes (whole m rest)
    × MatchBool m.closes ((ms ≡ []) × (e ≡ closing (room - 1))) (Messages (room - 1) rest ms e))

-- A call took the message from a stream, and left this of it, where it is known.
abbrev pub TakesOne : Option (List ℕ) → Message → Option (List ℕ) → Type 0
TakesOne None m after = Unit {0}
TakesOne (Some bytes) m None = ⊥
TakesOne (Some bytes) m (Some rest) = Gives bytes (whole m rest)

-- the reasons that the stream itself gives
abbrev pub is_of_stream : Wire → Bool
is_of_stream ReadFault = false
is_of_stream NoMemory = false
is_of_stream wire = true

-- A call found that the stream, where it is known, gives no further message for this reason. A failed read and want of memory say nothing of the stream.
abbrev pub Stops : Option (List ℕ) → Wire → Type 0
Stops None wire = Unit {0}
Stops (Some bytes) wire = MatchBool (is_of_stream wire) (Gives bytes (stops wire)) (Unit {0})
