-- What a connection leaves of its link.
use Rattle.std.proofs.Common.{◌≡◌, ℕ, Bool, true, false, List, [], ◌∷◌, ◌++◌, Option, Some, None, IfSome, Result, Ok, Err, length, take, drop, refl, sym, ◌∙◌, ap, arith, append_assoc, take-append-drop}
use Rattle.std.specs.Prelude.{nat_le, if◌then◌else◌}
use Rattle.std.specs.Io.KnownBytes.{prepend_known}
use Rattle.std.proofs.KnownBytes.{Consumes-nil, Consumes-trans}
use Rattle.httparse.specs.Grammar.{RequestHead, print_request}
use Rattle.http_wire.specs.declared.message.Message.{Message}
use Rattle.http_wire.specs.declared.message.Wire.{Wire}
use Rattle.http_wire.specs.declared.message.Wire.TheVariants as wire
use Rattle.http_wire.specs.Framing.{named_fields, body_length}
use Rattle.http_wire.specs.Head.{message, fault, too_large, ended, inside}
use Rattle.http_wire.specs.Message.{message_of}
use Rattle.http_wire.specs.Needed.{LosesUnfinished, LosesFew, TakesTo, TakesInto}
use Rattle.http_wire.specs.Reading.{Loses, Leaves}
use Rattle.http_wire.specs.Stream.{whole, stops, with_body, Gives, TakesOne}
use Rattle.http_wire.proofs.KnownLemmas.{Loses-none}
use Rattle.http_wire.proofs.NeededLemmas.{none_unfinished}

-- nothing was read
pub Loses-nothing : (left : Option (List ℕ)) → Loses left left
Loses-nothing left = ([], Consumes-nil left)

-- some bytes were lost, and then more
pub Loses-then : (before between now : Option (List ℕ)) → Loses before between → Loses between now → Loses before now
Loses-then before between now first second =
    (first.0 ++ second.0, Consumes-trans before between now first.0 second.0 first.1 second.1)

-- what was read of a stream and is held stands before what its link has left
pub Loses-held : (held : List ℕ) (left : Option (List ℕ)) → Loses (prepend_known held left) left
Loses-held held None = ([], tt)
Loses-held held (Some bytes) = (held, refl)

-- what follows a body stands at the end of what follows its head
rest_chosen : (enough : Bool) (m made : Message) (rest after : List ℕ) → whole m rest ≡ (if enough then whole made after else stops wire.EndedInside) → rest ≡ after
rest_chosen true m made rest after is = cc
rest_chosen false m made rest after is = cc

body_taken : (h : RequestHead) (after rest : List ℕ) (m : Message) (size : Result ℕ Wire) → whole m rest ≡ with_body h after size → (gone : List ℕ) × (after ≡ gone ++ rest)
body_taken h after rest m (Err reason) is = cc
body_taken h after rest m (Ok n) is =
    let same : rest ≡ drop n after = rest_chosen (nat_le n (length after)) m (message_of h (take n after)) rest (drop n after) is in
    (take n after, sym (take-append-drop n after) ∙ ap (λ (bytes : List ℕ). take n after ++ bytes) (sym same))

-- what follows a message stands at the end of the bytes that give it
message_taken : (bytes rest : List ℕ) (m : Message) → Gives bytes (whole m rest) → (gone : List ℕ) × (bytes ≡ gone ++ rest)
message_taken bytes rest m (message h after, has, is) =
    let body = body_taken h after rest m (body_length (named_fields h)) is in
    (print_request h ++ body.0, has.reads.1 ∙ (ap (λ (more : List ℕ). print_request h ++ more) body.1 ∙ sym (append_assoc (print_request h) body.0 rest)))
message_taken bytes rest m (fault, has, is) = cc
message_taken bytes rest m (too_large, has, is) = cc
message_taken bytes rest m (ended, has, is) = cc
message_taken bytes rest m (inside, has, is) = cc

-- a message was taken
pub Loses-message : (left next : Option (List ℕ)) (m : Message) → TakesOne left m next → Loses left next
Loses-message None next m takes = ([], tt)
Loses-message (Some bytes) None m takes = absurd takes
Loses-message (Some bytes) (Some rest) m takes = message_taken bytes rest m takes

-- no message came
pub Loses-stopped : (before now : Option (List ℕ)) (reason : Wire) → Leaves before now reason → Loses before now
Loses-stopped before now wire.End leaves = Loses-none before now leaves
Loses-stopped before now wire.EndedInside leaves = leaves
Loses-stopped before now wire.HeadFault leaves = Loses-none before now leaves
Loses-stopped before now wire.HeadTooLarge leaves = Loses-none before now leaves
Loses-stopped before now wire.NoLength leaves = Loses-none before now leaves
Loses-stopped before now wire.BodyTooLarge leaves = Loses-none before now leaves
Loses-stopped before now wire.ReadFault leaves = leaves
Loses-stopped before now wire.NoMemory leaves = Loses-none before now leaves

-- what holds of all bytes holds of those that are told
pub IfSome-each : (left : Option (List ℕ)) (P : List ℕ → Type 0) → ((bytes : List ℕ) → P bytes) → IfSome left P
IfSome-each None P each = tt
IfSome-each (Some bytes) P each = each bytes

-- ---- what was taken was needed

-- nothing was read for an unfinished message
pub LosesUnfinished-nothing : (left : Option (List ℕ)) → LosesUnfinished left left
LosesUnfinished-nothing left = record { seen = []; last = []; lost = Consumes-nil left; unfinished = none_unfinished; piece = omega arith }

-- what is lost is some bytes, few or not
pub Loses-few : (before now : Option (List ℕ)) → LosesFew before now → Loses before now
Loses-few before now few = (few.0, few.1)

-- no message was asked, and an unfinished one was taken
pub TakesInto-none : (stream left : Option (List ℕ)) → LosesUnfinished stream left → IfSome stream (λ bytes. TakesInto bytes [] left)
TakesInto-none None left needed = tt
TakesInto-none (Some bytes) left needed = (bytes, refl, needed)

-- no message was asked, and what is held behind the ones before is few
pub TakesTo-none : (stream left : Option (List ℕ)) → LosesFew stream left → IfSome stream (λ bytes. TakesTo bytes [] left)
TakesTo-none None left few = tt
TakesTo-none (Some bytes) left few = (bytes, refl, few)

-- one message was asked, and few bytes are taken behind it
pub TakesTo-one : (stream rest left : Option (List ℕ)) (m : Message) → TakesOne stream m rest → LosesFew rest left → IfSome stream (λ bytes. TakesTo bytes (m ∷ []) left)
TakesTo-one None rest left m takes few = tt
TakesTo-one (Some bytes) None left m takes few = absurd takes
TakesTo-one (Some bytes) (Some rest) left m takes few = (rest, (rest, takes, refl), few)

-- the same of the messages after one
pub TakesTo-more : (bytes rest : List ℕ) (m : Message) (ms : List Message) (left : Option (List ℕ)) → Gives bytes (whole m rest) → TakesTo rest ms left → TakesTo bytes (m ∷ ms) left
TakesTo-more bytes rest m ms left gives (after, follows, few) = (after, (rest, gives, follows), few)

pub TakesInto-more : (bytes rest : List ℕ) (m : Message) (ms : List Message) (left : Option (List ℕ)) → Gives bytes (whole m rest) → TakesInto rest ms left → TakesInto bytes (m ∷ ms) left
TakesInto-more bytes rest m ms left gives (after, follows, needed) = (after, (rest, gives, follows), needed)
