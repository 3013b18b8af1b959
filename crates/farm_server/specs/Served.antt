-- What one connection did: which messages were asked, with which moments and ids, what was written, what the gate was told, and why it ended.
use Rattle.std.specs.Prelude.{◌≡◌, ◌≢◌, ℕ, ◌+◌, ◌-◌, ◌<◌, ◌≤◌, ◌⊎◌, List, [], ◌∷◌, ◌++◌, length, map, Bool, true, false, ◌||◌, ◌==◌, Option, IfSome}
use Rattle.std.specs.Bool.{MatchBool}
use Rattle.std.specs.Io.KnownBytes.{Appends, IsAtEnd}
use Rattle.causes.specs.Causes.{Rose}
use Rattle.farm_text.specs.Logs.{LogGrows}
use Rattle.history.specs.Asks.{AsksInTurn}
use Rattle.farm_text.specs.declared.clock.Clock as clocks
use Rattle.farm_text.specs.declared.draws.Draws as draws
use Rattle.http_wire.specs.declared.link.Link as links
use Rattle.http_wire.specs.declared.message.Message.{Message}
use Rattle.http_wire.specs.declared.message.Wire.{Wire}
use Rattle.http_wire.specs.declared.message.Wire.TheVariants as wire
use Rattle.http_wire.specs.Needed.{TakesTo, TakesInto}
use Rattle.http_wire.specs.Reading.{Loses}
use Rattle.http_wire.specs.Stream.{whole, Gives, Messages, stopped, closed, full}
use Rattle.http_wire.specs.Whole.{IsProperFrontOf}
use Rattle.farm_asks.specs.declared.question.Call.{Call}
use Rattle.farm_asks.specs.declared.reply.Reply.{Reply}
use Rattle.farm_asks.specs.Questions.{Asking}
use Rattle.farm_machine.specs.Entry.{Entry}
use Rattle.farm_machine.specs.Law.{Opening, opened}
use Rattle.farm_machine.specs.Step.{farm_rules}
use Rattle.api_routes.specs.ReplyText.{reply_text, wire_text}
use Rattle.api_routes.specs.Routes.{IsCallOf, question_of}
use Rattle.farm_server.specs.declared.gate.Gate as gates
use Rattle.farm_server.specs.declared.gate.When.{When}
use Rattle.farm_server.specs.declared.gate.When.TheVariants.{Asked, Answered}
use Rattle.farm_server.specs.declared.served.Served.{Served}
use Rattle.farm_server.specs.declared.served.Served.TheVariants.{Closed, EndedInside, WireFault, ReadFault, WriteFault, Full, NoMemory}
use Rattle.farm_server.specs.declared.served.TheConstants.{REQUESTS}

-- what the outside tells at one moment: what is left to read, what was written, which moments and ids were told, what the gate was told, and both counts of faults
pub record Outside : Type 0 where
  pub left : Option (List ℕ)
  pub written : Option (List ℕ)
  pub moments : Option (List ℕ)
  pub ids : Option (List (List ℕ))
  pub gate : Option (List When)
  pub read_faults : ℕ
  pub write_faults : ℕ

-- the same, as the traits of a link, a clock, draws and a gate have it
abbrev pub outside_of : {L C R G : Type 0} → links.Ghosts L → clocks.Ghosts C → draws.Ghosts R → gates.Ghosts G → L → C → R → G → Outside
outside_of of_link of_clock of_draws of_gate link clock ids gate =
    record {
      left = of_link.left link;
      written = of_link.written link;
      moments = of_clock.told clock;
      ids = of_draws.told ids;
      gate = of_gate.told gate;
      read_faults = of_link.read_faults link;
      write_faults = of_link.write_faults link;
    }

-- a message that was asked, the call that it makes, and the moment and the id told for it
pub record Ask : Type 0 where
  pub message : Message
  pub call : Call
  pub moment : ℕ
  pub id : List ℕ

-- the messages of asks
abbrev pub messages_of : List Ask → List Message
messages_of asks = map (λ ask. ask.message) asks

-- the questions of asks
abbrev pub questions_of : List Ask → List Asking
questions_of asks = map (λ ask. question_of ask.message ask.call ask.moment ask.id) asks

-- each message was asked as the call that it makes
abbrev pub AreRouted : List Ask → Type 0
AreRouted [] = Unit {0}
AreRouted (ask ∷ asks) = IsCallOf ask.message ask.call × AreRouted asks

-- The bytes of the replies in order, with room for so many messages. A reply closes where its message does, and the last that there is room for does.
abbrev pub reply_texts : ℕ → List Ask → List Reply → List ℕ
reply_texts room [] replies = []
reply_texts room (ask ∷ asks) [] = []
reply_texts room (ask ∷ asks) (reply ∷ replies) =
    reply_text reply (ask.message.closes || (room == 1)) ++ reply_texts (room - 1) asks replies

-- these are the first messages of the list of the bytes, with room for so many
abbrev pub IsFront : ℕ → List ℕ → List Message → Type 0
IsFront room bytes [] = Unit {0}
IsFront room bytes (m ∷ ms) =
    (0 < room) × ((rest : List ℕ) × Gives bytes (whole m rest) × MatchBool m.closes (ms ≡ []) (IsFront (room - 1) rest ms))

-- these are the first messages of the list of the bytes, which does not end with them: there is room for more, and none of them closes
abbrev pub IsOpenFront : ℕ → List ℕ → List Message → Type 0
IsOpenFront room bytes [] = 0 < room
IsOpenFront room bytes (m ∷ ms) =
    (0 < room) × ((rest : List ℕ) × Gives bytes (whole m rest) × (m.closes ≡ false) × IsOpenFront (room - 1) rest ms)

-- the reasons for which the wire itself replies
abbrev pub is_refused : Wire → Bool
is_refused wire.HeadFault = true
is_refused wire.HeadTooLarge = true
is_refused wire.NoLength = true
is_refused wire.BodyTooLarge = true
is_refused reason = false

-- which messages were asked, where the bytes are known and there was room for so many: the whole list, which ends so, or its first ones
abbrev pub EndsAs : ℕ → List ℕ → List Message → Served → Type 0
EndsAs room bytes messages Closed = Messages room bytes messages closed ⊎ Messages room bytes messages (stopped wire.End)
EndsAs room bytes messages Full = Messages room bytes messages full
EndsAs room bytes messages EndedInside = Messages room bytes messages (stopped wire.EndedInside)
EndsAs room bytes messages (WireFault reason) = (is_refused reason ≡ true) × Messages room bytes messages (stopped reason)
EndsAs room bytes messages ReadFault = IsOpenFront room bytes messages
EndsAs room bytes messages WriteFault = IsFront room bytes messages
EndsAs room bytes messages NoMemory = IsOpenFront room bytes messages

-- What is left to read where a connection ended so: nothing where the stream ended, before a message or inside one; all but less than a piece behind
-- the messages that were asked where it ended with the last of them, or its reply could not be written; else all but an unfinished message and a piece behind them.
abbrev pub LeavesAtEnd : ℕ → List ℕ → List Message → Option (List ℕ) → Served → Type 0
LeavesAtEnd room bytes messages left Closed =
    (Messages room bytes messages closed × TakesTo bytes messages left) ⊎ (Messages room bytes messages (stopped wire.End) × IsAtEnd left)
LeavesAtEnd room bytes messages left EndedInside = IsAtEnd left
LeavesAtEnd room bytes messages left Full = TakesTo bytes messages left
LeavesAtEnd room bytes messages left WriteFault =
    TakesTo bytes messages left ⊎ ((reason : Wire) × (is_refused reason ≡ true) × Messages room bytes messages (stopped reason) × TakesInto bytes messages left)
LeavesAtEnd room bytes messages left served = TakesInto bytes messages left

-- What a gate is told of asks, with room for so many messages: of each in turn that it is asked, and then that it is answered. The place of one is how many a connection had before it.
abbrev pub told_of : ℕ → List Ask → List When
told_of room [] = []
told_of room (ask ∷ asks) = Asked (REQUESTS - room) ∷ Answered (REQUESTS - room) ∷ told_of (room - 1) asks

-- all but the last
abbrev pub but_last : {A : Type 0} → List A → List A
but_last [] = []
but_last (x ∷ []) = []
but_last (x ∷ y ∷ ys) = x ∷ but_last (y ∷ ys)

-- this text was written, and the gate was told this
pub record WritesAndTells (before after : Outside) (text : List ℕ) (told : List When) : Type 0 where
  pub written : Appends before.written after.written text
  pub gate : LogGrows before.gate after.gate told

-- A write of a reply failed: the replies to all asks but the last were written, then a front of the last reply, and the gate was not told that the last ask is answered.
pub record BreaksReply (room : ℕ) (before after : Outside) (asks : List Ask) (replies : List Reply) : Type 0 where
  pub some : asks ≢ []
  pub last : List ℕ
  pub is_last : reply_texts room asks replies ≡ reply_texts room (but_last asks) replies ++ last
  pub front : List ℕ
  pub begins : IsProperFrontOf front last
  pub says : WritesAndTells before after (reply_texts room (but_last asks) replies ++ front) (but_last (told_of room asks))

-- A write of the wire's own reply failed: the list of messages ends with this refusal, all replies were written, then a front of the wire's own, and the gate was told of all asks.
pub record BreaksOwnReply (room : ℕ) (before after : Outside) (asks : List Ask) (replies : List Reply) : Type 0 where
  pub reason : Wire
  pub refused : is_refused reason ≡ true
  pub ends : IfSome before.left (λ bytes. Messages room bytes (messages_of asks) (stopped reason))
  pub front : List ℕ
  pub begins : IsProperFrontOf front (wire_text reason)
  pub says : WritesAndTells before after (reply_texts room asks replies ++ front) (told_of room asks)

-- What was written, and what the gate was told: the texts of the replies, and then the wire's own reply where it refuses; or the write of one of them failed.
abbrev pub Writes : ℕ → Outside → Outside → List Ask → List Reply → Served → Type 0
Writes room before after asks replies (WireFault reason) =
    (is_refused reason ≡ true) × WritesAndTells before after (reply_texts room asks replies ++ wire_text reason) (told_of room asks)
Writes room before after asks replies WriteFault = BreaksReply room before after asks replies ⊎ BreaksOwnReply room before after asks replies
Writes room before after asks replies served = WritesAndTells before after (reply_texts room asks replies) (told_of room asks)

-- a failed read and a failed write have their counts as cause; a count of what did not fail is as it was
abbrev pub IsCaused : Outside → Outside → Served → Type 0
IsCaused before after ReadFault = Rose before.read_faults after.read_faults × (after.write_faults ≡ before.write_faults)
IsCaused before after WriteFault = Rose before.write_faults after.write_faults × (after.read_faults ≡ before.read_faults)
IsCaused before after served = (after.read_faults ≡ before.read_faults) × (after.write_faults ≡ before.write_faults)

-- so many messages were asked: all that there is room for where it is full, fewer where it ended before, and no more where a write failed
abbrev pub IsCount : ℕ → ℕ → Served → Type 0
IsCount room count Full = count ≡ room
IsCount room count WriteFault = count ≤ room
IsCount room count served = count < room

-- What was said where there was room for so many messages: these were asked, with these replies, and then it ended so.
pub record SpokeWithin (room : ℕ) (before after : Outside) (asks : List Ask) (replies : List Reply) (served : Served) : Type 0 where
  pub count : IsCount room (length asks) served
  pub routed : AreRouted asks
  pub each : length replies ≡ length asks
  pub taken : IfSome before.left (λ bytes. EndsAs room bytes (messages_of asks) served)
  pub left : Loses before.left after.left
  pub ended : IfSome before.left (λ bytes. LeavesAtEnd room bytes (messages_of asks) after.left served)
  pub moments : LogGrows before.moments after.moments (map (λ ask. ask.moment) asks)
  pub ids : LogGrows before.ids after.ids (map (λ ask. ask.id) asks)
  pub written : Writes room before after asks replies served
  pub cause : IsCaused before after served
  pub reads_later : before.read_faults ≤ after.read_faults
  pub writes_later : before.write_faults ≤ after.write_faults

-- What was said over a connection.
abbrev pub Spoke : Outside → Outside → List Ask → List Reply → Served → Type 0
Spoke = SpokeWithin REQUESTS

-- what a desk stands for, and how many asks it has left
pub record Standing : Type 1 where
  pub stands : Opening → List Entry → List ℕ → Type 0
  pub spare : ℕ

-- The same, with the desk before and after: it was asked these questions in turn, and has as many asks less.
pub record ServesWithin (room : ℕ) (old new : Standing) (before after : Outside) (served : Served) : Type 0 where
  pub asks : List Ask
  pub replies : List Reply
  pub spoke : SpokeWithin room before after asks replies served
  pub asked : AsksInTurn farm_rules opened old.stands new.stands (questions_of asks) replies
  pub spent : old.spare ≡ new.spare + length asks

-- What one connection did: the desk before and after, what the outside told before and after, and why it ended.
abbrev pub Serves : Standing → Standing → Outside → Outside → Served → Type 0
Serves = ServesWithin REQUESTS
