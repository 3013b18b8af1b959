-- One more message in front of what a connection did.
use Rattle.std.proofs.Common.{◌≡◌, ℕ, suc, ◌-◌, ◌<◌, ◌⊎◌, inl, inr, Bool, true, false, ◌||◌, eqb, List, [], ◌∷◌, ◌++◌, length, map, Option, Some, None, IfSome, refl, sym, ◌∙◌, ap, subst, append_assoc, arith}
use Rattle.std.proofs.KnownBytes.{Appends-trans}
use Rattle.farm_text.proofs.LogsLemmas.{LogGrows-then}
use Rattle.history.proofs.AsksLemmas.{AsksInTurn-then}
use Rattle.http_wire.specs.declared.message.Message.{Message}
use Rattle.http_wire.specs.declared.message.Wire.{Wire}
use Rattle.http_wire.specs.declared.message.Wire.TheVariants as wire
use Rattle.http_wire.specs.Stream.{whole, Gives, Ending, Messages, TakesOne, stopped, closed, full}
use Rattle.farm_asks.specs.declared.reply.Reply.{Reply}
use Rattle.farm_machine.specs.Law.{opened}
use Rattle.farm_machine.specs.Step.{farm_rules}
use Rattle.api_routes.specs.ReplyText.{reply_text, wire_text}
use Rattle.api_routes.specs.Routes.{question_of}
use Rattle.farm_server.specs.Served.{Outside, Ask, messages_of, questions_of, reply_texts, IsFront, IsOpenFront, EndsAs, LeavesAtEnd, told_of, but_last, WritesAndTells, BreaksReply, BreaksOwnReply, Writes, IsCaused, IsCount, Standing, ServesWithin}
use Rattle.farm_server.specs.Turn.{Telling, Goes}
use Rattle.farm_server.specs.declared.gate.When.{When}
use Rattle.farm_server.specs.declared.gate.When.TheVariants.{Asked, Answered}
use Rattle.farm_server.specs.declared.served.Served.{Served}
use Rattle.farm_server.specs.declared.served.Served.TheVariants.{Closed, EndedInside, WireFault, ReadFault, WriteFault, Full, NoMemory}
use Rattle.farm_server.specs.declared.served.TheConstants.{REQUESTS}
use Rattle.farm_server.proofs.LeftLemmas.{Loses-then, Loses-message, TakesTo-more, TakesInto-more}

-- without room there is no message
Messages-no_room : (bytes : List ℕ) (ms : List Message) (e : Ending) → Messages 0 bytes ms e → (ms ≡ []) × (e ≡ full)
Messages-no_room bytes [] e (inl done) = (refl, done.1)
Messages-no_room bytes [] e (inr more) = absurd (omega (arith, more.0))
Messages-no_room bytes (m ∷ ms) e more = absurd (omega (arith, more.0))

IsFront-no_room : (bytes : List ℕ) (ms : List Message) → IsFront 0 bytes ms → ms ≡ []
IsFront-no_room bytes [] front = refl
IsFront-no_room bytes (m ∷ ms) front = absurd (omega (arith, front.0))

-- the list of the bytes begins with a message, and goes on after it
Messages-more : (room : ℕ) (bytes rest : List ℕ) (m : Message) (ms : List Message) (e : Ending) (closes : Bool) → 0 < room → m.closes ≡ closes → Gives bytes (whole m rest) → (closes ≡ false) ⊎ (room ≡ 1) → Messages (room - 1) rest ms e → Messages room bytes (m ∷ ms) e
Messages-more room bytes rest m ms e false some is gives goes_on others =
    (some, (rest, gives, rw is others))
Messages-more room bytes rest m ms e true some is gives goes_on others =
    let last : room ≡ 1 = only_last goes_on in
    let one : room - 1 ≡ 0 = omega arith in
    let P : ℕ → Type 0 = λ n. Messages n rest ms e in
    let none = Messages-no_room rest ms e (subst P one others) in
    (some, (rest, gives, rw (is, one) none))
  where
    only_last : (true ≡ false) ⊎ (room ≡ 1) → room ≡ 1
    only_last (inl no_way) = cc
    only_last (inr last) = last

IsFront-more : (room : ℕ) (bytes rest : List ℕ) (m : Message) (ms : List Message) (closes : Bool) → 0 < room → m.closes ≡ closes → Gives bytes (whole m rest) → (closes ≡ false) ⊎ (room ≡ 1) → IsFront (room - 1) rest ms → IsFront room bytes (m ∷ ms)
IsFront-more room bytes rest m ms false some is gives goes_on others =
    (some, (rest, gives, rw is others))
IsFront-more room bytes rest m ms true some is gives goes_on others =
    let last : room ≡ 1 = only_last goes_on in
    let one : room - 1 ≡ 0 = omega arith in
    let P : ℕ → Type 0 = λ n. IsFront n rest ms in
    let none = IsFront-no_room rest ms (subst P one others) in
    (some, (rest, gives, rw is none))
  where
    only_last : (true ≡ false) ⊎ (room ≡ 1) → room ≡ 1
    only_last (inl no_way) = cc
    only_last (inr last) = last

-- a front that the list does not end with has room for one more
IsOpenFront-room : (room : ℕ) (bytes : List ℕ) (ms : List Message) → IsOpenFront room bytes ms → 0 < room
IsOpenFront-room room bytes [] front = front
IsOpenFront-room room bytes (m ∷ ms) front = front.0

IsOpenFront-more : (room : ℕ) (bytes rest : List ℕ) (m : Message) (ms : List Message) → 0 < room → Gives bytes (whole m rest) → (m.closes ≡ false) ⊎ (room ≡ 1) → IsOpenFront (room - 1) rest ms → IsOpenFront room bytes (m ∷ ms)
IsOpenFront-more room bytes rest m ms some gives (inl goes_on) others = (some, (rest, gives, goes_on, others))
IsOpenFront-more room bytes rest m ms some gives (inr last) others =
    absurd (omega (arith, last, IsOpenFront-room (room - 1) rest ms others))

EndsAs-more : (room : ℕ) (bytes rest : List ℕ) (m : Message) (ms : List Message) (served : Served) → 0 < room → Gives bytes (whole m rest) → (m.closes ≡ false) ⊎ (room ≡ 1) → EndsAs (room - 1) rest ms served → EndsAs room bytes (m ∷ ms) served
EndsAs-more room bytes rest m ms Closed some gives goes_on (inl others) =
    inl (Messages-more room bytes rest m ms closed m.closes some refl gives goes_on others)
EndsAs-more room bytes rest m ms Closed some gives goes_on (inr others) =
    inr (Messages-more room bytes rest m ms (stopped wire.End) m.closes some refl gives goes_on others)
EndsAs-more room bytes rest m ms Full some gives goes_on others =
    Messages-more room bytes rest m ms full m.closes some refl gives goes_on others
EndsAs-more room bytes rest m ms EndedInside some gives goes_on others =
    Messages-more room bytes rest m ms (stopped wire.EndedInside) m.closes some refl gives goes_on others
EndsAs-more room bytes rest m ms (WireFault reason) some gives goes_on others =
    (others.0, Messages-more room bytes rest m ms (stopped reason) m.closes some refl gives goes_on others.1)
EndsAs-more room bytes rest m ms ReadFault some gives goes_on others =
    IsOpenFront-more room bytes rest m ms some gives goes_on others
EndsAs-more room bytes rest m ms WriteFault some gives goes_on others =
    IsFront-more room bytes rest m ms m.closes some refl gives goes_on others
EndsAs-more room bytes rest m ms NoMemory some gives goes_on others =
    IsOpenFront-more room bytes rest m ms some gives goes_on others

-- the same where it is not known whether the bytes are told
taken-more : (room : ℕ) (left next : Option (List ℕ)) (m : Message) (ms : List Message) (served : Served) → 0 < room → TakesOne left m next → (m.closes ≡ false) ⊎ (room ≡ 1) → IfSome next (λ bytes. EndsAs (room - 1) bytes ms served) → IfSome left (λ bytes. EndsAs room bytes (m ∷ ms) served)
taken-more room None next m ms served some takes goes_on others = tt
taken-more room (Some bytes) None m ms served some takes goes_on others = absurd takes
taken-more room (Some bytes) (Some rest) m ms served some takes goes_on others =
    EndsAs-more room bytes rest m ms served some takes goes_on others

-- the same of a list that ends with a refusal
refused-more : (room : ℕ) (left next : Option (List ℕ)) (m : Message) (ms : List Message) (reason : Wire) → 0 < room → TakesOne left m next → (m.closes ≡ false) ⊎ (room ≡ 1) → IfSome next (λ bytes. Messages (room - 1) bytes ms (stopped reason)) → IfSome left (λ bytes. Messages room bytes (m ∷ ms) (stopped reason))
refused-more room None next m ms reason some takes goes_on others = tt
refused-more room (Some bytes) None m ms reason some takes goes_on others = absurd takes
refused-more room (Some bytes) (Some rest) m ms reason some takes goes_on others =
    Messages-more room bytes rest m ms (stopped reason) m.closes some refl takes goes_on others

-- what is left at the end of the messages after one is left at the end of all
LeavesAtEnd-more : (room : ℕ) (bytes rest : List ℕ) (m : Message) (ms : List Message) (now : Option (List ℕ)) (served : Served) → 0 < room → Gives bytes (whole m rest) → (m.closes ≡ false) ⊎ (room ≡ 1) → LeavesAtEnd (room - 1) rest ms now served → LeavesAtEnd room bytes (m ∷ ms) now served
LeavesAtEnd-more room bytes rest m ms now Closed some gives goes_on (inl others) =
    inl (Messages-more room bytes rest m ms closed m.closes some refl gives goes_on others.0, TakesTo-more bytes rest m ms now gives others.1)
LeavesAtEnd-more room bytes rest m ms now Closed some gives goes_on (inr others) =
    inr (Messages-more room bytes rest m ms (stopped wire.End) m.closes some refl gives goes_on others.0, others.1)
LeavesAtEnd-more room bytes rest m ms now EndedInside some gives goes_on at_end = at_end
LeavesAtEnd-more room bytes rest m ms now Full some gives goes_on others = TakesTo-more bytes rest m ms now gives others
LeavesAtEnd-more room bytes rest m ms now (WireFault reason) some gives goes_on others = TakesInto-more bytes rest m ms now gives others
LeavesAtEnd-more room bytes rest m ms now ReadFault some gives goes_on others = TakesInto-more bytes rest m ms now gives others
LeavesAtEnd-more room bytes rest m ms now WriteFault some gives goes_on (inl others) = inl (TakesTo-more bytes rest m ms now gives others)
LeavesAtEnd-more room bytes rest m ms now WriteFault some gives goes_on (inr (reason, refused, others, into)) =
    inr (reason, refused, Messages-more room bytes rest m ms (stopped reason) m.closes some refl gives goes_on others, TakesInto-more bytes rest m ms now gives into)
LeavesAtEnd-more room bytes rest m ms now NoMemory some gives goes_on others = TakesInto-more bytes rest m ms now gives others

ended-more : (room : ℕ) (left next now : Option (List ℕ)) (m : Message) (ms : List Message) (served : Served) → 0 < room → TakesOne left m next → (m.closes ≡ false) ⊎ (room ≡ 1) → IfSome next (λ bytes. LeavesAtEnd (room - 1) bytes ms now served) → IfSome left (λ bytes. LeavesAtEnd room bytes (m ∷ ms) now served)
ended-more room None next now m ms served some takes goes_on others = tt
ended-more room (Some bytes) None now m ms served some takes goes_on others = absurd takes
ended-more room (Some bytes) (Some rest) now m ms served some takes goes_on others =
    LeavesAtEnd-more room bytes rest m ms now served some takes goes_on others

IsCount-more : (room count : ℕ) (served : Served) → 0 < room → IsCount (room - 1) count served → IsCount room (suc count) served
IsCount-more room count Closed some counted = omega arith
IsCount-more room count Full some counted = omega arith
IsCount-more room count EndedInside some counted = omega arith
IsCount-more room count (WireFault reason) some counted = omega arith
IsCount-more room count ReadFault some counted = omega arith
IsCount-more room count WriteFault some counted = omega arith
IsCount-more room count NoMemory some counted = omega arith

IsCaused-more : (before between after : Outside) (served : Served) → between.read_faults ≡ before.read_faults → between.write_faults ≡ before.write_faults → IsCaused between after served → IsCaused before after served
IsCaused-more before between after Closed reads writes caused = rw (reads, writes) at caused
IsCaused-more before between after Full reads writes caused = rw (reads, writes) at caused
IsCaused-more before between after EndedInside reads writes caused = rw (reads, writes) at caused
IsCaused-more before between after (WireFault reason) reads writes caused = rw (reads, writes) at caused
IsCaused-more before between after ReadFault reads writes caused = rw (reads, writes) at caused
IsCaused-more before between after WriteFault reads writes caused = rw (reads, writes) at caused
IsCaused-more before between after NoMemory reads writes caused = rw (reads, writes) at caused

-- one text after another
WritesAndTells-then : (before between after : Outside) (text texts : List ℕ) (told tolds : List When) → WritesAndTells before between text told → WritesAndTells between after texts tolds → WritesAndTells before after (text ++ texts) (told ++ tolds)
WritesAndTells-then before between after text texts told tolds first others = record {
  written = Appends-trans before.written between.written after.written text texts first.written others.written;
  gate = LogGrows-then before.gate between.gate after.gate told tolds first.gate others.gate;
}

-- the same where the second text has two parts
WritesAndTells-parts : (before between after : Outside) (text texts front : List ℕ) (told tolds : List When) → WritesAndTells before between text told → WritesAndTells between after (texts ++ front) tolds → WritesAndTells before after ((text ++ texts) ++ front) (told ++ tolds)
WritesAndTells-parts before between after text texts front told tolds first others =
    rw (append_assoc text texts front) (WritesAndTells-then before between after text (texts ++ front) told tolds first others)

-- what is written and told of a message that is answered, with room for so many
abbrev AnswersOne : ℕ → Outside → Outside → Ask → Reply → Type 0
AnswersOne room before after ask reply =
    WritesAndTells before after (reply_text reply (ask.message.closes || eqb room 1)) (Asked (REQUESTS - room) ∷ Answered (REQUESTS - room) ∷ [])

-- a reply that was written whole, and then one that was not
BreaksReply-more : (room : ℕ) (before between after : Outside) (ask : Ask) (reply : Reply) (asks : List Ask) (replies : List Reply) → AnswersOne room before between ask reply → BreaksReply (room - 1) between after asks replies → BreaksReply room before after (ask ∷ asks) (reply ∷ replies)
BreaksReply-more room before between after ask reply [] replies first others = absurd (others.some refl)
BreaksReply-more room before between after ask reply (next ∷ asks) replies first others =
    let text = reply_text reply (ask.message.closes || eqb room 1) in
    let texts = reply_texts (room - 1) (but_last (next ∷ asks)) replies in
    let told : List When = Asked (REQUESTS - room) ∷ Answered (REQUESTS - room) ∷ [] in
    record {
      some = λ none. cc;
      last = others.last;
      is_last = ap (λ xs. text ++ xs) others.is_last ∙ sym (append_assoc text texts others.last);
      front = others.front;
      begins = others.begins;
      says = WritesAndTells-parts before between after text texts others.front told (but_last (told_of (room - 1) (next ∷ asks))) first others.says;
    }

-- a reply that was written whole, and then others before the wire's own
BreaksOwnReply-more : (room : ℕ) (before between after : Outside) (ask : Ask) (reply : Reply) (asks : List Ask) (replies : List Reply) → 0 < room → TakesOne before.left ask.message between.left → (ask.message.closes ≡ false) ⊎ (room ≡ 1) → AnswersOne room before between ask reply → BreaksOwnReply (room - 1) between after asks replies → BreaksOwnReply room before after (ask ∷ asks) (reply ∷ replies)
BreaksOwnReply-more room before between after ask reply asks replies some takes goes_on first others =
    let text = reply_text reply (ask.message.closes || eqb room 1) in
    let told : List When = Asked (REQUESTS - room) ∷ Answered (REQUESTS - room) ∷ [] in
    record {
      reason = others.reason;
      refused = others.refused;
      ends = refused-more room before.left between.left ask.message (messages_of asks) others.reason some takes goes_on others.ends;
      front = others.front;
      begins = others.begins;
      says = WritesAndTells-parts before between after text (reply_texts (room - 1) asks replies) others.front told (told_of (room - 1) asks) first others.says;
    }

-- one message that was answered, and then what follows it
Writes-more : (room : ℕ) (before between after : Outside) (ask : Ask) (reply : Reply) (asks : List Ask) (replies : List Reply) (served : Served) → 0 < room → TakesOne before.left ask.message between.left → (ask.message.closes ≡ false) ⊎ (room ≡ 1) → AnswersOne room before between ask reply → Writes (room - 1) between after asks replies served → Writes room before after (ask ∷ asks) (reply ∷ replies) served
Writes-more room before between after ask reply asks replies Closed some takes goes_on first others =
    WritesAndTells-then before between after (reply_text reply (ask.message.closes || eqb room 1)) (reply_texts (room - 1) asks replies) (Asked (REQUESTS - room) ∷ Answered (REQUESTS - room) ∷ []) (told_of (room - 1) asks) first others
Writes-more room before between after ask reply asks replies Full some takes goes_on first others =
    WritesAndTells-then before between after (reply_text reply (ask.message.closes || eqb room 1)) (reply_texts (room - 1) asks replies) (Asked (REQUESTS - room) ∷ Answered (REQUESTS - room) ∷ []) (told_of (room - 1) asks) first others
Writes-more room before between after ask reply asks replies EndedInside some takes goes_on first others =
    WritesAndTells-then before between after (reply_text reply (ask.message.closes || eqb room 1)) (reply_texts (room - 1) asks replies) (Asked (REQUESTS - room) ∷ Answered (REQUESTS - room) ∷ []) (told_of (room - 1) asks) first others
Writes-more room before between after ask reply asks replies ReadFault some takes goes_on first others =
    WritesAndTells-then before between after (reply_text reply (ask.message.closes || eqb room 1)) (reply_texts (room - 1) asks replies) (Asked (REQUESTS - room) ∷ Answered (REQUESTS - room) ∷ []) (told_of (room - 1) asks) first others
Writes-more room before between after ask reply asks replies NoMemory some takes goes_on first others =
    WritesAndTells-then before between after (reply_text reply (ask.message.closes || eqb room 1)) (reply_texts (room - 1) asks replies) (Asked (REQUESTS - room) ∷ Answered (REQUESTS - room) ∷ []) (told_of (room - 1) asks) first others
Writes-more room before between after ask reply asks replies (WireFault reason) some takes goes_on first others =
    (others.0, WritesAndTells-parts before between after (reply_text reply (ask.message.closes || eqb room 1)) (reply_texts (room - 1) asks replies) (wire_text reason) (Asked (REQUESTS - room) ∷ Answered (REQUESTS - room) ∷ []) (told_of (room - 1) asks) first others.1)
Writes-more room before between after ask reply asks replies WriteFault some takes goes_on first (inl others) =
    inl (BreaksReply-more room before between after ask reply asks replies first others)
Writes-more room before between after ask reply asks replies WriteFault some takes goes_on first (inr others) =
    inr (BreaksOwnReply-more room before between after ask reply asks replies some takes goes_on first others)

-- one message, and then what follows it
pub ServesWithin-more : (room : ℕ) (old middle new : Standing) (before between after : Outside) (left : Option (List ℕ)) (served : Served) → 0 < room → Goes room old middle before between left → ServesWithin (room - 1) middle new (record between { left = left }) after served → ServesWithin room old new before after served
ServesWithin-more room old middle new before between after left served some goes rest =
    let m = goes.message in
    let from : Outside = record between { left = left } in
    let others = rest.spoke in
    let ask : Ask = record { message = m; call = goes.call; moment = goes.once.moment; id = goes.once.id } in
    record {
      asks = ask ∷ rest.asks;
      replies = goes.reply ∷ rest.replies;
      spoke = record {
        count = IsCount-more room (length rest.asks) served some others.count;
        routed = (goes.routed, others.routed);
        each = ap suc others.each;
        taken = taken-more room before.left left m (messages_of rest.asks) served some goes.taken goes.goes_on others.taken;
        left = Loses-then before.left left after.left (Loses-message before.left left m goes.taken) others.left;
        ended = ended-more room before.left left after.left m (messages_of rest.asks) served some goes.taken goes.goes_on others.ended;
        moments = LogGrows-then before.moments between.moments after.moments (goes.once.moment ∷ []) (map (λ (ask : Ask). ask.moment) rest.asks) goes.once.moments others.moments;
        ids = LogGrows-then before.ids between.ids after.ids (goes.once.id ∷ []) (map (λ (ask : Ask). ask.id) rest.asks) goes.once.ids others.ids;
        written = Writes-more room before from after ask goes.reply rest.asks rest.replies served some goes.taken goes.goes_on (record { written = goes.written; gate = goes.gate }) others.written;
        cause = IsCaused-more before from after served goes.reads_kept goes.writes_kept others.cause;
        reads_later = omega (arith, goes.reads_kept, others.reads_later);
        writes_later = omega (arith, goes.writes_kept, others.writes_later);
      };
      asked = AsksInTurn-then farm_rules opened old.stands middle.stands new.stands (question_of m goes.call goes.once.moment goes.once.id ∷ []) (questions_of rest.asks) (goes.reply ∷ []) rest.replies goes.once.asked rest.asked;
      spent = omega (arith, goes.once.spent, rest.spent);
    }

-- what the outside tells, from what it tells of answers
abbrev pub outside : Option (List ℕ) → Telling → ℕ → Outside
outside left telling reads = record {
  left = left;
  written = telling.written;
  moments = telling.moments;
  ids = telling.ids;
  gate = telling.gate;
  read_faults = reads;
  write_faults = telling.write_faults;
}
