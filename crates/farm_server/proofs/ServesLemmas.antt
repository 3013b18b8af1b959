-- How what a connection did goes together, message by message.
use Rattle.std.proofs.Common.{◌≡◌, Err, ◌≢◌, ℕ, ◌-◌, ◌<◌, ◌≤◌, inl, inr, Bool, true, false, ◌||◌, eqb, List, [], ◌∷◌, Option, Some, None, IfSome, refl, sym, subst, append-nil, arith}
use Rattle.std.proofs.lemmas.Bool.{ne_eqb}
use Rattle.std.specs.Io.KnownBytes.{Appends, IsAtEnd}
use Rattle.std.proofs.KnownBytes.{Appends-nil}
use Rattle.farm_text.proofs.LogsLemmas.{LogGrows-none}
use Rattle.history.specs.Asks.{AsksInTurn}
use Rattle.history.proofs.AsksLemmas.{AsksInTurn-none}
use Rattle.http_wire.specs.declared.message.Message.{Message}
use Rattle.http_wire.specs.declared.message.Wire.{Wire}
use Rattle.http_wire.specs.declared.message.Wire.TheVariants as wire
use Rattle.http_wire.specs.Calls.{CountsReads}
use Rattle.http_wire.specs.Needed.{LosesUnfinished, LosesFew, TakesTo, TakesInto}
use Rattle.http_wire.specs.Reading.{Loses}
use Rattle.http_wire.specs.Reading.{Ends as EndsStream}
use Rattle.http_wire.specs.Stream.{whole, Gives, Messages, TakesOne, Stops, is_of_stream, stopped, closed}
use Rattle.farm_asks.specs.declared.question.Call.{Call}
use Rattle.farm_asks.specs.declared.reply.Reply.{Reply}
use Rattle.farm_machine.specs.Law.{opened}
use Rattle.farm_machine.specs.Step.{farm_rules}
use Rattle.api_routes.specs.ReplyText.{reply_text}
use Rattle.api_routes.specs.Routes.{IsCallOf, caller_from}
use Rattle.farm_server.specs.Served.{Outside, Ask, IsFront, is_refused, EndsAs, LeavesAtEnd, WritesAndTells, BreaksReply, BreaksOwnReply, Writes, IsCaused, IsCount, Standing, ServesWithin}
use Rattle.farm_server.specs.Turn.{Telling, AsksOnce, Ends, Refuses, Goes, Turns}
use Rattle.farm_server.specs.declared.gate.When.{When}
use Rattle.farm_server.specs.declared.served.Served.{Served}
use Rattle.farm_server.specs.declared.served.Served.TheVariants.{Closed, EndedInside, WireFault, ReadFault, WriteFault, Full, NoMemory}
use Rattle.farm_server.proofs.LeftLemmas.{Loses-nothing, Loses-then, Loses-message, Loses-few, LosesUnfinished-nothing, TakesInto-none, TakesTo-none, TakesTo-one, IfSome-each}
use Rattle.farm_server.proofs.OneMoreLemmas.{outside, ServesWithin-more}

-- nothing was said, and it ended so
pub ServesWithin-none : (room : ℕ) (old new : Standing) (before after : Outside) (served : Served) → AsksInTurn farm_rules opened old.stands new.stands [] [] → old.spare ≡ new.spare → before.moments ≡ after.moments → before.ids ≡ after.ids → IsCount room 0 served → IfSome before.left (λ bytes. EndsAs room bytes [] served) → Loses before.left after.left → IfSome before.left (λ bytes. LeavesAtEnd room bytes [] after.left served) → Writes room before after [] [] served → IsCaused before after served → before.read_faults ≤ after.read_faults → before.write_faults ≤ after.write_faults → ServesWithin room old new before after served
ServesWithin-none room old new before after served asked same_spare same_moments same_ids count taken left ended written cause reads writes = record {
  asks = [];
  replies = [];
  spoke = record {
    count = count;
    routed = tt;
    each = refl;
    taken = taken;
    left = left;
    ended = ended;
    moments = rw same_moments (LogGrows-none after.moments);
    ids = rw same_ids (LogGrows-none after.ids);
    written = written;
    cause = cause;
    reads_later = reads;
    writes_later = writes;
  };
  asked = asked;
  spent = omega (arith, same_spare);
}

-- one message was asked, and it ended so
ServesWithin-one : (room : ℕ) (old new : Standing) (before after : Outside) (m : Message) (call : Call) (reply : Reply) (served : Served) → IsCallOf m call → (once : AsksOnce old new before.moments after.moments before.ids after.ids (caller_from m) call reply) → IsCount room 1 served → IfSome before.left (λ bytes. EndsAs room bytes (m ∷ []) served) → Loses before.left after.left → IfSome before.left (λ bytes. LeavesAtEnd room bytes (m ∷ []) after.left served) → Writes room before after (record { message = m; call = call; moment = once.moment; id = once.id } ∷ []) (reply ∷ []) served → IsCaused before after served → before.read_faults ≤ after.read_faults → before.write_faults ≤ after.write_faults → ServesWithin room old new before after served
ServesWithin-one room old new before after m call reply served routed once count taken left ended written cause reads writes = record {
  asks = record { message = m; call = call; moment = once.moment; id = once.id } ∷ [];
  replies = reply ∷ [];
  spoke = record {
    count = count;
    routed = (routed, tt);
    each = refl;
    taken = taken;
    left = left;
    ended = ended;
    moments = once.moments;
    ids = once.ids;
    written = written;
    cause = cause;
    reads_later = reads;
    writes_later = writes;
  };
  asked = once.asked;
  spent = once.spent;
}

-- the list ends with a message that closes before the last that there is room for
closed_last : (room : ℕ) (bytes rest : List ℕ) (m : Message) → 0 < room → Gives bytes (whole m rest) → m.closes ≡ true → room ≢ 1 → Messages room bytes (m ∷ []) closed
closed_last room bytes rest m some gives closes not_last =
    let more : eqb (room - 1) 0 ≡ false = ne_eqb (room - 1) 0 (λ same. not_last (omega arith)) in
    (some, (rest, gives, rw closes (refl, rw more refl)))

-- a message is the first of the list
IsFront-one : (room : ℕ) (bytes rest : List ℕ) (m : Message) (closes : Bool) → 0 < room → m.closes ≡ closes → Gives bytes (whole m rest) → IsFront room bytes (m ∷ [])
IsFront-one room bytes rest m true some is gives = (some, (rest, gives, rw is refl))
IsFront-one room bytes rest m false some is gives = (some, (rest, gives, rw is tt))

taken_closed : (room : ℕ) (left next : Option (List ℕ)) (m : Message) → 0 < room → TakesOne left m next → m.closes ≡ true → room ≢ 1 → IfSome left (λ bytes. EndsAs room bytes (m ∷ []) Closed)
taken_closed room None next m some takes closes not_last = tt
taken_closed room (Some bytes) None m some takes closes not_last = absurd takes
taken_closed room (Some bytes) (Some rest) m some takes closes not_last =
    inl (closed_last room bytes rest m some takes closes not_last)

-- behind a message that closes few bytes are taken
left_closed : (room : ℕ) (left next now : Option (List ℕ)) (m : Message) → 0 < room → TakesOne left m next → LosesFew next now → m.closes ≡ true → room ≢ 1 → IfSome left (λ bytes. LeavesAtEnd room bytes (m ∷ []) now Closed)
left_closed room None next now m some takes few closes not_last = tt
left_closed room (Some bytes) None now m some takes few closes not_last = absurd takes
left_closed room (Some bytes) (Some rest) now m some takes few closes not_last =
    inl (closed_last room bytes rest m some takes closes not_last, (rest, (rest, takes, refl), few))

-- behind a message whose reply could not be written, too
left_broken : (room : ℕ) (left now : Option (List ℕ)) (m : Message) → IfSome left (λ bytes. TakesTo bytes (m ∷ []) now) → IfSome left (λ bytes. LeavesAtEnd room bytes (m ∷ []) now WriteFault)
left_broken room None now m to = tt
left_broken room (Some bytes) now m to = inl to

-- the stream itself ended before a message
left_ended : (room : ℕ) (left now : Option (List ℕ)) → IfSome left (λ bytes. Messages room bytes [] (stopped wire.End)) → IsAtEnd now → IfSome left (λ bytes. LeavesAtEnd room bytes [] now Closed)
left_ended room None now there at_end = tt
left_ended room (Some bytes) now there at_end = inr (there, at_end)

-- the wire's own reply could not be written
left_refused : (room : ℕ) (left now : Option (List ℕ)) (reason : Wire) → is_refused reason ≡ true → IfSome left (λ bytes. Messages room bytes [] (stopped reason)) → IfSome left (λ bytes. TakesInto bytes [] now) → IfSome left (λ bytes. LeavesAtEnd room bytes [] now WriteFault)
left_refused room None now reason refused there into = tt
left_refused room (Some bytes) now reason refused there into = inr (reason, refused, there, into)

taken_front : (room : ℕ) (left next : Option (List ℕ)) (m : Message) → 0 < room → TakesOne left m next → IfSome left (λ bytes. EndsAs room bytes (m ∷ []) WriteFault)
taken_front room None next m some takes = tt
taken_front room (Some bytes) None m some takes = absurd takes
taken_front room (Some bytes) (Some rest) m some takes =
    IsFront-one room bytes rest m m.closes some refl takes

no_front : (room : ℕ) (left : Option (List ℕ)) → 0 < room → IfSome left (λ bytes. EndsAs room bytes [] NoMemory)
no_front room None some = tt
no_front room (Some bytes) some = some

refused_here : (room : ℕ) (left : Option (List ℕ)) (reason : Wire) → is_refused reason ≡ true → IfSome left (λ bytes. Messages room bytes [] (stopped reason)) → IfSome left (λ bytes. EndsAs room bytes [] (WireFault reason))
refused_here room None reason refused there = tt
refused_here room (Some bytes) reason refused there = (refused, there)

-- nothing was written and the gate was told nothing
nothing_said : (before after : Outside) → Appends before.written after.written [] → before.gate ≡ after.gate → WritesAndTells before after [] []
nothing_said before after written gate = record { written = written; gate = rw gate (LogGrows-none after.gate) }

-- what one message does to a connection
pub Turns-from_ends : (room : ℕ) (old new : Standing) (stream left_now rest : Option (List ℕ)) (reads now : ℕ) (before after : Telling) (m : Message) (result : Option Served) → 0 < room → TakesOne stream m rest → LosesFew rest left_now → LosesUnfinished stream left_now → now ≡ reads → Ends room old new before after m result → Turns room old new (outside stream before reads) (outside left_now after now) rest result
Turns-from_ends room old new stream left_now rest reads now before after m None some takes few needed kept ends =
    let said = ends.0 in
    record {
      message = m;
      reply = said.reply;
      taken = takes;
      call = said.call;
      routed = said.routed;
      once = said.once;
      written = said.written;
      gate = said.gate;
      goes_on = ends.1;
      reads_kept = kept;
      writes_kept = said.kept;
    }
Turns-from_ends room old new stream left_now rest reads now before after m (Some Closed) some takes few needed kept ends =
    let said = ends.0 in
    ServesWithin-one room old new (outside stream before reads) (outside left_now after now) m said.call said.reply Closed said.routed said.once (omega (arith, some, ends.2)) (taken_closed room stream rest m some takes ends.1 ends.2) (Loses-then stream rest left_now (Loses-message stream rest m takes) (Loses-few rest left_now few)) (left_closed room stream rest left_now m some takes few ends.1 ends.2) (record { written = rw append-nil said.written; gate = said.gate }) (kept, said.kept) (omega (arith, kept)) (omega (arith, said.kept))
Turns-from_ends room old new stream left_now rest reads now before after m (Some WriteFault) some takes few needed kept ends =
    let text = reply_text ends.reply (m.closes || eqb room 1) in
    let ask : Ask = record { message = m; call = ends.call; moment = ends.once.moment; id = ends.once.id } in
    let broke : BreaksReply room (outside stream before reads) (outside left_now after now) (ask ∷ []) (ends.reply ∷ []) = record {
      some = λ none. cc;
      last = text;
      is_last = append-nil text;
      front = ends.written.0;
      begins = ends.written.1;
      says = record { written = ends.written.2; gate = ends.gate };
    } in
    ServesWithin-one room old new (outside stream before reads) (outside left_now after now) m ends.call ends.reply WriteFault ends.routed ends.once (omega arith) (taken_front room stream rest m some takes) (Loses-then stream rest left_now (Loses-message stream rest m takes) (Loses-few rest left_now few)) (left_broken room stream left_now m (TakesTo-one stream rest left_now m takes few)) (inl broke) (ends.rose, kept) (omega (arith, kept)) ends.later
Turns-from_ends room old new stream left_now rest reads now before after m (Some NoMemory) some takes few needed kept ends =
    let P : Telling → Type 0 = λ t. ServesWithin room old new (outside stream before reads) (outside left_now t now) NoMemory in
    subst P (sym ends.0) (ServesWithin-none room old new (outside stream before reads) (outside left_now before now) NoMemory ends.1 ends.2 refl refl (omega arith) (no_front room stream some) (Loses-then stream rest left_now (Loses-message stream rest m takes) (Loses-few rest left_now few)) (TakesInto-none stream left_now needed) (nothing_said (outside stream before reads) (outside left_now before now) (Appends-nil before.written) refl) (kept, refl) (omega (arith, kept)) (omega arith))
Turns-from_ends room old new stream left_now rest reads now before after m (Some Full) some takes few needed kept ends =
    absurd ends
Turns-from_ends room old new stream left_now rest reads now before after m (Some EndedInside) some takes few needed kept ends =
    absurd ends
Turns-from_ends room old new stream left_now rest reads now before after m (Some (WireFault reason)) some takes few needed kept ends =
    absurd ends
Turns-from_ends room old new stream left_now rest reads now before after m (Some ReadFault) some takes few needed kept ends =
    absurd ends

-- the same where what was told of answers has another name
pub Turns-answered : (room : ℕ) (old new : Standing) (stream left_now rest : Option (List ℕ)) (reads now : ℕ) (before between after : Telling) (m : Message) (result : Option Served) → 0 < room → TakesOne stream m rest → LosesFew rest left_now → LosesUnfinished stream left_now → now ≡ reads → between ≡ before → Ends room old new between after m result → Turns room old new (outside stream before reads) (outside left_now after now) rest result
Turns-answered room old new stream left_now rest reads now before between after m result some takes few needed kept same ends =
    let P : Telling → Type 0 = λ t. Ends room old new t after m result in
    Turns-from_ends room old new stream left_now rest reads now before after m result some takes few needed kept (subst P same ends)

pub telling_same : (written written_now moments : Option (List ℕ)) (ids : Option (List (List ℕ))) (gate : Option (List When)) (faults faults_now : ℕ) → written_now ≡ written → faults_now ≡ faults → ◌≡◌ {A = Telling} (record { written = written_now; moments = moments; ids = ids; gate = gate; write_faults = faults_now }) (record { written = written; moments = moments; ids = ids; gate = gate; write_faults = faults })
telling_same written written_now moments ids gate faults faults_now w f = rw (w, f) refl

-- a stream that gives no message for a reason of its own
stopped_here : (room : ℕ) (stream : Option (List ℕ)) (reason : Wire) → 0 < room → is_of_stream reason ≡ true → Stops stream reason → IfSome stream (λ bytes. Messages room bytes [] (stopped reason))
stopped_here room None reason some of_stream halts = tt
stopped_here room (Some bytes) reason some of_stream halts =
    let gives = rw of_stream at halts in
    inr (some, (reason, gives, refl))

refused-of_stream : (reason : Wire) → is_refused reason ≡ true → is_of_stream reason ≡ true
refused-of_stream wire.HeadFault refused = refl
refused-of_stream wire.HeadTooLarge refused = refl
refused-of_stream wire.NoLength refused = refl
refused-of_stream wire.BodyTooLarge refused = refl
refused-of_stream wire.End refused = cc
refused-of_stream wire.EndedInside refused = cc
refused-of_stream wire.ReadFault refused = cc
refused-of_stream wire.NoMemory refused = cc

-- a refusal of the wire is no failed read
kept_refused : (before now : ℕ) (reason : Wire) → is_refused reason ≡ true → CountsReads {T = Message} before now (Err reason) → now ≡ before
kept_refused before now wire.HeadFault refused kept = kept
kept_refused before now wire.HeadTooLarge refused kept = kept
kept_refused before now wire.NoLength refused kept = kept
kept_refused before now wire.BodyTooLarge refused kept = kept
kept_refused before now wire.End refused kept = kept
kept_refused before now wire.EndedInside refused kept = kept
kept_refused before now wire.ReadFault refused kept = cc
kept_refused before now wire.NoMemory refused kept = kept

-- no message came, and the connection ends so
pub Turns-refused : (room : ℕ) (old : Standing) (stream left_now : Option (List ℕ)) (reads now : ℕ) (before after : Telling) (reason : Wire) (served : Served) → 0 < room → Stops stream reason → Loses stream left_now → LosesUnfinished stream left_now → EndsStream left_now reason → CountsReads {T = Message} reads now (Err reason) → reads ≤ now → before.moments ≡ after.moments → before.ids ≡ after.ids → before.gate ≡ after.gate → before.write_faults ≤ after.write_faults → Refuses before.written after.written before.write_faults after.write_faults reason served → ServesWithin room old old (outside stream before reads) (outside left_now after now) served
Turns-refused room old stream left_now reads now before after reason Closed some halts lost needed spent keeps later moments ids gate writes refuses =
    let Q : Wire → Type 0 = λ r. CountsReads {T = Message} reads now (Err r) in
    let P : Wire → Type 0 = λ r. Stops stream r in
    let E : Wire → Type 0 = λ r. EndsStream left_now r in
    ServesWithin-none room old old (outside stream before reads) (outside left_now after now) Closed (AsksInTurn-none farm_rules opened old.stands) refl moments ids (omega arith) (closes_there stream (subst P refuses.0 halts)) lost (left_ended room stream left_now (stopped_here room stream wire.End some refl (subst P refuses.0 halts)) (subst E refuses.0 spent)) (nothing_said (outside stream before reads) (outside left_now after now) refuses.1 gate) (subst Q refuses.0 keeps, refuses.2) later writes
  where
    closes_there : (stream : Option (List ℕ)) → Stops stream wire.End → IfSome stream (λ bytes. EndsAs room bytes [] Closed)
    closes_there None halts = tt
    closes_there (Some bytes) halts = inr (stopped_here room (Some bytes) wire.End some refl halts)
Turns-refused room old stream left_now reads now before after reason EndedInside some halts lost needed spent keeps later moments ids gate writes refuses =
    let Q : Wire → Type 0 = λ r. CountsReads {T = Message} reads now (Err r) in
    let P : Wire → Type 0 = λ r. Stops stream r in
    let E : Wire → Type 0 = λ r. EndsStream left_now r in
    ServesWithin-none room old old (outside stream before reads) (outside left_now after now) EndedInside (AsksInTurn-none farm_rules opened old.stands) refl moments ids (omega arith) (stopped_here room stream wire.EndedInside some refl (subst P refuses.0 halts)) lost (IfSome-each stream (λ bytes. LeavesAtEnd room bytes [] left_now EndedInside) (λ bytes. subst E refuses.0 spent)) (nothing_said (outside stream before reads) (outside left_now after now) refuses.1 gate) (subst Q refuses.0 keeps, refuses.2) later writes
Turns-refused room old stream left_now reads now before after reason ReadFault some halts lost needed spent keeps later moments ids gate writes refuses =
    let Q : Wire → Type 0 = λ r. CountsReads {T = Message} reads now (Err r) in
    ServesWithin-none room old old (outside stream before reads) (outside left_now after now) ReadFault (AsksInTurn-none farm_rules opened old.stands) refl moments ids (omega arith) (no_read stream) lost (TakesInto-none stream left_now needed) (nothing_said (outside stream before reads) (outside left_now after now) refuses.1 gate) (subst Q refuses.0 keeps, refuses.2) later writes
  where
    no_read : (stream : Option (List ℕ)) → IfSome stream (λ bytes. EndsAs room bytes [] ReadFault)
    no_read None = tt
    no_read (Some bytes) = some
Turns-refused room old stream left_now reads now before after reason NoMemory some halts lost needed spent keeps later moments ids gate writes refuses =
    let Q : Wire → Type 0 = λ r. CountsReads {T = Message} reads now (Err r) in
    ServesWithin-none room old old (outside stream before reads) (outside left_now after now) NoMemory (AsksInTurn-none farm_rules opened old.stands) refl moments ids (omega arith) (no_front room stream some) lost (TakesInto-none stream left_now needed) (nothing_said (outside stream before reads) (outside left_now after now) refuses.1 gate) (subst Q refuses.0 keeps, refuses.2) later writes
Turns-refused room old stream left_now reads now before after reason (WireFault told) some halts lost needed spent keeps later moments ids gate writes refuses =
    let P : Wire → Type 0 = λ r. Stops stream r in
    let refused : is_refused told ≡ true = rw refuses.0 refuses.1 in
    ServesWithin-none room old old (outside stream before reads) (outside left_now after now) (WireFault told) (AsksInTurn-none farm_rules opened old.stands) refl moments ids (omega arith) (refused_here room stream told refused (stopped_here room stream told some (refused-of_stream told refused) (subst P (sym refuses.0) halts))) lost (TakesInto-none stream left_now needed) (refused, record { written = rw refuses.0 refuses.2; gate = rw gate (LogGrows-none after.gate) }) (kept_refused reads now reason refuses.1 keeps, refuses.3) later writes
Turns-refused room old stream left_now reads now before after reason WriteFault some halts lost needed spent keeps later moments ids gate writes refuses =
    let there = stopped_here room stream reason some (refused-of_stream reason refuses.0) halts in
    let broke : BreaksOwnReply room (outside stream before reads) (outside left_now after now) [] [] = record {
      reason = reason;
      refused = refuses.0;
      ends = there;
      front = refuses.1.0;
      begins = refuses.1.1;
      says = record { written = refuses.1.2; gate = rw gate (LogGrows-none after.gate) };
    } in
    ServesWithin-none room old old (outside stream before reads) (outside left_now after now) WriteFault (AsksInTurn-none farm_rules opened old.stands) refl moments ids (omega arith) (no_write stream) lost (left_refused room stream left_now reason refuses.0 there (TakesInto-none stream left_now needed)) (inr broke) (refuses.2, kept_refused reads now reason refuses.0 keeps) later writes
  where
    no_write : (stream : Option (List ℕ)) → IfSome stream (λ bytes. EndsAs room bytes [] WriteFault)
    no_write None = tt
    no_write (Some bytes) = tt
Turns-refused room old stream left_now reads now before after reason Full some halts lost needed spent keeps later moments ids gate writes refuses =
    absurd refuses

-- the room is used up
pub ServesWithin-full : (room : ℕ) (old : Standing) (stream left_now : Option (List ℕ)) (reads : ℕ) (before : Telling) → room ≡ 0 → LosesFew stream left_now → ServesWithin room old old (outside stream before reads) (outside left_now before reads) Full
ServesWithin-full room old stream left_now reads before none few =
    ServesWithin-none room old old (outside stream before reads) (outside left_now before reads) Full (AsksInTurn-none farm_rules opened old.stands) refl refl refl (sym none) (all_taken stream) (Loses-few stream left_now few) (TakesTo-none stream left_now few) (nothing_said (outside stream before reads) (outside left_now before reads) (Appends-nil before.written) refl) (refl, refl) (omega arith) (omega arith)
  where
    all_taken : (stream : Option (List ℕ)) → IfSome stream (λ bytes. EndsAs room bytes [] Full)
    all_taken None = tt
    all_taken (Some bytes) = inl (none, refl)

-- want of memory before the first message
pub ServesWithin-no_memory : (room : ℕ) (old : Standing) (before : Outside) → 0 < room → ServesWithin room old old before before NoMemory
ServesWithin-no_memory room old before some =
    ServesWithin-none room old old before before NoMemory (AsksInTurn-none farm_rules opened old.stands) refl refl refl (omega arith) (no_front room before.left some) (Loses-nothing before.left) (TakesInto-none before.left before.left (LosesUnfinished-nothing before.left)) (nothing_said before before (Appends-nil before.written) refl) (refl, refl) (omega arith) (omega arith)

-- one message, and then what follows it with the room that is left then
pub ServesWithin-next : (room next : ℕ) (old middle new : Standing) (before between after : Outside) (left : Option (List ℕ)) (served : Served) → next ≡ room - 1 → 0 < room → Goes room old middle before between left → ServesWithin next middle new (record between { left = left }) after served → ServesWithin room old new before after served
ServesWithin-next room next old middle new before between after left served is some goes rest =
    let P : ℕ → Type 0 = λ n. ServesWithin n middle new (record between { left = left }) after served in
    ServesWithin-more room old middle new before between after left served some goes (subst P is rest)
