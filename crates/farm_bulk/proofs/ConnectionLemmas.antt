-- A connection of the load, from what serving one says.
use Rattle.std.proofs.Common.{◌≡◌, ◌≢◌, ◌⊎◌, inl, inr, ℕ, ◌+◌, ◌-◌, ◌^◌, ◌<◌, ◌||◌, ◌==◌, Bool, true, false, List, [], ◌∷◌, ◌++◌, length, map, codes, decimal, if◌then◌else◌, Some, Result, Ok, Err, IfOk, Vec, refl, sym, ◌∙◌, ap, subst, subst₂, arith, append_assoc}
use Rattle.std.proofs.lemmas.Bool.{lt-ltb}
use Rattle.std.specs.List.{range_with_len}
use Rattle.std.specs.declared.alloc.Global.{Global}
use Rattle.std.specs.Io.KnownBytes.{Appends}
use Rattle.farm_text.specs.Logs.{LogGrows}
use Rattle.history.specs.Histories.{asked_at, reply_at, entries, end_state}
use Rattle.history.specs.Asks.{IsAsk, AreEntries, LeadsAlone, AsksInTurn}
use Rattle.history.proofs.HistoriesLemmas.{end_state-append}
use Rattle.memchr.specs.Find.{OccursAt}
use Rattle.farm_text.specs.Told.{told_by, first_uuid}
use Rattle.farm_machine.specs.Changes.{moment_of}
use Rattle.farm_asks.specs.Questions.{Asking}
use Rattle.farm_machine.specs.Entry.{Entry, tick}
use Rattle.farm_machine.specs.Law.{Opening, opened}
use Rattle.farm_machine.specs.State.{State}
use Rattle.farm_machine.specs.Step.{farm_rules}
use Rattle.farm_asks.specs.declared.reply.Asked.{Asked}
use Rattle.farm_asks.specs.declared.reply.Reply.{Reply}
use Rattle.farm_asks.specs.declared.reply.Reply.TheVariants.{OutOfMemory}
use Rattle.api_routes.specs.ReplyText.{reply_text, line, phrase}
use Rattle.farm_asks.specs.Replies.{no_memory}
use Rattle.farm_core.specs.Diskless.{HasNoDisk, HaveNoDisk}
use Rattle.farm_server.specs.Served.{Outside, Ask, messages_of, questions_of, reply_texts, EndsAs, Writes, SpokeWithin}
use Rattle.farm_server.specs.declared.served.Served.{Served}
use Rattle.farm_server.specs.declared.served.Served.TheVariants.{Closed, Full}
use Rattle.farm_server.specs.declared.served.TheConstants.{REQUESTS}
use Rattle.farm_bulk.specs.Complete.{out_of_memory, IsComplete}
use Rattle.farm_bulk.specs.Connections.{AreAtMidnight, AreAnswered, Converses}
use Rattle.load_requests.specs.Still.{midnight}
use Rattle.farm_bulk.proofs.OccursLemmas.{OccursAt-front, OccursAt-later, OccursAt-earlier, never_found}
use Rattle.farm_bulk.proofs.TurnLemmas.{asked_at-calls, reply_at-calls}

-- ---- moments and ids

-- what a clock and draws that stand still told of some asks
AreAtMidnight-told : (asks : List Ask) (ks ls : List ℕ) → map (λ (k : ℕ). midnight) ks ≡ map (λ (ask : Ask). ask.moment) asks → map (λ (l : ℕ). first_uuid) ls ≡ map (λ (ask : Ask). ask.id) asks → AreAtMidnight asks
AreAtMidnight-told [] ks ls moments ids = tt
AreAtMidnight-told (ask ∷ asks) [] ls moments ids = absurd cc
AreAtMidnight-told (ask ∷ asks) (k ∷ ks) [] moments ids = absurd cc
AreAtMidnight-told (ask ∷ asks) (k ∷ ks) (l ∷ ls) moments ids =
    let moment : ask.moment ≡ midnight = cc in
    let id : ask.id ≡ first_uuid = cc in
    let moments_left : map (λ (k : ℕ). midnight) ks ≡ map (λ (ask : Ask). ask.moment) asks = cc in
    let ids_left : map (λ (l : ℕ). first_uuid) ls ≡ map (λ (ask : Ask). ask.id) asks = cc in
    (moment, id, AreAtMidnight-told asks ks ls moments_left ids_left)

-- the log of an object that tells one value, after so many calls
told_same : {A : Type 0} (value : A) (n : ℕ) (values : List A) → n < 2 ^ 64 - 1 → LogGrows (told_by (λ _. value) 0) (told_by (λ _. value) n) values → map (λ (k : ℕ). value) (range_with_len 0 n) ≡ values
told_same value n values few grows =
    let told : told_by (λ _. value) n ≡ Some (map (λ (k : ℕ). value) (range_with_len 0 n)) = rw (lt-ltb n (2 ^ 64 - 1) few) refl in
    rw told at grows

-- ---- replies

-- none of these replies is that memory ran out_of_memory
AreWithMemory : List Reply → Type 0
AreWithMemory [] = Unit {0}
AreWithMemory (reply ∷ replies) = (reply ≢ OutOfMemory) × AreWithMemory replies

lines_joined : (f s p n i c t e b : List ℕ) → (((((((f ++ s) ++ p) ++ n) ++ i) ++ c) ++ t) ++ e) ++ b ≡ f ++ (((s ++ p) ++ n) ++ (i ++ (c ++ (t ++ (e ++ b)))))
lines_joined f s p n i c t e b = simp append_assoc refl

-- so it stands there
out_occurs : (closes : Bool) → OccursAt (reply_text OutOfMemory closes) out_of_memory (length (codes "HTTP/1.1 " ++ decimal 503) + 0)
unfolding reply_text
out_occurs closes =
    let front = codes "HTTP/1.1 " ++ decimal 503 in
    let i = if closes then line (codes "Connection: close") else [] in
    let c = line (codes "Content-Length: " ++ decimal (length no_memory.body)) in
    let t = line (codes "Content-Type: application/json") in
    let rest = i ++ (c ++ (t ++ (line [] ++ no_memory.body))) in
    let parts : reply_text OutOfMemory closes ≡ front ++ (out_of_memory ++ rest) = lines_joined front (codes " ") (phrase 503) (13 ∷ 10 ∷ []) i c t (line []) no_memory.body in
    subst (λ text. OccursAt text out_of_memory (length front + 0)) (sym parts) (OccursAt-later front (out_of_memory ++ rest) out_of_memory 0 (OccursAt-front out_of_memory rest))

-- a text of replies in which none begins so has no such reply
AreWithMemory-of : (room : ℕ) (asks : List Ask) (replies : List Reply) → length replies ≡ length asks → ((k : ℕ) → OccursAt (reply_texts room asks replies) out_of_memory k → ⊥) → AreWithMemory replies
unfolding AreWithMemory
AreWithMemory-of room asks [] same never = tt
AreWithMemory-of room [] (reply ∷ replies) same never = absurd cc
AreWithMemory-of room (ask ∷ asks) (reply ∷ replies) same never =
    let closes = ask.message.closes || (room == 1) in
    let text = reply_text reply closes in
    let rest = reply_texts (room - 1) asks replies in
    let each : length replies ≡ length asks = omega (arith, same) in
    (λ is. never (length (codes "HTTP/1.1 " ++ decimal 503) + 0) (OccursAt-earlier text rest out_of_memory (length (codes "HTTP/1.1 " ++ decimal 503) + 0) (subst (λ r. OccursAt (reply_text r closes) out_of_memory (length (codes "HTTP/1.1 " ++ decimal 503) + 0)) (sym is) (out_occurs closes))), AreWithMemory-of (room - 1) asks replies each (λ k occurs. never (length text + k) (OccursAt-later text rest out_of_memory k occurs)))

-- ---- the farm

-- of the entries of an ask and those behind them none had a disk
no_disk_parts : (ticked : Bool) (moment : ℕ) (made : Entry) (rest : List Entry) → HaveNoDisk (((if ticked then tick moment ∷ [] else []) ++ made ∷ []) ++ rest) → HasNoDisk made × HaveNoDisk rest
no_disk_parts true moment made rest none = (none.1.0, none.1.1)
no_disk_parts false moment made rest none = (none.0, none.1)

AreAnswered-of : (before after : State) (turns : List (Asking × Asked)) (seen : List Entry) (questions : List Asking) (replies : List Reply) → AreEntries farm_rules before turns seen → HaveNoDisk seen → after ≡ end_state farm_rules before seen
    → map (λ (turn : Asking × Asked). Some turn.0) turns ≡ map Some questions → map (λ (turn : Asking × Asked). Some turn.1.reply) turns ≡ map Some replies → AreWithMemory replies → AreAnswered before questions replies after
unfolding AreWithMemory farm_rules
AreAnswered-of before after [] seen [] [] made none leads asked told plenty = leads ∙ ap (end_state farm_rules before) made
AreAnswered-of before after [] seen [] (reply ∷ replies) made none leads asked told plenty = absurd cc
AreAnswered-of before after [] seen (question ∷ questions) replies made none leads asked told plenty = absurd cc
AreAnswered-of before after (turn ∷ turns) seen [] replies made none leads asked told plenty = absurd cc
AreAnswered-of before after (turn ∷ turns) seen (question ∷ questions) [] made none leads asked told plenty = absurd cc
AreAnswered-of before after (turn ∷ turns) seen (question ∷ questions) (reply ∷ replies) (entry, new, rest, step, is, more) none leads asked told plenty =
    let first : turn.0 ≡ question = cc in
    let given : turn.1.reply ≡ reply = cc in
    let front : List Entry = entries farm_rules before turn.0 turn.1 entry in
    let ask = subst₂ (λ q r. IsAsk farm_rules before q (record { reply = r; ticked = turn.1.ticked }) entry new) first given step in
    let asked_left : map (λ (turn : Asking × Asked). Some turn.0) turns ≡ map Some questions = cc in
    let told_left : map (λ (turn : Asking × Asked). Some turn.1.reply) turns ≡ map Some replies = cc in
    let parts = no_disk_parts turn.1.ticked (moment_of before.contents turn.0) entry rest (subst HaveNoDisk is none) in
    let behind : after ≡ end_state farm_rules new rest =
    leads ∙ (ap (end_state farm_rules before) is ∙ (end_state-append farm_rules before front rest ∙ ap (λ (s : State). end_state farm_rules s rest) (sym step.leads))) in
    (turn.1.ticked, entry, new, ask, parts.0, plenty.0, AreAnswered-of new after turns rest questions replies more parts.1 behind asked_left told_left plenty.1)

-- the opening of a farm that begins so, on no disk
abbrev pub begun : State → Opening
begun state = record { state = state; records = []; faults = 0 }

-- the asks of a desk that stood for nothing, and stands only for what leads alone to a state
AreAnswered-turns : (before after : State) (old new : Opening → List Entry → List ℕ → Type 0) (questions : List Asking) (replies : List Reply)
    → old (begun before) [] []
    → AsksInTurn farm_rules opened old new questions replies
    → ((seen : List Entry) (mine : List ℕ) → new (begun before) seen mine → LeadsAlone farm_rules before seen mine after × HaveNoDisk seen)
    → AreWithMemory replies
    → AreAnswered before questions replies after
unfolding farm_rules
AreAnswered-turns before after old new questions replies fresh asks alone plenty =
    let gains = asks (begun before) [] [] fresh in
    let both = alone gains.since gains.gained gains.stands_now in
    let leads = both.0 in
    let made = leads.made in
    let asked : map (λ (turn : Asking × Asked). Some turn.0) made.0 ≡ map Some questions = sym (asked_at-calls farm_rules before made.0 gains.since made.1) ∙ (ap (map (asked_at farm_rules gains.since)) (sym leads.all) ∙ gains.asked) in
    let told : map (λ (turn : Asking × Asked). Some turn.1.reply) made.0 ≡ map Some replies = sym (reply_at-calls farm_rules before made.0 gains.since made.1) ∙ (ap (map (reply_at farm_rules before gains.since)) (sym leads.all) ∙ gains.replied) in
    AreAnswered-of before after made.0 gains.since questions replies made.1 both.1 leads.leads asked told plenty

-- ---- the connection

-- what was written is the texts of the replies, where a connection ended with all that was sent
written_whole : (served : Served) (before after : Outside) (asks : List Ask) (replies : List Reply) → (served ≡ Closed) ⊎ (served ≡ Full) → SpokeWithin REQUESTS before after asks replies served → Appends before.written after.written (reply_texts REQUESTS asks replies)
written_whole served before after asks replies (inl closed) spoke = (subst (Writes REQUESTS before after asks replies) closed spoke.written).written
written_whole served before after asks replies (inr full) spoke = (subst (Writes REQUESTS before after asks replies) full spoke.written).written

taken_whole : (served : Served) (sent : List ℕ) (before after : Outside) (asks : List Ask) (replies : List Reply) → (served ≡ Closed) ⊎ (served ≡ Full) → before.left ≡ Some sent → SpokeWithin REQUESTS before after asks replies served → EndsAs REQUESTS sent (messages_of asks) Closed ⊎ EndsAs REQUESTS sent (messages_of asks) Full
taken_whole served sent before after asks replies (inl closed) left spoke = inl (subst (EndsAs REQUESTS sent (messages_of asks)) closed (rw left at spoke.taken))
taken_whole served sent before after asks replies (inr full) left spoke = inr (subst (EndsAs REQUESTS sent (messages_of asks)) full (rw left at spoke.taken))

-- what the outside tells before a connection of the load, and after it
pub record IsFresh (sent : List ℕ) (outside : Outside) : Type 0 where
  pub left : outside.left ≡ Some sent
  pub written : outside.written ≡ Some []
  pub moments : outside.moments ≡ told_by (λ _. midnight) 0
  pub ids : outside.ids ≡ told_by (λ _. first_uuid) 0

pub record IsSpent (written : List ℕ) (moments ids : ℕ) (outside : Outside) : Type 0 where
  pub written_is : outside.written ≡ Some written
  pub moments_are : outside.moments ≡ told_by (λ _. midnight) moments
  pub ids_are : outside.ids ≡ told_by (λ _. first_uuid) ids

pub Converses-of : (before after : State) (sent written : List ℕ) (moments ids : ℕ) (old new : Opening → List Entry → List ℕ → Type 0) (outside outside' : Outside) (asks : List Ask) (replies : List Reply) (served : Served)
    → SpokeWithin REQUESTS outside outside' asks replies served
    → AsksInTurn farm_rules opened old new (questions_of asks) replies
    → IsFresh sent outside → IsSpent written moments ids outside' → IsComplete served moments ids written
    → old (begun before) [] []
    → ((seen : List Entry) (mine : List ℕ) → new (begun before) seen mine → LeadsAlone farm_rules before seen mine after × HaveNoDisk seen)
    → Converses before after sent written
Converses-of before after sent written moments ids old new outside outside' asks replies served spoke turns fresh spent complete empty alone =
    let texts : written ≡ reply_texts REQUESTS asks replies = rw (fresh.written, spent.written_is) at (written_whole served outside outside' asks replies complete.whole spoke) in
    let moments_told = told_same midnight moments (map (λ (ask : Ask). ask.moment) asks) complete.few_moments (rw (fresh.moments, spent.moments_are) at spoke.moments) in
    let ids_told = told_same first_uuid ids (map (λ (ask : Ask). ask.id) asks) complete.few_ids (rw (fresh.ids, spent.ids_are) at spoke.ids) in
    let plenty = AreWithMemory-of REQUESTS asks replies spoke.each (λ k occurs. never_found written out_of_memory k complete.plenty.never (subst (λ text. OccursAt text out_of_memory k) (sym texts) occurs)) in
    record {
      asks = asks;
      replies = replies;
      whole = taken_whole served sent outside outside' asks replies complete.whole fresh.left spoke;
      routed = spoke.routed;
      timed = AreAtMidnight-told asks (range_with_len 0 moments) (range_with_len 0 ids) moments_told ids_told;
      answered = AreAnswered-turns before after old new (questions_of asks) replies empty turns alone plenty;
      written_is = texts;
    }

-- a copy of what was written is what was written
pub IfOk-written : {E : Type 0} (copy : Result (Vec ℕ Global) E) (before after : State) (sent written : List ℕ) → IfOk copy (λ v. v.items ≡ written) → Converses before after sent written → IfOk copy (λ v. Converses before after sent v.items)
IfOk-written (Ok v) before after sent written is talk = subst (Converses before after sent) (sym is) talk
IfOk-written (Err e) before after sent written is talk = is
