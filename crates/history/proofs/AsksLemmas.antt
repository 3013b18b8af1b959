-- How asks of a desk follow from asks of its object, and how asks in turn go together.
use Rattle.std.proofs.Common.{◌≡◌, ℕ, ◌+◌, ◌≤◌, List, [], ◌∷◌, ◌++◌, length, length-append, Some, refl, sym, ◌∙◌, ap, subst, append_assoc, append-nil, arith}
use Rattle.std.proofs.lemmas.List.{map-append, length-map, append_cancel_left}
use Rattle.history.specs.Rules.{Rules}
use Rattle.history.specs.Histories.{entries, end_state, reply_at, asked_at, calls_of, Leads}
use Rattle.history.specs.Asks.{IsAsk, AreEntries, HasOneEntry, LeadsAlone, HasAsked, IsRisingWithin, Gains, AsksInTurn}
use Rattle.history.proofs.HistoriesLemmas.{end_state-append, IsLegal-back, Leads-append, calls_of-append, asked_at-append_seam, reply_at-append_seam, asked_at-each_stays, reply_at-each_stays}

-- a history that leads to a state goes on by an ask of an object in that state
pub Leads-ask : {Q A S E R : Type 0} (r : Rules Q A S E R) (opening : S) (seen : List E) (old : S) (question : Q) (answer : A) (call : E) (new : S) → Leads r opening seen old → IsAsk r old question answer call new → Leads r opening (seen ++ entries r old question answer call) new
Leads-ask r opening seen old question answer call new leads ask =
    let longer = Leads-append r opening seen (entries r old question answer call) old leads ask.legal in
    (longer.0, ask.leads ∙ longer.1)

-- where what goes before a call has no calls, its place is the last of all
calls_of-quiet_call : {Q A S E R : Type 0} (r : Rules Q A S E R) (place : ℕ) (seen ticks : List E) (call : E) (question : Q) → ((k : ℕ) → calls_of r k ticks ≡ []) → r.asked call ≡ Some question → calls_of r place (seen ++ (ticks ++ call ∷ [])) ≡ calls_of r place seen ++ (place + length (seen ++ ticks)) ∷ []
calls_of-quiet_call r place seen ticks call question quiet asked =
    rw (← append_assoc seen ticks (call ∷ []), calls_of-append r place (seen ++ ticks) (call ∷ []), calls_of-append r place seen ticks, quiet (place + length seen), asked, append-nil (calls_of r place seen)) refl

-- the calls after an ask: those before, and the ask's own at its place
pub calls_of-ask : {Q A S E R : Type 0} (r : Rules Q A S E R) (place : ℕ) (seen : List E) (old : S) (question : Q) (answer : A) (call : E) (new : S) → IsAsk r old question answer call new → calls_of r place (seen ++ entries r old question answer call) ≡ calls_of r place seen ++ (place + length (seen ++ r.ticks old question answer)) ∷ []
calls_of-ask r place seen old question answer call new ask =
    calls_of-quiet_call r place seen (r.ticks old question answer) call question ask.quiet ask.asked

-- one ask more after others in turn
AreEntries-one_more : {Q A S E R : Type 0} (r : Rules Q A S E R) (state : S) (asks : List (Q × A)) (made : List E) (old : S) (ask : Q × A) (call : E) (new : S) → old ≡ end_state r state made → AreEntries r state asks made → IsAsk r old ask.0 ask.1 call new → AreEntries r state (asks ++ ask ∷ []) (made ++ entries r old ask.0 ask.1 call)
AreEntries-one_more r state [] made old ask call new leads are step =
    let same : old ≡ state = leads ∙ ap (end_state r state) are in
    (call, new, [], rw (← same) step, rw (are, same, append-nil) refl, refl)
AreEntries-one_more r state (first ∷ asks) made old ask call new leads are step =
    let mine = entries r state first.0 first.1 are.0 in
    let from_next : old ≡ end_state r are.1 are.2 = leads ∙ (ap (end_state r state) are.4 ∙ (end_state-append r state mine are.2 ∙ ap (λ s. end_state r s are.2) (sym are.3.leads))) in
    let longer = entries r old ask.0 ask.1 call in
    (are.0, are.1, are.2 ++ longer, are.3, ap (λ es. es ++ longer) are.4 ∙ append_assoc mine are.2 longer, AreEntries-one_more r are.1 asks are.2 old ask call new from_next are.5 step)

-- one question with one answer has one call, where a question and a reply have one entry
pub IsAsk-one_call : {Q A S E R : Type 0} (r : Rules Q A S E R) (old : S) (question : Q) (answer : A) (call other : E) (new another : S) → HasOneEntry r → IsAsk r old question answer call new → IsAsk r old question answer other another → call ≡ other
IsAsk-one_call r old question answer call other new another one first second =
    let ticks = r.ticks old question answer in
    one (end_state r old ticks) question call other (IsLegal-back r old ticks (call ∷ []) first.legal).0 (IsLegal-back r old ticks (other ∷ []) second.legal).0 first.asked second.asked (first.reply ∙ sym second.reply)

-- and so it leaves one state
pub IsAsk-one_state : {Q A S E R : Type 0} (r : Rules Q A S E R) (old : S) (question : Q) (answer : A) (call other : E) (new another : S) → call ≡ other → IsAsk r old question answer call new → IsAsk r old question answer other another → new ≡ another
IsAsk-one_state r old question answer call other new another same first second =
    first.leads ∙ (ap (λ c. end_state r old (entries r old question answer c)) same ∙ sym second.leads)

-- asks that are answered alike have one list of entries
pub AreEntries-one : {Q A S E R : Type 0} (r : Rules Q A S E R) (state : S) (asks : List (Q × A)) (made others : List E) → HasOneEntry r → AreEntries r state asks made → AreEntries r state asks others → made ≡ others
AreEntries-one r state [] made others one first second = first ∙ sym second
AreEntries-one {E = E} r state (ask ∷ asks) made others one first second =
    let same = IsAsk-one_call r state ask.0 ask.1 first.0 second.0 first.1 second.1 one first.3 second.3 in
    let next = IsAsk-one_state r state ask.0 ask.1 first.0 second.0 first.1 second.1 same first.3 second.3 in
    let rest : first.2 ≡ second.2 = AreEntries-one r first.1 asks first.2 second.2 one first.5 (subst (λ s. AreEntries r s asks second.2) (sym next) second.5) in
    first.4 ∙ (ap (λ c. entries r state ask.0 ask.1 c ++ first.2) same ∙ (ap (λ (es : List E). entries r state ask.0 ask.1 second.0 ++ es) rest ∙ sym second.4))

-- no ask: the state is the opening's
pub LeadsAlone-none : {Q A S E R : Type 0} (r : Rules Q A S E R) (opening state : S) → opening ≡ state → LeadsAlone r opening [] [] state
LeadsAlone-none r opening state is = record { legal = tt; leads = sym is; all = refl; made = ([], refl) }

-- an ask of an object whose history has these calls alone: they gain its place
pub LeadsAlone-ask : {Q A S E R : Type 0} (r : Rules Q A S E R) (opening : S) (seen : List E) (mine : List ℕ) (old : S) (question : Q) (answer : A) (call : E) (new : S) → LeadsAlone r opening seen mine old → IsAsk r old question answer call new → LeadsAlone r opening (seen ++ entries r old question answer call) (mine ++ length (seen ++ r.ticks old question answer) ∷ []) new
LeadsAlone-ask r opening seen mine old question answer call new alone ask =
    let longer = Leads-ask r opening seen old question answer call new (alone.legal, alone.leads) ask in
    let counted : 0 + length (seen ++ r.ticks old question answer) ≡ length (seen ++ r.ticks old question answer) = omega arith in
    record {
      legal = longer.0;
      leads = longer.1;
      all = rw (calls_of-ask r 0 seen old question answer call new ask, counted, alone.all) refl;
      made = (alone.made.0 ++ (question, answer) ∷ [], AreEntries-one_more r opening alone.made.0 seen old (question, answer) call new alone.leads alone.made.1 ask);
    }

-- An ask after others: the history that was seen and what they did lead to the object's state, and the object is asked.
pub HasAsked-leads : {Q A S E R : Type 0} (r : Rules Q A S E R) (stands : List E → List ℕ → Type 0) (opening : S) (seen between : List E) (mine : List ℕ) (old : S) (question : Q) (answer : A) (call : E) (new : S) → Leads r opening (seen ++ between) old → IsAsk r old question answer call new → stands ((seen ++ between) ++ entries r old question answer call) (mine ++ length ((seen ++ between) ++ r.ticks old question answer) ∷ []) → HasAsked r stands opening seen mine question answer
HasAsked-leads r stands opening seen between mine old question answer call new leads ask stands_now = record {
  between = between;
  before = (seen ++ between) ++ r.ticks old question answer;
  call = call;
  before_is = ap (λ state. (seen ++ between) ++ r.ticks state question answer) leads.1;
  stands_now = rw (append_assoc (seen ++ between) (r.ticks old question answer) (call ∷ [])) stands_now;
  asked = asked_at-append_seam r ((seen ++ between) ++ r.ticks old question answer) call [] ∙ ask.asked;
  reply = reply_at-append_seam r opening ((seen ++ between) ++ r.ticks old question answer) call [] ∙ (rw (end_state-append r opening (seen ++ between) (r.ticks old question answer), ← leads.1) ask.reply);
}

-- an ask alone: nothing came between
pub HasAsked-alone : {Q A S E R : Type 0} (r : Rules Q A S E R) (stands : List E → List ℕ → Type 0) (opening : S) (seen : List E) (mine : List ℕ) (old : S) (question : Q) (answer : A) (call : E) (new : S) → Leads r opening seen old → IsAsk r old question answer call new → stands (seen ++ entries r old question answer call) (mine ++ length (seen ++ r.ticks old question answer) ∷ []) → HasAsked r stands opening seen mine question answer
HasAsked-alone r stands opening seen mine old question answer call new leads ask stands_now =
    HasAsked-leads r stands opening seen [] mine old question answer call new (rw append-nil leads) ask (rw append-nil stands_now)

-- an ask that was made where others had already gone on is an ask after them
pub HasAsked-after : {Q A S E R : Type 0} (r : Rules Q A S E R) (stands : List E → List ℕ → Type 0) (opening : S) (seen others : List E) (mine : List ℕ) (question : Q) (answer : A) → HasAsked r stands opening (seen ++ others) mine question answer → HasAsked r stands opening seen mine question answer
HasAsked-after r stands opening seen others mine question answer asks = record {
  between = others ++ asks.between;
  before = asks.before;
  call = asks.call;
  before_is = rw (← append_assoc seen others asks.between) asks.before_is;
  stands_now = asks.stands_now;
  asked = asks.asked;
  reply = asks.reply;
}

-- what a desk stands for may be said by other words that follow
pub HasAsked-weaker : {Q A S E R : Type 0} (r : Rules Q A S E R) (stands weaker : List E → List ℕ → Type 0) (opening : S) (seen : List E) (mine : List ℕ) (question : Q) (answer : A) → ((history : List E) (places : List ℕ) → stands history places → weaker history places) → HasAsked r stands opening seen mine question answer → HasAsked r weaker opening seen mine question answer
HasAsked-weaker r stands weaker opening seen mine question answer follows asks = record {
  between = asks.between;
  before = asks.before;
  call = asks.call;
  before_is = asks.before_is;
  stands_now = follows (asks.before ++ asks.call ∷ []) (mine ++ length asks.before ∷ []) asks.stands_now;
  asked = asks.asked;
  reply = asks.reply;
}

-- places that rise from a later one rise from an earlier one
rising_earlier : (first middle end : ℕ) (places : List ℕ) → first ≤ middle → IsRisingWithin middle end places → IsRisingWithin first end places
rising_earlier first middle end [] before rise = omega (arith, rise)
rising_earlier first middle end (place ∷ places) before rise = (omega (arith, rise.0), rise.1)

-- places that rise, and then those after them
rising_then : (first middle end : ℕ) (places more : List ℕ) → IsRisingWithin first middle places → IsRisingWithin middle end more → IsRisingWithin first end (places ++ more)
rising_then first middle end [] more some others = rising_earlier first middle end more some others
rising_then first middle end (place ∷ places) more some others = (some.0, rising_then (place + 1) middle end places more some.1 others)

-- a longer history is not shorter
longer_history : {E : Type 0} (seen since : List E) → length seen ≤ length (seen ++ since)
longer_history seen since = let sum = length-append seen since in omega arith

-- no turn: nothing was asked
pub Gains-none : {Q A S E R : Type 0} (r : Rules Q A S E R) (stands : List E → List ℕ → Type 0) (opening : S) (seen : List E) (mine : List ℕ) → stands seen mine → Gains r stands opening seen mine [] []
Gains-none r stands opening seen mine stands_now = record {
  since = [];
  gained = [];
  rising = longer_history seen [];
  stands_now = rw (append-nil seen, append-nil mine) stands_now;
  asked = refl;
  replied = refl;
}

-- what a desk has seen since is the rest of a longer history
Gains-longer : {Q A S E R : Type 0} (r : Rules Q A S E R) (stands : List E → List ℕ → Type 0) (opening : S) (seen since : List E) (mine : List ℕ) (longer : List E) (place : ℕ) (question : Q) (reply : R) → longer ≡ seen ++ since → length seen ≤ place → place + 1 ≤ length longer → stands longer (mine ++ place ∷ []) → asked_at r longer place ≡ Some question → reply_at r opening longer place ≡ Some reply → Gains r stands opening seen mine (question ∷ []) (reply ∷ [])
Gains-longer r stands opening seen since mine longer place question reply is above below stands_now asked replied = record {
  since = since;
  gained = place ∷ [];
  rising = (above, rw (← is) below);
  stands_now = rw (← is) stands_now;
  asked = rw (← is, asked) refl;
  replied = rw (← is, replied) refl;
}

longer_before : {E : Type 0} (seen between ticks : List E) → length seen ≤ length ((seen ++ between) ++ ticks)
longer_before seen between ticks =
    let first = length-append seen between in
    let second = length-append (seen ++ between) ticks in
    omega arith

-- one turn: one ask
pub Gains-one : {Q A S E R : Type 0} (r : Rules Q A S E R) (stands : List E → List ℕ → Type 0) (opening : S) (seen : List E) (mine : List ℕ) (question : Q) (answer : A) → HasAsked r stands opening seen mine question answer → Gains r stands opening seen mine (question ∷ []) (r.told answer ∷ [])
Gains-one r stands opening seen mine question answer asks =
    let ticks = r.ticks (end_state r opening (seen ++ asks.between)) question answer in
    let call = asks.call in
    let above : length seen ≤ length asks.before = rw asks.before_is (longer_before seen asks.between ticks) in
    let below : length asks.before + 1 ≤ length (asks.before ++ call ∷ []) = let sum = length-append asks.before (call ∷ []) in omega arith in
    let goes_on : asks.before ++ call ∷ [] ≡ seen ++ (asks.between ++ (ticks ++ call ∷ [])) = rw asks.before_is (simp append_assoc) in
    Gains-longer r stands opening seen (asks.between ++ (ticks ++ call ∷ [])) mine (asks.before ++ call ∷ []) (length asks.before) question (r.told answer) goes_on above below asks.stands_now asks.asked asks.reply

-- more turns: those of one portion, and then those of the next from where the first ends
pub Gains-then : {Q A S E R : Type 0} (r : Rules Q A S E R) (middle stands : List E → List ℕ → Type 0) (opening : S) (seen : List E) (mine : List ℕ) (questions more : List Q) (replies further : List R) → Gains r middle opening seen mine questions replies → ((history : List E) (places : List ℕ) → middle history places → Gains r stands opening history places more further) → Gains r stands opening seen mine (questions ++ more) (replies ++ further)
Gains-then r middle stands opening seen mine questions more replies further first next =
    let second = next (seen ++ first.since) (mine ++ first.gained) first.stands_now in
    record {
      since = first.since ++ second.since;
      gained = first.gained ++ second.gained;
      rising = rising_then (length seen) (length (seen ++ first.since)) (length (seen ++ (first.since ++ second.since))) first.gained second.gained first.rising (rw (← append_assoc seen first.since second.since) second.rising);
      stands_now = rw (← append_assoc seen first.since second.since, ← append_assoc mine first.gained second.gained) second.stands_now;
      asked = rw (← append_assoc seen first.since second.since, map-append (asked_at r ((seen ++ first.since) ++ second.since)) first.gained second.gained, asked_at-each_stays r (seen ++ first.since) second.since first.gained questions first.asked, second.asked) (sym (map-append Some questions more));
      replied = rw (← append_assoc seen first.since second.since, map-append (reply_at r opening ((seen ++ first.since) ++ second.since)) first.gained second.gained, reply_at-each_stays r opening (seen ++ first.since) second.since first.gained replies first.replied, second.replied) (sym (map-append Some replies further));
    }

-- as many places are gained as questions were asked, and as many replies were given
pub Gains-counts : {Q A S E R : Type 0} (r : Rules Q A S E R) (stands : List E → List ℕ → Type 0) (opening : S) (seen : List E) (mine : List ℕ) (questions : List Q) (replies : List R) (gains : Gains r stands opening seen mine questions replies) → (length gains.gained ≡ length questions) × (length gains.gained ≡ length replies)
Gains-counts r stands opening seen mine questions replies gains =
    (sym (length-map gains.gained (asked_at r (seen ++ gains.since))) ∙ (ap length gains.asked ∙ length-map questions Some), sym (length-map gains.gained (reply_at r opening (seen ++ gains.since))) ∙ (ap length gains.replied ∙ length-map replies Some))

-- where a desk alone makes the calls, before and after, the places gained are the calls of what came since
pub LeadsAlone-gained : {Q A S E R : Type 0} (r : Rules Q A S E R) (opening : S) (seen since : List E) (mine gained : List ℕ) (old new : S) → LeadsAlone r opening seen mine old → LeadsAlone r opening (seen ++ since) (mine ++ gained) new → gained ≡ calls_of r (length seen) since
LeadsAlone-gained r opening seen since mine gained old new before after =
    let counted : 0 + length seen ≡ length seen = omega arith in
    let all : mine ++ gained ≡ mine ++ calls_of r (length seen) since = rw (after.all, calls_of-append r 0 seen since, counted, ← before.all) refl in
    append_cancel_left mine gained (calls_of r (length seen) since) all

-- no turn leaves a desk standing for what it stood for
pub AsksInTurn-none : {Q A S E R O : Type 0} (r : Rules Q A S E R) (start : O → S) (stands : O → List E → List ℕ → Type 0) → AsksInTurn r start stands stands [] []
AsksInTurn-none r start stands = λ opening seen mine stood. Gains-none r (stands opening) (start opening) seen mine stood

-- one ask is one turn
pub AsksInTurn-one : {Q A S E R O : Type 0} (r : Rules Q A S E R) (start : O → S) (old new : O → List E → List ℕ → Type 0) (question : Q) (answer : A) → ((opening : O) (seen : List E) (mine : List ℕ) → old opening seen mine → HasAsked r (new opening) (start opening) seen mine question answer) → AsksInTurn r start old new (question ∷ []) (r.told answer ∷ [])
AsksInTurn-one r start old new question answer asks =
    λ opening seen mine stood. Gains-one r (new opening) (start opening) seen mine question answer (asks opening seen mine stood)

-- turns after turns are turns
pub AsksInTurn-then : {Q A S E R O : Type 0} (r : Rules Q A S E R) (start : O → S) (old middle new : O → List E → List ℕ → Type 0) (questions more : List Q) (replies further : List R) → AsksInTurn r start old middle questions replies → AsksInTurn r start middle new more further → AsksInTurn r start old new (questions ++ more) (replies ++ further)
AsksInTurn-then r start old middle new questions more replies further first next =
    λ opening seen mine stood. Gains-then r (middle opening) (new opening) (start opening) seen mine questions more replies further (first opening seen mine stood) (next opening)
