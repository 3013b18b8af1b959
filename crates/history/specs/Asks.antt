-- What asks do: one ask of an object that has a state, one ask of a desk that stands for a history, and many asks in turn.
use Rattle.std.specs.Prelude.{◌≡◌, ℕ, ◌+◌, ◌≤◌, List, [], ◌∷◌, ◌++◌, length, map, Some}
use Rattle.history.specs.Rules.{Rules}
use Rattle.history.specs.Histories.{entries, end_state, IsLegal, reply_at, asked_at, calls_of}

-- One ask of an object, whose call is this entry: its entries are legal and lead from the old state to the new one, the call
-- is the only one among them, and of this question, and its reply is the answer's.
pub record IsAsk {Q A S E R : Type 0} (r : Rules Q A S E R) (old : S) (question : Q) (answer : A) (call : E) (new : S) : Type 0 where
  pub legal : IsLegal r old (entries r old question answer call)
  pub leads : new ≡ end_state r old (entries r old question answer call)
  pub quiet : (place : ℕ) → calls_of r place (r.ticks old question answer) ≡ []
  pub asked : r.asked call ≡ Some question
  pub reply : r.reply (end_state r old (r.ticks old question answer)) call ≡ Some (r.told answer)

-- These are the entries of asks in turn, of questions with their answers: each finds the state that those before it leave.
abbrev pub AreEntries : {Q A S E R : Type 0} → Rules Q A S E R → S → List (Q × A) → List E → Type 0
AreEntries r state [] made = made ≡ []
AreEntries {S = S} {E = E} r state (ask ∷ asks) made =
    (call : E) × (new : S) × (rest : List E)
    × IsAsk r state ask.0 ask.1 call new × (made ≡ entries r state ask.0 ask.1 call ++ rest) × AreEntries r new asks rest

-- in each state a question and a reply have one entry
abbrev pub HasOneEntry : {Q A S E R : Type 0} → Rules Q A S E R → Type 0
HasOneEntry {Q = Q} {S = S} {E = E} r =
    (state : S) (question : Q) (entry other : E) → r.lawful state entry → r.lawful state other
    → r.asked entry ≡ Some question → r.asked other ≡ Some question → r.reply state entry ≡ r.reply state other → entry ≡ other

-- It leads to this state, these places are all its calls, in order, and it has the entries of asks in turn and no others.
pub record LeadsAlone {Q A S E R : Type 0} (r : Rules Q A S E R) (opening : S) (seen : List E) (mine : List ℕ) (state : S) : Type 0 where
  pub legal : IsLegal r opening seen
  pub leads : state ≡ end_state r opening seen
  pub all : mine ≡ calls_of r 0 seen
  pub made : (asks : List (Q × A)) × AreEntries r opening asks seen

-- One ask of a desk that stood for the history `seen` and its own places `mine`: after what others did between, it stands for
-- the history with the ask's entries at its end and with the call's place at the end of its own. The question at that
-- place is this one, and the reply there is the answer's.
pub record HasAsked {Q A S E R : Type 0} (r : Rules Q A S E R) (stands : List E → List ℕ → Type 0) (opening : S) (seen : List E) (mine : List ℕ) (question : Q) (answer : A) : Type 0 where
  pub between : List E
  pub before : List E
  pub call : E
  pub before_is : before ≡ (seen ++ between) ++ r.ticks (end_state r opening (seen ++ between)) question answer
  pub stands_now : stands (before ++ call ∷ []) (mine ++ length before ∷ [])
  pub asked : asked_at r (before ++ call ∷ []) (length before) ≡ Some question
  pub reply : reply_at r opening (before ++ call ∷ []) (length before) ≡ Some (r.told answer)

-- the places rise: none is before the first, or at the end or after it
abbrev pub IsRisingWithin : ℕ → ℕ → List ℕ → Type 0
IsRisingWithin first end [] = first ≤ end
IsRisingWithin first end (place ∷ places) = (first ≤ place) × IsRisingWithin (place + 1) end places

-- Many asks in turn: the history that was seen goes on, the desk's own places gain one for each question, in what came since
-- and each after the one before it, and there stand these questions with these replies, in order.
pub record Gains {Q A S E R : Type 0} (r : Rules Q A S E R) (stands : List E → List ℕ → Type 0) (opening : S) (seen : List E) (mine : List ℕ) (questions : List Q) (replies : List R) : Type 0 where
  pub since : List E
  pub gained : List ℕ
  pub rising : IsRisingWithin (length seen) (length (seen ++ since)) gained
  pub stands_now : stands (seen ++ since) (mine ++ gained)
  pub asked : map (asked_at r (seen ++ since)) gained ≡ map Some questions
  pub replied : map (reply_at r opening (seen ++ since)) gained ≡ map Some replies

-- whatever opening, history and places a desk stood for, it stands now for those after these asks, with these replies
abbrev pub AsksInTurn : {Q A S E R O : Type 0} → Rules Q A S E R → (O → S) → (O → List E → List ℕ → Type 0) → (O → List E → List ℕ → Type 0) → List Q → List R → Type 0
AsksInTurn {E = E} {O = O} r start old new questions replies =
    (opening : O) (seen : List E) (mine : List ℕ) → old opening seen mine → Gains r (new opening) (start opening) seen mine questions replies
