-- What is kept at a shared desk between any two steps, and what a step tells who makes it. These definitions stand in proofs alone.
use Rattle.std.specs.Prelude.{◌≡◌, ℕ, ◌+◌, ◌-◌, ◌%◌, ◌^◌, ◌<◌, ◌≤◌, ◌==◌, ◌≢◌, ◌⊎◌, List, [], ◌∷◌, ◌++◌, length, Some, MatchBool, AllPairs, option_map}
use mathlib.Core.Option.{some, none}
use mathlib.Core.List.{IsPrefix}
use lib.ListN.{get_elem?}
use Rattle.atomic_table.specs.Table.{State, Step, Me, Allows, step}
use Rattle.atomic_table.specs.Seated.{TableId}
use Rattle.history.specs.Rules.{Rules}
use Rattle.history.specs.Histories.{entries, end_state, IsLegal, calls_of, Leads}
use Rattle.history.specs.Asks.{IsAsk, LeadsAlone}
use Rattle.shared_desk.specs.declared.view.Stage.{Stage}
use Rattle.shared_desk.specs.declared.view.Stage.TheVariants.{Idle, Merged, Waiting, Holding}
use Rattle.shared_desk.specs.declared.view.View.{View}
use Rattle.shared_desk.specs.Standing.{Standing}
use Rattle.shared_desk.specs.Views.{total, ticket_of, gone_on, holding, sees}

-- an object is as this history leaves it, and holds the history if the first one held the empty one
abbrev pub Bears : {O P Q A S E R : Type 0} → Rules Q A S E R → (P → S) → (O → S) → (O → P → List E → Type 0) → O → List E → O → Type 0
Bears {P = P} r start state holds first log object =
    (state object ≡ end_state r (state first) log)
    × ((opening : P) → start opening ≡ state first → holds first opening [] → holds object opening log)

-- these places are calls in this history, each no more often than there
abbrev pub IsCovered : {Q A S E R : Type 0} → Rules Q A S E R → List ℕ → List E → Type 0
IsCovered r mine seen = (f : ℕ → ℕ) → total f mine ≤ total f (calls_of r 0 seen)

-- what a caller's stage says, where the history is `log`
abbrev pub FitsStage : {O Q A S E R : Type 0} → Rules Q A S E R → List E → ℕ → ℕ → View O E → Stage E → Type 0
FitsStage r log drawn served view Idle = IsCovered r view.mine view.seen
FitsStage r log drawn served view (Merged told) = IsPrefix told log
FitsStage r log drawn served view (Waiting ticket) = (served ≤ ticket) × (ticket < drawn)
FitsStage r log drawn served view (Holding ticket) = (ticket ≡ served) × (ticket < drawn) × (view.seen ≡ log)

-- what a caller knows is so
abbrev pub Fits : {O Q A S E R : Type 0} → Rules Q A S E R → O → List E → ℕ → ℕ → View O E → Type 0
Fits {O = O} r first log drawn served view =
    ((object : O) → view.first ≡ Some object → object ≡ first)
    × IsPrefix view.seen log × FitsStage r log drawn served view view.stage

-- no two callers have one ticket
abbrev pub AreApart : {O E : Type 0} → List (View O E) → Type 0
AreApart {O = O} {E = E} views =
    (id other : ℕ) (view another : View O E) (ticket : ℕ) → get_elem? views id ≡ some view → get_elem? views other ≡ some another
    → ticket_of view.stage ≡ Some ticket → ticket_of another.stage ≡ Some ticket → id ≡ other

-- the object is in its slot, as the history leaves it; or the caller whose ticket is served has it
abbrev pub IsPlaced : {O P Q A S E R : Type 0} → Rules Q A S E R → (P → S) → (O → S) → (O → P → List E → Type 0) → O → List E → ℕ → List (mathlib.Core.Option.Option O) → List (View O E) → Type 0
IsPlaced {O = O} {E = E} r start state holds first log served homes views =
    ((object : O) × (homes ≡ some object ∷ []) × Bears r start state holds first log object)
    ⊎ ((homes ≡ none ∷ []) × ((id : ℕ) × (view : View O E) × (get_elem? views id ≡ some view) × (view.stage ≡ Holding served)))

-- There is one history, made by asks in turn. The first word is the number of tickets drawn, the second that of the calls in
-- the history. What the callers know is so, their asks are all that there are, and their calls are those of the history.
pub record IsKept {O P Q A S E R : Type 0} (r : Rules Q A S E R) (start : P → S) (state : O → S) (holds : O → P → List E → Type 0) (first : O) (s : State O (View O E)) : Type 0 where
  pub log : List E
  pub drawn : ℕ
  pub calls : List ℕ
  pub now : S
  pub words_are : s.words ≡ drawn ∷ length calls ∷ []
  pub bounded : length calls ≤ drawn
  pub made : LeadsAlone r (state first) log calls now
  pub placed : IsPlaced r start state holds first log (length calls) s.homes s.views
  pub fits : (id : ℕ) (view : View O E) → get_elem? s.views id ≡ some view → Fits r first log drawn (length calls) view
  pub apart : AreApart s.views
  pub asks : drawn + total (λ (view : View O E). view.left) s.views ≡ 9223372036854775808
  pub places : (f : ℕ → ℕ) → total (λ (view : View O E). total f view.mine) s.views ≡ total f calls

-- whatever stands at the table, a seat may make a word one more, so that the rule is kept and this is told of the step
abbrev pub AllowsOneMore : {S V : Type 0} → (State S V → Type 0) → ℕ → ℕ → Me S V → ℕ → (Step S → Me S V → ℕ → Me S V → Type 0) → Type 0
AllowsOneMore holds slots id me word then = Allows holds slots id me word (λ n. (n + 1) % 2 ^ 64) (then (step slots word 1 0 none) me)

-- a caller took the object: it has seen the history as it is, which is legal, and the object is as it leaves it
abbrev pub HasTaken : {O P Q A S E R : Type 0} → Rules Q A S E R → (P → S) → (O → S) → (O → P → List E → Type 0) → Me O (View O E) → ℕ → Me O (View O E) → Type 0
HasTaken {O = O} {E = E} r start state holds before ticket after =
    (log : List E) × (object : O) × (after ≡ (holding before.0 log ticket, (0, object) ∷ before.1)) × IsPrefix before.0.seen log
    × ((first : O) → before.0.first ≡ Some first → IsLegal r (state first) log × Bears r start state holds first log object)

-- what a look tells a caller that waits with the ticket: at its turn it took the object, else nothing changed
abbrev pub looked : {O P Q A S E R : Type 0} → Rules Q A S E R → (P → S) → (O → S) → (O → P → List E → Type 0) → Step O → Me O (View O E) → ℕ → Me O (View O E) → Type 0
looked r start state holds step before found after =
    (ticket : ℕ) → before.0.stage ≡ Waiting ticket
    → MatchBool (found == ticket) (HasTaken r start state holds before ticket after) (after ≡ before)

-- the entries of an ask by a caller that has seen the history as it is
abbrev pub asked_entries : {O Q A S E R : Type 0} → Rules Q A S E R → (O → S) → O → List E → Q → A → E → List E
asked_entries r state first seen question answer call = entries r (end_state r (state first) seen) question answer call

-- the place of its call
abbrev pub asked_place : {O Q A S E R : Type 0} → Rules Q A S E R → (O → S) → O → List E → Q → A → ℕ
asked_place r state first seen question answer = length (seen ++ r.ticks (end_state r (state first) seen) question answer)

-- One ask of the object that a caller has: of such a question with such an answer, from the state that the history leaves.
pub record HasMade {O Q A S E R : Type 0} (r : Rules Q A S E R) (state : O → S) (asked : Q → A → Type 0) (before : Me O (View O E)) : Type 0 where
  pub first : O
  pub object : O
  pub question : Q
  pub answer : A
  pub call : E
  pub began : before.0.first ≡ Some first
  pub has : before.1 ≡ (0, object) ∷ []
  pub is_such : asked question answer
  pub ask : IsAsk r (end_state r (state first) before.0.seen) question answer call (state object)

-- a caller that has the object asked it, and the object is as the longer history leaves it
abbrev pub MayRaise : {O P Q A S E R : Type 0} → Rules Q A S E R → (P → S) → (O → S) → (O → P → List E → Type 0) → (Q → A → Type 0) → Me O (View O E) → Type 0
MayRaise r start state holds asked me =
    (ticket : ℕ) × (me.0.stage ≡ Holding ticket) × (made : HasMade r state asked me)
    × Bears r start state holds made.first (me.0.seen ++ asked_entries r state made.first me.0.seen made.question made.answer made.call) made.object

-- what the raise tells: the history goes on by the ask's entries, and its call's place is the caller's
abbrev pub raised : {O Q A S E R : Type 0} → Rules Q A S E R → (O → S) → (Q → A → Type 0) → Me O (View O E) → Me O (View O E) → Type 0
raised r state asked before after =
    (made : HasMade r state asked before)
    × (after ≡ (gone_on before.0 (asked_entries r state made.first before.0.seen made.question made.answer made.call) (asked_place r state made.first before.0.seen made.question made.answer), []))

-- what a caller that took in another one learns: a history that is legal, which both had seen the beginning of, and no place is twice among its own
abbrev pub HasLearned : {O Q A S E R : Type 0} → Rules Q A S E R → (O → S) → Me O (View O E) → Me O (View O E) → Type 0
HasLearned {O = O} {E = E} r state before after =
    (log : List E) × (after ≡ (sees before.0 log, before.1)) × IsPrefix before.0.seen log
    × ((told : List E) → before.0.stage ≡ Merged told → IsPrefix told log)
    × ((first : O) → before.0.first ≡ Some first → IsLegal r (state first) log)
    × AllPairs (λ place other. place ≢ other) before.0.mine
    × (before.0.left + length before.0.mine ≤ 9223372036854775808)

-- the seat is one of a table with two words and one slot
abbrev pub IsAt : TableId → TableId → Type 0
IsAt hall seat = (seat ≡ hall) × (hall.words ≡ 2) × (hall.slots ≡ 1)

-- a caller that asks nothing, and has seen a legal history since its desk began
abbrev pub IsAtRest : {O Q A S E R : Type 0} → Rules Q A S E R → (O → S) → Me O (View O E) → Type 0
IsAtRest {O = O} r state me =
    (me.1 ≡ []) × (me.0.stage ≡ Idle) × ((first : O) × (me.0.first ≡ Some first) × IsLegal r (state first) me.0.seen)

-- a caller that has the object asked it this, and was answered so
abbrev pub HasAskedObject : {O P Q A S E R : Type 0} → Rules Q A S E R → (P → S) → (O → S) → (O → P → List E → Type 0) → Me O (View O E) → Q → A → Me O (View O E) → Type 0
HasAskedObject {O = O} {P = P} {E = E} r start state holds before question answer after =
    (old new : O) × (call : E) × (before.1 ≡ (0, old) ∷ []) × (after ≡ (before.0, (0, new) ∷ []))
    × IsAsk r (state old) question answer call (state new)
    × ((opening : P) (seen : List E) → Leads r (start opening) seen (state old) → holds old opening seen
    → holds new opening (seen ++ entries r (state old) question answer call))

-- a caller that took in another one, and has not yet seen the history as it is
abbrev pub IsMerged : {O E : Type 0} → Me O (View O E) → Type 0
IsMerged {E = E} me = (me.1 ≡ []) × ((told : List E) × (me.0.stage ≡ Merged told))

-- what a caller at this table stands for
abbrev pub standing : {O S E : Type 0} → (O → S) → TableId → View O E → Standing S E
standing state table view = record { desk = table; opening = option_map state view.first; seen = view.seen; mine = view.mine; left = view.left }

-- what stands at a table with two words and one slot
abbrev pub IsAtDesk : {S E : Type 0} → TableId → Standing S E → Type 0
IsAtDesk hall standing = IsAt hall standing.desk

-- One ask: after what others did, the history went on by this ask's entries, and its call's place is the last of its own.
pub record HasTurn {Q A S E R : Type 0} (r : Rules Q A S E R) (before : Standing S E) (question : Q) (answer : A) (after : Standing S E) : Type 0 where
  pub opening : S
  pub between : List E
  pub old : S
  pub call : E
  pub new : S
  pub began : before.opening ≡ Some opening
  pub led : Leads r opening (before.seen ++ between) old
  pub ask : IsAsk r old question answer call new
  pub went : after ≡ record {
    desk = before.desk;
    opening = before.opening;
    seen = (before.seen ++ between) ++ entries r old question answer call;
    mine = before.mine ++ length ((before.seen ++ between) ++ r.ticks old question answer) ∷ [];
    left = before.left - 1;
  }
