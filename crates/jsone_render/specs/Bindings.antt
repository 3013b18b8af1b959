-- `$let`, `$map`, `$reduce` and `$find` (JSON-e, "Operators").
use Rattle.std.specs.Prelude.{◌≡◌, ℕ, pos, ◌+◌, codes, List, [], ◌∷◌, ◌++◌, Option, Some, None}
use Rattle.std.specs.Bool.{MatchBool}
use Rattle.std.specs.List.{list_all}
use Rattle.farm_text.specs.Document.{Document, whole, text, array, object, items_of, Members, no_members, member}
use Rattle.jsone_values.specs.declared.faults.Fault.TheVariants.{WrongKind, BadOperator}
use Rattle.jsone_values.specs.Members.{listed}
use Rattle.jsone_values.specs.Truth.{is_true}
use Rattle.jsone_render.specs.Expressions.{Evaluated, OfText}
use Rattle.jsone_render.specs.Conditions.{Taken}
use Rattle.jsone_render.specs.Maps.{keys_of}
use Rattle.jsone_render.specs.Merges.{merged}
use Rattle.jsone_render.specs.Names.{is_name}
use Rattle.jsone_render.specs.Outcomes.{Outcome, given, faulted, worth, at_operator, as_found, After, kept, Meaning, Operand}

-- `$let`: the members of a map, whose keys are names, are bound
abbrev pub LetIn : Document → Meaning → Meaning
LetIn (object ms) In scopes n o = MatchBool (list_all is_name (keys_of ms)) (Taken In (scopes ++ object ms ∷ []) n o) (o ≡ faulted BadOperator [])
LetIn _ In scopes n o = o ≡ faulted WrongKind []

-- `Member` says what stands at a key
abbrev pub LetRenders : (List ℕ → Meaning) → Meaning
LetRenders Member scopes n o = Operand (Member (codes "$let")) scopes n (λ d. LetIn d (Member (codes "in")) scopes) o

-- each name is bound to the value at its place, as far as there are values
abbrev pub single : List ℕ → Document → Document
single name d = object (member name d no_members)

abbrev pub bound_to : List (List ℕ) → List Document → List Document
bound_to [] ds = []
bound_to (v ∷ vs) [] = []
bound_to (v ∷ vs) (d ∷ ds) = single v d ∷ bound_to vs ds

-- the members of a list, each with its index
abbrev pub numbered : ℕ → List Document → List (Document × Document)
numbered i [] = []
numbered i (d ∷ ds) = (d, whole (pos i)) ∷ numbered (i + 1) ds

-- the members of a map, each with its key; for one name a member is a map of both
abbrev pub entry : List ℕ → Document → Document
entry key d = object (member (codes "key") (text key) (member (codes "val") d no_members))

abbrev pub turn_value : List (List ℕ) → List ℕ → Document → Document
turn_value (v ∷ []) key d = entry key d
turn_value names key d = d

abbrev pub turns_of : List (List ℕ) → Members → List (Document × Document)
turns_of names no_members = []
turns_of names (member k d ms) = (turn_value names k d, text k) ∷ turns_of names ms

abbrev pub both : Document × Document → List Document
both t = t.0 ∷ t.1 ∷ []

-- what the turns give, in order, behind what they gave so far, without what is removed
abbrev pub EachRenders : Meaning → List (List ℕ) → List Document → List (Document × Document) → List Document → ℕ → Outcome (List Document) → Type 0
EachRenders Body names done [] scopes n o = o ≡ given done n
EachRenders Body names done (t ∷ ts) scopes n o = After (Body (scopes ++ bound_to names (both t)) n) (λ found m. EachRenders Body names (done ++ kept found) ts scopes m) o

-- `$map`: over a map the results are merged
abbrev pub MappedOver : Meaning → List (List ℕ) → Document → Meaning
MappedOver Body names (array ds) scopes n o = After (EachRenders Body names [] (numbered 0 (listed ds)) scopes n) (λ es m p. p ≡ worth m (Some (array (items_of es)))) o
MappedOver Body names (object ms) scopes n o = After (EachRenders Body names [] (turns_of names ms) scopes n) (λ es m p. p ≡ at_operator m (as_found (merged es))) o
MappedOver Body names _ scopes n o = o ≡ faulted WrongKind []

-- `$reduce`: what a turn gives goes on to the next one, and where that is removed, what came before does
abbrev pub or_before : Document → Option Document → Document
or_before before (Some d) = d
or_before before None = before

abbrev pub TurnsReduce : Meaning → List (List ℕ) → Document → List (Document × Document) → Meaning
TurnsReduce Body names before [] scopes n o = o ≡ worth n (Some before)
TurnsReduce Body names before (t ∷ ts) scopes n o =
    After (Body (scopes ++ bound_to names (before ∷ both t)) n) (λ found m. TurnsReduce Body names (or_before before found) ts scopes m) o

abbrev pub ReducedOver : Meaning → List (List ℕ) → Document → Document → Meaning
ReducedOver Body names initial (array ds) scopes n o = TurnsReduce Body names initial (numbered 0 (listed ds)) scopes n o
ReducedOver Body names initial _ scopes n o = o ≡ faulted WrongKind []

-- `$find`: the first member for which the expression is true
abbrev pub FirstTrue : List ℕ → List (List ℕ) → List (Document × Document) → Meaning
FirstTrue source names [] scopes n o = o ≡ worth n None
FirstTrue source names (t ∷ ts) scopes n o =
    After (Evaluated source (scopes ++ bound_to names (both t)) n) (λ d m p. MatchBool (is_true d) (p ≡ worth m (Some t.0)) (FirstTrue source names ts scopes m p)) o

abbrev pub FoundIn : Option Document → List (List ℕ) → Document → Meaning
FoundIn source names (array ds) scopes n o = OfText source (λ e. FirstTrue e names (numbered 0 (listed ds)) scopes n) o
FoundIn source names _ scopes n o = o ≡ faulted WrongKind []
