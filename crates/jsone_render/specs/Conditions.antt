-- `$eval`, `$if`, `$switch` and `$match` (JSON-e, "Operators").
use Rattle.std.specs.Prelude.{◌≡◌, ℕ, not, codes, if◌then◌else◌, List, [], ◌∷◌, ◌++◌, Option, Some}
use Rattle.std.specs.List.{filter}
use Rattle.std.specs.Str.{bytes_eq}
use Rattle.farm_text.specs.Document.{Document, array, object, items_of, Members}
use Rattle.jsone_values.specs.declared.faults.Fault.TheVariants.{WrongKind, TwoBranches}
use Rattle.jsone_values.specs.Truth.{is_true}
use Rattle.jsone_render.specs.Expressions.{Evaluated, ValueAt}
use Rattle.jsone_render.specs.Maps.{keys_of}
use Rattle.jsone_render.specs.Outcomes.{Outcome, given, faulted, worth, After, kept, Meaning}

-- a branch, or another member that an operator stands for
abbrev pub Taken : Meaning → Meaning
Taken Renders scopes n o = After (Renders scopes n) (λ found m p. p ≡ worth m found) o

abbrev pub EvalRenders : Members → Meaning
EvalRenders ms scopes n o = After (ValueAt (codes "$eval") ms scopes n) (λ d m p. p ≡ worth m (Some d)) o

-- `Member` says what stands at a key; a branch that is not there is removed
abbrev pub branch_of : Document → List ℕ
branch_of d = if is_true d then codes "then" else codes "else"

abbrev pub IfRenders : Members → (List ℕ → Meaning) → Meaning
IfRenders ms Member scopes n o = After (ValueAt (codes "$if") ms scopes n) (λ d. Taken (Member (branch_of d)) scopes) o

-- the conditions that are true, in turn, behind those that were
abbrev pub AreTrue : List (List ℕ) → List (List ℕ) → List Document → ℕ → Outcome (List (List ℕ)) → Type 0
AreTrue found [] scopes n o = o ≡ given found n
AreTrue found (k ∷ ks) scopes n o = After (Evaluated k scopes n) (λ d m. AreTrue (found ++ (if is_true d then k ∷ [] else [])) ks scopes m) o

abbrev pub default_key : List ℕ
default_key = codes "$default"

-- the operand is a map as it is written, with conditions for keys; `Branch` says what stands in it at a key
abbrev pub conditions_of : Members → List (List ℕ)
conditions_of bs = filter (λ k. not (bytes_eq k default_key)) (keys_of bs)

-- `$switch`: all conditions come first, in rising order, and one of them may be true
abbrev pub OneTaken : (List ℕ → Meaning) → List (List ℕ) → Meaning
OneTaken Branch [] scopes n o = Taken (Branch default_key) scopes n o
OneTaken Branch (k ∷ []) scopes n o = Taken (Branch k) scopes n o
OneTaken Branch (k ∷ l ∷ ks) scopes n o = o ≡ faulted TwoBranches []

abbrev pub SwitchRenders : Option Document → (List ℕ → Meaning) → Meaning
SwitchRenders (Some (object bs)) Branch scopes n o = After (AreTrue [] (conditions_of bs) scopes n) (λ found. OneTaken Branch found scopes) o
SwitchRenders _ Branch scopes n o = o ≡ faulted WrongKind []

-- `$match`: the branches of the true conditions, in their order, without those that are removed
abbrev pub AllTaken : (List ℕ → Meaning) → List Document → List (List ℕ) → Meaning
AllTaken Branch done [] scopes n o = o ≡ worth n (Some (array (items_of done)))
AllTaken Branch done (k ∷ ks) scopes n o = After (Branch k scopes n) (λ found m. AllTaken Branch (done ++ kept found) ks scopes m) o

abbrev pub MatchRenders : Option Document → (List ℕ → Meaning) → Meaning
MatchRenders (Some (object bs)) Branch scopes n o = After (AreTrue [] (keys_of bs) scopes n) (λ found. AllTaken Branch [] found scopes) o
MatchRenders _ Branch scopes n o = o ≡ faulted WrongKind []
