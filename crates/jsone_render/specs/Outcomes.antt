-- What rendering comes to, and what it costs (this project's own).
use Rattle.std.specs.Prelude.{◌≡◌, ℕ, ◌+◌, nat_le, if◌then◌else◌, List, [], ◌∷◌, ◌++◌, Option, Some, None, Result, Ok, Err}
use Rattle.farm_text.specs.Document.{Document, null}
use Rattle.jsone_values.specs.declared.faults.Fault.{Fault}
use Rattle.jsone_values.specs.Weights.{weight}

-- what is found, and all that is paid by then; a fault, and the pointer (RFC 6901) of the node whose own it is; or that more than 1,000,000 would be paid
pub data Outcome (A : Type 0) : Type 0 where
  given : A → ℕ → Outcome A
  faulted : Fault → List ℕ → Outcome A
  too_much : Outcome A

abbrev pub pay : {A : Type 0} → ℕ → ℕ → A → Outcome A
pay spent price x = if nat_le (spent + price) 1_000_000 then given x (spent + price) else too_much

-- an operator costs the weight of its value, and 1 where it is removed
abbrev pub price_of : Option Document → ℕ
price_of (Some d) = weight d
price_of None = 1

abbrev pub worth : ℕ → Option Document → Outcome (Option Document)
worth spent found = pay spent (price_of found) found

-- its own fault comes before its cost
abbrev pub at_operator : ℕ → Result (Option Document) Fault → Outcome (Option Document)
at_operator spent (Ok found) = worth spent found
at_operator spent (Err f) = faulted f []

-- the same of a value, which is not removed
abbrev pub as_found : Result Document Fault → Result (Option Document) Fault
as_found (Ok d) = Ok (Some d)
as_found (Err f) = Err f

-- below a step of the pointer
abbrev pub under : {A : Type 0} → List ℕ → Outcome A → Outcome A
under step (given x n) = given x n
under step (faulted f path) = faulted f (47 ∷ (step ++ path))
under step too_much = too_much

-- what was found goes on to what follows; anything else is the outcome of the whole
abbrev pub Then : {A B : Type 0} → (A → ℕ → Outcome B → Type 0) → Outcome A → Outcome B → Type 0
Then Follows (given x n) o = Follows x n o
Then Follows (faulted f path) o = o ≡ faulted f path
Then Follows too_much o = o ≡ too_much

-- an outcome of this kind, and then what follows
abbrev pub After : {A B : Type 0} → (Outcome A → Type 0) → (A → ℕ → Outcome B → Type 0) → Outcome B → Type 0
After {A} {B} IsOutcome Follows o = (p : Outcome A) × IsOutcome p × Then Follows p o

-- what is removed is null where a value is asked for, and left out where values are gathered
abbrev pub or_null : Option Document → Document
or_null (Some d) = d
or_null None = null

abbrev pub kept : Option Document → List Document
kept (Some d) = d ∷ []
kept None = []

-- what a template comes to, where these maps bind names (each hides those before it) and so much was paid before
abbrev pub Meaning : Type 1
Meaning = List Document → ℕ → Outcome (Option Document) → Type 0

-- an operand whose value is asked for
abbrev pub Operand : {A : Type 0} → Meaning → List Document → ℕ → (Document → ℕ → Outcome A → Type 0) → Outcome A → Type 0
Operand Renders scopes n Follows o = After (Renders scopes n) (λ found m. Follows (or_null found) m) o
