-- What evaluating comes to, and what it costs (this project's own).
use Rattle.std.specs.Prelude.{◌≡◌, ℕ, ◌+◌, nat_le, if◌then◌else◌, Result, Ok, Err}
use Rattle.farm_text.specs.Document.{Document}
use Rattle.jsone_values.specs.declared.faults.Fault.{Fault}
use Rattle.jsone_values.specs.Weights.{weight}

-- a value, and all that is paid by then; a fault; or that more than 1,000,000 would be paid
pub data Outcome : Type 0 where
  given : Document → ℕ → Outcome
  faulted : Fault → Outcome
  too_much : Outcome

-- a value is paid for by its weight
abbrev pub paid : ℕ → Document → Outcome
paid spent d = if nat_le (spent + weight d) 1_000_000 then given d (spent + weight d) else too_much

-- of a node: its fault comes before its cost
abbrev pub at_node : ℕ → Result Document Fault → Outcome
at_node spent (Ok d) = paid spent d
at_node spent (Err f) = faulted f

-- the value goes on to what follows; what is no value is the outcome of the whole
abbrev pub Then : (Document → ℕ → Outcome → Type 0) → Outcome → Outcome → Type 0
Then Follows (given d spent) o = Follows d spent o
Then Follows (faulted f) o = o ≡ faulted f
Then Follows too_much o = o ≡ too_much

-- a node with a result of this kind, and then what follows
abbrev pub AtNode : ℕ → (Result Document Fault → Type 0) → (Document → ℕ → Outcome → Type 0) → Outcome → Type 0
AtNode spent IsResult Follows o = (r : Result Document Fault) × IsResult r × Then Follows (at_node spent r) o
