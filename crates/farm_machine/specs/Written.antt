-- The record of what a call changes: its text, which is read again where some document says the definition of a task that it makes.
use Rattle.std.specs.Prelude.{ℕ, List, Option, Some, None}
use Rattle.task_types.specs.declared.change.Change.{Change}
use Rattle.farm_record.specs.Records.{IsSpelled, IsRecord, IsSaid}
use Rattle.task_index.specs.Plans.{Planned}

-- the text is what is written of a change, from which it can be read where some document says it
pub record IsWritten (change : Change) (text : List ℕ) : Type 0 where
  pub spelled : IsSpelled change text
  pub recorded : IsSaid change.kind → IsRecord change text

-- where a change is planned its text is there, and else none is
abbrev pub AreWritten : Option Planned → Option (List ℕ) → Type 0
AreWritten None None = Unit {0}
AreWritten (Some plan) (Some text) = IsWritten plan.change text
AreWritten plan text = ⊥

-- the same of its record
abbrev pub AreRecorded : Option Planned → Option (List ℕ) → Type 0
AreRecorded None None = Unit {0}
AreRecorded (Some plan) (Some text) = IsRecord plan.change text
AreRecorded plan text = ⊥
