-- What the rows of a table say, and which rules they break (this project's own format, in TOML 1.1).
use Rattle.std.specs.Prelude.{◌≡◌, ℕ, ◌<◌, false, List, [], take, map, Option, Some, None, slice_get, Any}
use Rattle.toml.specs.Data.{Data, array, table, Members, no_members}
use Rattle.farm_files.specs.declared.rows.TheConstants.{MOST_ROWS}
use Rattle.farm_files.specs.declared.fault.Rule.{Rule}
use Rattle.farm_files.specs.declared.fault.Rule.TheVariants.{UnknownKey, MissingKey, WrongKind, OutOfForm, RepeatedId, NotJson}
use Rattle.farm_files.specs.Values.{list_of, has_only}

-- a kind of rows: the known keys, when none is missing, when each value is of its kind, what a row says, of which form that has to be, its id, and when the JSON in it is
-- such as it has to be
pub record Kind (X : Type 0) : Type 1 where
  pub keys : List (List ℕ)
  pub HasKeys : Members → Type 0
  pub HasKinds : Members → Type 0
  pub says : Members → X
  pub HasForm : X → Type 0
  pub id_of : X → List ℕ
  pub HasJson : X → Type 0

-- what a row says; what is no table is told by a rule of its own
abbrev pub says_of : {X : Type 0} → Kind X → Data → X
says_of kind (table ms) = kind.says ms
says_of kind _ = kind.says no_members

-- the row is one of those that a table may have, and what it says is of its form
pub record HasRowForm {X : Type 0} (kind : Kind X) (row : ℕ) (said : X) : Type 0 where
  pub within : row < MOST_ROWS
  pub form : kind.HasForm said

-- the rules that a row breaks behind rows that say this; where a key or its kind is amiss, that rule is the lesser one
abbrev pub RowBreaks : {X : Type 0} → Kind X → List X → ℕ → Data → Rule → Type 0
RowBreaks kind earlier row (table ms) UnknownKey = has_only kind.keys ms ≡ false
RowBreaks kind earlier row (table ms) MissingKey = ¬ kind.HasKeys ms
RowBreaks kind earlier row (table ms) WrongKind = ¬ kind.HasKinds ms
RowBreaks kind earlier row (table ms) OutOfForm = ¬ HasRowForm kind row (kind.says ms)
RowBreaks kind earlier row (table ms) RepeatedId = Any (λ other. kind.id_of other ≡ kind.id_of (kind.says ms)) earlier
RowBreaks kind earlier row (table ms) NotJson = ¬ kind.HasJson (kind.says ms)
RowBreaks kind earlier row (table ms) _ = ⊥
RowBreaks kind earlier row _ WrongKind = Unit {0}
RowBreaks kind earlier row _ _ = ⊥

-- the rules that the row at a place breaks
abbrev pub RowAtBreaks : {X : Type 0} → Kind X → List Data → ℕ → Rule → Type 0
RowAtBreaks kind rows row rule = (d : Data) × (slice_get rows row ≡ Some d) × RowBreaks kind (map (says_of kind) (take row rows)) row d rule

-- the rows of a table
abbrev pub rows_in : Option Data → List Data
rows_in (Some (array ds)) = list_of ds
rows_in _ = []

-- what all rows say, in their order
abbrev pub said_in : {X : Type 0} → Kind X → Option Data → List X
said_in kind value = map (says_of kind) (rows_in value)

-- the rules that a table breaks at a row; what is no list of tables breaks one at row 0
abbrev pub RowsBreak : {X : Type 0} → Kind X → Option Data → ℕ → Rule → Type 0
RowsBreak kind None row rule = ⊥
RowsBreak kind (Some (array ds)) row rule = RowAtBreaks kind (list_of ds) row rule
RowsBreak kind (Some _) row rule = (row ≡ 0) × (rule ≡ WrongKind)
