-- The rules of a farm file, and which of two faults is told first.
use Rattle.std.specs.Prelude.{◌≡◌, ℕ, ◌<◌, ◌⊎◌}
use Rattle.farm_files.specs.declared.fault.Table.{Table}
use Rattle.farm_files.specs.declared.fault.Table.TheVariants.{File, Farm, Role, Client, Hook}
use Rattle.farm_files.specs.declared.fault.Rule.{Rule}
use Rattle.farm_files.specs.declared.fault.Rule.TheVariants.{NotToml, UnknownKey, MissingKey, WrongKind, OutOfForm, RepeatedId, ParameterCycle, NotJson, TooLong}
use Rattle.farm_files.specs.declared.fault.Fault.{Fault}
use Rattle.farm_files.specs.declared.fault.RowFault.{RowFault}
use Rattle.farm_files.specs.declared.fault.RowFault.TheVariants as rows

-- the number of a rule, as docs/DEPARTURES.md lists them
abbrev pub rule_number : Rule → ℕ
rule_number NotToml = 1
rule_number UnknownKey = 2
rule_number MissingKey = 3
rule_number WrongKind = 4
rule_number OutOfForm = 5
rule_number RepeatedId = 6
rule_number ParameterCycle = 7
rule_number NotJson = 8
rule_number TooLong = 9

-- a rule that is broken at a place
abbrev pub fault_at : Table → ℕ → Rule → Fault
fault_at table row rule = record { table = table; row = row; rule = rule }

-- the order in which a file is judged: its length, that it is TOML, its tables, `[farm]`, the rows of `[[role]]`, the roles together, and the rows of `[[client]]` and of `[[hook]]`
abbrev pub turn : Table → Rule → ℕ
turn File TooLong = 0
turn File NotToml = 1
turn File _ = 2
turn Farm _ = 3
turn Role ParameterCycle = 5
turn Role _ = 4
turn Client _ = 6
turn Hook _ = 7

-- the first is told before the second: its turn comes before, or its row in one turn, or its rule's number in one row
abbrev pub IsBefore : Fault → Fault → Type 0
IsBefore f g =
    (turn f.table f.rule < turn g.table g.rule)
    ⊎ ((turn f.table f.rule ≡ turn g.table g.rule) × ((f.row < g.row) ⊎ ((f.row ≡ g.row) × (rule_number f.rule < rule_number g.rule))))

-- the fault that is told of those that there are
pub record IsFirst (Breaks : Fault → Type 0) (f : Fault) : Type 0 where
  pub breaks : Breaks f
  pub first : (g : Fault) → IsBefore g f → ¬ Breaks g

-- the rule that is told of those that one row breaks
pub record IsLeastRule (Breaks : Rule → Type 0) (rule : Rule) : Type 0 where
  pub breaks : Breaks rule
  pub least : (other : Rule) → rule_number other < rule_number rule → ¬ Breaks other

-- what a refused row tells: the least rule that it breaks
abbrev pub RefusesRow : (Rule → Type 0) → RowFault → Type 0
RefusesRow Breaks (rows.Breaks rule) = IsLeastRule Breaks rule
RefusesRow Breaks rows.NoMemory = Unit {0}
