-- What the parts of the reader tell one another: all of it follows from the definitions of a file's faults.
use Rattle.std.specs.Prelude.{◌≡◌, ℕ, ◌<◌, true, false, List, [], map, All, Some, String}
use Rattle.std.specs.BTreeSet.{BTreeSet}
use Rattle.std.specs.Global.{Global}
use Rattle.farm_text.specs.Document.{Document}
use Rattle.scope_sets.specs.Scopes.{IsPrintable}
use Rattle.role_expand.specs.Roles.{RoleData}
use Rattle.toml.specs.Data.{Data, Members}
use Rattle.farm_files.specs.declared.fault.Table.{Table}
use Rattle.farm_files.specs.declared.fault.Table.TheVariants.{Role}
use Rattle.farm_files.specs.declared.fault.Rule.{Rule}
use Rattle.farm_files.specs.declared.fault.Rule.TheVariants.{UnknownKey, MissingKey, WrongKind, OutOfForm, ParameterCycle, NotJson}
use Rattle.farm_files.specs.declared.fault.Fault.{Fault}
use Rattle.farm_files.specs.declared.fault.RowFault.{RowFault}
use Rattle.farm_files.specs.declared.fault.RowFault.TheVariants as rows
use Rattle.farm_files.specs.declared.fault.FileFault.{FileFault}
use Rattle.farm_files.specs.declared.fault.FileFault.TheVariants as faults
use Rattle.farm_files.specs.declared.hooks.Said.{Said}
use Rattle.farm_files.specs.declared.settings.Settings.{Settings}
use Rattle.farm_files.specs.Faults.{rule_number, fault_at, RefusesRow}
use Rattle.farm_files.specs.Values.{has_only, is_text, are_texts, text_or, texts_in, natural}
use Rattle.farm_files.specs.Files.{host_in, port_in, claim_timeout_in, max_tasks_in}
use Rattle.farm_files.specs.Hooks.{HookText, IsTemplateText}
use Rattle.farm_files.specs.Roles.{LiesOnCycle}
use Rattle.farm_files.specs.Rows.{Kind, RowBreaks}
use Rattle.farm_files.specs.Earlier.{AreIdsOf}

-- what the keys of `[farm]` set
abbrev pub settings_of : Members → Settings
settings_of ms =
    record { host = host_in ms; port = natural (port_in ms); claim_timeout = natural (claim_timeout_in ms); max_tasks = natural (max_tasks_in ms) }

-- the role that two values say
abbrev pub role_by : Data → Data → RoleData
role_by id scopes = record { id = text_or [] (Some id); scopes = texts_in (Some scopes) }

-- two values are those of a role, in printable ASCII
pub record AreRoleValues (id scopes : Data) : Type 0 where
  pub id_kind : is_text id ≡ true
  pub scopes_kind : are_texts scopes ≡ true
  pub printable : All (All IsPrintable) (texts_in (Some scopes))

-- what a row is refused for by the values of its two keys
abbrev pub RefusesValues : Data → Data → RowFault → Type 0
RefusesValues id scopes (rows.Breaks WrongKind) = ¬ ((is_text id ≡ true) × (are_texts scopes ≡ true))
RefusesValues id scopes (rows.Breaks OutOfForm) =
    (is_text id ≡ true) × (are_texts scopes ≡ true) × (¬ All (All IsPrintable) (texts_in (Some scopes)))
RefusesValues id scopes (rows.Breaks _) = ⊥
RefusesValues id scopes rows.NoMemory = Unit {0}

-- the keys of a row are those of this kind of rows, and their values are of their kinds
pub record HasRow {X : Type 0} (kind : Kind X) (ms : Members) : Type 0 where
  pub only : has_only kind.keys ms ≡ true
  pub keys : kind.HasKeys ms
  pub kinds : kind.HasKinds ms

-- what a row is refused for by its keys and their values
abbrev pub RefusesKeys : {X : Type 0} → Kind X → Members → RowFault → Type 0
RefusesKeys kind ms (rows.Breaks UnknownKey) = has_only kind.keys ms ≡ false
RefusesKeys kind ms (rows.Breaks MissingKey) = (has_only kind.keys ms ≡ true) × (¬ kind.HasKeys ms)
RefusesKeys kind ms (rows.Breaks WrongKind) = (has_only kind.keys ms ≡ true) × kind.HasKeys ms × (¬ kind.HasKinds ms)
RefusesKeys kind ms (rows.Breaks OutOfForm) = HasRow kind ms × (¬ kind.HasForm (kind.says ms))
RefusesKeys kind ms (rows.Breaks _) = ⊥
RefusesKeys kind ms rows.NoMemory = Unit {0}

-- what a row of `[[hook]]` says, as plain data
abbrev pub said_by : Said → HookText
said_by said = record { group = said.group.now; id = said.id.now; task = said.task.now }

-- what a text that has to be a template is refused for
abbrev pub RefusesJson : List ℕ → RowFault → Type 0
RefusesJson text (rows.Breaks NotJson) = (template : Document) → ¬ IsTemplateText text template
RefusesJson text (rows.Breaks _) = ⊥
RefusesJson text rows.NoMemory = Unit {0}

-- a row breaks no rule behind rows whose ids are these
abbrev pub IsSoundRow : {X : Type 0} → Kind X → BTreeSet (String Global) → ℕ → Data → Type 0
IsSoundRow {X} kind ids row d = (earlier : List X) → AreIdsOf (map kind.id_of earlier) ids → (rule : Rule) → ¬ RowBreaks kind earlier row d rule

-- what a row is refused for behind rows whose ids are these
abbrev pub RefusesRowBehind : {X : Type 0} → Kind X → BTreeSet (String Global) → ℕ → Data → RowFault → Type 0
RefusesRowBehind {X} kind ids row d fault = (earlier : List X) → AreIdsOf (map kind.id_of earlier) ids → RefusesRow (RowBreaks kind earlier row d) fault

-- the first row of a table's that break a rule, and its least rule
pub record IsFirstRow (of : Table) (Breaks : ℕ → Rule → Type 0) (f : Fault) : Type 0 where
  pub table_is : f.table ≡ of
  pub breaks : Breaks f.row f.rule
  pub earlier : (row : ℕ) (rule : Rule) → row < f.row → ¬ Breaks row rule
  pub least : (rule : Rule) → rule_number rule < rule_number f.rule → ¬ Breaks f.row rule

-- what rows are refused for: the first that breaks a rule
abbrev pub RefusesRows : Table → (ℕ → Rule → Type 0) → FileFault → Type 0
RefusesRows of Breaks (faults.Fault f) = IsFirstRow of Breaks f
RefusesRows of Breaks faults.NoMemory = Unit {0}

-- the first role that lies on a cycle
pub record IsFirstOnCycle (roles : List RoleData) (f : Fault) : Type 0 where
  pub is : f ≡ fault_at Role f.row ParameterCycle
  pub lies : LiesOnCycle roles f.row
  pub earlier : (row : ℕ) → row < f.row → ¬ LiesOnCycle roles row

-- what roles are refused for together: the first that lies on a cycle
abbrev pub RefusesCycle : List RoleData → FileFault → Type 0
RefusesCycle roles (faults.Fault f) = IsFirstOnCycle roles f
RefusesCycle roles faults.NoMemory = Unit {0}
