-- What a farm file says, and which of its rules it breaks (this project's own format, in TOML 1.1).
use Rattle.std.specs.Prelude.{◌≡◌, ℕ, ℤ, pos, ◌<◌, ◌≤◌, ◌⊎◌, true, false, List, [], ◌∷◌, length, Some, All, IsUtf8, codes, unwrap_or}
use Rattle.scope_sets.specs.Scopes.{IsPrintable}
use Rattle.toml.specs.Data.{Data, table, Members, no_members, get_member}
use Rattle.toml.specs.Parse.{parse_document}
use Rattle.farm_files.specs.declared.settings.TheConstants.{LONGEST_HOST}
use Rattle.farm_files.specs.declared.fault.Table.{Table}
use Rattle.farm_files.specs.declared.fault.Table.TheVariants.{File, Farm, Role, Client, Hook}
use Rattle.farm_files.specs.declared.fault.Rule.{Rule}
use Rattle.farm_files.specs.declared.fault.Rule.TheVariants.{NotToml, UnknownKey, WrongKind, OutOfForm, TooLong}
use Rattle.farm_files.specs.declared.fault.Fault.{Fault}
use Rattle.farm_files.specs.Values.{has_only, is_text, is_whole, passes, text_or, whole_or, IsUpTo}
use Rattle.farm_files.specs.Clients.{client_rows}
use Rattle.farm_files.specs.Hooks.{hook_rows}
use Rattle.farm_files.specs.Roles.{RoleBreaks}
use Rattle.farm_files.specs.Rows.{RowsBreak}

-- the known tables, and the keys of `[farm]`
abbrev pub table_names : List (List ℕ)
table_names = codes "farm" ∷ codes "role" ∷ codes "client" ∷ codes "hook" ∷ []

-- the keys of `[farm]`
abbrev pub farm_keys : List (List ℕ)
farm_keys = codes "host" ∷ codes "port" ∷ codes "claim_timeout" ∷ codes "max_tasks" ∷ []

-- the value at each key of `[farm]`, or its default
abbrev pub host_in : Members → List ℕ
host_in ms = text_or (codes "localhost") (get_member (codes "host") ms)

-- the port, or 8080
abbrev pub port_in : Members → ℤ
port_in ms = whole_or (pos 8080) (get_member (codes "port") ms)

-- how many seconds a claim lasts, or 1200
abbrev pub claim_timeout_in : Members → ℤ
claim_timeout_in ms = whole_or (pos 1200) (get_member (codes "claim_timeout") ms)

-- how many tasks the farm takes, or 1000000
abbrev pub max_tasks_in : Members → ℤ
max_tasks_in ms = whole_or (pos 1000000) (get_member (codes "max_tasks") ms)

-- each value of `[farm]` is of its kind
pub record HasFarmKinds (ms : Members) : Type 0 where
  pub host : passes is_text (get_member (codes "host") ms) ≡ true
  pub port : passes is_whole (get_member (codes "port") ms) ≡ true
  pub claim_timeout : passes is_whole (get_member (codes "claim_timeout") ms) ≡ true
  pub max_tasks : passes is_whole (get_member (codes "max_tasks") ms) ≡ true

-- a host is 1 to so many bytes of printable ASCII
pub record HasHostForm (longest : ℕ) (host : List ℕ) : Type 0 where
  pub some : 0 < length host
  pub short : length host ≤ longest
  pub printable : All IsPrintable host

-- each value of `[farm]` is of its form and in its range
pub record HasFarmForms (ms : Members) : Type 0 where
  pub host : HasHostForm LONGEST_HOST (host_in ms)
  pub port : IsUpTo 65535 (port_in ms)
  pub claim_timeout : IsUpTo 86400 (claim_timeout_in ms)
  pub max_tasks : IsUpTo 1000000 (max_tasks_in ms)

-- the rules that `[farm]` breaks
abbrev pub FarmBreaks : Data → Rule → Type 0
FarmBreaks (table ms) UnknownKey = has_only farm_keys ms ≡ false
FarmBreaks (table ms) WrongKind = ¬ HasFarmKinds ms
FarmBreaks (table ms) OutOfForm = ¬ HasFarmForms ms
FarmBreaks (table ms) _ = ⊥
FarmBreaks _ WrongKind = Unit {0}
FarmBreaks _ _ = ⊥

-- a file without `[farm]` is as one where it is empty
abbrev pub farm_in : Members → Data
farm_in top = unwrap_or (get_member (codes "farm") top) (table no_members)

-- the keys of a table
abbrev pub members_in : Data → Members
members_in (table ms) = ms
members_in _ = no_members

-- the rules that the tables of a file break
abbrev pub TablesBreak : Members → Table → ℕ → Rule → Type 0
TablesBreak top File row UnknownKey = (row ≡ 0) × (has_only table_names top ≡ false)
TablesBreak top File row _ = ⊥
TablesBreak top Farm row rule = (row ≡ 0) × FarmBreaks (farm_in top) rule
TablesBreak top Role row rule = RoleBreaks (get_member (codes "role") top) row rule
TablesBreak top Client row rule = RowsBreak client_rows (get_member (codes "client") top) row rule
TablesBreak top Hook row rule = RowsBreak hook_rows (get_member (codes "hook") top) row rule

-- the bytes are a TOML document with these members
pub record IsToml (bytes : List ℕ) (top : Members) : Type 0 where
  pub text : IsUtf8 bytes
  pub members : parse_document bytes ≡ Some top

-- the rules that a file breaks as a whole, of which the longest is given
abbrev pub BytesBreak : ℕ → List ℕ → Rule → Type 0
BytesBreak longest bytes TooLong = longest < length bytes
BytesBreak longest bytes NotToml = (top : Members) → ¬ IsToml bytes top
BytesBreak longest bytes _ = ⊥

-- all faults of a file
abbrev pub Breaks : ℕ → List ℕ → Fault → Type 0
Breaks longest bytes f =
    ((f.table ≡ File) × (f.row ≡ 0) × BytesBreak longest bytes f.rule)
    ⊎ ((top : Members) × IsToml bytes top × TablesBreak top f.table f.row f.rule)
