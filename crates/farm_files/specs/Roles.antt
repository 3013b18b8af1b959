-- What the rows of `[[role]]` say, and which rules they break (this project's own format, in TOML 1.1).
use Rattle.std.specs.Prelude.{◌≡◌, ℕ, ◌⊎◌, true, List, [], ◌∷◌, Option, is_some, All, codes}
use Rattle.scope_sets.specs.Scopes.{IsPrintable}
use Rattle.scope_sets.specs.declared.scopes.TheConstants.{LONGEST_SCOPE}
use Rattle.role_expand.specs.Roles.{RoleData, HasRoleForm}
use Rattle.role_expand.specs.Cycles.{IsCycle}
use Rattle.toml.specs.Data.{Data, Members, get_member}
use Rattle.farm_files.specs.declared.fault.Rule.{Rule}
use Rattle.farm_files.specs.declared.fault.Rule.TheVariants.{ParameterCycle}
use Rattle.farm_files.specs.Rows.{Kind, RowsBreak, said_in}
use Rattle.farm_files.specs.Values.{is_text, are_texts, passes, text_or, texts_in}

-- the keys of a row
abbrev pub role_keys : List (List ℕ)
role_keys = codes "id" ∷ codes "scopes" ∷ []

-- the role that a row's keys say
abbrev pub role_in : Members → RoleData
role_in ms = record { id = text_or [] (get_member (codes "id") ms); scopes = texts_in (get_member (codes "scopes") ms) }

-- no key is missing
pub record HasRoleKeys (ms : Members) : Type 0 where
  pub id : is_some (get_member (codes "id") ms) ≡ true
  pub scopes : is_some (get_member (codes "scopes") ms) ≡ true

-- each value is of its kind
pub record HasRoleKinds (ms : Members) : Type 0 where
  pub id : passes is_text (get_member (codes "id") ms) ≡ true
  pub scopes : passes are_texts (get_member (codes "scopes") ms) ≡ true

-- what a row says is of a role's form, in printable ASCII
pub record HasRowRoleForm (role : RoleData) : Type 0 where
  pub printable : All (All IsPrintable) role.scopes
  pub form : HasRoleForm LONGEST_SCOPE role

-- the rows of `[[role]]`, in which no JSON stands
abbrev pub role_rows : Kind RoleData
role_rows = record { keys = role_keys; HasKeys = HasRoleKeys; HasKinds = HasRoleKinds; says = role_in; HasForm = HasRowRoleForm; id_of = λ role. role.id; HasJson = λ role. Unit {0} }

-- the roles of all rows, in their order
abbrev pub roles_in : Option Data → List RoleData
roles_in value = said_in role_rows value

-- a cycle of parameters goes through the role at a place
abbrev pub LiesOnCycle : List RoleData → ℕ → Type 0
LiesOnCycle roles row = (rest : List ℕ) × IsCycle roles (row ∷ rest)

-- the rules that `[[role]]` breaks, also those of all roles together
abbrev pub RoleBreaks : Option Data → ℕ → Rule → Type 0
RoleBreaks value row rule = RowsBreak role_rows value row rule ⊎ ((rule ≡ ParameterCycle) × LiesOnCycle (roles_in value) row)
