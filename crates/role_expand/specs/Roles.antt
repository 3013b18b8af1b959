-- Roles as plain data: their form, and what they give to whoever has a scope (the Taskcluster reference, "Roles").
use Rattle.std.specs.Prelude.{◌≡◌, ℕ, true, ◌<◌, ◌≤◌, ◌⊎◌, List, [], ◌∷◌, ◌++◌, length, map, codes, string_bytes, All, Contains}
use Rattle.std.specs.List.{list_any}
use Rattle.std.specs.Str.{bytes_eq}
use Rattle.scope_sets.specs.Scopes.{star, IsPrintable, Satisfies, HasHandedInForm}
use Rattle.role_expand.specs.declared.roles.Role.{Role}

-- a role's id, and the scopes that it lists
pub record RoleData : Type 0 where
  pub id : List ℕ
  pub scopes : List (List ℕ)

-- the role as plain data
abbrev pub role_data : Role → RoleData
role_data role = record { id = string_bytes role.id; scopes = role.scopes.items }

-- roles as plain data
abbrev pub roles_data : List Role → List RoleData
roles_data roles = map role_data roles

-- what stands before a role's id in the scope that grants it
abbrev pub assume : List ℕ
assume = codes "assume:"

-- where a parameter goes in a scope of a role whose id ends with `*`
abbrev pub hole : List ℕ
hole = codes "<..>"

-- the text ends with `*`
abbrev pub EndsWithStar : List ℕ → Type 0
EndsWithStar s = (front : List ℕ) × (s ≡ front ++ star ∷ [])

-- the scope is this front, `<..>`, and this rest
abbrev pub SplitsAtHole : List ℕ → List ℕ → List ℕ → Type 0
SplitsAtHole scope before after = scope ≡ before ++ (hole ++ after)

-- `<..>` stands in it at most once, and not right after a `*` (this project's own rule)
pub record HasHoleForm (scope : List ℕ) : Type 0 where
  pub once : (before after before' after' : List ℕ) → SplitsAtHole scope before after → SplitsAtHole scope before' after' → before ≡ before'
  pub free : (before after : List ℕ) → SplitsAtHole scope before after → ¬ EndsWithStar before

-- the form of a role's id: printable ASCII, not empty, no longer than this
pub record HasIdForm (longest : ℕ) (id : List ℕ) : Type 0 where
  pub some : 0 < length id
  pub short : length id ≤ longest
  pub printable : All IsPrintable id

-- the form of a role; the longest id and scope are given
pub record HasRoleForm (longest : ℕ) (role : RoleData) : Type 0 where
  pub id_form : HasIdForm longest role.id
  pub scopes_form : All (HasHandedInForm longest) role.scopes
  pub holes_form : EndsWithStar role.id → All HasHoleForm role.scopes

-- a role whose id does not end with `*` gives its scopes as written to whoever satisfies `assume:` and its id
pub record GivesAsWritten (role : RoleData) (held s : List ℕ) : Type 0 where
  pub plain : ¬ EndsWithStar role.id
  pub granted : Satisfies held (assume ++ role.id)
  pub listed : Contains role.scopes s

-- a scope with a parameter in place of `<..>`; what follows `<..>` is dropped where the parameter ends with `*` (this project's own rule)
abbrev pub FillsHole : List ℕ → List ℕ → List ℕ → Type 0
FillsHole parameter scope s =
    ((before : List ℕ) × (after : List ℕ) × SplitsAtHole scope before after
    × ((EndsWithStar parameter × (s ≡ before ++ parameter)) ⊎ ((¬ EndsWithStar parameter) × (s ≡ before ++ (parameter ++ after)))))
    ⊎ (((before after : List ℕ) → ¬ SplitsAtHole scope before after) × (s ≡ scope))

-- where the id ends with `*`, none of these scopes has `<..>`
abbrev pub AreFree : List ℕ → List (List ℕ) → Type 0
AreFree id plain = (s before after : List ℕ) → EndsWithStar id → list_any (bytes_eq s) plain ≡ true → ¬ SplitsAtHole s before after

-- the role `front*` is granted with this parameter: by `assume:`, the front and the parameter, or with `*` by whatever satisfies `assume:front*`
abbrev pub GrantsWith : List ℕ → List ℕ → List ℕ → Type 0
GrantsWith front held parameter =
    (held ≡ assume ++ (front ++ parameter)) ⊎ (Satisfies held (assume ++ (front ++ star ∷ [])) × (parameter ≡ star ∷ []))

-- a role `front*` gives its scopes with the parameter filled in
pub record GivesFilled (role : RoleData) (held s : List ℕ) : Type 0 where
  pub front : List ℕ
  pub id_is : role.id ≡ front ++ star ∷ []
  pub parameter : List ℕ
  pub granted : GrantsWith front held parameter
  pub scope : List ℕ
  pub listed : Contains role.scopes scope
  pub filled : FillsHole parameter scope s

-- the role gives this scope to whoever has that one
abbrev pub Gives : RoleData → List ℕ → List ℕ → Type 0
Gives role held s = GivesAsWritten role held s ⊎ GivesFilled role held s
