-- The roles as they are kept, each with the scope that grants it, and what each has given so far.
use Rattle.std.specs.Prelude.{◌≡◌, ◌<◌, ◌⊎◌, ℕ, Bool, true, false, List, [], ◌∷◌, ◌++◌, length, get_or, map, Contains, string_bytes}
use Rattle.scope_sets.specs.Scopes.{star, Satisfies}
use Rattle.role_expand.specs.Roles.{RoleData, role_data, assume, EndsWithStar, GrantsWith}
use Rattle.role_expand.specs.declared.roles.KnownRole.{KnownRole}

-- the roles alone
abbrev pub known_data : List KnownRole → List RoleData
known_data known = map (λ k. role_data k.role) known

-- the role of that id and the scopes that may depend on the parameter
abbrev pub filled_data : KnownRole → RoleData
filled_data known = record { id = string_bytes known.role.id; scopes = known.filled }

-- the role of this id is granted to whoever has that scope
abbrev pub IsGranted : List ℕ → List ℕ → Type 0
IsGranted id held = ((¬ EndsWithStar id) × Satisfies held (assume ++ id))
    ⊎ ((front : List ℕ) × (parameter : List ℕ) × (id ≡ front ++ star ∷ []) × GrantsWith front held parameter)

-- the role of this id is granted to whoever has that scope, and this is one of its plain scopes
abbrev pub IsGivenPlain : List ℕ → List (List ℕ) → List ℕ → List ℕ → Type 0
IsGivenPlain id plain held s = IsGranted id held × Contains plain s

-- each scope of a list is found
abbrev pub AllFound : List (List ℕ) → List (List ℕ) → Type 0
AllFound scopes found = (s : List ℕ) → Contains scopes s → Contains found s

-- the plain scopes of each role that is marked are found
abbrev pub AreGiven : List KnownRole → List Bool → List (List ℕ) → Type 0
AreGiven roles given found = (place : ℕ) (d : KnownRole) → place < length roles → get_or given place false ≡ true → AllFound (get_or roles place d).plain found
