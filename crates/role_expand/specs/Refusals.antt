-- Why a list of roles is refused.
use Rattle.std.specs.Prelude.{◌≡◌, ◌≢◌, ℕ, ◌<◌, List, ◌∷◌, take, Some, slice_get, All, AllPairs}
use Rattle.role_expand.specs.Roles.{RoleData, HasRoleForm}
use Rattle.role_expand.specs.Cycles.{IsFirstCycle}
use Rattle.role_expand.specs.declared.refusals.BuildFault.{BuildFault}
use Rattle.role_expand.specs.declared.refusals.BuildFault.TheVariants.{BadRole, DuplicateRole, ParameterCycle, NoMemory}

-- the least place of a role that is off its form
pub record IsFirstBadRole (longest : ℕ) (roles : List RoleData) (i : ℕ) : Type 0 where
  pub role : RoleData
  pub at : slice_get roles i ≡ Some role
  pub bad : ¬ HasRoleForm longest role
  pub before : All (HasRoleForm longest) (take i roles)

-- j is the least place of a role whose id an earlier role has, and i is that role's place
pub record IsFirstRepeat (roles : List RoleData) (i j : ℕ) : Type 0 where
  pub earlier : i < j
  pub first : RoleData
  pub second : RoleData
  pub at_i : slice_get roles i ≡ Some first
  pub at_j : slice_get roles j ≡ Some second
  pub same : first.id ≡ second.id
  pub before : AllPairs (λ p q. p.id ≢ q.id) (take j roles)

-- why a list of roles is refused: the first of these that strikes
abbrev pub Refuses : ℕ → List RoleData → BuildFault → Type 0
Refuses longest roles (BadRole i) = IsFirstBadRole longest roles i
Refuses longest roles (DuplicateRole i j) = All (HasRoleForm longest) roles × IsFirstRepeat roles i j
Refuses longest roles (ParameterCycle places) =
    All (HasRoleForm longest) roles × AllPairs (λ p q. p.id ≢ q.id) roles
    × ((i : ℕ) × (rest : List ℕ) × (places.items ≡ i ∷ rest) × IsFirstCycle roles i rest)
Refuses longest roles NoMemory = Unit {0}

-- two refusals are the same, or one of them is want of memory
abbrev pub IsSameRefusal : BuildFault → BuildFault → Type 0
IsSameRefusal (BadRole i) (BadRole k) = i ≡ k
IsSameRefusal (DuplicateRole i j) (DuplicateRole k l) = (i ≡ k) × (j ≡ l)
IsSameRefusal (ParameterCycle places) (ParameterCycle others) = places.items ≡ others.items
IsSameRefusal NoMemory fault = Unit {0}
IsSameRefusal fault NoMemory = Unit {0}
IsSameRefusal (BadRole i) (DuplicateRole k l) = ⊥
IsSameRefusal (BadRole i) (ParameterCycle others) = ⊥
IsSameRefusal (DuplicateRole i j) (BadRole k) = ⊥
IsSameRefusal (DuplicateRole i j) (ParameterCycle others) = ⊥
IsSameRefusal (ParameterCycle places) (BadRole k) = ⊥
IsSameRefusal (ParameterCycle places) (DuplicateRole k l) = ⊥
