-- What the private steps of an expansion add to the list of the scopes found so far.
use Rattle.std.specs.Prelude.{◌≡◌, ℕ, ◌<◌, ◌≤◌, ◌⊎◌, List, [], ◌∷◌, ◌++◌, length, Contains, Some, slice_get}
use Rattle.scope_sets.specs.Scopes.{star, Satisfies}
use Rattle.role_expand.specs.Roles.{RoleData, assume, FillsHole, EndsWithStar, Gives}
use Rattle.role_expand.specs.Closures.{IsEachOnce}
use Rattle.role_expand.specs.declared.expansion.ExpandFault.{ExpandFault}
use Rattle.role_expand.specs.declared.expansion.ExpandFault.TheVariants.{TooMany, NoMemory}

-- the list has gained exactly the scopes with P that it lacked, at its end, and is no longer than `most`
pub record Gains (most : ℕ) (P : List ℕ → Type 0) (old new : List (List ℕ)) : Type 0 where
  pub since : List (List ℕ)
  pub is : new ≡ old ++ since
  pub only : (s : List ℕ) → Contains since s → P s
  pub all : (s : List ℕ) → P s → Contains new s
  pub once : IsEachOnce old → IsEachOnce new
  pub few : length old ≤ most → length new ≤ most

-- with the scopes with P there would be more than `most`
pub record Overflows (most : ℕ) (P : List ℕ → Type 0) (old : List (List ℕ)) : Type 0 where
  pub some : List (List ℕ)
  pub once : IsEachOnce old → IsEachOnce some
  pub only : (s : List ℕ) → Contains some s → Contains old s ⊎ P s
  pub many : most < length some

-- what a failed step says
abbrev pub FailsToGain : ℕ → (List ℕ → Type 0) → List (List ℕ) → ExpandFault → Type 0
FailsToGain most P old TooMany = Overflows most P old
FailsToGain most P old NoMemory = Unit {0}

-- some listed scope gives s with this parameter
abbrev pub IsFilledFrom : List (List ℕ) → List ℕ → List ℕ → Type 0
IsFilledFrom scopes parameter s = (scope : List ℕ) × Contains scopes scope × FillsHole parameter scope s

-- what stays of the text after `<..>`: nothing where the parameter ends with `*`
abbrev pub KeepsAfter : List ℕ → List ℕ → List ℕ → Type 0
KeepsAfter parameter after rest = (EndsWithStar parameter × (rest ≡ [])) ⊎ ((¬ EndsWithStar parameter) × (rest ≡ after))

-- what three parts of a role's giving add: its scopes as written, with the parameter of the scope that is held, and with `*`
abbrev pub IsGrantedAsWritten : List ℕ → List ℕ → List (List ℕ) → List ℕ → Type 0
IsGrantedAsWritten held grant scopes s = Satisfies held grant × Contains scopes s

-- the same for a role granted by `assume:` and its front
abbrev pub IsGrantedByFront : List ℕ → List ℕ → List (List ℕ) → List ℕ → Type 0
IsGrantedByFront held front scopes s = (parameter : List ℕ) × (held ≡ assume ++ (front ++ parameter)) × IsFilledFrom scopes parameter s

-- the same for a role granted with the parameter `*`
abbrev pub IsGrantedWithStar : List ℕ → List ℕ → List (List ℕ) → List ℕ → Type 0
IsGrantedWithStar held grant scopes s = Satisfies held grant × IsFilledFrom scopes (star ∷ []) s

-- the role at a place gives this scope to whoever has that one
abbrev pub GivenAt : List RoleData → List ℕ → ℕ → List ℕ → Type 0
GivenAt roles held place s = (role : RoleData) × (slice_get roles place ≡ Some role) × Gives role held s

-- the role at one of these places does
abbrev pub GivenAtSome : List RoleData → List ℕ → List ℕ → List ℕ → Type 0
GivenAtSome roles held places s = (place : ℕ) × Contains places place × GivenAt roles held place s
