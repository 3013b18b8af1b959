-- The scopes that can be derived from a start list (the Taskcluster reference, "Roles": expansion).
use Rattle.std.specs.Prelude.{◌≢◌, ℕ, ◌<◌, ◌≤◌, ◌⊎◌, List, [], ◌∷◌, length, Contains, AllPairs}
use Rattle.scope_sets.specs.Scopes.{IsRising}
use Rattle.role_expand.specs.Roles.{RoleData, Gives}
use Rattle.role_expand.specs.declared.expansion.ExpandFault.{ExpandFault}
use Rattle.role_expand.specs.declared.expansion.ExpandFault.TheVariants.{TooMany, NoMemory}

-- some role gives this scope to whoever has that one
abbrev pub GivenBy : List RoleData → List ℕ → List ℕ → Type 0
GivenBy roles held s = (role : RoleData) × Contains roles role × Gives role held s

-- a derivation, the last scope first: each scope stands in the start list, or is given to whoever has an earlier one
abbrev pub IsDerivation : List RoleData → List (List ℕ) → List (List ℕ) → Type 0
IsDerivation roles start [] = Unit {0}
IsDerivation roles start (s ∷ earlier) =
    (Contains start s ⊎ ((held : List ℕ) × Contains earlier held × GivenBy roles held s)) × IsDerivation roles start earlier

-- some derivation ends with the scope
abbrev pub Derivable : List RoleData → List (List ℕ) → List ℕ → Type 0
Derivable roles start s = (earlier : List (List ℕ)) × IsDerivation roles start (s ∷ earlier)

-- the derivable scopes, rising by bytes, each once, where there are at most so many
pub record IsClosure (most : ℕ) (roles : List RoleData) (start set : List (List ℕ)) : Type 0 where
  pub rising : IsRising set
  pub derived : (s : List ℕ) → Contains set s → Derivable roles start s
  pub whole : (s : List ℕ) → Derivable roles start s → Contains set s
  pub few : length set ≤ most

-- each element differs from the others
abbrev pub IsEachOnce : {X : Type 0} → List X → Type 0
IsEachOnce xs = AllPairs (λ x y. x ≢ y) xs

-- there are more derivable scopes than that
pub record HasMoreDerivable (most : ℕ) (roles : List RoleData) (start : List (List ℕ)) : Type 0 where
  pub some : List (List ℕ)
  pub once : IsEachOnce some
  pub derived : (s : List ℕ) → Contains some s → Derivable roles start s
  pub many : most < length some

-- all derivable scopes, each once, in any order, where there are at most so many
pub record IsAllDerivable (most : ℕ) (roles : List RoleData) (start found : List (List ℕ)) : Type 0 where
  pub once : IsEachOnce found
  pub derived : (s : List ℕ) → Contains found s → Derivable roles start s
  pub whole : (s : List ℕ) → Derivable roles start s → Contains found s
  pub few : length found ≤ most

-- what a refused expansion says
abbrev pub FailsToExpand : ℕ → List RoleData → List (List ℕ) → ExpandFault → Type 0
FailsToExpand most roles start TooMany = HasMoreDerivable most roles start
FailsToExpand most roles start NoMemory = Unit {0}
