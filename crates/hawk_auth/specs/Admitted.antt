-- What the steps of a check answer; for private clauses.
use Rattle.std.specs.Prelude.{◌≡◌, List, [], ◌∷◌, Some, ℕ}
use Rattle.scope_sets.specs.Expressions.{Expression, missing}
use Rattle.role_expand.specs.Closures.{IsClosure, HasMoreDerivable}
use Rattle.role_expand.specs.Roles.{RoleData}
use Rattle.hawk_auth.specs.Access.{Access, Expands, Refused, Oversteps, TooMany, all_scopes}

-- the conditions where these scopes alone are asked for, and this is the client's own start list
abbrev pub within_conditions : List RoleData → List (List ℕ) → List (List ℕ) → List (Access → Type 0)
within_conditions roles own scopes =
    Refused (HasMoreDerivable 10_000 roles own) TooMany
    ∷ (λ access. (set : List (List ℕ)) × (lack : Expression) × IsClosure 10_000 roles own set
    × Refused (missing set (all_scopes scopes) ≡ Some lack) (Oversteps lack) access)
    ∷ Expands roles scopes ∷ []
