-- What is kept of a start list over roles.
use Rattle.std.specs.Prelude.{ℕ, List}
use Rattle.role_expand.specs.Closures.{IsClosure, HasMoreDerivable}
use Rattle.role_expand.specs.Roles.{RoleData}
use Rattle.role_expand.specs.declared.expansion.TheConstants.{MOST_SCOPES}
use Rattle.farm_asks.specs.declared.grants.Closure.{Closure}
use Rattle.farm_asks.specs.declared.grants.Closure.TheVariants.{Whole, TooMany}

-- what is kept of a start list: its closure, or that more scopes are derivable than a closure may have
abbrev pub IsKeptOf : List RoleData → List (List ℕ) → Closure → Type 0
IsKeptOf roles start (Whole scopes) = IsClosure MOST_SCOPES roles start scopes
IsKeptOf roles start TooMany = HasMoreDerivable MOST_SCOPES roles start
