-- What a caller may do, as the program tells of it.
use Rattle.std.specs.Prelude.{◌<◌, ◌^◌}
use Rattle.hawk_auth.specs.declared.check.AuthFault.{AuthFault}
use Rattle.hawk_auth.specs.declared.check.AuthFault.TheVariants.{Skew}
use Rattle.farm_asks.specs.declared.access.Access.{Access as Told}
use Rattle.farm_asks.specs.declared.access.Access.TheVariants.{Keeps, Makes, Refused as IsRefused}
use Rattle.farm_asks.specs.Access.{Access, Has, Refused}

-- the access that is told: the scopes that are borrowed, or were made, are those that the caller has
abbrev pub told : Told → Access
told (Keeps scopes) = Has scopes.now
told (Makes scopes) = Has scopes
told (IsRefused answer) = Refused answer

-- the seconds that a refusal tells are such as an `i64` has
abbrev pub HasSeconds : AuthFault → Type 0
HasSeconds (Skew ts now) = (ts < 2 ^ 63) × (now < 2 ^ 63)
HasSeconds fault = Unit {0}
