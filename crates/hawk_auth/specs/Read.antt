-- What is read of an ext; for private clauses.
use Rattle.std.specs.Prelude.{ℕ, List, Option, Some, None}
use Rattle.hawk_auth.specs.declared.ext.Allowed.{Allowed}
use Rattle.hawk_auth.specs.declared.ext.Allowed.TheVariants.{Everything, Only, Off}

-- what an ext allows, or that it allows nothing
abbrev pub IsAllowedBy : (Option (List (List ℕ)) → Type 0) → Allowed → Type 0
IsAllowedBy Is Everything = Is None
IsAllowedBy Is (Only scopes) = Is (Some scopes.items)
IsAllowedBy Is Off = (allowed : Option (List (List ℕ))) → ¬ Is allowed
