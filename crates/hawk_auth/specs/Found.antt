-- What is found of a name among attributes; for private clauses.
use Rattle.std.specs.Prelude.{◌≡◌, ℕ, ◌<◌, List, [], ◌∷◌, length, Some, None}
use Rattle.hawk_auth.specs.Header.{IsOptional}
use Rattle.hawk_auth.specs.declared.header.Found.{Found}
use Rattle.hawk_auth.specs.declared.header.Found.TheVariants.{Never, Once, Again}
use Rattle.hawk_auth.specs.declared.header.Optional.{Optional}
use Rattle.hawk_auth.specs.declared.header.Optional.TheVariants.{Absent, Given, Repeated}

-- how many values there are: none, one, or more
abbrev pub IsFound : List (List ℕ) → Found → Type 0
IsFound values Never = values ≡ []
IsFound values (Once v) = values ≡ v.now ∷ []
IsFound values Again = 1 < length values

-- at most one value, an empty one as none; or more
abbrev pub IsOptionalFound : List (List ℕ) → Optional → Type 0
IsOptionalFound values Absent = IsOptional values None
IsOptionalFound values (Given v) = IsOptional values (Some v.now)
IsOptionalFound values Repeated = 1 < length values
