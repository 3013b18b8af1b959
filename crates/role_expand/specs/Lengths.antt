-- How long a derivable scope may be.
use Rattle.std.specs.Prelude.{ℕ, ◌+◌, max, if◌then◌else◌, nat_eq, List, [], ◌∷◌, length, sum_by}
use Rattle.std.specs.List.{ends_with}
use Rattle.scope_sets.specs.Scopes.{star}
use Rattle.role_expand.specs.Roles.{RoleData}

-- the length of the longest of these scopes
abbrev pub longest_of : List (List ℕ) → ℕ
longest_of [] = 0
longest_of (s ∷ ss) = max (length s) (longest_of ss)

-- the length of the longest scope of a role
abbrev pub longest_listed : List RoleData → ℕ
longest_listed [] = 0
longest_listed (role ∷ roles) = max (longest_of role.scopes) (longest_listed roles)

-- the lengths of a role's scopes, added up, if its id ends with `*`
abbrev pub starred_length : RoleData → ℕ
starred_length role = if ends_with nat_eq role.id (star ∷ []) then sum_by length role.scopes else 0

-- the longest start or role scope, and the lengths of all scopes of roles whose ids end with `*`, and 1
abbrev pub length_bound : List RoleData → List (List ℕ) → ℕ
length_bound roles start = max (longest_of start) (longest_listed roles) + sum_by starred_length roles + 1
