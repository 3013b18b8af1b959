-- What a query says of a name, as the code has it; for private clauses.
use Rattle.std.specs.Prelude.{◌≡◌, ℕ, ◌≤◌, List, [], ◌∷◌, length, Option, Some, None}
use Rattle.farm_asks.specs.declared.question.Parameter.TheVariants.{Limit, ContinuationToken}
use Rattle.api_routes.specs.declared.queries.Value.{Value}
use Rattle.api_routes.specs.declared.queries.Value.TheVariants.{Absent, Once, Repeated}
use Rattle.api_routes.specs.declared.queries.PageAsked.{PageAsked}
use Rattle.api_routes.specs.declared.queries.PageAsked.TheVariants.{Page, Bad}

-- it has these values: none, this one, or several
abbrev pub IsValue : List (List ℕ) → Value → Type 0
IsValue values Absent = values ≡ []
IsValue values (Once text) = values ≡ text.now ∷ []
IsValue values Repeated = 2 ≤ length values

-- what is asked for of a list, by how many tasks a page has at most, and the token
abbrev pub asked_of : Option ℕ → Option (Option (List ℕ)) → PageAsked
asked_of None token = Bad Limit
asked_of (Some limit) None = Bad ContinuationToken
asked_of (Some limit) (Some after) = Page (record { after = after; limit = limit })
