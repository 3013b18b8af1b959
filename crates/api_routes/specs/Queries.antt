-- What the query of a target says (RFC 3986, section 3.4; how it is cut is this project's profile, and nothing in it is decoded).
use Rattle.std.specs.Prelude.{ℕ, ◌==◌, decimal, bytes_eq, List, [], ◌∷◌, map, filter, find, Option, Some, None, option_map}
use Rattle.std.specs.List.{before_first, after_first, slice_split, range_with_len}
use Rattle.farm_text.specs.Slug.{slug_of}

-- the query is cut at each `&`
abbrev pub pieces_of : List ℕ → List (List ℕ)
pieces_of query = slice_split (λ b. b == 38) query

-- and a piece at its first `=`: a name, and its value, which is empty without one
abbrev pub name_in : List ℕ → List ℕ
name_in piece = before_first (λ b. b == 61) piece

abbrev pub value_in : List ℕ → List ℕ
value_in piece = after_first (λ b. b == 61) piece

-- the values that some pieces have for a name
abbrev pub values_in : List ℕ → List (List ℕ) → List (List ℕ)
values_in name pieces = map value_in (filter (λ piece. bytes_eq (name_in piece) name) pieces)

-- those of a query
abbrev pub values_of : List ℕ → List ℕ → List (List ℕ)
values_of name query = values_in name (pieces_of query)

-- how many tasks a page has at most: 1,000 where nothing is said; 1 to 1,000 as it is said once, without a leading zero
unfoldable pub limit_of : List (List ℕ) → Option ℕ
limit_of [] = Some 1000
limit_of (text ∷ []) = find (λ limit. bytes_eq (decimal limit) text) (range_with_len 1 1000)
limit_of (text ∷ other ∷ more) = None

-- the token of a page, if there is one: an id that is said once
unfoldable pub token_of : List (List ℕ) → Option (Option (List ℕ))
token_of [] = Some None
token_of (text ∷ []) = option_map (λ id. Some id) (slug_of text)
token_of (text ∷ other ∷ more) = None
