-- The tokens of a route as the router has them, and which paths they take; for private clauses.
use Rattle.std.specs.Prelude.{ℕ, Bool, true, false, not, ◌&&◌, ◌==◌, nat_lt, List, [], ◌∷◌, ◌++◌, map, if◌then◌else◌}
use Rattle.matchit.specs.Rows.{param_token}
use Rattle.route_table.specs.Segments.{Segment, word, parameter}

-- the tokens of a part of a route
abbrev pub token_of : Segment → List ℕ
token_of (word w) = w
token_of parameter = param_token ∷ []

-- the tokens of the parts behind the first, each with the slash before it
abbrev pub more_tokens : List Segment → List ℕ
more_tokens [] = []
more_tokens (segment ∷ segments) = 47 ∷ token_of segment ++ more_tokens segments

-- the tokens of a route
abbrev pub tokens_of : List Segment → List ℕ
tokens_of [] = []
tokens_of (segment ∷ segments) = token_of segment ++ more_tokens segments

-- the tokens take the path; inside a parameter the next bytes up to a slash are its own
abbrev pub takes : Bool → List ℕ → List ℕ → Bool
takes false [] [] = true
takes false [] (b ∷ path) = false
takes false (x ∷ tokens) [] = false
takes false (x ∷ tokens) (b ∷ path) =
    if x == param_token then not (b == 47) && takes true tokens path else (x == b) && takes false tokens path
takes true [] [] = true
takes true [] (b ∷ path) = not (b == 47) && takes true [] path
takes true (x ∷ tokens) [] = false
takes true (x ∷ tokens) (b ∷ path) =
    if b == 47 then (x == b) && takes false tokens path else takes true (x ∷ tokens) path

-- a question mark for a byte that is no ASCII
abbrev pub masked_byte : ℕ → ℕ
masked_byte b = if nat_lt b 128 then b else 63

-- a path with a question mark for each such byte
abbrev pub masked : List ℕ → List ℕ
masked path = map masked_byte path
