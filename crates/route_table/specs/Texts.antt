-- The texts of routes as the router reads them; for private clauses.
use Rattle.std.specs.Prelude.{◌≡◌, ℕ, Bool, true, false, List, [], ◌∷◌, ◌==◌, map, Result, Ok, Err, if◌then◌else◌}
use Rattle.matchit.specs.Route.{Scan}
use Rattle.matchit.specs.declared.error.InsertError.{InsertError}
use Rattle.route_table.specs.Segments.{Segment, word, parameter, parts_of}

-- a part of a text: one that begins with a brace is a parameter
abbrev pub segment_in : List ℕ → Segment
segment_in [] = word []
segment_in (b ∷ bs) = if b == 123 then parameter else word (b ∷ bs)

-- the parts of a text
abbrev pub segments_in : List ℕ → List Segment
segments_in text = map segment_in (parts_of text)

-- a text is read as a route with these tokens
abbrev pub IsPattern : List ℕ → Result Scan InsertError → Type 0
IsPattern tokens (Ok scan) = scan.pattern ≡ tokens
IsPattern tokens (Err error) = ⊥

-- the part of a path that stands for a part of a route, where that is a parameter
abbrev pub picked_one : Bool → List ℕ → List (List ℕ)
picked_one true part = part ∷ []
picked_one false part = []

-- the parts of a path that stand where the route has parameters
abbrev pub picked : List Segment → List (List ℕ) → List (List ℕ)
picked [] parts = []
picked (segment ∷ segments) [] = []
picked (word w ∷ segments) (part ∷ parts) = picked segments parts
picked (parameter ∷ segments) (part ∷ parts) = part ∷ picked segments parts

-- a part of a text is a parameter
abbrev pub is_parameter : List ℕ → Bool
is_parameter [] = false
is_parameter (b ∷ bs) = b == 123
