-- Lists of scopes as text, one scope a line (POSIX, Base Definitions: "Line", and "Incomplete Line" for a last one without its end).
use Rattle.std.specs.Prelude.{◌≡◌, ◌≢◌, ℕ, ◌⊎◌, List, [], ◌∷◌, ◌++◌, take, Some, slice_get, All}
use Rattle.std.specs.List.{flat_map}
use Rattle.scope_sets.specs.Scopes.{IsPrintable, HasHandedInForm}
use Rattle.scope_lines.specs.declared.lines.LineFault.{LineFault}
use Rattle.scope_lines.specs.declared.lines.LineFault.TheVariants.{BadLine, NoMemory}

-- the byte that ends a line
abbrev pub line_feed : ℕ
line_feed = 10

-- each line and a line feed, one after the other
abbrev pub lines_text : List (List ℕ) → List ℕ
lines_text lines = flat_map (λ line. line ++ line_feed ∷ []) lines

-- no byte is a line feed
abbrev pub IsOneLine : List ℕ → Type 0
IsOneLine line = All (λ b. b ≢ line_feed) line

-- the text is some lines, each ended by a line feed, and a last line that is not empty and has none
abbrev pub EndsWithIncompleteLine : List ℕ → List (List ℕ) → Type 0
EndsWithIncompleteLine text lines =
    (front : List (List ℕ)) × (last : List ℕ) × (lines ≡ front ++ last ∷ []) × (last ≢ []) × (text ≡ lines_text front ++ last)

-- the lines of a text: each is ended by a line feed, which a last one that is not empty may lack
pub record HasLines (text : List ℕ) (lines : List (List ℕ)) : Type 0 where
  pub apart : All IsOneLine lines
  pub whole : (text ≡ lines_text lines) ⊎ EndsWithIncompleteLine text lines

-- the bytes of a scope that may be handed in: printable ASCII, 4,096 at most, not ending with `**`
pub record IsScope (line : List ℕ) : Type 0 where
  pub printable : All IsPrintable line
  pub form : HasHandedInForm 4096 line

-- the lines of the text are these scopes
pub record SaysScopes (text : List ℕ) (scopes : List (List ℕ)) : Type 0 where
  pub in_text : HasLines text scopes
  pub each : All IsScope scopes

-- the line at this place is no scope, and each one before it is
pub record IsFirstBadLine (lines : List (List ℕ)) (place : ℕ) : Type 0 where
  pub line : List ℕ
  pub at : slice_get lines place ≡ Some line
  pub bad : ¬ IsScope line
  pub before : All IsScope (take place lines)

-- why a text is refused
abbrev pub RefusesLines : List ℕ → LineFault → Type 0
RefusesLines text (BadLine place) = (lines : List (List ℕ)) × HasLines text lines × IsFirstBadLine lines place
RefusesLines text NoMemory = Unit {0}
