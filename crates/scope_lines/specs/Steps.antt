-- What the private steps of reading lines say.
use Rattle.std.specs.Prelude.{◌≡◌, ◌≢◌, ℕ, ◌⊎◌, List, [], ◌∷◌, ◌++◌}
use Rattle.scope_lines.specs.Lines.{line_feed, IsOneLine}

-- the text is a line, a line feed and the rest, or it is a line that is not empty and ends the text
pub record CutsLine (text line rest : List ℕ) : Type 0 where
  pub apart : IsOneLine line
  pub whole : (text ≡ line ++ line_feed ∷ rest) ⊎ ((text ≡ line) × (line ≢ []) × (rest ≡ []))
