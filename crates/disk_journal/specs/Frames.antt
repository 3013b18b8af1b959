-- The text of a frame.
use Rattle.std.specs.Prelude.{◌≡◌, ℕ, ◌-◌, ◌<◌, ◌^◌, List, [], ◌∷◌, ◌++◌, length, take, drop}
use Rattle.disk_journal.specs.Records.{sized}

-- the body that a text frames: all but the four bytes before it and the closed gate behind it
abbrev pub framed : List ℕ → List ℕ
framed text = take (length text - 5) (drop 4 text)

-- the text is that of the body that it frames
pub record IsFrame (text : List ℕ) : Type 0 where
  pub text_is : text ≡ sized (framed text) ++ 0 ∷ []
  pub size : length (framed text) < 2 ^ 32
