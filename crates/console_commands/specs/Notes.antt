-- What may be told of an end.
use Rattle.std.specs.Prelude.{◌≡◌, ℕ, ◌⊎◌, List, ◌++◌, All, codes}
use Rattle.scope_sets.specs.Scopes.{IsPrintable}
use Rattle.plain_text.specs.Plain.{IsPlain}
use Rattle.console_commands.specs.declared.status.Status.{Status}
use Rattle.console_commands.specs.declared.status.Status.TheVariants.{Usage}
use Rattle.console_commands.specs.Status.{front_of, line_of}

-- one line that begins so, and has printable words more
pub record IsOneLine (front line : List ℕ) : Type 0 where
  pub words : List ℕ
  pub printable : All IsPrintable words
  pub line_is : line ≡ front ++ (words ++ codes "\n")

-- A text may be told of a run that ended so: the line of its status, or one that begins as its status has it and says more. How to use the program may take some lines.
abbrev pub IsLineOf : Status → List ℕ → Type 0
IsLineOf Usage line = (line ≡ line_of Usage) ⊎ All IsPlain line
IsLineOf status line = (line ≡ line_of status) ⊎ IsOneLine (front_of status) line
