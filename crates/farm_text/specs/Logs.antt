-- What an object has told so far, where it says so: a log that only grows.
use Rattle.std.specs.Prelude.{◌≡◌, List, ◌++◌, Option, Some, None}

-- A log that is told has grown by these values. One that is not told is not told later; an object may stop telling.
abbrev pub LogGrows : {A : Type 0} → Option (List A) → Option (List A) → List A → Type 0
LogGrows before None values = Unit {0}
LogGrows None (Some after) values = ⊥
LogGrows (Some before) (Some after) values = after ≡ before ++ values
