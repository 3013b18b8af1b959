-- When words have no reading.
use Rattle.std.specs.Prelude.{◌≡◌, ℕ, List, Option, None}
use Rattle.command_line.specs.Words.{reading}
use Rattle.command_line.specs.declared.reading.WordsFault.{WordsFault}
use Rattle.command_line.specs.declared.reading.WordsFault.TheVariants.{Usage, NoMemory}

-- a text for the user comes only where nothing is read; memory may run out anywhere
abbrev pub Refuses : {X : Type 0} → Option X → WordsFault → Type 0
Refuses read (Usage text) = read ≡ None
Refuses read NoMemory = Unit {0}

-- a text for the user comes only where the words have no reading
abbrev pub RefusesWords : List (List ℕ) → WordsFault → Type 0
RefusesWords words fault = Refuses (reading words) fault
