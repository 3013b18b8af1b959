-- The lists of words that say a command.
use Rattle.std.specs.Prelude.{◌≡◌, ◌⊎◌, ℕ, List, [], ◌∷◌, ◌++◌, codes, Option, Some, None}
use Rattle.command_line.specs.Options.{EndsOptions, GivesOption, IsValue}
use Rattle.command_line.specs.ServeForms.{GivesService}
use Rattle.command_line.specs.Words.{name_of}
use Rattle.command_line.specs.declared.command.Work.{Work}
use Rattle.command_line.specs.declared.command.Work.TheVariants.{Answer, Expand, Check, Serve}

-- the words give this one value: as it is, after `--`, or before a last `--`
abbrev pub GivesValue : List ℕ → List (List ℕ) → Type 0
GivesValue value words =
    (IsValue value × (words ≡ value ∷ [])) ⊎ ((words ≡ codes "--" ∷ value ∷ []) ⊎ (IsValue value × (words ≡ value ∷ codes "--" ∷ [])))

-- the words give the disk
abbrev pub GivesDisk : List ℕ → List (List ℕ) → Type 0
GivesDisk disk words = GivesOption (codes "disk") disk words

-- the words give the disk and then the farm file, or the farm file and then the disk
abbrev pub GivesBoth : List ℕ → List ℕ → List (List ℕ) → Type 0
GivesBoth farm disk words =
    (given : List (List ℕ)) × (rest : List (List ℕ)) × GivesDisk disk given
    × (((words ≡ given ++ rest) × GivesValue farm rest) ⊎ (IsValue farm × (words ≡ farm ∷ given ++ rest) × EndsOptions rest))

-- the words give the farm file, and the disk where there is one
abbrev pub Gives : List ℕ → Option (List ℕ) → List (List ℕ) → Type 0
Gives farm None words = GivesValue farm words
Gives farm (Some disk) words = GivesBoth farm disk words

-- the words give what this work is done over
abbrev pub GivesWork : List ℕ → Work → List (List ℕ) → Type 0
GivesWork farm (Answer disk) words = Gives farm disk words
GivesWork farm Expand words = GivesValue farm words
GivesWork farm (Check disk) words = Gives farm disk words
GivesWork farm (Serve service) words = GivesService farm service words

-- the words are the name of this work, and then give what it is done over
abbrev pub SaysWork : List ℕ → Work → List (List ℕ) → Type 0
SaysWork farm work [] = ⊥
SaysWork farm work (first ∷ rest) = (first ≡ name_of work) × GivesWork farm work rest

-- the words are `render`, alone or with a last `--`
abbrev pub SaysRender : List (List ℕ) → Type 0
SaysRender [] = ⊥
SaysRender (first ∷ rest) = (first ≡ codes "render") × EndsOptions rest
