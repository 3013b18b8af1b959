-- The lists of words that say `serve`: FARM and its options in any order, each once.
use Rattle.std.specs.Prelude.{◌≡◌, ◌⊎◌, ℕ, Bool, false, List, [], ◌∷◌, ◌++◌, codes, Option, Some, None, if◌then◌else◌}
use Rattle.std.specs.List.{list_any}
use Rattle.std.specs.Str.{bytes_eq}
use Rattle.command_line.specs.Options.{EndsOptions, GivesOption, IsValue}
use Rattle.command_line.specs.Service.{connections_said, workers_said}
use Rattle.command_line.specs.declared.service.Service.{Service}

-- a name, which is FARM or that of an option, and the value that is given under it
abbrev pub Given : Type 0
Given = List ℕ × List ℕ

-- an option of `serve`
abbrev pub IsServeOption : List ℕ → Type 0
IsServeOption name = (name ≡ codes "disk") ⊎ ((name ≡ codes "listen") ⊎ ((name ≡ codes "workers") ⊎ (name ≡ codes "connections")))

-- the words give this value under this name: FARM as it is, an option behind its name
abbrev pub GivesOne : Given → List (List ℕ) → Type 0
GivesOne given words =
    ((given.0 ≡ codes "FARM") × IsValue given.1 × (words ≡ given.1 ∷ [])) ⊎ (IsServeOption given.0 × GivesOption given.0 given.1 words)

-- the words give all this in its order; the last may be FARM behind `--`, and the end a `--` alone
abbrev pub GiveAll : List Given → List (List ℕ) → Type 0
GiveAll [] words = EndsOptions words
GiveAll (given ∷ more) words =
    ((more ≡ []) × (given.0 ≡ codes "FARM") × (words ≡ codes "--" ∷ given.1 ∷ []))
    ⊎ ((piece : List (List ℕ)) × (rest : List (List ℕ)) × (words ≡ piece ++ rest) × GivesOne given piece × GiveAll more rest)

-- something is given under this name
abbrev pub is_named : List ℕ → List Given → Bool
is_named name = list_any (λ given. bytes_eq given.0 name)

-- the first value that is given under this name
abbrev pub said : List ℕ → List Given → Option (List ℕ)
said name [] = None
said name (given ∷ more) = if bytes_eq given.0 name then Some given.1 else said name more

-- no name is given twice
abbrev pub AreApart : List Given → Type 0
AreApart [] = Unit {0}
AreApart (given ∷ more) = (is_named given.0 more ≡ false) × AreApart more

-- what is given is this farm file and this service: each that has to be there is, and the numbers are said or are the usual ones
pub record IsService (given : List Given) (farm : List ℕ) (service : Service) : Type 0 where
  pub farm_file : said (codes "FARM") given ≡ Some farm
  pub disk : said (codes "disk") given ≡ Some service.disk
  pub address : said (codes "listen") given ≡ Some service.listen
  pub workers : workers_said (said (codes "workers") given) ≡ Some service.workers
  pub connections : connections_said (said (codes "connections") given) ≡ Some service.connections

-- the words give this farm file and this service
abbrev pub GivesService : List ℕ → Service → List (List ℕ) → Type 0
GivesService farm service words = (given : List Given) × GiveAll given words × AreApart given × IsService given farm service
