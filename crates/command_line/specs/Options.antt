-- How words give the values of options, by the usual reading of `-` and `--`
-- (https://pubs.opengroup.org/onlinepubs/9799919799/basedefs/V1_chap12.html).
use Rattle.std.specs.Prelude.{◌≡◌, ◌⊎◌, ℕ, List, [], ◌∷◌, ◌++◌, codes}
use Rattle.command_line.specs.Words.{IsPlain}

-- the word may stand for a value as it is: it does not begin with `-`, or is `-` alone
abbrev pub IsValue : List ℕ → Type 0
IsValue word = IsPlain word ⊎ (word ≡ codes "-")

-- the words give the option of this name its value: behind `--name`, or behind `--name=`
abbrev pub GivesOption : List ℕ → List ℕ → List (List ℕ) → Type 0
GivesOption name value words =
    (IsValue value × (words ≡ (codes "--" ++ name) ∷ value ∷ [])) ⊎ (words ≡ (codes "--" ++ (name ++ (codes "=" ++ value))) ∷ [])

-- there are no words, or a last `--`
abbrev pub EndsOptions : List (List ℕ) → Type 0
EndsOptions words = (words ≡ []) ⊎ (words ≡ codes "--" ∷ [])
