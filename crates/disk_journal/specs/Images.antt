-- What a stop may leave of a journal. All rules are own.
use Rattle.std.specs.Prelude.{◌≡◌, ◌≢◌, ℕ, ◌≤◌, ◌⊎◌, List, [], ◌∷◌, ◌++◌, length, Option, Some, None}
use Rattle.disk_journal.specs.Records.{records, sized, AreSized}

-- The file has these bodies, and behind them a closed gate, or where there is none at most one byte; or one more record is pending:
-- it is whole with the closed gate behind it, and its own gate is not open.
abbrev pub IsImage : List ℕ → List (List ℕ) → Option (List ℕ) → List ℕ → Type 0
IsImage head bodies None file = AreSized bodies
    × (((rest : List ℕ) × (file ≡ head ++ records bodies ++ 0 ∷ rest)) ⊎ ((bodies ≡ []) × ((rest : List ℕ) × (length rest ≤ 1) × (file ≡ head ++ rest))))
IsImage head bodies (Some body) file = AreSized (bodies ++ body ∷ [])
    × ((gate : ℕ) × (rest : List ℕ) × (gate ≢ 165) × (file ≡ head ++ records bodies ++ gate ∷ (sized body ++ 0 ∷ rest)))

-- The file has these bodies and a front of the others, of which the next one may be pending.
abbrev pub IsWithin : List ℕ → List (List ℕ) → List (List ℕ) → List ℕ → Type 0
IsWithin head bodies [] file = IsImage head bodies None file
IsWithin head bodies (body ∷ more) file = IsImage head bodies None file ⊎ IsImage head bodies (Some body) file ⊎ IsWithin head (bodies ++ body ∷ []) more file
