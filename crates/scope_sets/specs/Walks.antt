-- What a walk along the bytes of a scope says of the scopes of a set.
use Rattle.std.specs.Prelude.{◌≡◌, ℕ, suc, List, [], ◌∷◌, ◌++◌, drop}

-- the text begins with this front
abbrev pub HasFront : List ℕ → List ℕ → Type 0
HasFront front s = (rest : List ℕ) × (s ≡ front ++ rest)

-- the place of a text in the order of bytes by its first byte alone: 0 if there is none, and else that byte and 1
abbrev pub rank_of : List ℕ → ℕ
rank_of [] = 0
rank_of (x ∷ xs) = suc x

-- the same by the byte at a place
abbrev pub rank_at : ℕ → List ℕ → ℕ
rank_at n text = rank_of (drop n text)
