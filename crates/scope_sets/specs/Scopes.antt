-- Scopes, as the bytes of their texts, and sets of them (the Taskcluster reference, "Scopes").
use Rattle.std.specs.Prelude.{◌≡◌, ℕ, ◌≤◌, Bool, true, false, ◌&&◌, ◌||◌, ◌==◌, ◌⊎◌, List, [], ◌∷◌, ◌++◌, length}
use Rattle.std.specs.Cmp.Lexicographic.{slice_cmp}
use Rattle.std.specs.List.{AllPairs, list_any}
use Rattle.std.specs.Ordering.{nat_cmp}
use Rattle.std.specs.declared.cmp.Ordering.TheVariants.{Less}

-- the byte `*`
abbrev pub star : ℕ
star = 42

-- a printable ASCII character, which the space is too
abbrev pub IsPrintable : ℕ → Type 0
IsPrintable b = (32 ≤ b) × (b ≤ 126)

-- the two scopes are the same, or the first is some front and a `*`, and the second begins with that front
abbrev pub Satisfies : List ℕ → List ℕ → Type 0
Satisfies a b = (a ≡ b) ⊎ ((front : List ℕ) × (rest : List ℕ) × (a ≡ front ++ star ∷ []) × (b ≡ front ++ rest))

-- nothing follows
abbrev pub is_end : List ℕ → Bool
is_end [] = true
is_end (x ∷ xs) = false

-- the same as a test: the scopes agree up to the first one's end, or up to a `*` that ends it
unfoldable pub satisfies : List ℕ → List ℕ → Bool
satisfies [] b = is_end b
satisfies (x ∷ a) [] = x == star && is_end a
satisfies (x ∷ a) (y ∷ b) = (x == star && is_end a) || (x == y && satisfies a b)

-- the scope ends with `**`
abbrev pub EndsWithTwoStars : List ℕ → Type 0
EndsWithTwoStars s = (front : List ℕ) × (s ≡ front ++ star ∷ star ∷ [])

-- the form of a scope that is handed in: no longer than this many bytes, and not ending with `**` (this project's own rule)
pub record HasHandedInForm (longest : ℕ) (s : List ℕ) : Type 0 where
  pub short : length s ≤ longest
  pub plain : ¬ EndsWithTwoStars s

-- one scope stands before another in the order of bytes
abbrev pub IsBefore : List ℕ → List ℕ → Type 0
IsBefore a b = slice_cmp nat_cmp a b ≡ Less

-- each scope once, rising by bytes
abbrev pub IsRising : List (List ℕ) → Type 0
IsRising set = AllPairs IsBefore set

-- some scope of the set satisfies this one
abbrev pub covers : List (List ℕ) → List ℕ → Bool
covers set s = list_any (λ held. satisfies held s) set
