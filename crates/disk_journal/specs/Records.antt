-- What the bytes of a journal stand for. All rules are own.
use Rattle.std.specs.Prelude.{◌≡◌, ◌≢◌, ℕ, ◌+◌, ◌<◌, ◌≤◌, ◌^◌, ◌⊎◌, List, [], ◌∷◌, ◌++◌, length}
use Rattle.std.specs.Int.{w32, to_be_bytes}

-- a body behind its length, in four bytes with the greatest first
abbrev pub sized : List ℕ → List ℕ
sized body = to_be_bytes w32 (length body) ++ body

-- the open records of these bodies: each an open gate, the body's length and the body
abbrev pub records : List (List ℕ) → List ℕ
records [] = []
records (body ∷ bodies) = 165 ∷ (sized body ++ records bodies)

-- four bytes hold the length of each
abbrev pub AreSized : List (List ℕ) → Type 0
AreSized [] = Unit {0}
AreSized (body ∷ bodies) = (length body < 2 ^ 32) × AreSized bodies

-- Open records end here: before a gate that is not open, and where there is none also before nothing, or before an open gate with
-- fewer than five bytes behind it.
abbrev pub EndsBefore : List (List ℕ) → List ℕ → Type 0
EndsBefore bodies [] = bodies ≡ []
EndsBefore bodies (gate ∷ rest) = (gate ≢ 165) ⊎ ((bodies ≡ []) × (length rest < 5))

-- a file with this text before its journal opens to these bodies
pub record Opens (head file : List ℕ) (bodies : List (List ℕ)) : Type 0 where
  pub rest : List ℕ
  pub whole : file ≡ head ++ records bodies ++ rest
  pub sizes : AreSized bodies
  pub ends : EndsBefore bodies rest

-- Behind open records an open gate at this place has no whole record and gate byte behind it; a file that could be empty is not damaged.
pub record IsDamaged (head file : List ℕ) (place : ℕ) : Type 0 where
  pub bodies : List (List ℕ)
  pub rest : List ℕ
  pub whole : file ≡ head ++ records bodies ++ 165 ∷ rest
  pub sizes : AreSized bodies
  pub at : place ≡ length head + length (records bodies)
  pub broken : (body more : List ℕ) → length body < 2 ^ 32 → rest ≡ sized body ++ more → more ≡ []
  pub some : bodies ≡ [] → 5 ≤ length rest

-- a file is damaged at a place behind these bodies, its whole open records
abbrev pub IsDamagedBehind : List ℕ → List ℕ → List (List ℕ) → ℕ → Type 0
IsDamagedBehind head file bodies place = (damaged : IsDamaged head file place) × (bodies ≡ damaged.bodies)

-- the bodies, each with the place of its gate, from a place on
abbrev pub placed : ℕ → List (List ℕ) → List (ℕ × List ℕ)
placed at [] = []
placed at (body ∷ bodies) = (at, body) ∷ placed (at + 5 + length body) bodies
