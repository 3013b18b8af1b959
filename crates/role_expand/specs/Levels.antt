-- What the private steps of the search for a cycle say.
use Rattle.std.specs.Prelude.{◌≡◌, ◌≢◌, ℕ, zero, suc, ◌+◌, ◌<◌, ◌≤◌, false, List, [], ◌∷◌, length, slice_index, Contains}
use Rattle.std.specs.Cmp.Lexicographic.{slice_cmp}
use Rattle.std.specs.Ordering.{nat_cmp, is_gt}
use Rattle.role_expand.specs.Roles.{RoleData}
use Rattle.role_expand.specs.Cycles.{EdgeAt, IsWalk}

-- how many of these are 0
abbrev pub zeros : List ℕ → ℕ
zeros [] = 0
zeros (zero ∷ xs) = zeros xs + 1
zeros (suc n ∷ xs) = zeros xs

-- an edge leads from the place to one of these
abbrev pub LeadsInto : List RoleData → List ℕ → ℕ → Type 0
LeadsInto roles level from = (to : ℕ) × Contains level to × EdgeAt roles from to

-- the places below a bound that had no number and lead into the level now have this one, and they alone are the next level
pub record IsNextLevel (roles : List RoleData) (level : List ℕ) (count bound : ℕ) (old new next : List ℕ) : Type 0 where
  pub len : length new ≡ length old
  pub kept : (k : ℕ) → slice_index old k ≢ 0 → slice_index new k ≡ slice_index old k
  pub later : (k : ℕ) → bound ≤ k → slice_index new k ≡ slice_index old k
  pub met : (k : ℕ) → k < bound → slice_index old k ≡ 0 → LeadsInto roles level k → slice_index new k ≡ count
  pub found : (k : ℕ) → slice_index old k ≡ 0 → slice_index new k ≢ 0 → LeadsInto roles level k × (slice_index new k ≡ count)
  pub next_is : (k : ℕ) → Contains next k → (k < bound) × (slice_index old k ≡ 0) × (slice_index new k ≡ count)
  pub next_all : (k : ℕ) → k < bound → slice_index old k ≡ 0 → slice_index new k ≡ count → Contains next k
  pub left : zeros new + length next ≡ zeros old

-- for each place the least number of edges of a walk to the target, or 0 where there is none
pub record AreSteps (roles : List RoleData) (target : ℕ) (steps : List ℕ) : Type 0 where
  pub len : length steps ≡ length roles
  pub some : (k : ℕ) → slice_index steps k ≢ 0 → (walk : List ℕ) × IsWalk roles k walk target × (suc (length walk) ≡ slice_index steps k)
  pub least : (k : ℕ) (walk : List ℕ) → IsWalk roles k walk target → (slice_index steps k ≢ 0) × (slice_index steps k ≤ suc (length walk))

-- a shortest walk to the target, and of these the first by its places
pub record IsLeastWalk (roles : List RoleData) (target from : ℕ) (rest : List ℕ) : Type 0 where
  pub walk : IsWalk roles from rest target
  pub shortest : (others : List ℕ) → IsWalk roles from others target → length rest ≤ length others
  pub least : (others : List ℕ) → IsWalk roles from others target → length others ≡ length rest → is_gt (slice_cmp nat_cmp rest others) ≡ false
