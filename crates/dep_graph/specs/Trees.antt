-- Trees in which each pair has the lesser of its two above it. The contracts of private functions alone speak of these.
use Rattle.std.specs.Prelude.{◌≡◌, ℕ, ◌+◌, ◌*◌, ◌/◌, ◌<◌, min, List, length, drop, Option, Some, None, slice_index_or}

-- the lesser of two numbers, where there are two
abbrev pub lesser : Option ℕ → Option ℕ → Option ℕ
lesser None other = other
lesser (Some x) None = Some x
lesser (Some x) (Some y) = Some (min x y)

-- what stands at a place, and nothing behind the last
abbrev pub node_at : List (Option ℕ) → ℕ → Option ℕ
node_at nodes place = slice_index_or nodes place None

-- as many leaves as other places, and above each two the lesser of them
pub record IsTree (nodes : List (Option ℕ)) : Type 0 where
  pub even : 2 * (length nodes / 2) ≡ length nodes
  pub above : (at : ℕ) → 0 < at → 2 * at + 1 < length nodes → node_at nodes at ≡ lesser (node_at nodes (2 * at)) (node_at nodes (2 * at + 1))

-- what stands at the leaves
abbrev pub leaves_of : List (Option ℕ) → List (Option ℕ)
leaves_of nodes = drop (length nodes / 2) nodes
