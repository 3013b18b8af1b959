-- Parameter edges between roles, and cycles of them (this project's own rule: a set with a cycle could expand without end).
use Rattle.std.specs.Prelude.{◌≡◌, ◌≢◌, ℕ, ◌<◌, ◌≤◌, ◌⊎◌, false, List, [], ◌∷◌, ◌++◌, length, Some, slice_get, Contains, All, AllPairs}
use Rattle.std.specs.Cmp.Lexicographic.{slice_cmp}
use Rattle.std.specs.Ordering.{nat_cmp, is_gt}
use Rattle.scope_sets.specs.Scopes.{star}
use Rattle.role_expand.specs.Roles.{RoleData, assume, EndsWithStar, SplitsAtHole, HasRoleForm}

-- one text is a prefix of the other
abbrev pub StartAlike : List ℕ → List ℕ → Type 0
StartAlike a b = ((rest : List ℕ) × (b ≡ a ++ rest)) ⊎ ((rest : List ℕ) × (a ≡ b ++ rest))

-- the scope has `<..>`, and the text before it and `assume:front` start alike
abbrev pub Reaches : List ℕ → List ℕ → Type 0
Reaches scope front = (before : List ℕ) × (after : List ℕ) × SplitsAtHole scope before after × StartAlike before (assume ++ front)

-- a parameter of the first role can reach the second, `front*`: the first ends with `*` too, and one of its scopes reaches that front
pub record HasEdge (from to : RoleData) : Type 0 where
  pub starred : EndsWithStar from.id
  pub front : List ℕ
  pub to_is : to.id ≡ front ++ star ∷ []
  pub scope : List ℕ
  pub listed : Contains from.scopes scope
  pub reaches : Reaches scope front

-- the same of two places in the list of roles
abbrev pub EdgeAt : List RoleData → ℕ → ℕ → Type 0
EdgeAt roles i j = (from : RoleData) × (to : RoleData) × (slice_get roles i ≡ Some from) × (slice_get roles j ≡ Some to) × HasEdge from to

-- a walk along edges from a place to another, through the places of the list
abbrev pub IsWalk : List RoleData → ℕ → List ℕ → ℕ → Type 0
IsWalk roles a [] b = EdgeAt roles a b
IsWalk roles a (c ∷ cs) b = EdgeAt roles a c × IsWalk roles c cs b

-- the places of a cycle, in the order of its edges, the last of which leads back to the first
abbrev pub IsCycle : List RoleData → List ℕ → Type 0
IsCycle roles [] = ⊥
IsCycle roles (i ∷ rest) = IsWalk roles i rest i

-- the shortest cycle from the first role that lies on one, of equal ones the first by its roles' places
pub record IsFirstCycle (roles : List RoleData) (i : ℕ) (rest : List ℕ) : Type 0 where
  pub cycle : IsCycle roles (i ∷ rest)
  pub first : (j : ℕ) (others : List ℕ) → j < i → ¬ IsCycle roles (j ∷ others)
  pub shortest : (others : List ℕ) → IsCycle roles (i ∷ others) → length rest ≤ length others
  pub least : (others : List ℕ) → IsCycle roles (i ∷ others) → length others ≡ length rest → is_gt (slice_cmp nat_cmp rest others) ≡ false

-- what a set of roles is: each of its form, no id twice, no cycle
pub record IsAccepted (longest : ℕ) (roles : List RoleData) : Type 0 where
  pub forms : All (HasRoleForm longest) roles
  pub apart : AllPairs (λ p q. p.id ≢ q.id) roles
  pub acyclic : (cycle : List ℕ) → ¬ IsCycle roles cycle
