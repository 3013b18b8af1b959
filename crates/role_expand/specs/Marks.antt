-- The texts between which parameter edges lead, each with a place.
use Rattle.std.specs.Prelude.{◌≡◌, ℕ, ◌+◌, ◌-◌, ◌<◌, ◌≤◌, ◌⊎◌, List, [], ◌∷◌, ◌++◌, length, Some, slice_get, slice_index, slice_index_or, Contains}
use Rattle.scope_sets.specs.Scopes.{star}
use Rattle.role_expand.specs.Roles.{RoleData, EndsWithStar}
use Rattle.role_expand.specs.Cycles.{Reaches}
use Rattle.role_expand.specs.Index.{text_of, Begins, IsUnder}
use Rattle.role_expand.specs.declared.index.RoleKey.{RoleKey}

-- a mark with this place, one of whose text and the front begins with the other
abbrev pub IsTextMark : ℕ → List ℕ → RoleKey → Type 0
IsTextMark place front mark = (mark.place ≡ place) × (Begins (text_of mark) front ⊎ Begins front (text_of mark))

-- the front of a role's id has a mark with this place
abbrev pub IsFrontMark : RoleData → ℕ → List RoleKey → Type 0
IsFrontMark role place marks = (front : List ℕ) → role.id ≡ front ++ star ∷ [] → (mark : RoleKey) × Contains marks mark × (mark.place ≡ place) × (text_of mark ≡ front)

-- each front that a parameter of the role reaches has a mark of its scopes, with this place
abbrev pub HasTextMarks : RoleData → ℕ → List RoleKey → Type 0
HasTextMarks role place marks = (scope front : List ℕ) → EndsWithStar role.id → Contains role.scopes scope → Reaches scope front
    → (mark : RoleKey) × Contains marks mark × IsTextMark place front mark

-- these of each of the first roles
pub record HaveMarks (roles : List RoleData) (n : ℕ) (marks : List RoleKey) : Type 0 where
  pub fronts : (i : ℕ) (role : RoleData) → i < n → slice_get roles i ≡ Some role → IsFrontMark role i marks
  pub texts : (i : ℕ) (role : RoleData) → i < n → slice_get roles i ≡ Some role → HasTextMarks role (length roles + i) marks

-- these of each role
abbrev pub AreMarksOf : List RoleData → List RoleKey → Type 0
AreMarksOf roles marks = HaveMarks roles (length roles) marks

-- the rank of a mark's place, 0 for those behind all roles
abbrev pub rank_of : List ℕ → RoleKey → ℕ
rank_of ranks mark = slice_index ranks mark.place

-- for each of the first marks, what is no less than the rank of it and of each mark with which it begins before it
abbrev pub AreTopsAbove : List RoleKey → List ℕ → List ℕ → Type 0
AreTopsAbove marks ranks tops = (k j : ℕ) (d : RoleKey) → k < length tops → IsUnder marks (k + 1) j → rank_of ranks (slice_index_or marks j d) ≤ slice_index tops k

-- for each mark, what is no less than the rank of each later mark that begins with it
abbrev pub AreTopsBelow : List RoleKey → List ℕ → List ℕ → Type 0
AreTopsBelow marks ranks tops = (k j : ℕ) (d : RoleKey) → j < length marks → k < j → ((e : RoleKey) → Begins (text_of (slice_index_or marks j e)) (text_of (slice_index_or marks k e)))
    → rank_of ranks (slice_index_or marks j d) ≤ slice_index tops k

-- the rank and the slack of the role whose text the mark is
abbrev pub bound_of : List ℕ → List ℕ → RoleKey → ℕ
bound_of ranks slack mark = slice_index ranks (mark.place - length ranks) + slice_index slack (mark.place - length ranks)

-- the rank and the slack of a text's role are greater than the rank of each front that fits it
abbrev pub Falls : List RoleKey → List ℕ → List ℕ → Type 0
Falls marks ranks slack = (a b : RoleKey) → Contains marks a → Contains marks b → length ranks ≤ a.place → b.place < length ranks → (Begins (text_of a) (text_of b) ⊎ Begins (text_of b) (text_of a))
    → rank_of ranks b < bound_of ranks slack a
