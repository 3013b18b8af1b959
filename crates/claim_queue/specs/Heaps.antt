-- Rows in an array heap (Williams, Algorithm 232: Heapsort, 1964), each with its turn: no turn comes before the one above it, and of each row
-- the place is known.
use Rattle.std.specs.Prelude.{◌≡◌, ◌≢◌, ℕ, ◌+◌, ◌*◌, ◌<◌, ◌≤◌, ◌⊎◌, Bool, false, ◌&&◌, ◌||◌, ◌==◌, nat_lt, List, length, slice_index, slice_index_or}
use Rattle.claim_queue.specs.declared.turns.Turn.{Turn}

-- the turn at a place
abbrev pub turn_at : List Turn → ℕ → Turn
turn_at heap place = slice_index_or heap place (record { first = 0; second = 0; row = 0 })

-- one turn comes before another: by its first number, then by its second, and then by its row
unfoldable pub comes_before : Turn → Turn → Bool
comes_before one other =
    nat_lt one.first other.first
    || ((one.first == other.first) && (nat_lt one.second other.second || ((one.second == other.second) && nat_lt one.row other.row)))

-- a place is one of the two below another
abbrev pub IsBelow : ℕ → ℕ → Type 0
IsBelow parent place = (2 * parent + 1 ≤ place) × (place ≤ 2 * parent + 2)

-- the turn at the second place does not come before the one at the first
abbrev pub Follows : List Turn → ℕ → ℕ → Type 0
Follows heap first second = comes_before (turn_at heap second) (turn_at heap first) ≡ false

-- no turn comes before the one above it
abbrev pub IsOrdered : List Turn → Type 0
IsOrdered heap = (parent place : ℕ) → IsBelow parent place → place < length heap → Follows heap parent place

-- the same but at one place: and no turn below that place comes before the one above it
pub record IsOrderedBut (at : ℕ) (heap : List Turn) : Type 0 where
  pub others : (parent place : ℕ) → IsBelow parent place → place < length heap → parent ≢ at → place ≢ at → Follows heap parent place
  pub across : (parent place : ℕ) → IsBelow parent at → IsBelow at place → place < length heap → Follows heap parent place

-- no turn below a place comes before the one there
abbrev pub LeadsBelow : ℕ → List Turn → Type 0
LeadsBelow at heap = (place : ℕ) → IsBelow at place → place < length heap → Follows heap at place

-- the turn at a place does not come before the one above
abbrev pub FollowsAbove : ℕ → List Turn → Type 0
FollowsAbove at heap = (parent : ℕ) → IsBelow parent at → Follows heap parent at

-- a turn stands somewhere
abbrev pub IsIn : Turn → List Turn → Type 0
IsIn turn heap = (place : ℕ) × (place < length heap) × (turn_at heap place ≡ turn)

-- of each row that has a turn the place is known
abbrev pub KnowsPlaces : List Turn → List ℕ → Type 0
KnowsPlaces heap places = (place : ℕ) → place < length heap
    → ((turn_at heap place).row < length places) × (slice_index places (turn_at heap place).row ≡ place)

-- a row has no turn
abbrev pub HasNoTurn : ℕ → List Turn → Type 0
HasNoTurn row heap = (place : ℕ) → place < length heap → (turn_at heap place).row ≢ row

-- the turns of two places were exchanged
pub record IsExchanged (one other : ℕ) (heap later : List Turn) : Type 0 where
  pub here : turn_at later one ≡ turn_at heap other
  pub there : turn_at later other ≡ turn_at heap one
  pub rest : (place : ℕ) → place ≢ one → place ≢ other → turn_at later place ≡ turn_at heap place

-- turns were moved: the same turns stand there, their places are known, and those of other rows are as they were
pub record AreMoved (heap later : List Turn) (places moved : List ℕ) : Type 0 where
  pub long : length later ≡ length heap
  pub stay : (turn : Turn) → IsIn turn heap → IsIn turn later
  pub come : (turn : Turn) → IsIn turn later → IsIn turn heap
  pub known : KnowsPlaces later moved
  pub others : (row : ℕ) → HasNoTurn row heap → slice_index moved row ≡ slice_index places row

-- in order, and each place is known
abbrev pub IsKept : List Turn → List ℕ → Type 0
IsKept heap places = IsOrdered heap × KnowsPlaces heap places

-- a row has a turn, at the place that is known
abbrev pub HasTurn : ℕ → List Turn → List ℕ → Type 0
HasTurn row heap places = (row < length places) × (slice_index places row < length heap) × ((turn_at heap (slice_index places row)).row ≡ row)

-- a row has this turn from now on, and the other rows have theirs
pub record IsPut (turn : Turn) (heap later : List Turn) (places moved : List ℕ) : Type 0 where
  pub here : IsIn turn later
  pub stay : (other : Turn) → IsIn other heap → other.row ≢ turn.row → IsIn other later
  pub come : (other : Turn) → IsIn other later → (IsIn other heap × (other.row ≢ turn.row)) ⊎ (other ≡ turn)
  pub others : (row : ℕ) → row ≢ turn.row → HasNoTurn row heap → slice_index moved row ≡ slice_index places row

-- a row has no turn from now on, and the other rows have theirs
pub record IsTaken (row : ℕ) (heap later : List Turn) (places moved : List ℕ) : Type 0 where
  pub stay : (other : Turn) → IsIn other heap → other.row ≢ row → IsIn other later
  pub come : (other : Turn) → IsIn other later → IsIn other heap × (other.row ≢ row)
  pub others : (other : ℕ) → HasNoTurn other heap → slice_index moved other ≡ slice_index places other

-- there are more places, and those that there were stay
abbrev pub IsWider : List ℕ → List ℕ → Type 0
IsWider places wider = (length places ≤ length wider) × ((row : ℕ) → row < length places → slice_index wider row ≡ slice_index places row)
