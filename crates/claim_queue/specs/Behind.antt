-- Which turn comes next behind another. The contracts of private functions alone speak of these.
use Rattle.std.specs.Prelude.{◌≡◌, ℕ, zero, suc, ◌+◌, ◌<◌, ◌-◌, ◌⊎◌, Bool, true, false, not, ◌&&◌, List, [], ◌∷◌, length, Option, Some, None, IfSome, if◌then◌else◌}
use Rattle.std.specs.Str.{bytes_eq}
use Rattle.claim_queue.specs.declared.turns.Turn.{Turn}
use Rattle.claim_queue.specs.Waits.{Waiting, Waits, rank, count_in}
use Rattle.claim_queue.specs.Places.{name_at}
use Rattle.claim_queue.specs.Firsts.{IsHeld, IsBest}
use Rattle.claim_queue.specs.Heaps.{turn_at, comes_before, IsBelow, IsIn}

-- a turn comes behind another, if one is given
abbrev pub is_behind : Option Turn → Turn → Bool
is_behind None turn = true
is_behind (Some last) turn = comes_before last turn

-- of two turns the one that comes before the other, if there are two
abbrev pub earlier : Option Turn → Option Turn → Option Turn
earlier None other = other
earlier (Some one) None = Some one
earlier (Some one) (Some other) = if comes_before other one then Some other else Some one

-- there is a first turn, and another does not come before it
abbrev pub IsNoEarlier : Turn → Option Turn → Type 0
IsNoEarlier turn None = ⊥
IsNoEarlier turn (Some first) = comes_before turn first ≡ false

-- a place is so many levels below another
abbrev pub IsUnder : ℕ → ℕ → ℕ → Type 0
IsUnder zero top place = place ≡ top
IsUnder (suc levels) top place = (child : ℕ) × IsBelow top child × IsUnder levels child place

-- a place is one of these
abbrev pub IsAmong : ℕ → List ℕ → Type 0
IsAmong place [] = ⊥
IsAmong place (one ∷ places) = (place ≡ one) ⊎ IsAmong place places

-- no place stands there twice
abbrev pub AreApart : List ℕ → Type 0
AreApart [] = Unit {0}
AreApart (one ∷ places) = (IsAmong one places → ⊥) × AreApart places

-- places at or below another, each once, whose turns do not come behind one
pub record AreGivenUnder (top : ℕ) (heap : List Turn) (last : Option Turn) (places : List ℕ) : Type 0 where
  pub each : (place : ℕ) → IsAmong place places → (levels : ℕ) × IsUnder levels top place × (place < length heap) × (is_behind last (turn_at heap place) ≡ false)
  pub apart : AreApart places

-- the first turn at or below a place, of those behind another
pub record IsFirstUnder (top : ℕ) (heap : List Turn) (last first : Option Turn) : Type 0 where
  pub found : IfSome first (λ turn. IsIn turn heap × (is_behind last turn ≡ true))
  pub least : (levels place : ℕ) → IsUnder levels top place → place < length heap → is_behind last (turn_at heap place) ≡ true → IsNoEarlier (turn_at heap place) first

-- the turn of a row that waits
abbrev pub waiting_turn : Waiting → ℕ → Turn
waiting_turn waiting row = record { first = rank waiting.priority; second = waiting.number; row = row }

-- a row that waits in the queue has this turn, which comes behind another
pub record IsTurnBehind (name : List ℕ) (rows : List (Option Waiting)) (last : Option Turn) (turn : Turn) : Type 0 where
  pub waiting : Waiting
  pub held : IsHeld rows turn.row waiting
  pub here : bytes_eq waiting.queue name ≡ true
  pub same : turn ≡ waiting_turn waiting turn.row
  pub behind : is_behind last turn ≡ true

-- the first turn of the rows that wait in a queue, of those behind another
pub record IsNextTurn (name : List ℕ) (rows : List (Option Waiting)) (last first : Option Turn) : Type 0 where
  pub found : IfSome first (IsTurnBehind name rows last)
  pub least : (row : ℕ) (waiting : Waiting) → IsHeld rows row waiting → bytes_eq waiting.queue name ≡ true → is_behind last (waiting_turn waiting row) ≡ true
      → IsNoEarlier (waiting_turn waiting row) first

-- the place of the queue of a name; where there is none, no row waits in that queue
abbrev pub IsPlaceOf : Option ℕ → List ℕ → Waits → Type 0
IsPlaceOf None name waits = IsBest name waits None
IsPlaceOf (Some place) name waits = (place < length waits.queues) × (name_at place waits.queues ≡ name)

-- a row that waits was given in a walk over the queue up to a turn
abbrev pub was_given : List ℕ → Option Turn → ℕ → Waiting → Bool
was_given name last row waiting = not (is_behind last (waiting_turn waiting row)) && bytes_eq waiting.queue name

-- a row, if it was not given
abbrev pub left_row : List ℕ → Option Turn → ℕ → Option Waiting → Option Waiting
left_row name last row None = None
left_row name last row (Some waiting) = if was_given name last row waiting then None else Some waiting

-- the rows without those that were given, of which the first is this one
abbrev pub left_from : List ℕ → Option Turn → ℕ → List (Option Waiting) → List (Option Waiting)
left_from name last row [] = []
left_from name last row (waits ∷ rows) = left_row name last row waits ∷ left_from name last (row + 1) rows

-- what waits without the rows that were given
abbrev pub left_of : List ℕ → Option Turn → Waits → Waits
left_of name last waits = record { queues = waits.queues; rows = left_from name last 0 waits.rows }

-- how many rows of the queue were given in a walk up to a turn
abbrev pub given_in : List ℕ → Option Turn → Waits → ℕ
given_in name last waits = count_in name waits - count_in name (left_of name last waits)
