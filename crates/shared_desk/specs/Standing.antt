-- What callers of a shared desk stand for: a history that was seen since the desk's beginning, and their own calls' places there.
use Rattle.std.specs.Prelude.{◌≡◌, ◌≢◌, ℕ, ◌+◌, ◌-◌, List, [], ◌++◌, length, Option, Some, AllPairs}
use mathlib.Core.List.{IsPrefix}
use Rattle.atomic_table.specs.Seated.{TableId}
use Rattle.history.specs.Rules.{Rules}
use Rattle.history.specs.Histories.{IsLegal}
use Rattle.farm_desk.specs.Home.{Home}

-- A shared desk: which one it is, and the object that it began with.
pub record Beginning (O : Type 0) : Type 0 where
  pub desk : TableId
  pub first : O

-- What a token or a pass stands for: the desk and the state in which this began, the history that was seen, the places there
-- of its own calls, in the order of asking, and how many asks are left.
pub record Standing (S E : Type 0) : Type 0 where
  pub desk : TableId
  pub opening : Option S
  pub seen : List E
  pub mine : List ℕ
  pub left : ℕ

module _ {S E : Type 0} where
  -- the first token of a desk that began in this state: nothing was seen or asked, and 2 ^ 63 asks are left
  abbrev pub fresh_token : TableId → S → Standing S E
  fresh_token desk opening = record { desk = desk; opening = Some opening; seen = []; mine = []; left = 9223372036854775808 }

  -- it gave away this many of its asks
  abbrev pub gave : Standing S E → ℕ → Standing S E
  gave standing asks = record { desk = standing.desk; opening = standing.opening; seen = standing.seen; mine = standing.mine; left = standing.left - asks }

  -- it got them: it has seen the same, and asked nothing
  abbrev pub given : Standing S E → ℕ → Standing S E
  given standing asks = record { desk = standing.desk; opening = standing.opening; seen = standing.seen; mine = []; left = asks }

  -- It took in another one: it has seen what both had seen, its own calls are those that it had and then the other's, none
  -- twice, and it has the asks of both.
  pub record AreJoined (before other after : Standing S E) : Type 0 where
    pub desk : after.desk ≡ before.desk
    pub opening : after.opening ≡ before.opening
    pub seen : IsPrefix before.seen after.seen
    pub told : IsPrefix other.seen after.seen
    pub mine : after.mine ≡ before.mine ++ other.mine
    pub once : AllPairs (λ place another. place ≢ another) after.mine
    pub left : after.left ≡ before.left + other.left

-- it stands for this history, which is legal since an opening that begins in the state in which its desk began, and for these places
abbrev pub StandsFor : {P Q A S E R : Type 0} → Rules Q A S E R → (P → S) → Standing S E → P → List E → List ℕ → Type 0
StandsFor r start standing opening seen mine =
    (seen ≡ standing.seen) × (mine ≡ standing.mine) × (standing.opening ≡ Some (start opening)) × IsLegal r (start opening) seen

-- where it belongs: its desk, the state in which that began, and how many asks it made or has left
abbrev pub home_of : {S E : Type 0} → Standing S E → Home S
home_of standing = record { desk = standing.desk; opening = standing.opening; asks = standing.left + length standing.mine }
