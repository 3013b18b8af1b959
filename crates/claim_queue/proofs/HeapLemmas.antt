-- Heaps: an exchange keeps what a heap holds, and brings one turn nearer to where it is in order.
use Rattle.std.proofs.Common.{◌≡◌, ◌≢◌, ℕ, zero, suc, ◌+◌, ◌*◌, ◌/◌, ◌<◌, ◌≤◌, ◌⊎◌, inl, inr, Bool, true, false, List, length, refl, ap, ◌∙◌, arith}
use Rattle.std.proofs.lemmas.Bool.Decides.{nat_tests, eqb_tells}
use Rattle.claim_queue.specs.declared.turns.Turn.{Turn}
use Rattle.claim_queue.specs.Heaps.{turn_at, comes_before, IsBelow, Follows, IsOrdered, IsOrderedBut, LeadsBelow, FollowsAbove, IsExchanged}

pub same? : (a b : ℕ) → (a ≡ b) ⊎ (a ≢ b)
same? a b = elim (eqb_tells a b) [ inl p ↦ inl p.1 | inr p ↦ inr p.1 ]

-- ---- the order

pub one_way : (a b : Turn) → comes_before a b ≡ true → comes_before b a ≡ false
unfolding comes_before
one_way a b is = grind (arith, nat_tests)

pub chain : (a b c : Turn) → comes_before a b ≡ false → comes_before b c ≡ false → comes_before a c ≡ false
unfolding comes_before
chain a b c p q = grind (arith, nat_tests)

-- what is said of two turns, where they stand in another heap
pub follows-too : (heap later : List Turn) (a b c d : ℕ) → turn_at later c ≡ turn_at heap a → turn_at later d ≡ turn_at heap b → Follows heap a b → Follows later c d
follows-too heap later a b c d p q follows = cc

pub follows-self : (heap : List Turn) (place : ℕ) → Follows heap place place
follows-self heap place = by (comes_before (turn_at heap place) (turn_at heap place)) refl where
  by : (t : Bool) → comes_before (turn_at heap place) (turn_at heap place) ≡ t → comes_before (turn_at heap place) (turn_at heap place) ≡ false
  by true is = one_way (turn_at heap place) (turn_at heap place) is
  by false is = is

-- ---- the two below a place

module _ (heap : List Turn) (at left right : ℕ) (left_is : left ≡ 2 * at + 1) (right_is : right ≡ left + 1) where
  pub right-first : comes_before (turn_at heap right) (turn_at heap left) ≡ true → (other : ℕ) → IsBelow at other → Follows heap right other
  right-first sooner other below = by (same? other left) where
    by : (other ≡ left) ⊎ (other ≢ left) → Follows heap right other
    by (inl is) = follows-too heap heap right left right other refl (ap (turn_at heap) is) (one_way (turn_at heap right) (turn_at heap left) sooner)
    by (inr ne) = let is : other ≡ right = omega arith in follows-too heap heap right right right other refl (ap (turn_at heap) is) (follows-self heap right)

  pub left-first : comes_before (turn_at heap right) (turn_at heap left) ≡ false → (other : ℕ) → IsBelow at other → Follows heap left other
  left-first later other below = by (same? other left) where
    by : (other ≡ left) ⊎ (other ≢ left) → Follows heap left other
    by (inl is) = follows-too heap heap left left left other refl (ap (turn_at heap) is) (follows-self heap left)
    by (inr ne) = let is : other ≡ right = omega arith in follows-too heap heap left right left other refl (ap (turn_at heap) is) later

  pub left-only : length heap ≤ right → (other : ℕ) → IsBelow at other → other < length heap → Follows heap left other
  left-only end other below lt = let is : other ≡ left = omega arith in follows-too heap heap left left left other refl (ap (turn_at heap) is) (follows-self heap left)

-- ---- in order but for one place

pub in-order : (heap : List Turn) (at : ℕ) → IsOrderedBut at heap → LeadsBelow at heap → FollowsAbove at heap → IsOrdered heap
in-order heap at but leads follows = λ parent place below lt. by parent place below lt (same? parent at) (same? place at) where
  by : (parent place : ℕ) → IsBelow parent place → place < length heap → (parent ≡ at) ⊎ (parent ≢ at) → (place ≡ at) ⊎ (place ≢ at) → Follows heap parent place
  by parent place below lt (inl is) _ = follows-too heap heap at place parent place (ap (turn_at heap) is) refl (leads place (omega arith, omega arith) lt)
  by parent place below lt (inr ne) (inl is) = follows-too heap heap parent at parent place refl (ap (turn_at heap) is) (follows parent (omega arith, omega arith))
  by parent place below lt (inr ne) (inr not) = but.others parent place below lt ne not

pub follows-top : (heap : List Turn) → FollowsAbove 0 heap
follows-top heap = λ parent below. absurd (omega arith)

pub follows-one : (heap : List Turn) (up at : ℕ) → IsBelow up at → Follows heap up at → FollowsAbove at heap
follows-one heap up at below follows = λ parent under. let same : parent ≡ up = omega arith in follows-too heap heap up at parent at (ap (turn_at heap) same) refl follows

pub leads-none : (heap : List Turn) (at : ℕ) → length heap ≤ 2 * at + 1 → LeadsBelow at heap
leads-none heap at none = λ place below lt. absurd (omega arith)

pub leads-first : (heap : List Turn) (at child : ℕ) → ((other : ℕ) → IsBelow at other → other < length heap → Follows heap child other) → Follows heap at child → LeadsBelow at heap
leads-first heap at child first follows = λ place below lt. chain (turn_at heap place) (turn_at heap child) (turn_at heap at) (first place below lt) follows

-- ---- a turn rises

module _ (heap later : List Turn) (at up : ℕ) (long : length later ≡ length heap) (x : IsExchanged at up heap later) (but : IsOrderedBut at heap) (below : IsBelow up at) (within : at < length heap) (first : comes_before (turn_at heap at) (turn_at heap up) ≡ true) where
  risen-others : (parent place : ℕ) → IsBelow parent place → place < length later → parent ≢ up → place ≢ up → Follows later parent place
  risen-others parent place under lt not_up place_not_up = by (same? parent at) (same? place at) where
    by : (parent ≡ at) ⊎ (parent ≢ at) → (place ≡ at) ⊎ (place ≢ at) → Follows later parent place
    by (inl is) _ =
        let ne : place ≢ at = omega arith in
        follows-too heap later up place parent place (ap (turn_at later) is ∙ x.here) (x.rest place ne place_not_up) (but.across up place below (omega arith, omega arith) (omega arith))
    by (inr ne) (inl is) = absurd (omega arith)
    by (inr ne) (inr not) = follows-too heap later parent place parent place (x.rest parent ne not_up) (x.rest place not place_not_up) (but.others parent place under (omega arith) ne not)

  risen-across : (parent place : ℕ) → IsBelow parent up → IsBelow up place → place < length later → Follows later parent place
  risen-across parent place above under lt = by (same? place at) where
    not_at : parent ≢ at
    not_at = omega arith

    not_up : parent ≢ up
    not_up = omega arith

    up_not_at : up ≢ at
    up_not_at = omega arith

    over : Follows heap parent up
    over = but.others parent up above (omega arith) not_at up_not_at

    by : (place ≡ at) ⊎ (place ≢ at) → Follows later parent place
    by (inl is) = follows-too heap later parent up parent place (x.rest parent not_at not_up) (ap (turn_at later) is ∙ x.here) over
    by (inr ne) =
        let place_not_up : place ≢ up = omega arith in
        let beside : Follows heap up place = but.others up place under (omega arith) up_not_at ne in
        follows-too heap later parent place parent place (x.rest parent not_at not_up) (x.rest place ne place_not_up) (chain (turn_at heap place) (turn_at heap up) (turn_at heap parent) beside over)

  risen-leads : LeadsBelow up later
  risen-leads place under lt = by (same? place at) where
    back : Follows heap at up
    back = one_way (turn_at heap at) (turn_at heap up) first

    by : (place ≡ at) ⊎ (place ≢ at) → Follows later up place
    by (inl is) = follows-too heap later at up up place x.there (ap (turn_at later) is ∙ x.here) back
    by (inr ne) =
        let place_not_up : place ≢ up = omega arith in
        let up_not_at : up ≢ at = omega arith in
        let beside : Follows heap up place = but.others up place under (omega arith) up_not_at ne in
        follows-too heap later at place up place x.there (x.rest place ne place_not_up) (chain (turn_at heap place) (turn_at heap up) (turn_at heap at) beside back)

  pub risen : IsOrderedBut up later × LeadsBelow up later
  risen = (record { others = risen-others; across = risen-across }, risen-leads)

-- ---- a turn sinks

module _ (heap later : List Turn) (at child : ℕ) (long : length later ≡ length heap) (x : IsExchanged at child heap later) (but : IsOrderedBut at heap) (above : FollowsAbove at heap) (below : IsBelow at child) (within : child < length heap) (first : (other : ℕ) → IsBelow at other → other < length heap → Follows heap child other) (sooner : comes_before (turn_at heap child) (turn_at heap at) ≡ true) where
  sunk-others : (parent place : ℕ) → IsBelow parent place → place < length later → parent ≢ child → place ≢ child → Follows later parent place
  sunk-others parent place under lt not_child place_not_child = by (same? parent at) (same? place at) where
    by : (parent ≡ at) ⊎ (parent ≢ at) → (place ≡ at) ⊎ (place ≢ at) → Follows later parent place
    by (inl is) _ =
        let ne : place ≢ at = omega arith in
        follows-too heap later child place parent place (ap (turn_at later) is ∙ x.here) (x.rest place ne place_not_child) (first place (omega arith, omega arith) (omega arith))
    by (inr ne) (inl is) = follows-too heap later parent child parent place (x.rest parent ne not_child) (ap (turn_at later) is ∙ x.here) (but.across parent child (omega arith, omega arith) below within)
    by (inr ne) (inr not) = follows-too heap later parent place parent place (x.rest parent ne not_child) (x.rest place not place_not_child) (but.others parent place under (omega arith) ne not)

  sunk-across : (parent place : ℕ) → IsBelow parent child → IsBelow child place → place < length later → Follows later parent place
  sunk-across parent place over under lt =
      let is : parent ≡ at = omega arith in
      let child_not_at : child ≢ at = omega arith in
      let place_not_at : place ≢ at = omega arith in
      let place_not_child : place ≢ child = omega arith in
      follows-too heap later child place parent place (ap (turn_at later) is ∙ x.here) (x.rest place place_not_at place_not_child) (but.others child place under (omega arith) child_not_at place_not_at)

  sunk-follows : FollowsAbove child later
  sunk-follows parent over =
      let is : parent ≡ at = omega arith in
      follows-too heap later child at parent child (ap (turn_at later) is ∙ x.here) x.there (one_way (turn_at heap child) (turn_at heap at) sooner)

  pub sunk : IsOrderedBut child later × FollowsAbove child later
  sunk = (record { others = sunk-others; across = sunk-across }, sunk-follows)

-- ---- the first of all stands at the top

pub top-first : (heap : List Turn) → IsOrdered heap → (place : ℕ) → place < length heap → Follows heap 0 place
top-first heap ordered place lt = by place place (omega arith) lt where
  by : (most place : ℕ) → place ≤ most → place < length heap → Follows heap 0 place
  by most zero le lt = follows-self heap 0
  by zero (suc place) le lt = absurd (omega arith)
  by (suc most) (suc place) le lt =
      let parent = place / 2 in
      chain (turn_at heap (suc place)) (turn_at heap parent) (turn_at heap 0) (ordered parent (suc place) (omega arith, omega arith) lt) (by most parent (omega arith) (omega arith))
