-- What stands at or below a place of a heap, and which of it is the first behind a turn.
use Rattle.std.proofs.Common.{◌≡◌, ◌≢◌, ◌⊎◌, inl, inr, ℕ, zero, suc, ◌+◌, ◌*◌, ◌/◌, ◌<◌, ◌≤◌, Bool, true, false, List, length, Option, Some, None, IfSome, refl, sym, ap, ◌∙◌, subst, arith}
use Rattle.claim_queue.specs.declared.turns.Turn.{Turn}
use Rattle.claim_queue.specs.Heaps.{turn_at, comes_before, IsBelow, Follows, IsOrdered, IsIn}
use Rattle.claim_queue.specs.Behind.{is_behind, earlier, IsNoEarlier, IsUnder, IsFirstUnder}
use Rattle.claim_queue.proofs.HeapLemmas.{same?, one_way, chain, follows-too, follows-self}

-- ---- what is below a place

pub under-ge : (levels top place : ℕ) → IsUnder levels top place → top ≤ place
under-ge zero top place under = omega arith
under-ge (suc levels) top place under =
    let more = under-ge levels under.0 place under.2 in
    let low = under.1.0 in
    omega arith

-- one level more
under-more : (levels top parent place : ℕ) → IsUnder levels top parent → IsBelow parent place → IsUnder (suc levels) top place
under-more zero top parent place under below = (place, subst (λ p. IsBelow p place) under below, refl)
under-more (suc levels) top parent place under below = (under.0, under.1, under-more levels under.0 parent place under.2 below)

-- each place is at or below the top
pub under-top : (place : ℕ) → (levels : ℕ) × IsUnder levels 0 place
under-top place = by place place (omega arith) where
  by : (most place : ℕ) → place ≤ most → (levels : ℕ) × IsUnder levels 0 place
  by most zero le = (0, refl)
  by zero (suc place) le = absurd (omega arith)
  by (suc most) (suc place) le =
      let parent = place / 2 in
      let up = by most parent (omega arith) in
      (suc up.0, under-more up.0 0 parent (suc place) up.1 (omega arith, omega arith))

-- no turn below a place comes before the one there
under-follows : (heap : List Turn) → IsOrdered heap → (levels top place : ℕ) → IsUnder levels top place → place < length heap → Follows heap top place
under-follows heap ordered zero top place under lt = follows-too heap heap top top top place refl (ap (turn_at heap) under) (follows-self heap top)
under-follows heap ordered (suc levels) top place under lt =
    let child = under.0 in
    let up = under-ge levels child place under.2 in
    chain (turn_at heap place) (turn_at heap child) (turn_at heap top) (under-follows heap ordered levels child place under.2 lt) (ordered top child under.1 (omega arith))

-- ---- of two turns the first

no-earlier-one : (turn : Turn) (one other : Option Turn) → IsNoEarlier turn one → IsNoEarlier turn (earlier one other)
no-earlier-one turn None other later = absurd later
no-earlier-one turn (Some one) None later = later
no-earlier-one turn (Some one) (Some other) later = by (comes_before other one) refl where
  by : (t : Bool) → comes_before other one ≡ t → IsNoEarlier turn (earlier (Some one) (Some other))
  by true is = rw is (chain turn one other later (one_way other one is))
  by false is = rw is later

no-earlier-other : (turn : Turn) (one other : Option Turn) → IsNoEarlier turn other → IsNoEarlier turn (earlier one other)
no-earlier-other turn None other later = later
no-earlier-other turn (Some one) None later = absurd later
no-earlier-other turn (Some one) (Some other) later = by (comes_before other one) refl where
  by : (t : Bool) → comes_before other one ≡ t → IsNoEarlier turn (earlier (Some one) (Some other))
  by true is = rw is later
  by false is = rw is (chain turn other one later is)

found-earlier : (P : Turn → Type 0) (one other : Option Turn) → IfSome one P → IfSome other P → IfSome (earlier one other) P
found-earlier P None other p q = q
found-earlier P (Some one) None p q = p
found-earlier P (Some one) (Some other) p q = by (comes_before other one) refl where
  by : (t : Bool) → comes_before other one ≡ t → IfSome (earlier (Some one) (Some other)) P
  by true is = rw is q
  by false is = rw is p

-- ---- the first behind a turn

module _ (heap : List Turn) (top : ℕ) (last : Option Turn) where
  pub none-under : length heap ≤ top → IsFirstUnder top heap last None
  none-under end = record {
    found = tt;
    least = λ levels place under lt behind. let up = under-ge levels top place under in absurd (omega arith);
  }

  pub top-under : (turn : Turn) → IsOrdered heap → top < length heap → turn ≡ turn_at heap top → is_behind last turn ≡ true → IsFirstUnder top heap last (Some turn)
  top-under turn ordered lt is behind = record {
    found = ((top, lt, sym is), behind);
    least = λ levels place under within later. subst (λ (t : Turn). comes_before (turn_at heap place) t ≡ false) (sym is) (under-follows heap ordered levels top place under within);
  }

  pub below-under : (left right : ℕ) (one other : Option Turn) → left ≡ 2 * top + 1 → right ≡ 2 * top + 2 → is_behind last (turn_at heap top) ≡ false
      → IsFirstUnder left heap last one → IsFirstUnder right heap last other → IsFirstUnder top heap last (earlier one other)
  below-under left right one other left_is right_is given p q = record {
    found = found-earlier (λ turn. IsIn turn heap × (is_behind last turn ≡ true)) one other p.found q.found;
    least = least;
  } where
    at-child : (levels child place : ℕ) → IsBelow top child → IsUnder levels child place → place < length heap → is_behind last (turn_at heap place) ≡ true → IsNoEarlier (turn_at heap place) (earlier one other)
    at-child levels child place below under lt behind = by (same? child left) where
      by : (child ≡ left) ⊎ (child ≢ left) → IsNoEarlier (turn_at heap place) (earlier one other)
      by (inl is) = no-earlier-one (turn_at heap place) one other (p.least levels place (subst (λ c. IsUnder levels c place) is under) lt behind)
      by (inr ne) =
          let is : child ≡ right = omega arith in
          no-earlier-other (turn_at heap place) one other (q.least levels place (subst (λ c. IsUnder levels c place) is under) lt behind)

    least : (levels place : ℕ) → IsUnder levels top place → place < length heap → is_behind last (turn_at heap place) ≡ true → IsNoEarlier (turn_at heap place) (earlier one other)
    least zero place under lt behind =
        let here : is_behind last (turn_at heap place) ≡ false = ap (λ n. is_behind last (turn_at heap n)) under ∙ given in
        let both : true ≡ false = sym behind ∙ here in
        absurd (cc)
    least (suc levels) place under lt behind = at-child levels under.0 place under.1 under.2 lt behind
