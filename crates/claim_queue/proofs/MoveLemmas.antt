-- Heaps: moves keep what a heap holds, know each place, and leave the places of other rows.
use Rattle.std.proofs.Common.{◌≡◌, ◌≢◌, ℕ, ◌<◌, ◌⊎◌, inl, inr, List, length, refl, sym, ap, ◌∙◌, subst, slice_index, slice_set, arith, length-set, get_or-set_same, get_or-set_other}
use Rattle.claim_queue.specs.declared.turns.Turn.{Turn}
use Rattle.claim_queue.specs.Heaps.{turn_at, IsIn, KnowsPlaces, HasNoTurn, IsExchanged, AreMoved}
use Rattle.claim_queue.proofs.HeapLemmas.{same?}

abbrev pub row_at : List Turn → ℕ → ℕ
row_at heap place = (turn_at heap place).row

-- a row has one place
pub rows-differ : (heap : List Turn) (places : List ℕ) (one other : ℕ) → KnowsPlaces heap places → one < length heap → other < length heap → one ≢ other → row_at heap one ≢ row_at heap other
rows-differ heap places one other known here there ne same =
    ne (sym (known one here).1 ∙ (ap (slice_index places) same ∙ (known other there).1))

-- ---- moves one after another

pub not-in : (heap : List Turn) (row : ℕ) → HasNoTurn row heap → (turn : Turn) → IsIn turn heap → turn.row ≢ row
not-in heap row none turn in_ same = none in_.0 in_.1 (ap (λ (t : Turn). t.row) in_.2 ∙ same)

pub none-later : (heap later : List Turn) (row : ℕ) → ((turn : Turn) → IsIn turn later → IsIn turn heap) → HasNoTurn row heap → HasNoTurn row later
none-later heap later row come none = λ place lt. not-in heap row none (turn_at later place) (come (turn_at later place) (place, lt, refl))

pub moved-more : (heap mid later : List Turn) (places between moved : List ℕ) → AreMoved heap mid places between → AreMoved mid later between moved → AreMoved heap later places moved
moved-more heap mid later places between moved p q = record {
  long = q.long ∙ p.long;
  stay = λ turn in_. q.stay turn (p.stay turn in_);
  come = λ turn in_. p.come turn (q.come turn in_);
  known = q.known;
  others = λ row none. q.others row (none-later heap mid row p.come none) ∙ p.others row none;
}

pub moved-none : (heap : List Turn) (places : List ℕ) → KnowsPlaces heap places → AreMoved heap heap places places
moved-none heap places known = record {
  long = refl;
  stay = λ turn in_. in_;
  come = λ turn in_. in_;
  known = known;
  others = λ row none. refl;
}

-- ---- an exchange

pub exchanged-stay : (heap later : List Turn) (one other : ℕ) → length later ≡ length heap → one < length heap → other < length heap → IsExchanged one other heap later → (turn : Turn) → IsIn turn heap → IsIn turn later
exchanged-stay heap later one other long in_one in_other x turn in_ = by (same? in_.0 one) (same? in_.0 other) where
  by : (in_.0 ≡ one) ⊎ (in_.0 ≢ one) → (in_.0 ≡ other) ⊎ (in_.0 ≢ other) → IsIn turn later
  by (inl is) _ = (other, omega arith, x.there ∙ (ap (turn_at heap) (sym is) ∙ in_.2))
  by (inr ne) (inl is) = (one, omega arith, x.here ∙ (ap (turn_at heap) (sym is) ∙ in_.2))
  by (inr ne) (inr not) = let lt : in_.0 < length heap = in_.1 in (in_.0, omega arith, x.rest in_.0 ne not ∙ in_.2)

exchanged-back : (heap later : List Turn) (one other : ℕ) → IsExchanged one other heap later → IsExchanged one other later heap
exchanged-back heap later one other x = record { here = sym x.there; there = sym x.here; rest = λ place ne not. sym (x.rest place ne not) }

module _ (heap later : List Turn) (places : List ℕ) (one other : ℕ) (long : length later ≡ length heap) (in_one : one < length heap) (in_other : other < length heap) (differ : one ≢ other) (known : KnowsPlaces heap places) (x : IsExchanged one other heap later) where
  abbrev once : List ℕ
  once = slice_set places (row_at later one) one

  abbrev moved : List ℕ
  moved = slice_set once (row_at later other) other

  row_one : row_at later one ≡ row_at heap other
  row_one = ap (λ (t : Turn). t.row) x.here

  row_other : row_at later other ≡ row_at heap one
  row_other = ap (λ (t : Turn). t.row) x.there

  apart : row_at later one ≢ row_at later other
  apart same = rows-differ heap places one other known in_one in_other differ (sym row_other ∙ (sym same ∙ row_one))

  long-once : length once ≡ length places
  long-once = length-set places (row_at later one) one

  long-moved : length moved ≡ length places
  long-moved = length-set once (row_at later other) other ∙ long-once

  fits-one : row_at later one < length places
  fits-one = let fits = (known other in_other).0 in subst (λ n. n < length places) (sym row_one) fits

  fits-other : row_at later other < length places
  fits-other = let fits = (known one in_one).0 in subst (λ n. n < length places) (sym row_other) fits

  at-other : slice_index moved (row_at later other) ≡ other
  at-other = get_or-set_same once (row_at later other) other 0 (subst (λ n. row_at later other < n) (sym long-once) fits-other)

  at-one : slice_index moved (row_at later one) ≡ one
  at-one = get_or-set_other once (row_at later other) (row_at later one) other 0 apart ∙ get_or-set_same places (row_at later one) one 0 fits-one

  -- what is known of a place where a turn stands
  Known : ℕ → ℕ → Type 0
  Known place row = (row < length moved) × (slice_index moved row ≡ place)

  known-later : KnowsPlaces later moved
  unfolding Known
  known-later place lt = by (same? place one) (same? place other) where
    by : (place ≡ one) ⊎ (place ≢ one) → (place ≡ other) ⊎ (place ≢ other) → Known place (row_at later place)
    by (inl is) _ = subst (λ n. Known n (row_at later n)) (sym is) (subst (λ n. row_at later one < n) (sym long-moved) fits-one, at-one)
    by (inr ne) (inl is) = subst (λ n. Known n (row_at later n)) (sym is) (subst (λ n. row_at later other < n) (sym long-moved) fits-other, at-other)
    by (inr ne) (inr not) =
        let within : place < length heap = omega arith in
        let stays : row_at later place ≡ row_at heap place = ap (λ (t : Turn). t.row) (x.rest place ne not) in
        let not_other : row_at heap place ≢ row_at later other = λ same. rows-differ heap places place one known within in_one ne (same ∙ row_other) in
        let not_one : row_at heap place ≢ row_at later one = λ same. rows-differ heap places place other known within in_other not (same ∙ row_one) in
        let read : slice_index moved (row_at heap place) ≡ place =
        get_or-set_other once (row_at later other) (row_at heap place) other 0 not_other ∙ (get_or-set_other places (row_at later one) (row_at heap place) one 0 not_one ∙ (known place within).1) in
        subst (Known place) (sym stays) (subst (λ n. row_at heap place < n) (sym long-moved) (known place within).0, read)

  others-later : (row : ℕ) → HasNoTurn row heap → slice_index moved row ≡ slice_index places row
  others-later row none =
      let not_other : row ≢ row_at later other = λ same. none one in_one (sym row_other ∙ sym same) in
      let not_one : row ≢ row_at later one = λ same. none other in_other (sym row_one ∙ sym same) in
      get_or-set_other once (row_at later other) row other 0 not_other ∙ get_or-set_other places (row_at later one) row one 0 not_one

  pub exchanged-moved : AreMoved heap later places moved
  exchanged-moved = record {
    long = long;
    stay = exchanged-stay heap later one other long in_one in_other x;
    come = exchanged-stay later heap one other (sym long) (omega arith) (omega arith) (exchanged-back heap later one other x);
    known = known-later;
    others = others-later;
  }
