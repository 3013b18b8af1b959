-- Heaps: a row gets a turn, another one, or none.
use Rattle.std.proofs.Common.{◌≡◌, ◌≢◌, ℕ, ◌+◌, ◌-◌, ◌*◌, ◌^◌, ◌<◌, ◌≤◌, ◌⊎◌, inl, inr, List, [], ◌∷◌, ◌++◌, length, take, drop, refl, sym, ap, ◌∙◌, subst, slice_index, slice_set, arith, length-set, length-append, length-take, get_or-set_same, get_or-set_other}
use Rattle.std.proofs.lemmas.List.{get_or_append_left, get_or-take, take_at}
use Rattle.std.proofs.Math.Seq.{get_or-append_seam}
use Rattle.claim_queue.specs.declared.turns.Turn.{Turn}
use Rattle.claim_queue.specs.Heaps.{turn_at, IsBelow, Follows, IsOrdered, IsOrderedBut, IsIn, KnowsPlaces, HasNoTurn, HasTurn, IsExchanged, AreMoved, IsKept, IsPut, IsTaken}
use Rattle.claim_queue.specs.Counts.{AreAtMost, AreFew}
use Rattle.claim_queue.proofs.HeapLemmas.{same?, chain, follows-too}
use Rattle.claim_queue.proofs.MoveLemmas.{row_at, rows-differ, not-in, none-later}
use Rattle.claim_queue.proofs.StepLemmas.{doubled}

-- one row has one turn
pub one-turn : (heap : List Turn) (places : List ℕ) (one other : ℕ) → KnowsPlaces heap places → one < length heap → other < length heap → row_at heap one ≡ row_at heap other → one ≡ other
one-turn heap places one other known here there same =
    elim (same? one other) [ inl is ↦ is | inr ne ↦ absurd (rows-differ heap places one other known here there ne same) ]

-- ---- a turn is put behind the others

module _ (heap : List Turn) (turn : Turn) where
  abbrev pushed : List Turn
  pushed = heap ++ turn ∷ []

  long-pushed : length pushed ≡ length heap + 1
  long-pushed = length-append heap (turn ∷ [])

  front : (place : ℕ) → place < length heap → turn_at pushed place ≡ turn_at heap place
  front place lt = get_or_append_left heap (turn ∷ []) (record { first = 0; second = 0; row = 0 }) place lt

  back : turn_at pushed (length heap) ≡ turn
  back = get_or-append_seam heap turn [] (record { first = 0; second = 0; row = 0 })

  in-pushed : (other : Turn) → IsIn other heap → IsIn other pushed
  in-pushed other in_ = let lt = in_.1 in (in_.0, omega (arith, long-pushed), front in_.0 lt ∙ in_.2)

  of-pushed : (other : Turn) → IsIn other pushed → IsIn other heap ⊎ (other ≡ turn)
  of-pushed other in_ = by (same? in_.0 (length heap)) where
    by : (in_.0 ≡ length heap) ⊎ (in_.0 ≢ length heap) → IsIn other heap ⊎ (other ≡ turn)
    by (inl is) = inr (sym in_.2 ∙ (ap (turn_at pushed) is ∙ back))
    by (inr ne) =
        let within = in_.1 in
        let lt : in_.0 < length heap = omega (arith, long-pushed) in
        inl (in_.0, lt, sym (front in_.0 lt) ∙ in_.2)

  none-pushed : (row : ℕ) → row ≢ turn.row → HasNoTurn row heap → HasNoTurn row pushed
  none-pushed row ne none = λ place lt. by place lt (of-pushed (turn_at pushed place) (place, lt, refl)) where
    by : (place : ℕ) → place < length pushed → IsIn (turn_at pushed place) heap ⊎ (turn_at pushed place ≡ turn) → row_at pushed place ≢ row
    by place lt (inl in_) = not-in heap row none (turn_at pushed place) in_
    by place lt (inr is) = λ same. ne (sym same ∙ ap (λ (t : Turn). t.row) is)

  pub inserted : (later : List Turn) (places moved : List ℕ) → HasNoTurn turn.row heap → AreMoved pushed later (slice_set places turn.row (length heap)) moved → IsPut turn heap later places moved
  inserted later places moved none m = record {
    here = m.stay turn (length heap, omega (arith, long-pushed), back);
    stay = λ other in_ ne. m.stay other (in-pushed other in_);
    come = λ other in_. elim (of-pushed other (m.come other in_)) [ inl h ↦ inl (h, not-in heap turn.row none other h) | inr is ↦ inr is ];
    others = λ row ne absent. m.others row (none-pushed row ne absent) ∙ get_or-set_other places turn.row row (length heap) 0 ne;
  }

-- ---- a turn is put in the place of that of its row

module _ (heap : List Turn) (turn : Turn) (places : List ℕ) (held : HasTurn turn.row heap places) (kept : IsKept heap places) where
  abbrev at : ℕ
  at = slice_index places turn.row

  abbrev changed : List Turn
  changed = slice_set heap at turn

  long-changed : length changed ≡ length heap
  long-changed = length-set heap at turn

  changed-here : turn_at changed at ≡ turn
  changed-here = get_or-set_same heap at turn (record { first = 0; second = 0; row = 0 }) held.1

  changed-rest : (place : ℕ) → place ≢ at → turn_at changed place ≡ turn_at heap place
  changed-rest place ne = get_or-set_other heap at place turn (record { first = 0; second = 0; row = 0 }) ne

  -- what is in order stays so where one turn is another
  changed-across : (parent place : ℕ) → IsBelow parent at → IsBelow at place → place < length changed → Follows changed parent place
  changed-across parent place over under lt =
      let lt_heap : place < length heap = omega (arith, long-changed) in
      let at_lt : at < length heap = omega arith in
      let parent_ne : parent ≢ at = omega arith in
      let place_ne : place ≢ at = omega arith in
      follows-too heap changed parent place parent place (changed-rest parent parent_ne) (changed-rest place place_ne)
      (chain (turn_at heap place) (turn_at heap at) (turn_at heap parent) (kept.0 at place under lt_heap) (kept.0 parent at over at_lt))

  pub changed-ordered : IsOrderedBut at changed
  changed-ordered = record {
    others = λ parent place below lt parent_ne place_ne.
        let lt_heap : place < length heap = omega (arith, long-changed) in
        follows-too heap changed parent place parent place (changed-rest parent parent_ne) (changed-rest place place_ne) (kept.0 parent place below lt_heap);
    across = changed-across;
  }

  in-changed : (other : Turn) → IsIn other heap → other.row ≢ turn.row → IsIn other changed
  in-changed other in_ ne =
      let lt = in_.1 in
      let apart : in_.0 ≢ at = λ same. ne (sym (ap (λ (t : Turn). t.row) in_.2) ∙ (ap (row_at heap) same ∙ held.2)) in
      (in_.0, omega (arith, long-changed), changed-rest in_.0 apart ∙ in_.2)

  of-changed : (other : Turn) → IsIn other changed → (IsIn other heap × (other.row ≢ turn.row)) ⊎ (other ≡ turn)
  of-changed other in_ = by (same? in_.0 at) where
    by : (in_.0 ≡ at) ⊎ (in_.0 ≢ at) → (IsIn other heap × (other.row ≢ turn.row)) ⊎ (other ≡ turn)
    by (inl is) = inr (sym in_.2 ∙ (ap (turn_at changed) is ∙ changed-here))
    by (inr ne) =
        let within = in_.1 in
        let lt : in_.0 < length heap = omega (arith, long-changed) in
        let is : turn_at heap in_.0 ≡ other = sym (changed-rest in_.0 ne) ∙ in_.2 in
        inl ((in_.0, lt, is), λ same. ne (one-turn heap places in_.0 at kept.1 lt held.1 (ap (λ (t : Turn). t.row) is ∙ (same ∙ sym held.2))))

  none-changed : (row : ℕ) → row ≢ turn.row → HasNoTurn row heap → HasNoTurn row changed
  none-changed row ne none = λ place lt. by place lt (of-changed (turn_at changed place) (place, lt, refl)) where
    by : (place : ℕ) → place < length changed → (IsIn (turn_at changed place) heap × (row_at changed place ≢ turn.row)) ⊎ (turn_at changed place ≡ turn) → row_at changed place ≢ row
    by place lt (inl in_) = not-in heap row none (turn_at changed place) in_.0
    by place lt (inr is) = λ same. ne (sym same ∙ ap (λ (t : Turn). t.row) is)

  pub replaced : (later : List Turn) (moved : List ℕ) → AreMoved changed later places moved → IsPut turn heap later places moved
  replaced later moved m = record {
    here = m.stay turn (at, omega (arith, long-changed, held.1), changed-here);
    stay = λ other in_ ne. m.stay other (in-changed other in_ ne);
    come = λ other in_. of-changed other (m.come other in_);
    others = λ row ne absent. m.others row (none-changed row ne absent);
  }

-- ---- the turn of a row goes, and the last one takes its place

module _ (heap mid : List Turn) (places between : List ℕ) (hole last : ℕ) (kept : IsKept heap places) (end : last + 1 ≡ length heap) (within : hole < last) (x : IsExchanged hole last heap mid) (m : AreMoved heap mid places between) where
  abbrev row : ℕ
  row = row_at heap hole

  abbrev popped : List Turn
  popped = take last mid

  long-popped : length popped ≡ last
  long-popped = let e = m.long in let f = length-take last mid in omega arith

  popped-at : (place : ℕ) → place < last → turn_at popped place ≡ turn_at mid place
  popped-at place lt = get_or-take last mid place (record { first = 0; second = 0; row = 0 }) lt

  popped-rest : (place : ℕ) → place < last → place ≢ hole → turn_at popped place ≡ turn_at heap place
  popped-rest place lt ne = let not : place ≢ last = omega arith in popped-at place lt ∙ x.rest place ne not

  popped-across : (parent place : ℕ) → IsBelow parent hole → IsBelow hole place → place < length popped → Follows popped parent place
  popped-across parent place over under lt =
      let lt_last : place < last = omega (arith, long-popped) in
      let hole_lt : hole < length heap = omega arith in
      let parent_ne : parent ≢ hole = omega arith in
      let place_ne : place ≢ hole = omega arith in
      follows-too heap popped parent place parent place (popped-rest parent (omega arith) parent_ne) (popped-rest place lt_last place_ne)
      (chain (turn_at heap place) (turn_at heap hole) (turn_at heap parent) (kept.0 hole place under (omega arith)) (kept.0 parent hole over hole_lt))

  pub popped-ordered : IsOrderedBut hole popped
  popped-ordered = record {
    others = λ parent place below lt parent_ne place_ne.
        let lt_last : place < last = omega (arith, long-popped) in
        follows-too heap popped parent place parent place (popped-rest parent (omega arith) parent_ne) (popped-rest place lt_last place_ne) (kept.0 parent place below (omega arith));
    across = popped-across;
  }

  pub popped-known : KnowsPlaces popped between
  popped-known place lt =
      let lt_last : place < last = omega (arith, long-popped) in
      let known = m.known place (omega (arith, m.long)) in
      let same : row_at mid place ≡ row_at popped place = ap (λ (t : Turn). t.row) (sym (popped-at place lt_last)) in
      subst (λ r. (r < length between) × (slice_index between r ≡ place)) same known

  -- the row's turn stands last before it goes
  row-last : row_at mid last ≡ row
  row-last = ap (λ (t : Turn). t.row) x.there

  last-within : last < length mid
  last-within = let e = m.long in omega arith

  in-popped : (other : Turn) → IsIn other mid → other.row ≢ row → IsIn other popped
  in-popped other in_ ne =
      let lt = in_.1 in
      let e = m.long in
      let not : in_.0 ≢ last = λ same. ne (sym (ap (λ (t : Turn). t.row) in_.2) ∙ (ap (row_at mid) same ∙ row-last)) in
      let lt_last : in_.0 < last = omega arith in
      (in_.0, omega (arith, long-popped), popped-at in_.0 lt_last ∙ in_.2)

  of-popped : (other : Turn) → IsIn other popped → IsIn other mid × (other.row ≢ row)
  of-popped other in_ =
      let lt = in_.1 in
      let e = m.long in
      let f = long-popped in
      let lt_last : in_.0 < last = omega arith in
      let lt_mid : in_.0 < length mid = omega arith in
      let is : turn_at mid in_.0 ≡ other = sym (popped-at in_.0 lt_last) ∙ in_.2 in (
        (in_.0, lt_mid, is),
        λ same. let end_ : in_.0 ≡ last = one-turn mid between in_.0 last m.known lt_mid last-within (ap (λ (t : Turn). t.row) is ∙ (same ∙ sym row-last)) in omega arith,
      )

  pub cut : IsTaken row heap popped places between
  cut = record {
    stay = λ other in_ ne. in-popped other (m.stay other in_) ne;
    come = λ other in_. let h = of-popped other in_ in (m.come other h.0, h.1);
    others = λ other none. m.others other none;
  }

-- ---- the turn of a row goes that stands last

module _ (heap : List Turn) (places : List ℕ) (last : ℕ) (kept : IsKept heap places) (end : last + 1 ≡ length heap) where
  abbrev shorter : List Turn
  shorter = take last heap

  long-shorter : length shorter ≡ last
  long-shorter = let f = length-take last heap in omega arith

  shorter-at : (place : ℕ) → place < last → turn_at shorter place ≡ turn_at heap place
  shorter-at place lt = get_or-take last heap place (record { first = 0; second = 0; row = 0 }) lt

  shorter-ordered : IsOrdered shorter
  shorter-ordered parent place below lt =
      let lt_last : place < last = omega (arith, long-shorter) in
      follows-too heap shorter parent place parent place (shorter-at parent (omega arith)) (shorter-at place lt_last) (kept.0 parent place below (omega arith))

  shorter-known : KnowsPlaces shorter places
  shorter-known place lt =
      let lt_last : place < last = omega (arith, long-shorter) in
      let known = kept.1 place (omega arith) in
      let same : row_at heap place ≡ row_at shorter place = ap (λ (t : Turn). t.row) (sym (shorter-at place lt_last)) in
      subst (λ r. (r < length places) × (slice_index places r ≡ place)) same known

  pub shorter-kept : IsKept shorter places
  shorter-kept = (shorter-ordered, shorter-known)

  in-shorter : (other : Turn) → IsIn other heap → other.row ≢ row_at heap last → IsIn other shorter
  in-shorter other in_ ne =
      let lt = in_.1 in
      let not : in_.0 ≢ last = λ same. ne (sym (ap (λ (t : Turn). t.row) in_.2) ∙ ap (row_at heap) same) in
      let lt_last : in_.0 < last = omega arith in
      (in_.0, omega (arith, long-shorter), shorter-at in_.0 lt_last ∙ in_.2)

  of-shorter : (other : Turn) → IsIn other shorter → IsIn other heap × (other.row ≢ row_at heap last)
  of-shorter other in_ =
      let lt = in_.1 in
      let f = long-shorter in
      let lt_last : in_.0 < last = omega arith in
      let lt_heap : in_.0 < length heap = omega arith in
      let last_heap : last < length heap = omega arith in
      let is : turn_at heap in_.0 ≡ other = sym (shorter-at in_.0 lt_last) ∙ in_.2 in (
        (in_.0, lt_heap, is),
        λ same. let end_ : in_.0 ≡ last = one-turn heap places in_.0 last kept.1 lt_heap last_heap (ap (λ (t : Turn). t.row) is ∙ same) in omega arith,
      )

  pub shorter-taken : IsTaken (row_at heap last) heap shorter places places
  shorter-taken = record { stay = λ other in_ ne. in-shorter other in_ ne; come = λ other in_. of-shorter other in_; others = λ other none. refl }

-- what is left where the turn of a row stood last, by what the call tells
pub pop-leaves : (heap front : List Turn) (places : List ℕ) (gone place len : ℕ) → IsKept heap places → HasTurn gone heap places → place ≡ slice_index places gone → place + 1 ≡ len → len ≡ length heap → front ≡ take (len - 1) heap
    → IsKept front places × IsTaken gone heap front places places
pop-leaves heap front places gone place len kept held at last long left =
    let end_ : place + 1 ≡ length heap = omega arith in
    let count : len - 1 ≡ place = omega arith in
    let front_is : front ≡ take place heap = left ∙ ap (λ n. take n heap) count in
    let row_is : row_at heap place ≡ gone = ap (row_at heap) at ∙ held.2 in
    subst (λ (l : List Turn). IsKept l places × IsTaken gone heap l places places) (sym front_is)
    (shorter-kept heap places place kept end_, subst (λ r. IsTaken r heap (take place heap) places places) row_is (shorter-taken heap places place kept end_))

-- moves after that
pub taken-moved : (heap mid later : List Turn) (places between moved : List ℕ) (gone : ℕ) → IsTaken gone heap mid places between → AreMoved mid later between moved → IsTaken gone heap later places moved
taken-moved heap mid later places between moved gone t m = record {
  stay = λ other in_ ne. m.stay other (t.stay other in_ ne);
  come = λ other in_. t.come other (m.come other in_);
  others = λ other none. m.others other (none-later heap mid other (λ turn in_. (t.come turn in_).0) none) ∙ t.others other none;
}

-- ---- how many steps

pub few-settled : (levels count before after : ℕ) → 2 ^ levels ≤ count → AreAtMost (3 * levels + 3) before after → AreFew count before after
few-settled levels count before after le steps =
    let e = doubled levels in
    let low = steps.0 in
    let high = steps.1 in
    (levels + 1, omega arith, (omega arith, omega arith))

-- ---- a vector whose slice was written

pub written : {A : Type 0} (later items : List A) (len : ℕ) → length later ≡ len → take len (later ++ drop (length later) items) ≡ later
written later items len long = take_at later (drop (length later) items) len long

-- what is left where the last turn of a vector went, by what the calls tell
pub put-last-leaves : (heap given mid front : List Turn) (places between : List ℕ) (hole count len : ℕ) → IsKept heap places → given ≡ heap → hole + 1 < length heap → count ≡ len → len ≡ length heap
    → IsExchanged hole (count - 1) given mid → AreMoved given mid places between → front ≡ take (len - 1) (take len (mid ++ drop (length mid) heap))
    → IsOrderedBut hole front × KnowsPlaces front between × IsTaken (row_at heap hole) heap front places between
put-last-leaves heap given mid front places between hole count len kept same within is long x m left =
    let x_heap = subst (λ (l : List Turn). IsExchanged hole (count - 1) l mid) same x in
    let m_heap = subst (λ (l : List Turn). AreMoved l mid places between) same m in
    let long_mid : length mid ≡ len = m_heap.long ∙ sym long in
    let whole : take len (mid ++ drop (length mid) heap) ≡ mid = written mid heap len long_mid in
    let last : len - 1 ≡ count - 1 = omega arith in
    let front_is : front ≡ take (count - 1) mid = left ∙ (ap (take (len - 1)) whole ∙ ap (λ n. take n mid) last) in
    let end_ : count - 1 + 1 ≡ length heap = omega arith in
    let less : hole < count - 1 = omega arith in
    subst (λ (l : List Turn). IsOrderedBut hole l × KnowsPlaces l between × IsTaken (row_at heap hole) heap l places between) (sym front_is) (
      popped-ordered heap mid places between hole (count - 1) kept end_ less x_heap m_heap,
      popped-known heap mid places between hole (count - 1) kept end_ less x_heap m_heap,
      cut heap mid places between hole (count - 1) kept end_ less x_heap m_heap,
    )
