-- Rows that fall due, and the heap of their turns.
use Rattle.std.proofs.Common.{◌≡◌, ◌≢◌, ℕ, ◌<◌, ◌≤◌, ◌⊎◌, inl, inr, false, List, length, Option, Some, None, refl, sym, ap, ◌∙◌, subst, slice_get, slice_set, arith, length-set}
use Rattle.std.proofs.lemmas.Bool.Decides.{nat_tests}
use Rattle.claim_queue.specs.declared.turns.Turn.{Turn}
use Rattle.claim_queue.specs.Held.{held}
use Rattle.claim_queue.specs.Firsts.{IsHeld, IsFirstDue}
use Rattle.claim_queue.specs.Heaps.{turn_at, comes_before, IsIn, HasNoTurn, HasTurn, IsKept, IsPut, IsTaken}
use Rattle.claim_queue.specs.DueHeaps.{due_turn, AreDue}
use Rattle.claim_queue.proofs.HeapLemmas.{same?, top-first}
use Rattle.claim_queue.proofs.TableLemmas.{get-set-same, get-set-other, held-one, not-both, has-turn}

module _ (rows : List (Option ℕ)) (heap : List Turn) (places : List ℕ) (due : AreDue rows heap places) where
  pub due-absent : (row : ℕ) → slice_get rows row ≡ Some None → HasNoTurn row heap
  due-absent row none = λ place lt same.
      let told = (due.told (turn_at heap place) (place, lt, refl)).0 in
      not-both rows row (turn_at heap place).first none (subst (λ n. IsHeld rows n (turn_at heap place).first) same told)

  pub due-held : (row at : ℕ) → IsHeld rows row at → HasTurn row heap places
  due-held row at is = has-turn heap places (due_turn at row) due.kept.1 (due.found row at is)

  -- a row gets a moment
  pub due-put : (later : List Turn) (moved : List ℕ) (row at : ℕ) → row < length rows → IsPut (due_turn at row) heap later places moved → IsKept later moved → length later ≡ held (slice_set rows row (Some at)) → length moved ≡ length places
      → AreDue (slice_set rows row (Some at)) later moved
  due-put later moved row at lt p kept count long = record {
    told = λ turn in_. told turn (p.come turn in_);
    found = λ other moment is. found other moment is (same? other row);
    kept = kept;
    count = count;
    wide = let wide = due.wide in omega (arith, length-set rows row (Some at));
  } where
    told : (turn : Turn) → (IsIn turn heap × (turn.row ≢ row)) ⊎ (turn ≡ due_turn at row) → IsHeld (slice_set rows row (Some at)) turn.row turn.first × (turn.second ≡ 0)
    told turn (inl h) = let t = due.told turn h.0 in (get-set-other rows row turn.row (Some at) h.1 ∙ t.0, t.1)
    told turn (inr is) = subst (λ (t : Turn). IsHeld (slice_set rows row (Some at)) t.row t.first × (t.second ≡ 0)) (sym is) (get-set-same rows row (Some at) lt, refl)

    found : (other moment : ℕ) → IsHeld (slice_set rows row (Some at)) other moment → (other ≡ row) ⊎ (other ≢ row) → IsIn (due_turn moment other) later
    found other moment is (inl same) =
        let here : IsHeld (slice_set rows row (Some at)) row moment = subst (λ n. IsHeld (slice_set rows row (Some at)) n moment) same is in
        let when : moment ≡ at = held-one (slice_set rows row (Some at)) row moment at here (get-set-same rows row (Some at) lt) in
        let turn : due_turn at row ≡ due_turn moment other = ap (λ n. due_turn n row) (sym when) ∙ ap (due_turn moment) (sym same) in
        subst (λ (t : Turn). IsIn t later) turn p.here
    found other moment is (inr ne) = p.stay (due_turn moment other) (due.found other moment (sym (get-set-other rows row other (Some at) ne) ∙ is)) ne

  -- a row has no moment any more
  pub due-taken : (later : List Turn) (moved : List ℕ) (row : ℕ) → row < length rows → IsTaken row heap later places moved → IsKept later moved → length later ≡ held (slice_set rows row None) → length moved ≡ length places
      → AreDue (slice_set rows row None) later moved
  due-taken later moved row lt p kept count long = record {
    told = λ turn in_. let h = p.come turn in_ in let t = due.told turn h.0 in (get-set-other rows row turn.row None h.1 ∙ t.0, t.1);
    found = λ other moment is. found other moment is (same? other row);
    kept = kept;
    count = count;
    wide = let wide = due.wide in omega (arith, length-set rows row None);
  } where
    found : (other moment : ℕ) → IsHeld (slice_set rows row None) other moment → (other ≡ row) ⊎ (other ≢ row) → IsIn (due_turn moment other) later
    found other moment is (inl same) =
        absurd (not-both (slice_set rows row None) row moment (get-set-same rows row None lt) (subst (λ n. IsHeld (slice_set rows row None) n moment) same is))
    found other moment is (inr ne) = p.stay (due_turn moment other) (due.found other moment (sym (get-set-other rows row other None ne) ∙ is)) ne

  -- ---- what falls due first

  first-of : (turn : Turn) (at row : ℕ) → turn.second ≡ 0 → comes_before (due_turn at row) turn ≡ false → (turn.first ≤ at) × (at ≡ turn.first → turn.row ≤ row)
  unfolding comes_before
  first-of turn at row none follows = (grind (arith, nat_tests), λ same. grind (arith, nat_tests))

  after-top : 0 < length heap → (row at : ℕ) → IsHeld rows row at → ((turn_at heap 0).first ≤ at) × (at ≡ (turn_at heap 0).first → (turn_at heap 0).row ≤ row)
  after-top some row at is =
      let in_ = due.found row at is in
      let follows = top-first heap due.kept.0 in_.0 in_.1 in
      let told = due.told (turn_at heap 0) (0, some, refl) in
      first-of (turn_at heap 0) at row told.1 (subst (λ (t : Turn). comes_before t (turn_at heap 0) ≡ false) in_.2 follows)

  pub top-held : 0 < length heap → IsHeld rows (turn_at heap 0).row (turn_at heap 0).first
  top-held some = (due.told (turn_at heap 0) (0, some, refl)).0

  pub top-due : (moment : ℕ) → 0 < length heap → (turn_at heap 0).first ≤ moment → IsFirstDue moment rows (Some ((turn_at heap 0).first, (turn_at heap 0).row))
  top-due moment some le = (top-held some, le, after-top some)

  pub top-late : (moment : ℕ) → 0 < length heap → moment < (turn_at heap 0).first → IsFirstDue moment rows None
  top-late moment some late = λ row at is. let after = (after-top some row at is).0 in omega arith

  pub none-due : (moment : ℕ) → length heap ≡ 0 → IsFirstDue moment rows None
  none-due moment none = λ row at is. let in_ = due.found row at is in let lt = in_.1 in absurd (omega arith)
