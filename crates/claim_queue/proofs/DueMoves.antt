-- What `add`, `shift` and `remove` leave of rows that fall due, by what the calls in them tell.
use Rattle.std.proofs.Common.{◌≡◌, ℕ, ◌+◌, ◌<◌, Bool, true, false, nat_le, List, [], ◌∷◌, length, Option, Some, None, refl, sym, ap, ◌∙◌, subst, slice_get, slice_set, slice_index_or, arith}
use Rattle.std.proofs.lemmas.Bool.{leb-true, leb-false}
use Rattle.claim_queue.specs.declared.turns.Turn.{Turn}
use Rattle.claim_queue.specs.Held.{held}
use Rattle.claim_queue.specs.Dues.{Dues, first_due_of}
use Rattle.claim_queue.specs.Firsts.{IsHeld, IsFirstDue}
use Rattle.claim_queue.specs.Heaps.{turn_at, HasNoTurn, HasTurn, IsKept, IsPut, IsTaken}
use Rattle.claim_queue.specs.DueHeaps.{due_turn, due_by, AreDue}
use Rattle.claim_queue.specs.WaitHeaps.{top_row}
use Rattle.claim_queue.proofs.HeldLemmas.{within-held, held-added, index-held}
use Rattle.claim_queue.proofs.TableLemmas.{held-within, held-kept, held-gone}
use Rattle.claim_queue.proofs.DueLemmas.{due-absent, due-held, due-put, due-taken, top-held, top-due, top-late, none-due}
use Rattle.claim_queue.proofs.LeastLemmas.{first-due-is, first-due-one}

module _ (rows : List (Option ℕ)) (heap : List Turn) (places given : List ℕ) (due : AreDue rows heap places) (same : given ≡ places) where
  pub given-kept : IsKept heap given
  given-kept = subst (λ (l : List ℕ). IsKept heap l) (sym same) due.kept

  module _ (turn : Turn) (row at : ℕ) (is : turn ≡ due_turn at row) where
    row_is : turn.row ≡ row
    row_is = ap (λ (t : Turn). t.row) is

    as-due : (later : List Turn) (moved : List ℕ) → IsPut turn heap later given moved → IsPut (due_turn at row) heap later places moved
    as-due later moved p = subst (λ (l : List ℕ). IsPut (due_turn at row) heap later l moved) same (subst (λ (t : Turn). IsPut t heap later given moved) is p)

    pub turn-absent : slice_get rows row ≡ Some None → HasNoTurn turn.row heap × (turn.row < length given)
    turn-absent none = (
      subst (λ n. HasNoTurn n heap) (sym row_is) (due-absent rows heap places due row none),
      let lt = within-held rows row None none in
          let wide = due.wide in
          let long : length given ≡ length places = ap length same in
          omega (arith, row_is),
    )

    pub turn-held : (was : ℕ) → IsHeld rows row was → HasTurn turn.row heap given
    turn-held was held_ = subst (λ (l : List ℕ). HasTurn turn.row heap l) (sym same) (subst (λ n. HasTurn n heap places) (sym row_is) (due-held rows heap places due row was held_))

    pub due-added : (later : List Turn) (moved : List ℕ) → slice_get rows row ≡ Some None → IsPut turn heap later given moved → IsKept later moved → length later ≡ length heap + 1 → length moved ≡ length given → AreDue (slice_set rows row (Some at)) later moved
    due-added later moved none p kept more long =
        let count : length later ≡ held (slice_set rows row (Some at)) = more ∙ (ap (λ n. n + 1) due.count ∙ sym (held-added rows row at none)) in
        due-put rows heap places due later moved row at (within-held rows row None none) (as-due later moved p) kept count (long ∙ ap length same)

    pub due-shifted : (later : List Turn) (moved : List ℕ) (was : ℕ) → IsHeld rows row was → IsPut turn heap later given moved → IsKept later moved → length later ≡ length heap → length moved ≡ length given → AreDue (slice_set rows row (Some at)) later moved
    due-shifted later moved was held_ p kept long_heap long =
        let count : length later ≡ held (slice_set rows row (Some at)) = long_heap ∙ (due.count ∙ sym (held-kept rows row was at held_)) in
        due-put rows heap places due later moved row at (held-within rows row was held_) (as-due later moved p) kept count (long ∙ ap length same)

  pub row-held : (row was : ℕ) → IsHeld rows row was → HasTurn row heap given
  row-held row was held_ = subst (λ (l : List ℕ). HasTurn row heap l) (sym same) (due-held rows heap places due row was held_)

  pub due-removed : (later : List Turn) (moved : List ℕ) (row was : ℕ) → IsHeld rows row was → IsTaken row heap later given moved → IsKept later moved → length later + 1 ≡ length heap → length moved ≡ length given → AreDue (slice_set rows row None) later moved
  due-removed later moved row was held_ p kept less long =
      let count : length later ≡ held (slice_set rows row None) = let a = due.count in let b = held-gone rows row was held_ in omega arith in
      due-taken rows heap places due later moved row (held-within rows row was held_) (subst (λ (l : List ℕ). IsTaken row heap later l moved) same p) kept count (long ∙ ap length same)

-- ---- the first that falls due, by what the call has

pub first-shown : (moment : ℕ) (rows : List (Option ℕ)) (dues : Dues) (first : Option (ℕ × ℕ)) → rows ≡ dues.rows → IsFirstDue moment rows first → first ≡ first_due_of moment dues
first-shown moment rows dues first same is =
    first-due-one moment dues.rows first (first_due_of moment dues) (subst (λ (l : List (Option ℕ)). IsFirstDue moment l first) same is) (first-due-is moment dues)

top-there : (heap : List Turn) (row : ℕ) → Some row ≡ top_row heap → (0 < length heap) × (row ≡ (turn_at heap 0).row)
top-there [] row is = let both : Some row ≡ None = is in absurd (cc)
top-there (turn ∷ turns) row is = (omega arith, let both : Some row ≡ Some turn.row = is in cc)

top-none : (heap : List Turn) → None ≡ top_row heap → length heap ≡ 0
top-none [] is = refl
top-none (turn ∷ turns) is = let both : None ≡ Some turn.row = is in cc

module _ (rows : List (Option ℕ)) (heap : List Turn) (places : List ℕ) (due : AreDue rows heap places) where
  -- what is held of the row at the top
  top-is : (row : ℕ) → Some row ≡ top_row heap → IsHeld rows row (turn_at heap 0).first
  top-is row is = let t = top-there heap row is in subst (λ n. IsHeld rows n (turn_at heap 0).first) (sym t.1) (top-held rows heap places due t.0)

  pub top-within : (row : ℕ) → Some row ≡ top_row heap → row < length rows
  top-within row is = held-within rows row (turn_at heap 0).first (top-is row is)

  pub top-shown : (moment row : ℕ) (read : Option ℕ) (dues : Dues) → rows ≡ dues.rows → Some row ≡ top_row heap → read ≡ slice_index_or rows row read → due_by moment read row ≡ first_due_of moment dues
  top-shown moment row read dues same is here = ap (λ (o : Option ℕ). due_by moment o row) read_is ∙ by (nat_le (turn_at heap 0).first moment) refl where
    read_is : read ≡ Some (turn_at heap 0).first
    read_is = here ∙ index-held rows row (Some (turn_at heap 0).first) read (top-is row is)

    by : (t : Bool) → nat_le (turn_at heap 0).first moment ≡ t → due_by moment (Some (turn_at heap 0).first) row ≡ first_due_of moment dues
    by true le =
        let t = top-there heap row is in
        let there = top-due rows heap places due moment t.0 (leb-true (turn_at heap 0).first moment le) in
        let first_is : IsFirstDue moment rows (Some ((turn_at heap 0).first, row)) = subst (λ n. IsFirstDue moment rows (Some ((turn_at heap 0).first, n))) (sym t.1) there in
        rw le (first-shown moment rows dues (Some ((turn_at heap 0).first, row)) same first_is)
    by false late =
        let t = top-there heap row is in
        rw late (first-shown moment rows dues None same (top-late rows heap places due moment t.0 (leb-false (turn_at heap 0).first moment late)))

  pub none-shown : (moment : ℕ) (dues : Dues) → rows ≡ dues.rows → None ≡ top_row heap → None ≡ first_due_of moment dues
  none-shown moment dues same is = first-shown moment rows dues None same (none-due rows heap places due moment (top-none heap is))
