-- Queues with names of their own: how many rows wait in one, for how many room was made, and which row is the best.
use Rattle.std.proofs.Common.{◌≡◌, ◌≢◌, ℕ, zero, suc, ◌+◌, ◌<◌, ◌≤◌, ◌==◌, ◌&&◌, ◌||◌, nat_lt, ◌⊎◌, inl, inr, Bool, true, false, cond, List, [], ◌∷◌, length, Option, Some, None, Vec, refl, sym, ap, ◌∙◌, subst, arith, option_map}
use Rattle.std.specs.List.{count_by}
use Rattle.std.specs.Global.{Global}
use Rattle.std.specs.Str.{bytes_eq}
use Rattle.std.proofs.lemmas.Bool.Decides.{nat_tests, eqb_tells}
use Rattle.std.proofs.lemmas.List.Sums.{sum_by-cons}
use Rattle.std.proofs.lemmas.Slice.Eq.{bytes_eq-Decides}
use Rattle.claim_queue.specs.declared.entries.Entry.{Entry}
use Rattle.claim_queue.specs.declared.queues.Queue.{Queue}
use Rattle.claim_queue.specs.declared.turns.Turn.{Turn}
use Rattle.claim_queue.specs.Waits.{Waiting, Waits, rank, goes_before, room_in, waits_in, knows}
use Rattle.claim_queue.specs.Places.{name_at, told, told_rows, ArePlaced}
use Rattle.claim_queue.specs.Firsts.{IsHeld, IsBest}
use Rattle.claim_queue.specs.Heaps.{turn_at, comes_before, IsIn}
use Rattle.claim_queue.specs.WaitHeaps.{entry_turn, heap_at, room_at, is_at, AreQueued, AreNamedApart}
use Rattle.claim_queue.proofs.HeapLemmas.{same?, top-first}

-- ---- names

pub same-name : (xs ys : List ℕ) → bytes_eq xs ys ≡ true → xs ≡ ys
same-name xs ys is = (bytes_eq-Decides xs ys).0 is

pub name-same : (xs ys : List ℕ) → xs ≡ ys → bytes_eq xs ys ≡ true
name-same xs ys is = (bytes_eq-Decides xs ys).1 is

-- two names that differ
pub other-name : (xs ys : List ℕ) → (xs ≡ ys → ⊥) → bytes_eq xs ys ≡ false
other-name xs ys ne = by (bytes_eq xs ys) refl where
  by : (t : Bool) → bytes_eq xs ys ≡ t → bytes_eq xs ys ≡ false
  by true is = absurd (ne (same-name xs ys is))
  by false is = is

pub tail-apart : (queue : Queue) (queues : List Queue) → AreNamedApart (queue ∷ queues) → AreNamedApart queues
tail-apart queue queues apart = λ one other p q same. let e : suc one ≡ suc other = apart (suc one) (suc other) (omega arith) (omega arith) same in omega arith

-- ---- how many rows wait in a queue

module _ (queues : List Queue) (place : ℕ) (name : List ℕ) (apart : AreNamedApart queues) (within : place < length queues) (named : name_at place queues ≡ name) where
  same-test : (queue : ℕ) → queue < length queues → (queue == place) ≡ bytes_eq (name_at queue queues) name
  same-test queue lt = by (same? queue place) where
    by : (queue ≡ place) ⊎ (queue ≢ place) → (queue == place) ≡ bytes_eq (name_at queue queues) name
    by (inl is) =
        let yes_ : (queue == place) ≡ true = elim (eqb_tells queue place) [ inl p ↦ p.0 | inr p ↦ absurd (p.1 is) ] in
        yes_ ∙ sym (name-same (name_at queue queues) name (ap (λ n. name_at n queues) is ∙ named))
    by (inr ne) =
        let no_ : (queue == place) ≡ false = elim (eqb_tells queue place) [ inl p ↦ absurd (ne p.1) | inr p ↦ p.0 ] in
        no_ ∙ sym (other-name (name_at queue queues) name (λ same. ne (apart queue place lt within (same ∙ sym named))))

  pub count-place : (rows : List (Option Entry)) → ArePlaced (length queues) rows → count_by (is_at place) rows ≡ count_by (waits_in name) (told_rows queues rows)
  count-place [] placed = refl
  count-place (None ∷ rows) placed =
      let more = count-place rows placed in
      let a : count_by (is_at place) (None ∷ rows) ≡ 0 + count_by (is_at place) rows = sum_by-cons (λ x. cond (is_at place x) 1 0) None rows in
      let b : count_by (waits_in name) (None ∷ told_rows queues rows) ≡ 0 + count_by (waits_in name) (told_rows queues rows) = sum_by-cons (λ x. cond (waits_in name x) 1 0) None (told_rows queues rows) in
      omega arith
  count-place (Some e ∷ rows) placed =
      let more = count-place rows placed.1 in
      let a : count_by (is_at place) (Some e ∷ rows) ≡ cond (e.queue == place) 1 0 + count_by (is_at place) rows = sum_by-cons (λ x. cond (is_at place x) 1 0) (Some e) rows in
      let b : count_by (waits_in name) (Some (told queues e) ∷ told_rows queues rows) ≡ cond (bytes_eq (name_at e.queue queues) name) 1 0 + count_by (waits_in name) (told_rows queues rows) =
      sum_by-cons (λ x. cond (waits_in name x) 1 0) (Some (told queues e)) (told_rows queues rows) in
      let c : ◌≡◌ {A = ℕ} (cond (e.queue == place) 1 0) (cond (bytes_eq (name_at e.queue queues) name) 1 0) = ap (λ t. cond t 1 0) (same-test e.queue placed.0) in
      omega arith

-- no row waits in a queue that stands at no place
pub count-unknown : (queues : List Queue) (name : List ℕ) → ((place : ℕ) → place < length queues → bytes_eq (name_at place queues) name ≡ false)
    → (rows : List (Option Entry)) → ArePlaced (length queues) rows → count_by (waits_in name) (told_rows queues rows) ≡ 0
count-unknown queues name none [] placed = refl
count-unknown queues name none (None ∷ rows) placed =
    sum_by-cons (λ x. cond (waits_in name x) 1 0) None (told_rows queues rows) ∙ ap (λ (n : ℕ). 0 + n) (count-unknown queues name none rows placed)
count-unknown queues name none (Some e ∷ rows) placed =
    sum_by-cons (λ x. cond (waits_in name x) 1 0) (Some (told queues e)) (told_rows queues rows)
    ∙ (ap (λ (b : Bool). cond b 1 0 + count_by (waits_in name) (told_rows queues rows)) (none e.queue placed.0) ∙ ap (λ (n : ℕ). 0 + n) (count-unknown queues name none rows placed.1))

-- for how many rows there is room in the queue at a place
pub room-here : (queues : List Queue) (place : ℕ) (name : List ℕ) → AreNamedApart queues → place < length queues → name_at place queues ≡ name → room_in name queues ≡ room_at place queues
room-here [] place name apart within named = absurd (omega arith)
room-here (queue ∷ queues) zero name apart within named = let is : bytes_eq queue.name name ≡ true = name-same queue.name name named in rw is refl
room-here (queue ∷ queues) (suc place) name apart within named =
    let first : bytes_eq queue.name name ≡ false =
    other-name queue.name name (λ same. let e : 0 ≡ suc place = apart 0 (suc place) (omega arith) within (same ∙ sym named) in omega arith) in
    rw first (room-here queues place name (tail-apart queue queues apart) (omega arith) named)

pub knows-here : (queues : List Queue) (place : ℕ) (name : List ℕ) → place < length queues → name_at place queues ≡ name → knows name queues ≡ true
knows-here [] place name within named = absurd (omega arith)
knows-here (queue ∷ queues) zero name within named = let is : bytes_eq queue.name name ≡ true = name-same queue.name name named in rw is refl
knows-here (queue ∷ queues) (suc place) name within named = by (bytes_eq queue.name name) refl (knows-here queues place name (omega arith) named) where
  by : (t : Bool) → bytes_eq queue.name name ≡ t → knows name queues ≡ true → knows name (queue ∷ queues) ≡ true
  by true is more = rw is refl
  by false is more = rw is more

pub knows-none : (queues : List Queue) (name : List ℕ) → ((place : ℕ) → place < length queues → bytes_eq (name_at place queues) name ≡ false) → knows name queues ≡ false
knows-none [] name none = refl
knows-none (queue ∷ queues) name none =
    let first : bytes_eq queue.name name ≡ false = none 0 (omega arith) in
    rw first (knows-none queues name (λ place within. none (suc place) (omega arith)))

-- ---- the row that is claimed next

-- an entry that is told stands among the rows
pub told-held : (queues : List Queue) (rows : List (Option Entry)) (row : ℕ) (waiting : Waiting) → IsHeld (told_rows queues rows) row waiting → (entry : Entry) × IsHeld rows row entry × (told queues entry ≡ waiting)
told-held queues [] row waiting is = absurd (cc)
told-held queues (None ∷ rows) zero waiting is = absurd (cc)
told-held queues (Some e ∷ rows) zero waiting is = (e, refl, (cc))
told-held queues (o ∷ rows) (suc row) waiting is = told-held queues rows row waiting is

pub held-told : (queues : List Queue) (rows : List (Option Entry)) (row : ℕ) (entry : Entry) → IsHeld rows row entry → IsHeld (told_rows queues rows) row (told queues entry)
held-told queues [] row entry is = absurd (cc)
held-told queues (None ∷ rows) zero entry is = absurd (cc)
held-told queues (Some e ∷ rows) zero entry is = ap (λ (o : Option (Option Entry)). option_map (option_map (told queues)) o) is
held-told queues (o ∷ rows) (suc row) entry is = held-told queues rows row entry is

pub placed-held : (places : ℕ) (rows : List (Option Entry)) (row : ℕ) (entry : Entry) → ArePlaced places rows → IsHeld rows row entry → entry.queue < places
placed-held places [] row entry placed is = absurd (cc)
placed-held places (None ∷ rows) zero entry placed is = absurd (cc)
placed-held places (Some e ∷ rows) zero entry placed is = let same : e ≡ entry = cc in subst (λ (x : Entry). x.queue < places) same placed.0
placed-held places (None ∷ rows) (suc row) entry placed is = placed-held places rows row entry placed is
placed-held places (Some e ∷ rows) (suc row) entry placed is = placed-held places rows row entry placed.1 is

pub lex-goes : (a b c d row there : ℕ) → (nat_lt a c || ((a == c) && (nat_lt b d || ((b == d) && nat_lt there row)))) ≡ false
    → ((nat_lt a c || ((a == c) && nat_lt b d)) ≡ false) × ((nat_lt c a || ((c == a) && nat_lt d b)) ≡ false → row ≤ there)
lex-goes a b c d row there is = (grind (arith, nat_tests), λ same. grind (arith, nat_tests))

goes-of : (queues : List Queue) (one other : Entry) (row there : ℕ) → comes_before (entry_turn other there) (entry_turn one row) ≡ false
    → (goes_before (told queues other) (told queues one) ≡ false) × (goes_before (told queues one) (told queues other) ≡ false → row ≤ there)
unfolding comes_before
goes-of queues one other row there follows = lex-goes (rank other.priority) other.number (rank one.priority) one.number row there follows

module _ (queues : List Queue) (rows : List (Option Entry)) (heaps : List (Vec Turn Global)) (places : List ℕ) (name : List ℕ) (placed : ArePlaced (length queues) rows) (queued : AreQueued rows heaps places) where
  abbrev seen : Waits
  seen = record { queues = queues; rows = told_rows queues rows }

  -- no queue has the name
  pub best-unknown : ((place : ℕ) → place < length queues → bytes_eq (name_at place queues) name ≡ false) → IsBest name seen None
  best-unknown none = λ row waiting is.
      let e = told-held queues rows row waiting is in
      let lt = placed-held (length queues) rows row e.0 placed e.1 in
      ap (λ (w : Waiting). bytes_eq w.queue name) (sym e.2) ∙ none e.0.queue lt

  module _ (place : ℕ) (apart : AreNamedApart queues) (within : place < length queues) (named : name_at place queues ≡ name) where
    -- who waits in the queue has its turn in the heap
    pub in-heap : (row : ℕ) (entry : Entry) → IsHeld rows row entry → bytes_eq (name_at entry.queue queues) name ≡ true → IsIn (entry_turn entry row) (heap_at place heaps)
    in-heap row entry is same =
        let lt = placed-held (length queues) rows row entry placed is in
        let at : entry.queue ≡ place = apart entry.queue place lt within (same-name (name_at entry.queue queues) name same ∙ sym named) in
        subst (λ n. IsIn (entry_turn entry row) (heap_at n heaps)) at (queued.found row entry is)

    pub best-none : length (heap_at place heaps) ≡ 0 → IsBest name seen None
    best-none empty = λ row waiting is. by row waiting is (bytes_eq waiting.queue name) refl where
      by : (row : ℕ) (waiting : Waiting) → IsHeld (told_rows queues rows) row waiting → (t : Bool) → bytes_eq waiting.queue name ≡ t → bytes_eq waiting.queue name ≡ false
      by row waiting is true same =
          let e = told-held queues rows row waiting is in
          let in_ = in-heap row e.0 e.1 (ap (λ (w : Waiting). bytes_eq w.queue name) e.2 ∙ same) in
          let lt = in_.1 in
          absurd (omega arith)
      by row waiting is false same = same

    abbrev top : Turn
    top = turn_at (heap_at place heaps) 0

    first : 0 < length (heap_at place heaps) → (entry : Entry) × IsHeld rows top.row entry × (entry.queue ≡ place) × (top ≡ entry_turn entry top.row)
    first some = queued.told place top (0, some, refl)

    after : (some : 0 < length (heap_at place heaps)) (other : ℕ) (waiting : Waiting) → IsHeld (told_rows queues rows) other waiting → bytes_eq waiting.queue name ≡ true
        → (goes_before waiting (told queues (first some).0) ≡ false) × (goes_before (told queues (first some).0) waiting ≡ false → top.row ≤ other)
    after some other waiting is same =
        let e = told-held queues rows other waiting is in
        let in_ = in-heap other e.0 e.1 (ap (λ (w : Waiting). bytes_eq w.queue name) e.2 ∙ same) in
        let follows : comes_before (turn_at (heap_at place heaps) in_.0) top ≡ false = top-first (heap_at place heaps) (queued.kept place).0 in_.0 in_.1 in
        let mine : comes_before (entry_turn e.0 other) top ≡ false = subst (λ (t : Turn). comes_before t top ≡ false) in_.2 follows in
        let both : comes_before (entry_turn e.0 other) (entry_turn (first some).0 top.row) ≡ false = subst (λ (t : Turn). comes_before (entry_turn e.0 other) t ≡ false) (first some).3 mine in
        subst (λ (w : Waiting). (goes_before w (told queues (first some).0) ≡ false) × (goes_before (told queues (first some).0) w ≡ false → top.row ≤ other)) e.2
        (goes-of queues (first some).0 e.0 top.row other both)

    pub best-top : 0 < length (heap_at place heaps) → IsBest name seen (Some (turn_at (heap_at place heaps) 0).row)
    best-top some = (
      told queues (first some).0,
      held-told queues rows top.row (first some).0 (first some).1,
      name-same (name_at (first some).0.queue queues) name (ap (λ n. name_at n queues) (first some).2 ∙ named),
      after some,
    )
