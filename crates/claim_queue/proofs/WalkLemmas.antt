-- A walk over the rows of a queue: what is left of them, and which is the next.
use Rattle.std.proofs.Common.{◌≡◌, ◌≢◌, ℕ, zero, suc, ◌+◌, ◌*◌, ◌<◌, ◌≤◌, ◌⊎◌, inl, inr, Bool, true, false, not, ◌&&◌, List, [], ◌∷◌, Option, Some, None, option_map, refl, sym, ap, ◌∙◌, subst, length, slice_get, slice_set, if◌then◌else◌, arith}
use Rattle.std.specs.Str.{bytes_eq}
use Rattle.std.proofs.lemmas.Bool.Decides.{nat_tests}
use Rattle.claim_queue.specs.declared.turns.Turn.{Turn}
use Rattle.claim_queue.specs.Waits.{Waiting, Waits, rank, goes_before, best_of}
use Rattle.claim_queue.specs.Walks.{Walk, without, given_of}
use Rattle.claim_queue.specs.Firsts.{IsHeld, IsBest}
use Rattle.claim_queue.specs.Places.{name_at}
use Rattle.claim_queue.specs.Heaps.{comes_before}
use Rattle.claim_queue.specs.Behind.{is_behind, waiting_turn, IsTurnBehind, IsNextTurn, was_given, left_row, left_from, left_of, given_in}
use Rattle.claim_queue.specs.Counts.{AreAtMost}
use Rattle.claim_queue.proofs.HeldLemmas.{within-held}
use Rattle.claim_queue.proofs.HeapLemmas.{same?, one_way, chain}
use Rattle.claim_queue.proofs.LeastLemmas.{best-is, best-one}
use Rattle.claim_queue.proofs.QueueLemmas.{lex-goes}
use Rattle.claim_queue.proofs.TableLemmas.{get-set-same, get-set-other}

-- lists with the same at each place
ext : {A : Type 0} (xs ys : List A) → ((k : ℕ) → slice_get xs k ≡ slice_get ys k) → xs ≡ ys
ext [] [] same = refl
ext [] (y ∷ ys) same = let e = same 0 in absurd (cc)
ext (x ∷ xs) [] same = let e = same 0 in absurd (cc)
ext {A = A} (x ∷ xs) (y ∷ ys) same =
    let head : Some x ≡ Some y = same 0 in
    let first : x ≡ y = cc in
    let rest : xs ≡ ys = ext xs ys (λ k. same (suc k)) in
    ap (λ (z : A). z ∷ xs) first ∙ ap (λ (zs : List A). y ∷ zs) rest

-- ---- turns

-- of two rows one comes before the other
either : (a b : Turn) → comes_before a b ≡ false → a.row ≢ b.row → comes_before b a ≡ true
unfolding comes_before
either a b is apart = grind (arith, nat_tests)

not-self : (a : Turn) → comes_before a a ≡ false
not-self a = by (comes_before a a) refl where
  by : (t : Bool) → comes_before a a ≡ t → comes_before a a ≡ false
  by true is = one_way a a is
  by false is = is

goes-by-turn : (one other : Waiting) (row there : ℕ) → comes_before (waiting_turn other there) (waiting_turn one row) ≡ false
    → (goes_before other one ≡ false) × (goes_before one other ≡ false → row ≤ there)
unfolding comes_before
goes-by-turn one other row there follows = lex-goes (rank other.priority) other.number (rank one.priority) one.number row there follows

-- ---- what is left, place by place

left-get : (name : List ℕ) (last : Option Turn) (base : ℕ) (rows : List (Option Waiting)) (k : ℕ) → slice_get (left_from name last base rows) k ≡ option_map (left_row name last (base + k)) (slice_get rows k)
left-get name last base [] k = refl
left-get name last base (x ∷ rows) zero = let e : base ≡ base + 0 = omega arith in ap (λ n. Some (left_row name last n x)) e
left-get name last base (x ∷ rows) (suc k) =
    let e : (base + 1) + k ≡ base + suc k = omega arith in
    left-get name last (base + 1) rows k ∙ ap (λ n. option_map (left_row name last n) (slice_get rows k)) e

pub left-at : (name : List ℕ) (last : Option Turn) (rows : List (Option Waiting)) (k : ℕ) → slice_get (left_from name last 0 rows) k ≡ option_map (left_row name last k) (slice_get rows k)
left-at name last rows k = let e : 0 + k ≡ k = omega arith in left-get name last 0 rows k ∙ ap (λ n. option_map (left_row name last n) (slice_get rows k)) e

-- before the first one nothing was given
left-none : (name : List ℕ) (base : ℕ) (rows : List (Option Waiting)) → left_from name None base rows ≡ rows
left-none name base [] = refl
left-none name base (None ∷ rows) = ap (λ (l : List (Option Waiting)). None ∷ l) (left-none name (base + 1) rows)
left-none name base (Some waiting ∷ rows) = ap (λ (l : List (Option Waiting)). Some waiting ∷ l) (left-none name (base + 1) rows)

pub left-all : (name : List ℕ) (waits : Waits) → left_of name None waits ≡ waits
left-all name waits = ap (λ (l : List (Option Waiting)). let w : Waits = record { queues = waits.queues; rows = l } in w) (left-none name 0 waits.rows)

-- ---- a row that is left

behind-by : (behind here : Bool) → (not behind && here) ≡ false → here ≡ true → behind ≡ true
behind-by true here is yes_ = refl
behind-by false here is yes_ = let both : true ≡ false = sym yes_ ∙ is in absurd (cc)

given-not : (behind here : Bool) → behind ≡ true → (not behind && here) ≡ false
given-not behind here is = rw is refl

row-some : (name : List ℕ) (last : Option Turn) (row : ℕ) (x : Option Waiting) (waiting : Waiting) → left_row name last row x ≡ Some waiting → (x ≡ Some waiting) × (was_given name last row waiting ≡ false)
row-some name last row None waiting is = absurd (cc)
row-some name last row (Some there) waiting is = by (was_given name last row there) refl where
  by : (t : Bool) → was_given name last row there ≡ t → (Some there ≡ Some waiting) × (was_given name last row waiting ≡ false)
  by true given =
      let none : left_row name last row (Some there) ≡ None = rw given refl in
      let both : None ≡ Some waiting = sym none ∙ is in
      absurd (cc)
  by false given =
      let some : left_row name last row (Some there) ≡ Some there = rw given refl in
      let both : Some there ≡ Some waiting = sym some ∙ is in
      let same : there ≡ waiting = cc in
      (both, subst (λ (w : Waiting). was_given name last row w ≡ false) same given)

-- a row that is left was there, and comes behind what was given
pub left-held : (name : List ℕ) (last : Option Turn) (rows : List (Option Waiting)) (row : ℕ) (waiting : Waiting) → IsHeld (left_from name last 0 rows) row waiting
    → IsHeld rows row waiting × (bytes_eq waiting.queue name ≡ true → is_behind last (waiting_turn waiting row) ≡ true)
left-held name last rows row waiting held = by (slice_get rows row) refl where
  by : (x : Option (Option Waiting)) → slice_get rows row ≡ x → IsHeld rows row waiting × (bytes_eq waiting.queue name ≡ true → is_behind last (waiting_turn waiting row) ≡ true)
  by None is =
      let none : slice_get (left_from name last 0 rows) row ≡ None = left-at name last rows row ∙ ap (option_map (left_row name last row)) is in
      let both : None ≡ Some (Some waiting) = sym none ∙ held in
      absurd (cc)
  by (Some x) is =
      let some : slice_get (left_from name last 0 rows) row ≡ Some (left_row name last row x) = left-at name last rows row ∙ ap (option_map (left_row name last row)) is in
      let both : Some (left_row name last row x) ≡ Some (Some waiting) = sym some ∙ held in
      let one : left_row name last row x ≡ Some waiting = cc in
      let here = row-some name last row x waiting one in
      (is ∙ ap (λ (o : Option Waiting). Some o) here.0, behind-by (is_behind last (waiting_turn waiting row)) (bytes_eq waiting.queue name) here.1)

-- and one that comes behind it is left
held-left : (name : List ℕ) (last : Option Turn) (rows : List (Option Waiting)) (row : ℕ) (waiting : Waiting) → IsHeld rows row waiting → is_behind last (waiting_turn waiting row) ≡ true → IsHeld (left_from name last 0 rows) row waiting
held-left name last rows row waiting held behind =
    let not_given : was_given name last row waiting ≡ false = given-not (is_behind last (waiting_turn waiting row)) (bytes_eq waiting.queue name) behind in
    let stays : left_row name last row (Some waiting) ≡ Some waiting = rw not_given refl in
    left-at name last rows row ∙ (ap (option_map (left_row name last row)) held ∙ ap (λ (o : Option Waiting). Some o) stays)

-- ---- the next row is the best of those that are left

module _ (name : List ℕ) (last : Option Turn) (waits : Waits) where
  next-first : (next : Option Turn) → IsNextTurn name waits.rows last next → IsBest name (left_of name last waits) (option_map (λ (t : Turn). t.row) next)
  next-first None is = λ row waiting held. by row waiting held (bytes_eq waiting.queue name) refl where
    by : (row : ℕ) (waiting : Waiting) → IsHeld (left_from name last 0 waits.rows) row waiting → (t : Bool) → bytes_eq waiting.queue name ≡ t → bytes_eq waiting.queue name ≡ false
    by row waiting held true here = let was = left-held name last waits.rows row waiting held in absurd (is.least row waiting was.0 here (was.1 here))
    by row waiting held false here = here
  next-first (Some turn) is =
      let found = is.found in
      let behind : is_behind last (waiting_turn found.waiting turn.row) ≡ true = subst (λ (t : Turn). is_behind last t ≡ true) found.same found.behind in (
        found.waiting,
        held-left name last waits.rows turn.row found.waiting found.held behind,
        found.here,
        λ other waiting held here.
            let was = left-held name last waits.rows other waiting held in
            let later : comes_before (waiting_turn waiting other) turn ≡ false = is.least other waiting was.0 here (was.1 here) in
            goes-by-turn found.waiting waiting turn.row other (subst (λ (t : Turn). comes_before (waiting_turn waiting other) t ≡ false) found.same later),
      )

  pub next-best : (next : Option Turn) → IsNextTurn name waits.rows last next → option_map (λ (t : Turn). t.row) next ≡ best_of name (left_of name last waits)
  next-best next is = best-one name (left_of name last waits) (option_map (λ (t : Turn). t.row) next) (best_of name (left_of name last waits)) (next-first next is) (best-is name (left_of name last waits))

-- ---- and the others are left behind it

-- what comes behind the next turn came behind the last one
same-behind : (last : Option Turn) (turn there : Turn) → is_behind last turn ≡ true → (is_behind last there ≡ true → comes_before there turn ≡ false) → there.row ≢ turn.row → is_behind (Some turn) there ≡ is_behind last there
same-behind None turn there behind later apart = either there turn (later refl) apart
same-behind (Some last) turn there behind later apart = by (comes_before last there) refl where
  by : (t : Bool) → comes_before last there ≡ t → comes_before turn there ≡ comes_before last there
  by true is = either there turn (later is) apart ∙ sym is
  by false is = chain turn last there (one_way last turn behind) is ∙ sym is

not-given : (behind here : Bool) → here ≡ false → (not behind && here) ≡ false
not-given true here is = refl
not-given false here is = is

row-stays : (name : List ℕ) (last : Option Turn) (row : ℕ) (waiting : Waiting) → bytes_eq waiting.queue name ≡ false → left_row name last row (Some waiting) ≡ Some waiting
row-stays name last row waiting elsewhere =
    let is : was_given name last row waiting ≡ false = not-given (is_behind last (waiting_turn waiting row)) (bytes_eq waiting.queue name) elsewhere in
    rw is refl

pub row-goes : (behind here : Bool) → behind ≡ false → here ≡ true → (not behind && here) ≡ true
row-goes behind here p q = rw (p, q) refl

module _ (name : List ℕ) (last : Option Turn) (rows : List (Option Waiting)) (turn : Turn) (is : IsNextTurn name rows last (Some turn)) where
  next_ : IsTurnBehind name rows last turn
  next_ = is.found

  row-same : (row : ℕ) (x : Option Waiting) → slice_get rows row ≡ Some x → row ≢ turn.row → left_row name (Some turn) row x ≡ left_row name last row x
  row-same row None held apart = refl
  row-same row (Some waiting) held apart = by (bytes_eq waiting.queue name) refl where
    by : (t : Bool) → bytes_eq waiting.queue name ≡ t → left_row name (Some turn) row (Some waiting) ≡ left_row name last row (Some waiting)
    by true here =
        ap (λ (b : Bool). let o : Option Waiting = if not b && bytes_eq waiting.queue name then None else Some waiting in o)
        (same-behind last turn (waiting_turn waiting row) next_.behind (is.least row waiting held here) apart)
    by false elsewhere = row-stays name (Some turn) row waiting elsewhere ∙ sym (row-stays name last row waiting elsewhere)

  abbrev before : List (Option Waiting)
  before = left_from name last 0 rows

  abbrev later : List (Option Waiting)
  later = left_from name (Some turn) 0 rows

  -- the row of the turn is given
  gone : slice_get later turn.row ≡ Some None
  gone =
      let same : comes_before turn (waiting_turn next_.waiting turn.row) ≡ false = subst (λ (t : Turn). comes_before turn t ≡ false) next_.same (not-self turn) in
      let given : was_given name (Some turn) turn.row next_.waiting ≡ true = row-goes (comes_before turn (waiting_turn next_.waiting turn.row)) (bytes_eq next_.waiting.queue name) same next_.here in
      let none : left_row name (Some turn) turn.row (Some next_.waiting) ≡ None = rw given refl in
      left-at name (Some turn) rows turn.row ∙ (ap (option_map (left_row name (Some turn) turn.row)) next_.held ∙ ap (λ (o : Option Waiting). Some o) none)

  -- and each other one is left as it was
  other : (k : ℕ) → k ≢ turn.row → slice_get later k ≡ slice_get before k
  other k apart = left-at name (Some turn) rows k ∙ (by (slice_get rows k) refl ∙ sym (left-at name last rows k)) where
    by : (x : Option (Option Waiting)) → slice_get rows k ≡ x → option_map (left_row name (Some turn) k) (slice_get rows k) ≡ option_map (left_row name last k) (slice_get rows k)
    by None none = rw none refl
    by (Some x) some = rw some (ap (λ (o : Option Waiting). Some o) (row-same k x some apart))

  left-next : later ≡ slice_set before turn.row None
  left-next = ext later (slice_set before turn.row None) (λ k. by k (same? k turn.row)) where
    behind : is_behind last (waiting_turn next_.waiting turn.row) ≡ true
    behind = subst (λ (t : Turn). is_behind last t ≡ true) next_.same next_.behind

    lt : turn.row < length before
    lt = within-held before turn.row (Some next_.waiting) (held-left name last rows turn.row next_.waiting next_.held behind)

    by : (k : ℕ) → (k ≡ turn.row) ⊎ (k ≢ turn.row) → slice_get later k ≡ slice_get (slice_set before turn.row None) k
    by k (inl here) = subst (λ n. slice_get later n ≡ slice_get (slice_set before turn.row None) n) (sym here) (gone ∙ sym (get-set-same before turn.row None lt))
    by k (inr apart) = other k apart ∙ sym (get-set-other before turn.row k None apart)

pub next-left : (name : List ℕ) (last : Option Turn) (waits : Waits) (turn : Turn) → IsNextTurn name waits.rows last (Some turn) → left_of name (Some turn) waits ≡ without (Some turn.row) (left_of name last waits)
next-left name last waits turn is = ap (λ (l : List (Option Waiting)). let w : Waits = record { queues = waits.queues; rows = l } in w) (left-next name last waits.rows turn is)

-- ---- what a walk leaves, by its own fields

-- what is seen of a walk
abbrev pub walk_of : List ℕ → Option Turn → Waits → Walk
walk_of name last waits = record { name = name; all = waits; left = left_of name last waits }

module _ (walk : Walk) (name : List ℕ) (last : Option Turn) (waits : Waits) (seen : walk_of name last waits ≡ walk) where
  pub walk-best : (place : ℕ) (next : Option Turn) → name_at place waits.queues ≡ name → IsNextTurn (name_at place waits.queues) waits.rows last next → option_map (λ (t : Turn). t.row) next ≡ best_of walk.name walk.left
  walk-best place next named is =
      next-best name last waits next (subst (λ (n : List ℕ). IsNextTurn n waits.rows last next) named is) ∙ ap (λ (w : Walk). best_of w.name w.left) seen

  -- no row waits in the queue
  pub walk-none : IsBest name waits None → None ≡ best_of walk.name walk.left
  walk-none none =
      let is : IsNextTurn name waits.rows last None = record {
        found = tt;
        least = λ row waiting held here behind. let elsewhere = none row waiting held in let both : true ≡ false = sym here ∙ elsewhere in cc;
      } in
      next-best name last waits None is ∙ ap (λ (w : Walk). best_of w.name w.left) seen

  pub walk-left : (place : ℕ) (turn : Turn) → name_at place waits.queues ≡ name → IsNextTurn (name_at place waits.queues) waits.rows last (Some turn)
      → walk_of name (Some turn) waits ≡ record walk { left = without (Some turn.row) walk.left }
  walk-left place turn named is =
      let left : left_of name (Some turn) waits ≡ without (Some turn.row) (left_of name last waits) = next-left name last waits turn (subst (λ (n : List ℕ). IsNextTurn n waits.rows last (Some turn)) named is) in
      ap (λ (l : Waits). let w : Walk = record { name = name; all = waits; left = l } in w) left ∙ ap (λ (v : Walk). let w : Walk = record v { left = without (Some turn.row) v.left } in w) seen

  pub walk-few : (place old new : ℕ) → name_at place waits.queues ≡ name → AreAtMost (3 * given_in (name_at place waits.queues) last waits + 1) old new → AreAtMost (3 * given_of walk + 1) old new
  walk-few place old new named few =
      subst (λ (w : Walk). AreAtMost (3 * given_of w + 1) old new) seen (subst (λ (n : List ℕ). AreAtMost (3 * given_in n last waits + 1) old new) named few)
