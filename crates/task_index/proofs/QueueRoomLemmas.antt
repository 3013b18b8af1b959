-- Room in the queues for all tasks, as a task begins to wait or waits no longer.
use Rattle.std.specs.Global.{Global}
use Rattle.std.proofs.Common.{Vec, vec_len, vec_capacity, ◌≡◌, ◌≢◌, ℕ, zero, suc, ◌+◌, ◌<◌, ◌≤◌, ◌==◌, ◌⊎◌, inl, inr, Bool, true, false, cond, List, [], ◌∷◌, length, filter, Option, Some, None, option_map, is_some, option_and_then, refl, sym, ap, ◌∙◌, subst, slice_get, slice_set, slice_index_or, get_or, bytes_eq, arith}
use Rattle.std.specs.Option.{option_eq}
use Rattle.std.specs.Cmp.{booleans_Decides}
use Rattle.std.proofs.lemmas.Bool.Decides.{nat_tests}
use Rattle.std.proofs.lemmas.List.Sums.{length-filter}
use Rattle.std.proofs.lemmas.Slice.Eq.{bytes_eq-Decides}
use Rattle.std.proofs.Math.Bool.{beq}
use Rattle.run_states.specs.Rows.{Row, is_pending}
use Rattle.claim_queue.specs.Waits.{Waiting, Waits, room_in, count_in, spare_in, waits_in as is_in}
use Rattle.claim_queue.proofs.HeapLemmas.{same?}
use Rattle.task_index.specs.declared.queues.Queues.{Queues}
use Rattle.task_index.specs.Queues.{name_of, waiting_of, held_of, left_of, held_at, with_row, HasRoomFor, queue_names, times_named, AreQueues, AreQueuesBut}
use Rattle.task_index.proofs.QueueLemmas.{told-left}
use Rattle.task_index.proofs.QueueWalkLemmas.{set-same, set-none, set-other}

-- ---- rows that are written

pub set-long : {A : Type 0} (xs : List A) (i : ℕ) (y : A) → length (slice_set xs i y) ≡ length xs
set-long [] i y = refl
set-long (x ∷ xs) zero y = refl
set-long (x ∷ xs) (suc i) y = ap suc (set-long xs i y)

set-twice : {A : Type 0} (xs : List A) (i : ℕ) (y z : A) → slice_set (slice_set xs i y) i z ≡ slice_set xs i z
set-twice [] i y z = refl
set-twice (x ∷ xs) zero y z = refl
set-twice (x ∷ xs) (suc i) y z = ap (λ (l : List _). x ∷ l) (set-twice xs i y z)

set-again : {A : Type 0} (xs : List A) (i : ℕ) (y : A) → slice_get xs i ≡ Some y → slice_set xs i y ≡ xs
set-again [] i y is = absurd (cc)
set-again (x ∷ xs) zero y is = let e : y ≡ x = cc in ap (λ z. z ∷ xs) e
set-again (x ∷ xs) (suc i) y is = ap (λ (l : List _). x ∷ l) (set-again xs i y is)

got-within : {A : Type 0} (xs : List A) (i : ℕ) (x : A) → slice_get xs i ≡ Some x → i < length xs
got-within [] i x is = absurd (cc)
got-within (y ∷ xs) zero x is = omega arith
got-within (y ∷ xs) (suc i) x is = let more = got-within xs i x is in omega arith

-- what is known of a row, as it is compared
pub known-held : (held : Option Bool) (x : Bool) → option_eq beq held (Some x) ≡ true → held ≡ Some x
known-held None x is = absurd (cc)
known-held (Some y) x is = ap (λ (b : Bool). Some b) ((booleans_Decides y x).0 is)

pub held-known : (held : Option Bool) (x : Bool) → held ≡ Some x → option_eq beq held (Some x) ≡ true
held-known None x is = absurd (cc)
held-known (Some y) x is = let e : y ≡ x = cc in (booleans_Decides y x).1 e

-- a row that is not held is released already
pub released : (waits : Waits) (row : ℕ) → slice_get waits.rows row ≡ Some None → waits ≡ with_row row None waits
released waits row is = sym (ap (λ (rs : List (Option Waiting)). let w : Waits = record { queues = waits.queues; rows = rs } in w) (set-again waits.rows row None is))

pub may-hold : (waits : Waits) (row : ℕ) (name : List ℕ) → slice_get waits.rows row ≡ Some None → 1 ≤ spare_in name waits → (row < length waits.rows) × (1 ≤ spare_in name (with_row row None waits))
may-hold waits row name free spare = (got-within waits.rows row None free, subst (λ (w : Waits). 1 ≤ spare_in name w) (released waits row free) spare)

pub held-free : (waits : Waits) (row : ℕ) → option_map is_some (slice_get waits.rows row) ≡ Some false → slice_get waits.rows row ≡ Some None
held-free waits row is = by (slice_get waits.rows row) refl where
  by : (x : Option (Option Waiting)) → slice_get waits.rows row ≡ x → slice_get waits.rows row ≡ Some None
  by None none = let both : None ≡ Some false = sym (ap (option_map is_some) none) ∙ is in absurd (cc)
  by (Some (Some w)) some = let both : Some true ≡ Some false = sym (ap (option_map is_some) some) ∙ is in absurd (cc)
  by (Some None) some = some

-- a row that is not known to be held, of those for which room was made
pub not-held : (waits : Waits) (row : ℕ) → row < length waits.rows → (option_map is_some (slice_get waits.rows row) ≡ Some true → ⊥) → slice_get waits.rows row ≡ Some None
not-held waits row within not_ = by waits.rows row within not_ where
  by : (rows : List (Option Waiting)) (row : ℕ) → row < length rows → (option_map is_some (slice_get rows row) ≡ Some true → ⊥) → slice_get rows row ≡ Some None
  by [] row within not_ = absurd (omega arith)
  by (None ∷ rows) zero within not_ = refl
  by (Some w ∷ rows) zero within not_ = absurd (not_ refl)
  by (x ∷ rows) (suc row) within not_ = by rows row (omega arith) not_

pub is-held : (waits : Waits) (row : ℕ) (name : List ℕ) (task : Row) (waiting : Waiting) → is_pending task ≡ true → waiting ≡ waiting_of task
    → (let w : Waits = record { queues = waits.queues; rows = slice_set (slice_set waits.rows row None) row (Some waiting) } in w) ≡ with_row row (held_of task) waits
is-held waits row name task waiting pending is =
    let held : held_of task ≡ Some (waiting_of task) = ap (λ t. let o : Option Waiting = cond t (Some (waiting_of task)) None in o) pending in
    ap (λ (rs : List (Option Waiting)). let w : Waits = record { queues = waits.queues; rows = rs } in w)
    (set-twice waits.rows row None (Some waiting) ∙ ap (slice_set waits.rows row) (ap (λ (w : Waiting). Some w) is ∙ sym held))

-- ---- there is room for a task that begins to wait

abbrev pub ones : Bool → ℕ
ones t = cond t 1 0

pub one-more : {A : Type 0} (p : A → Bool) (x : A) (xs : List A) → length (filter p (x ∷ xs)) ≡ cond (p x) 1 0 + length (filter p xs)
one-more p x xs = by (p x) where
  by : (t : Bool) → length (cond t (x ∷ filter p xs) (filter p xs)) ≡ cond t 1 0 + length (filter p xs)
  by true = omega arith
  by false = omega arith

-- what is held of each row is how its task waits, or nothing
abbrev pub Within : List (Option Waiting) → List Row → Type 0
Within held rows = (place : ℕ) (waiting : Waiting) → slice_index_or held place None ≡ Some waiting → option_and_then held_of (slice_get rows place) ≡ Some waiting

module _ (name : List ℕ) where
  abbrev named : List ℕ → Bool
  named other = bytes_eq other name

  one-held : (x : Option Waiting) (row : Row) → ((waiting : Waiting) → x ≡ Some waiting → held_of row ≡ Some waiting) → cond (is_in name x) 1 0 ≤ cond (named (name_of row.definition.queue)) 1 0
  one-held None row within = omega arith
  one-held (Some waiting) row within =
      let is : waiting ≡ waiting_of row = told-left [] row waiting (within waiting refl) in
      let same : named waiting.queue ≡ named (name_of row.definition.queue) = ap (λ (w : Waiting). named w.queue) is in
      subst (λ t. cond (named waiting.queue) 1 0 ≤ cond t 1 0) same (le (cond (named waiting.queue) 1 0))
    where
      le : (n : ℕ) → n ≤ n
      le n = omega arith

  pub few-held : (held : List (Option Waiting)) (rows : List Row) → Within held rows → length (filter (is_in name) held) ≤ length (filter named (queue_names rows))
  few-held [] rows within = omega arith
  few-held (None ∷ held) [] within = few-held held [] (λ k. within (suc k))
  few-held (Some waiting ∷ held) [] within = let e : None ≡ Some waiting = within 0 waiting refl in absurd (cc)
  few-held (x ∷ held) (row ∷ rows) within =
      let rest = few-held held rows (λ k. within (suc k)) in
      let one = one-held x row (within 0) in
      let a = one-more (is_in name) x held in
      let b = one-more named (name_of row.definition.queue) (queue_names rows) in
      omega (arith, rest, one, a, b)

  fewer-held : (place : ℕ) (held : List (Option Waiting)) (rows : List Row) (row : Row) → Within held rows → slice_index_or held place None ≡ None → slice_get rows place ≡ Some row → named (name_of row.definition.queue) ≡ true
      → length (filter (is_in name) held) + 1 ≤ length (filter named (queue_names rows))
  fewer-held place held [] row within none some here = absurd (cc)
  fewer-held zero [] (first ∷ rows) row within none some here =
      let is : first ≡ row = cc in
      let yes_ : named (name_of first.definition.queue) ≡ true = ap (λ (r : Row). named (name_of r.definition.queue)) is ∙ here in
      let b = one-more named (name_of first.definition.queue) (queue_names rows) in
      let c = ap ones yes_ in
      omega (arith, b, c)
  fewer-held zero (x ∷ held) (first ∷ rows) row within none some here =
      let is : first ≡ row = cc in
      let yes_ : named (name_of first.definition.queue) ≡ true = ap (λ (r : Row). named (name_of r.definition.queue)) is ∙ here in
      let a = one-more (is_in name) x held in
      let b = one-more named (name_of first.definition.queue) (queue_names rows) in
      let c = ap ones yes_ in
      let d = ap (λ (o : Option Waiting). ones (is_in name o)) none in
      let rest = few-held held rows (λ k. within (suc k)) in
      omega (arith, a, b, c, d, rest)
  fewer-held (suc place) [] (first ∷ rows) row within none some here =
      let rest = fewer-held place [] rows row (λ k. within (suc k)) none some here in
      let b = one-more named (name_of first.definition.queue) (queue_names rows) in
      omega (arith, rest, b)
  fewer-held (suc place) (x ∷ held) (first ∷ rows) row within none some here =
      let rest = fewer-held place held rows row (λ k. within (suc k)) none some here in
      let one = one-held x first (within 0) in
      let a = one-more (is_in name) x held in
      let b = one-more named (name_of first.definition.queue) (queue_names rows) in
      omega (arith, rest, one, a, b)

pub names-long : (rows : List Row) → length (queue_names rows) ≡ length rows
names-long [] = refl
names-long (row ∷ rows) = ap suc (names-long rows)

not-same : (a b : ℕ) → a ≢ b → (a == b) ≡ false
not-same a b ne = by (a == b) refl where
  by : (t : Bool) → (a == b) ≡ t → (a == b) ≡ false
  by false is = is
  by true is = absurd (ne (grind (arith, nat_tests)))

pub same-name : (a : List ℕ) → bytes_eq a a ≡ true
same-name a = (bytes_eq-Decides a a).1 refl

module _ (place : ℕ) (queues : Queues) (rows : List Row) (all : AreQueuesBut place queues rows) where
  within-others : Within (slice_set queues.pending.rows place None) rows
  within-others = λ k waiting is. by k waiting is (same? k place) where
    by : (k : ℕ) (waiting : Waiting) → slice_index_or (slice_set queues.pending.rows place None) k None ≡ Some waiting → (k ≡ place) ⊎ (k ≢ place) → option_and_then held_of (slice_get rows k) ≡ Some waiting
    by k waiting is (inl same) =
        let none : slice_index_or (slice_set queues.pending.rows place None) k None ≡ None = ap (λ n. slice_index_or (slice_set queues.pending.rows place None) n None) same ∙ set-none queues.pending.rows place in
        let both : None ≡ Some waiting = sym none ∙ is in
        absurd (cc)
    by k waiting is (inr ne) = sym (all.others k (not-same k place ne)) ∙ (sym (set-other queues.pending.rows place k None ne) ∙ is)

  pub changed-room : (row : Row) (name : List ℕ) → slice_get rows place ≡ Some row → name ≡ name_of row.definition.queue → 1 ≤ spare_in name (with_row place None queues.pending)
  changed-room row name here named_ =
      let yes_ : bytes_eq (name_of row.definition.queue) name ≡ true = ap (λ (n : List ℕ). bytes_eq n name) (sym named_) ∙ same-name name in
      let fewer = fewer-held name place (slice_set queues.pending.rows place None) rows row within-others (set-none queues.pending.rows place) here yes_ in
      let a : length (filter (is_in name) (slice_set queues.pending.rows place None)) ≡ count_in name (with_row place None queues.pending) = length-filter (is_in name) (slice_set queues.pending.rows place None) in
      let b : length (filter (λ other. bytes_eq other name) (queue_names rows)) ≡ times_named name (queue_names rows) = length-filter (λ other. bytes_eq other name) (queue_names rows) in
      let c : times_named name (queue_names rows) ≤ room_in name queues.pending.queues = all.kept.room name in
      omega (arith, fewer, a, b, c)

  room-same : (new : Queues) (name : List ℕ) (row : Row) → new.pending ≡ with_row place (held_of row) queues.pending → new.names ≡ queues.names → HasRoomFor name (queue_names rows) queues → HasRoomFor name (queue_names rows) new
  room-same new name row is names has = record {
    slash = has.slash;
    queue = subst (λ (w : Waits). times_named name (queue_names rows) + 1 ≤ room_in name w.queues) (sym is) has.queue;
    row = let l = has.row in let m : length new.pending.rows ≡ length queues.pending.rows = ap (λ (w : Waits). length w.rows) is ∙ set-long queues.pending.rows place (held_of row) in omega (arith, l, m);
    memory = subst (λ (v : Vec (List ℕ) Global). vec_len v < vec_capacity v) (sym names) has.memory;
  }

  pub changed-all : (new : Queues) (row : Row) → slice_get rows place ≡ Some row → new.pending ≡ with_row place (held_of row) queues.pending → new.names ≡ queues.names → new.next ≡ queues.next → AreQueues new rows
  changed-all new row here is names next = record {
    kept = record {
      named = ap (λ (v : Vec (List ℕ) Global). v.items) names ∙ all.kept.named;
      slashes = all.kept.slashes;
      long = let l = all.kept.long in let m : length new.pending.rows ≡ length queues.pending.rows = ap (λ (w : Waits). length w.rows) is ∙ set-long queues.pending.rows place (held_of row) in omega (arith, l, m);
      room = λ name. subst (λ (w : Waits). times_named name (queue_names rows) ≤ room_in name w.queues) (sym is) (all.kept.room name);
      next = λ name some. room-same new name row is names (all.kept.next name (sym next ∙ some));
    };
    held = λ k. ap (λ (w : Waits). held_at k w) is ∙ by k (same? k place);
  }
    where
      long : length (queue_names rows) ≡ length rows
      long = names-long rows

      within : place < length queues.pending.rows
      within = let a = got-within rows place row here in let l = all.kept.long in let m = long in omega (arith, a, l, m)

      by : (k : ℕ) → (k ≡ place) ⊎ (k ≢ place) → held_at k (with_row place (held_of row) queues.pending) ≡ option_and_then (left_of []) (slice_get rows k)
      by k (inl same) =
          ap (λ n. held_at n (with_row place (held_of row) queues.pending)) same
          ∙ (set-same queues.pending.rows place (held_of row) within ∙ sym (ap (λ n. option_and_then (left_of []) (slice_get rows n)) same ∙ ap (option_and_then (left_of [])) here))
      by k (inr ne) = set-other queues.pending.rows place k (held_of row) ne ∙ all.others k (not-same k place ne)

-- the name that is kept of a task's queue
pub name-at : (rows : List Row) (place : ℕ) (row : Row) (other : List ℕ) → slice_get rows place ≡ Some row → get_or (queue_names rows) place other ≡ name_of row.definition.queue
name-at [] place row other is = absurd (cc)
name-at (first ∷ rows) zero row other is = let e : first ≡ row = cc in ap (λ (r : Row). name_of r.definition.queue) e
name-at (first ∷ rows) (suc place) row other is = name-at rows place row other is
