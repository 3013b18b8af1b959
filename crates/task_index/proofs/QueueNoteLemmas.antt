-- Room in the queues for a task that is noted, and for one that comes.
use Rattle.std.proofs.Common.{vec_len, vec_capacity, ◌≡◌, ◌≢◌, ℕ, zero, suc, ◌+◌, ◌-◌, ◌<◌, ◌≤◌, ◌⊎◌, inl, inr, min, max, Bool, true, false, cond, List, [], ◌∷◌, ◌++◌, length, filter, map, find, replicate, ◌||◌, Option, Some, None, option_and_then, refl, sym, ap, ◌∙◌, subst, slice_get, slice_index_or, bytes_eq, arith}
use Rattle.std.specs.List.{AllByRecursion}
use Rattle.std.specs.Option.{ForSome, option_map_or}
use Rattle.std.proofs.lemmas.List.Sums.{length-filter, count_by-le-length}
use Rattle.std.proofs.lemmas.List.{map-append}
use Rattle.std.proofs.lemmas.List.Elements.{filter-append}
use Rattle.std.proofs.lemmas.Slice.Eq.{bytes_eq-Decides}
use Rattle.std.proofs.Math.ListN.{length-append}
use Rattle.run_states.specs.Rows.{Row}
use Rattle.claim_queue.specs.declared.queues.Queue.{Queue}
use Rattle.claim_queue.specs.Waits.{Waiting, Waits, knows, raised, with_room, roomier, room_in, count_in, spare_in, waits_in as is_in}
use Rattle.claim_queue.proofs.HeapLemmas.{same?}
use Rattle.task_index.specs.declared.queues.Queues.{Queues}
use Rattle.task_index.specs.Queues.{name_of, HasOneSlash, held_of, left_of, held_at, with_row, HasRoomFor, queue_names, times_named, HaveRoom, AreQueues}
use Rattle.task_index.proofs.QueueRoomLemmas.{few-held, set-long, one-more, names-long, same-name}
use Rattle.task_index.proofs.QueueWalkLemmas.{set-same, set-other}

-- ---- a task is noted

-- the room of the first queue of a name
room-cons : (name : List ℕ) (queue : Queue) (queues : List Queue) → room_in name (queue ∷ queues) ≡ cond (bytes_eq queue.name name) queue.room (room_in name queues)
room-cons name queue queues = by (bytes_eq queue.name name) where
  by : (t : Bool) → option_map_or (λ (q : Queue). q.room) (cond t (Some queue) (find (λ (q : Queue). bytes_eq q.name name) queues)) 0 ≡ cond t queue.room (room_in name queues)
  by true = refl
  by false = refl

cond-le : (t : Bool) (a b c d : ℕ) → a ≤ b → c ≤ d → cond t a c ≤ cond t b d
cond-le true a b c d p q = p
cond-le false a b c d p q = q

module _ (name : List ℕ) (room : ℕ) where
  abbrev higher : Queue → Bool → Queue
  higher queue t = cond t (record { name = queue.name; room = max queue.room room }) queue

  raised-name : (queue : Queue) → (raised name room queue).name ≡ queue.name
  raised-name queue = by (bytes_eq queue.name name) where
    by : (t : Bool) → (higher queue t).name ≡ queue.name
    by true = refl
    by false = refl

  raised-more : (queue : Queue) → queue.room ≤ (raised name room queue).room
  raised-more queue = by (bytes_eq queue.name name) where
    by : (t : Bool) → queue.room ≤ (higher queue t).room
    by true = omega arith
    by false = omega arith

  raised-enough : (queue : Queue) → bytes_eq queue.name name ≡ true → room ≤ (raised name room queue).room
  raised-enough queue is =
      let e : (raised name room queue).room ≡ max queue.room room = ap (λ t. (higher queue t).room) is in
      omega (arith, e)

  -- the room of a queue is no less
  more-raised : (other : List ℕ) (queues : List Queue) → room_in other queues ≤ room_in other (map (raised name room) queues)
  more-raised other [] = omega arith
  more-raised other (queue ∷ queues) =
      let a = room-cons other queue queues in
      let b : room_in other (map (raised name room) (queue ∷ queues)) ≡ cond (bytes_eq queue.name other) (raised name room queue).room (room_in other (map (raised name room) queues)) =
      room-cons other (raised name room queue) (map (raised name room) queues)
      ∙ ap (λ (n : List ℕ). cond (bytes_eq n other) (raised name room queue).room (room_in other (map (raised name room) queues))) (raised-name queue) in
      let c = cond-le (bytes_eq queue.name other) queue.room (raised name room queue).room (room_in other queues) (room_in other (map (raised name room) queues)) (raised-more queue) (more-raised other queues) in
      omega (arith, a, b, c)

  abbrev made : Queue
  made = record { name = name; room = room }

  more-behind : (other : List ℕ) (queues : List Queue) → room_in other queues ≤ room_in other (queues ++ made ∷ [])
  more-behind other [] = omega arith
  more-behind other (queue ∷ queues) =
      let a = room-cons other queue queues in
      let b = room-cons other queue (queues ++ made ∷ []) in
      let c = cond-le (bytes_eq queue.name other) queue.room queue.room (room_in other queues) (room_in other (queues ++ made ∷ [])) (omega arith) (more-behind other queues) in
      omega (arith, a, b, c)

  pub more-room : (other : List ℕ) (queues : List Queue) → room_in other queues ≤ room_in other (with_room name room queues)
  more-room other queues = by (knows name queues) where
    by : (t : Bool) → room_in other queues ≤ room_in other (let qs : List Queue = cond t (map (raised name room) queues) (queues ++ made ∷ []) in qs)
    by true = more-raised other queues
    by false = more-behind other queues

  -- and that of this one is enough
  enough-raised : (queues : List Queue) → knows name queues ≡ true → room ≤ room_in name (map (raised name room) queues)
  enough-raised [] known = absurd (cc)
  enough-raised (queue ∷ queues) known =
      let b : room_in name (map (raised name room) (queue ∷ queues)) ≡ cond (bytes_eq queue.name name) (raised name room queue).room (room_in name (map (raised name room) queues)) =
      room-cons name (raised name room queue) (map (raised name room) queues)
      ∙ ap (λ (n : List ℕ). cond (bytes_eq n name) (raised name room queue).room (room_in name (map (raised name room) queues))) (raised-name queue) in
      subst (λ n. room ≤ n) (sym b) (by (enough-raised queues) (bytes_eq queue.name name) refl)
    where
      by : (knows name queues ≡ true → room ≤ room_in name (map (raised name room) queues)) → (t : Bool) → bytes_eq queue.name name ≡ t → room ≤ cond t (raised name room queue).room (room_in name (map (raised name room) queues))
      by rest true is = raised-enough queue is
      by rest false is = rest (sym (ap (λ t. t || knows name queues) is) ∙ known)

  enough-behind : (queues : List Queue) → knows name queues ≡ false → room ≤ room_in name (queues ++ made ∷ [])
  enough-behind [] known =
      let b = room-cons name made [] in
      let c : cond (bytes_eq name name) room (room_in name []) ≡ room = ap (λ t. cond t room (room_in name [])) (same-name name) in
      omega (arith, b, c)
  enough-behind (queue ∷ queues) known = subst (λ n. room ≤ n) (sym (room-cons name queue (queues ++ made ∷ []))) (by (enough-behind queues) (bytes_eq queue.name name) refl) where
    by : (knows name queues ≡ false → room ≤ room_in name (queues ++ made ∷ [])) → (t : Bool) → bytes_eq queue.name name ≡ t → room ≤ cond t queue.room (room_in name (queues ++ made ∷ []))
    by rest true is = let both : true ≡ false = sym (ap (λ t. t || knows name queues) is) ∙ known in absurd (cc)
    by rest false is = rest (sym (ap (λ t. t || knows name queues) is) ∙ known)

  pub enough-room : (queues : List Queue) → room ≤ room_in name (with_room name room queues)
  enough-room queues = by (knows name queues) refl where
    by : (t : Bool) → knows name queues ≡ t → room ≤ room_in name (let qs : List Queue = cond t (map (raised name room) queues) (queues ++ made ∷ []) in qs)
    by true known = enough-raised queues known
    by false known = enough-behind queues known

none-behind : (n k : ℕ) → slice_index_or (replicate n (let o : Option Waiting = None in o)) k None ≡ None
none-behind zero k = refl
none-behind (suc n) zero = refl
none-behind (suc n) (suc k) = none-behind n k

none-long : (n : ℕ) → length (replicate n (let o : Option Waiting = None in o)) ≡ n
none-long zero = refl
none-long (suc n) = ap suc (none-long n)

same-behind : (held : List (Option Waiting)) (n k : ℕ) → slice_index_or (held ++ replicate n None) k None ≡ slice_index_or held k None
same-behind [] n k = none-behind n k
same-behind (x ∷ held) n zero = refl
same-behind (x ∷ held) n (suc k) = same-behind held n k

module _ (old new : Queues) (rows : List Row) (name : List ℕ) (more below : ℕ) (all : AreQueues old rows) (is : new.pending ≡ roomier name more below old.pending) where
  wider : length new.pending.rows ≡ length old.pending.rows + (below - length old.pending.rows)
  wider =
      ap (λ (w : Waits). length w.rows) is
      ∙ (length-append old.pending.rows (replicate (below - length old.pending.rows) None) ∙ ap (λ n. length old.pending.rows + n) (none-long (below - length old.pending.rows)))

  -- there is a row for one task more
  pub noted-row : below ≡ length rows + 1 → length (queue_names rows) < length new.pending.rows
  noted-row is_ = let a = names-long rows in let m = wider in omega (arith, a, m, is_)

  pub noted-all : new.names.items ≡ old.names.items → ForSome new.next (λ n. HasRoomFor n (queue_names rows) new) → AreQueues new rows
  noted-all names next = record {
    kept = record {
      named = names ∙ all.kept.named;
      slashes = all.kept.slashes;
      long =
          let l = all.kept.long in
          let m = wider in
          omega (arith, l, m);
      room = λ other.
          let a = all.kept.room other in
          let b = more-room name (count_in name old.pending + more) other old.pending.queues in
          let c : room_in other new.pending.queues ≡ room_in other (roomier name more below old.pending).queues = ap (λ (w : Waits). room_in other w.queues) is in
          omega (arith, a, b, c);
      next = next;
    };
    held = λ k. ap (λ (w : Waits). held_at k w) is ∙ (same-behind old.pending.rows (below - length old.pending.rows) k ∙ all.held k);
  }

  -- there is room for one more of the queue
  pub noted-room : more ≡ min (spare_in name old.pending) 1_000_000 + 1 → length rows ≤ 1_000_000 → times_named name (queue_names rows) + 1 ≤ room_in name new.pending.queues
  noted-room more_is few =
      let a : times_named name (queue_names rows) ≤ room_in name old.pending.queues = all.kept.room name in
      let b : count_in name old.pending + more ≤ room_in name (roomier name more below old.pending).queues = enough-room name (count_in name old.pending + more) old.pending.queues in
      let c : room_in name new.pending.queues ≡ room_in name (roomier name more below old.pending).queues = ap (λ (w : Waits). room_in name w.queues) is in
      let d : times_named name (queue_names rows) ≤ length (queue_names rows) = count_by-le-length (λ other. bytes_eq other name) (queue_names rows) in
      let e = names-long rows in
      omega (arith, a, b, c, d, e, more_is, few)

-- ---- a task comes

get-front : (rows : List Row) (row : Row) (k : ℕ) → k ≢ length rows → slice_get (rows ++ row ∷ []) k ≡ slice_get rows k
get-front [] row zero ne = absurd (ne refl)
get-front [] row (suc k) ne = refl
get-front (first ∷ rows) row zero ne = refl
get-front (first ∷ rows) row (suc k) ne = get-front rows row k (λ e. ne (ap suc e))

get-last : (rows : List Row) (row : Row) → slice_get (rows ++ row ∷ []) (length rows) ≡ Some row
get-last [] row = refl
get-last (first ∷ rows) row = get-last rows row

all-more : {A : Type 0} (P : A → Type 0) (xs : List A) (x : A) → AllByRecursion P xs → P x → AllByRecursion P (xs ++ x ∷ [])
all-more P [] x all is = (is, tt)
all-more P (y ∷ xs) x all is = (all.0, all-more P xs x all.1 is)

times-more : (other name : List ℕ) (names : List (List ℕ)) → times_named other (names ++ name ∷ []) ≡ times_named other names + cond (bytes_eq name other) 1 0
times-more other name names =
    let p : List ℕ → Bool = λ n. bytes_eq n other in
    let a : times_named other (names ++ name ∷ []) ≡ length (filter p (names ++ name ∷ [])) = sym (length-filter p (names ++ name ∷ [])) in
    let b : length (filter p (names ++ name ∷ [])) ≡ length (filter p names) + length (filter p (name ∷ [])) = ap length (filter-append p names (name ∷ [])) ∙ length-append (filter p names) (filter p (name ∷ [])) in
    let c : length (filter p (name ∷ [])) ≡ cond (bytes_eq name other) 1 0 + 0 = one-more p name [] in
    let d : length (filter p names) ≡ times_named other names = length-filter p names in
    omega (arith, a, b, c, d)

beyond : (rows : List Row) → slice_get rows (length rows) ≡ None
beyond [] = refl
beyond (row ∷ rows) = beyond rows

index-free : (held : List (Option Waiting)) (k : ℕ) → k < length held → slice_index_or held k None ≡ None → slice_get held k ≡ Some None
index-free [] k lt none = absurd (omega arith)
index-free (x ∷ held) zero lt none = ap (λ (o : Option Waiting). Some o) none
index-free (x ∷ held) (suc k) lt none = index-free held k (omega arith) none

-- where room was noted, there is room
pub has-room : (queues : Queues) (rows : List Row) (name : List ℕ) (place : ℕ) → AreQueues queues rows → queues.next ≡ Some name → length rows ≡ place
    → (slice_get queues.pending.rows place ≡ Some None) × (1 ≤ spare_in name queues.pending) × (vec_len queues.names < vec_capacity queues.names)
has-room queues rows name place all next last =
    let has : HasRoomFor name (queue_names rows) queues = all.kept.next name next in
    let row = has.row in
    let long = names-long rows in
    let none : slice_index_or queues.pending.rows place None ≡ None = all.held place ∙ ap (option_and_then (left_of [])) (ap (slice_get rows) (sym last) ∙ beyond rows) in
    let few = few-held name queues.pending.rows rows (λ k waiting is. sym (all.held k) ∙ is) in
    let a : length (filter (is_in name) queues.pending.rows) ≡ count_in name queues.pending = length-filter (is_in name) queues.pending.rows in
    let b : length (filter (λ other. bytes_eq other name) (queue_names rows)) ≡ times_named name (queue_names rows) = length-filter (λ other. bytes_eq other name) (queue_names rows) in
    let c = has.queue in
    (index-free queues.pending.rows place (omega (arith, row, long, last)) none, omega (arith, few, a, b, c), has.memory)

module _ (old new : Queues) (rows : List Row) (row : Row) (name : List ℕ) (all : AreQueues old rows) (next : old.next ≡ Some name) (named_ : name ≡ name_of row.definition.queue) where
  abbrev names : List (List ℕ)
  names = queue_names rows

  names-more : queue_names (rows ++ row ∷ []) ≡ names ++ name ∷ []
  names-more = map-append (λ (r : Row). name_of r.definition.queue) rows (row ∷ []) ∙ ap (λ (n : List ℕ). names ++ n ∷ []) (sym named_)

  added-room : (other : List ℕ) → times_named other (names ++ name ∷ []) ≤ room_in other old.pending.queues
  added-room other = let e = times-more other name names in subst (λ n. n ≤ room_in other old.pending.queues) (sym e) (by (bytes_eq name other) refl) where
    by : (t : Bool) → bytes_eq name other ≡ t → times_named other names + cond t 1 0 ≤ room_in other old.pending.queues
    by false is = let a = all.kept.room other in omega (arith, a)
    by true is =
        let same : name ≡ other = (bytes_eq-Decides name other).0 is in
        subst (λ (n : List ℕ). times_named n names + 1 ≤ room_in n old.pending.queues) same (all.kept.next name next).queue

  pub added-all : (place : ℕ) → length rows ≡ place → place < length old.pending.rows → new.pending ≡ with_row place (held_of row) old.pending → new.names.items ≡ old.names.items ++ name ∷ [] → new.next ≡ None → AreQueues new (rows ++ row ∷ [])
  added-all place last within is items none = record {
    kept = subst (λ (ns : List (List ℕ)). HaveRoom new ns) (sym names-more) (record {
      named = items ∙ ap (λ (ns : List (List ℕ)). ns ++ name ∷ []) all.kept.named;
      slashes = all-more HasOneSlash names name all.kept.slashes (all.kept.next name next).slash;
      long =
          let m : length new.pending.rows ≡ length old.pending.rows = ap (λ (w : Waits). length w.rows) is ∙ set-long old.pending.rows place (held_of row) in
          let n : length (names ++ name ∷ []) ≡ length names + 1 = length-append names (name ∷ []) in
          let e = names-long rows in
          omega (arith, m, n, e, last, within);
      room = λ other. subst (λ (w : Waits). times_named other (names ++ name ∷ []) ≤ room_in other w.queues) (sym is) (added-room other);
      next = λ n some. let both : None ≡ Some n = sym none ∙ some in absurd (cc);
    });
    held = λ k. ap (λ (w : Waits). held_at k w) is ∙ by k (same? k place);
  }
    where
      by : (k : ℕ) → (k ≡ place) ⊎ (k ≢ place) → held_at k (with_row place (held_of row) old.pending) ≡ option_and_then (left_of []) (slice_get (rows ++ row ∷ []) k)
      by k (inl same) =
          ap (λ n. held_at n (with_row place (held_of row) old.pending)) same
          ∙ (set-same old.pending.rows place (held_of row) within
          ∙ sym (ap (λ n. option_and_then (left_of []) (slice_get (rows ++ row ∷ []) n)) (same ∙ sym last) ∙ ap (option_and_then (left_of [])) (get-last rows row)))
      by k (inr ne) =
          set-other old.pending.rows place k (held_of row) ne
          ∙ (all.held k ∙ sym (ap (option_and_then (left_of [])) (get-front rows row k (λ e. ne (e ∙ last)))))
