-- Room for further rows, and for further places.
use Rattle.std.proofs.Common.{◌≡◌, ℕ, zero, suc, ◌+◌, ◌-◌, ◌≤◌, Bool, false, cond, List, [], ◌∷◌, ◌++◌, length, replicate, Option, None, Vec, is_some, refl, sym, ap, ◌∙◌, subst, arith, length-append}
use Rattle.std.specs.List.{count_by}
use Rattle.std.specs.Global.{Global}
use Rattle.std.proofs.lemmas.List.{length-replicate}
use Rattle.std.proofs.lemmas.List.Sums.{sum_by-append, sum_by-cons}
use Rattle.claim_queue.specs.declared.entries.Entry.{Entry}
use Rattle.claim_queue.specs.declared.turns.Turn.{Turn}
use Rattle.claim_queue.specs.Held.{held, up_to}
use Rattle.claim_queue.specs.Firsts.{IsHeld}
use Rattle.claim_queue.specs.Heaps.{IsIn, IsKept, IsWider}
use Rattle.claim_queue.specs.DueHeaps.{AreDue}
use Rattle.claim_queue.specs.WaitHeaps.{entry_turn, heap_at, is_at, AreQueued}
use Rattle.claim_queue.proofs.TableLemmas.{known-wider}

none-held : {A : Type 0} (more row : ℕ) (x : A) → IsHeld (replicate more None) row x → ⊥
none-held zero row x is = cc
none-held (suc more) zero x is = cc
none-held (suc more) (suc row) x is = none-held more row x is

of-more : {A : Type 0} (rows : List (Option A)) (more row : ℕ) (x : A) → IsHeld (rows ++ replicate more None) row x → IsHeld rows row x
of-more [] more row x is = absurd (none-held more row x is)
of-more (r ∷ rows) more zero x is = is
of-more (r ∷ rows) more (suc row) x is = of-more rows more row x is

in-more : {A : Type 0} (rows : List (Option A)) (more row : ℕ) (x : A) → IsHeld rows row x → IsHeld (rows ++ replicate more None) row x
in-more [] more row x is = absurd (cc)
in-more (r ∷ rows) more zero x is = is
in-more (r ∷ rows) more (suc row) x is = in-more rows more row x is

none-count : {A : Type 0} (p : Option A → Bool) (more : ℕ) → p None ≡ false → count_by p (replicate more None) ≡ 0
none-count p zero no_ = refl
none-count p (suc more) no_ =
    sum_by-cons (λ x. cond (p x) 1 0) None (replicate more None)
    ∙ (ap (λ (b : Bool). cond b 1 0 + count_by p (replicate more None)) no_ ∙ ap (λ (n : ℕ). 0 + n) (none-count p more no_))

pub count-more : {A : Type 0} (p : Option A → Bool) (rows : List (Option A)) (more : ℕ) → p None ≡ false → count_by p (rows ++ replicate more None) ≡ count_by p rows
count-more p rows more no_ =
    let all : count_by p (rows ++ replicate more None) ≡ count_by p rows + count_by p (replicate more None) = sum_by-append (λ x. cond (p x) 1 0) rows (replicate more None) in
    let none = none-count p more no_ in
    omega arith

pub held-up_to : {A : Type 0} (rows : List (Option A)) (below : ℕ) → held (up_to below rows) ≡ held rows
held-up_to rows below = count-more is_some rows (below - length rows) refl

long-up_to : {A : Type 0} (rows : List (Option A)) (below most : ℕ) → length rows ≤ most → below ≤ most → length (up_to below rows) ≤ most
long-up_to {A = A} rows below most le le' =
    let fill : List (Option A) = replicate (below - length rows) None in
    let long = length-append rows fill in
    let more : length fill ≡ below - length rows = length-replicate (below - length rows) None in
    omega arith

pub due-wider : (rows : List (Option ℕ)) (heap : List Turn) (places wider : List ℕ) (below : ℕ) → AreDue rows heap places → IsWider places wider → below ≤ length wider → AreDue (up_to below rows) heap wider
due-wider rows heap places wider below due w le = record {
  told = λ turn in_. let t = due.told turn in_ in (in-more rows (below - length rows) turn.row turn.first t.0, t.1);
  found = λ row at is. due.found row at (of-more rows (below - length rows) row at is);
  kept = (due.kept.0, known-wider heap places wider w due.kept.1);
  count = due.count ∙ sym (held-up_to rows below);
  wide = long-up_to rows below (length wider) (let a = due.wide in let b = w.0 in omega arith) le;
}

-- where no further rows are there but further places
pub due-roomier : (rows : List (Option ℕ)) (heap : List Turn) (places wider : List ℕ) → AreDue rows heap places → IsWider places wider → AreDue rows heap wider
due-roomier rows heap places wider due w = record {
  told = due.told;
  found = due.found;
  kept = (due.kept.0, known-wider heap places wider w due.kept.1);
  count = due.count;
  wide = let a = due.wide in let b = w.0 in omega arith;
}

-- the heaps of the queues hold what they held
abbrev pub HoldSame : List (Vec Turn Global) → List (Vec Turn Global) → Type 0
HoldSame heaps later = (queue : ℕ) → heap_at queue later ≡ heap_at queue heaps

pub queued-wider : (rows : List (Option Entry)) (heaps later : List (Vec Turn Global)) (places wider : List ℕ) (below : ℕ) → AreQueued rows heaps places → HoldSame heaps later → IsWider places wider → below ≤ length wider → AreQueued (up_to below rows) later wider
queued-wider rows heaps later places wider below queued same w le = record {
  told = λ queue turn in_.
      let t = queued.told queue turn (subst (λ (l : List Turn). IsIn turn l) (same queue) in_) in
      (t.0, in-more rows (below - length rows) turn.row t.0 t.1, t.2, t.3);
  found = λ row entry is. subst (λ (l : List Turn). IsIn (entry_turn entry row) l) (sym (same entry.queue)) (queued.found row entry (of-more rows (below - length rows) row entry is));
  kept = λ queue. subst (λ (l : List Turn). IsKept l wider) (sym (same queue)) ((queued.kept queue).0, known-wider (heap_at queue heaps) places wider w (queued.kept queue).1);
  count = λ queue. ap length (same queue) ∙ (queued.count queue ∙ sym (count-more (is_at queue) rows (below - length rows) refl));
  wide = long-up_to rows below (length wider) (let a = queued.wide in let b = w.0 in omega arith) le;
}

-- where no further rows are there but further places
pub queued-roomier : (rows : List (Option Entry)) (heaps later : List (Vec Turn Global)) (places wider : List ℕ) → AreQueued rows heaps places → HoldSame heaps later → IsWider places wider → AreQueued rows later wider
queued-roomier rows heaps later places wider queued same w = record {
  told = λ queue turn in_. queued.told queue turn (subst (λ (l : List Turn). IsIn turn l) (same queue) in_);
  found = λ row entry is. subst (λ (l : List Turn). IsIn (entry_turn entry row) l) (sym (same entry.queue)) (queued.found row entry is);
  kept = λ queue. subst (λ (l : List Turn). IsKept l wider) (sym (same queue)) ((queued.kept queue).0, known-wider (heap_at queue heaps) places wider w (queued.kept queue).1);
  count = λ queue. ap length (same queue) ∙ queued.count queue;
  wide = let a = queued.wide in let b = w.0 in omega arith;
}
