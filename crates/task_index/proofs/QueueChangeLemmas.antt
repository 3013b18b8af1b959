-- What is held of tasks that wait, of which one changes in its state, and what the places of their ids say of them.
use Rattle.std.proofs.Common.{◌≡◌, ◌≢◌, ℕ, suc, ◌==◌, Bool, true, false, List, [], ◌∷◌, length, map, Option, Some, None, option_and_then, refl, sym, ap, ◌∙◌, subst, slice_get, bytes_eq, arith}
use Rattle.std.specs.List.{AllByRecursion, IsDistinct}
use Rattle.std.proofs.lemmas.Slice.Eq.{bytes_eq-Decides}
use Rattle.run_states.specs.Rows.{Row}
use Rattle.run_states.specs.Later.{RowsLater}
use Rattle.task_index.specs.declared.queues.Queues.{Queues}
use Rattle.task_index.specs.Contents.{HaveOwnIds}
use Rattle.task_index.specs.Placed.{PlaceMap, kept_of, ArePlaced}
use Rattle.task_index.specs.Queues.{name_of, held_of, queue_names, HaveRoom, MayBeQueues, MayBeQueuesBut}

-- ---- a task that changed

-- a task stays in its queue
later-names : (before rows : List Row) → RowsLater before rows → length rows ≡ length before → queue_names rows ≡ queue_names before
later-names [] [] later long = refl
later-names [] (row ∷ rows) later long = absurd (cc)
later-names (row ∷ before) [] later long = absurd later
later-names (row ∷ before) (next ∷ rows) later long =
    let more : length rows ≡ length before = cc in
    ap (λ (name : List ℕ). name ∷ queue_names rows) (ap (λ d. name_of d.queue) later.0.definition) ∙ ap (λ (names : List (List ℕ)). name_of row.definition.queue ∷ names) (later-names before rows later.1 more)

pub later-queues : (place : ℕ) (queues : Option Queues) (before rows : List Row) → RowsLater before rows → length rows ≡ length before
    → ((other : ℕ) → (other == place) ≡ false → slice_get rows other ≡ slice_get before other) → MayBeQueues queues before → MayBeQueuesBut place queues rows
later-queues place None before rows later long others all = tt
later-queues place (Some queues) before rows later long others all = record {
  kept = subst (λ (names : List (List ℕ)). HaveRoom queues names) (sym (later-names before rows later long)) all.kept;
  others = λ other ne. all.held other ∙ ap (option_and_then held_of) (sym (others other ne));
}

-- ---- ids of which places are kept

module _ (places : PlaceMap) where
  -- an id that is kept at one place is not at another
  apart-from : (place : ℕ) (id : List ℕ) (ids : List (List ℕ)) (base : ℕ → ℕ) → ((k : ℕ) → base k ≢ place) → kept_of places id ≡ Some place
      → ((k : ℕ) (other : List ℕ) → slice_get ids k ≡ Some other → kept_of places other ≡ Some (base k)) → AllByRecursion (λ other. bytes_eq id other ≡ false) ids
  apart-from place id [] base ne here there = tt
  apart-from place id (other ∷ ids) base ne here there = (by (bytes_eq id other) refl, apart-from place id ids (λ k. base (suc k)) (λ k. ne (suc k)) here (λ k. there (suc k))) where
    by : (t : Bool) → bytes_eq id other ≡ t → bytes_eq id other ≡ false
    by false is = is
    by true is =
        let same : id ≡ other = (bytes_eq-Decides id other).0 is in
        let both : Some (base 0) ≡ Some place = sym (there 0 other refl) ∙ (ap (kept_of places) (sym same) ∙ here) in
        let e : base 0 ≡ place = cc in
        absurd (ne 0 e)

  distinct-from : (ids : List (List ℕ)) (base : ℕ → ℕ) → ((j k : ℕ) → base j ≡ base k → j ≡ k) → ((k : ℕ) (id : List ℕ) → slice_get ids k ≡ Some id → kept_of places id ≡ Some (base k)) → IsDistinct bytes_eq ids
  unfolding IsDistinct
  distinct-from [] base one at = tt
  distinct-from (id ∷ ids) base one at =
      let rest = distinct-from ids (λ k. base (suc k)) (λ j k same. less (one (suc j) (suc k) same)) (λ k. at (suc k)) in
      (apart-from (base 0) id ids (λ k. base (suc k)) (λ k same. apart k (one (suc k) 0 same)) (at 0 id refl) (λ k. at (suc k)), rest)
    where
      less : {j k : ℕ} → suc j ≡ suc k → j ≡ k
      less same = cc

      apart : (k : ℕ) → suc k ≡ 0 → ⊥
      apart k same = omega arith

  pub placed-own : (rows : List Row) → ArePlaced (Some places) rows → HaveOwnIds rows
  placed-own rows placed = distinct-from (map (λ row. row.id) rows) (λ k. k) (λ j k same. same) placed.at
