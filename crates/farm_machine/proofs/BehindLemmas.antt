-- What is true of contents is true of those with the same rows and next number and an earlier last moment: all that replay knows of
-- `may_apply`, `applied` and `advance`.
use Rattle.std.proofs.Common.{◌≡◌, ℕ, ◌≤◌, max, Bool, true, false, not, ◌&&◌, nat_le, List, refl, ap, sym, ◌∙◌, arith}
use Rattle.std.proofs.lemmas.Bool.{and_parts, leb-true, le-leb}
use Rattle.farm_text.specs.declared.moment.TheConstants.{LAST_TOLD_MOMENT}
use Rattle.task_types.specs.declared.change.Change.{Change}
use Rattle.task_types.specs.declared.change.Kind.{Kind}
use Rattle.task_types.specs.declared.change.Kind.TheVariants.{Tick, Create, Schedule, Rerun, Cancel, Claim as TakesRuns, Reclaim, Resolve}
use Rattle.run_states.specs.Rows.{Row}
use Rattle.task_index.specs.Changes.{may_be, may_apply, after_change, applied}
use Rattle.task_index.specs.Contents.{Contents}
use Rattle.task_index.specs.Due.{is_due, advance}
use Rattle.task_index.specs.Sweep.{all_turns}
use Rattle.task_index.proofs.AdvanceLemmas.{advance-is}
use Rattle.task_index.proofs.TurnLemmas.{with_last, all-last}
use Rattle.farm_asks.specs.Works.{at_moment}

-- the same rows and next number, and a last moment that is no greater
pub record IsBehind (earlier contents : Contents) : Type 0 where
  pub rows : earlier.rows ≡ contents.rows
  pub next : earlier.next ≡ contents.next
  pub last : earlier.last ≤ contents.last

parts-are : (rows others : List Row) (last next other : ℕ) → rows ≡ others → next ≡ other → (let c : Contents = record { rows = rows; last = last; next = next } in c) ≡ record { rows = others; last = last; next = other }
parts-are rows others last next other same alike = rw (same, alike) refl

-- they differ in the last moment alone
pub behind-is : (earlier contents : Contents) → IsBehind earlier contents → earlier ≡ with_last earlier.last contents
behind-is earlier contents behind = parts-are earlier.rows contents.rows earlier.last earlier.next contents.next behind.rows behind.next

-- ---- an advance

pub advance-behind : (contents : Contents) (last moment : ℕ) → last ≤ contents.last → IsBehind (advance (with_last last contents) moment) (advance contents moment)
advance-behind contents last moment le =
    let late = advance-is contents moment in
    let early : advance (with_last last contents) moment ≡ with_last (max last moment) (all_turns contents moment) =
    advance-is (with_last last contents) moment ∙ ap (with_last (max last moment)) (all-last contents moment last) in
    record {
      rows = ap (λ (c : Contents). c.rows) early ∙ sym (ap (λ (c : Contents). c.rows) late);
      next = ap (λ (c : Contents). c.next) early ∙ sym (ap (λ (c : Contents). c.next) late);
      last =
          let a : (advance (with_last last contents) moment).last ≡ max last moment = ap (λ (c : Contents). c.last) early in
          let b : (advance contents moment).last ≡ max contents.last moment = ap (λ (c : Contents). c.last) late in
          omega arith;
    }

-- ---- a change of the tasks

may_be-same : (contents : Contents) (last at : ℕ) (kind : Kind) → may_be (with_last last contents) at kind ≡ may_be contents at kind
may_be-same contents last at Tick = refl
may_be-same contents last at (Create creation) = refl
may_be-same contents last at (Schedule id) = refl
may_be-same contents last at (Rerun id) = refl
may_be-same contents last at (Cancel id) = refl
may_be-same contents last at (TakesRuns claim) = refl
may_be-same contents last at (Reclaim r) = refl
may_be-same contents last at (Resolve r) = refl

pub may_apply-behind : (contents : Contents) (last : ℕ) (change : Change) → last ≤ contents.last → may_apply contents change ≡ true → may_apply (with_last last contents) change ≡ true
may_apply-behind contents last change le may =
    let parts = and_parts (nat_le contents.last change.at) (nat_le change.at LAST_TOLD_MOMENT && (not (is_due contents change.at) && may_be contents change.at change.kind)) may in
    let reached : contents.last ≤ change.at = leb-true contents.last change.at parts.0 in
    rw (le-leb last change.at (omega arith), may_be-same contents last change.at change.kind) parts.1

IsBehind-self : (contents : Contents) → IsBehind contents contents
IsBehind-self contents = record { rows = refl; next = refl; last = omega arith }

-- whatever is no tick leaves the moment at which it comes as the last one
change-behind : (contents : Contents) (last at : ℕ) (kind : Kind) → last ≤ contents.last → IsBehind (after_change (with_last last contents) at kind) (after_change contents at kind)
change-behind contents last at Tick le = advance-behind contents last at le
change-behind contents last at (Create creation) le = IsBehind-self (after_change contents at (Create creation))
change-behind contents last at (Schedule id) le = IsBehind-self (after_change contents at (Schedule id))
change-behind contents last at (Rerun id) le = IsBehind-self (after_change contents at (Rerun id))
change-behind contents last at (Cancel id) le = IsBehind-self (after_change contents at (Cancel id))
change-behind contents last at (TakesRuns claim) le = IsBehind-self (after_change contents at (TakesRuns claim))
change-behind contents last at (Reclaim r) le = IsBehind-self (after_change contents at (Reclaim r))
change-behind contents last at (Resolve r) le = IsBehind-self (after_change contents at (Resolve r))

pub applied-behind : (contents : Contents) (last : ℕ) (change : Change) → last ≤ contents.last → IsBehind (applied (with_last last contents) change) (applied contents change)
unfolding applied
applied-behind contents last change le = change-behind contents last change.at change.kind le

-- a tick is no change of the tasks
no_truth : (a b c : Bool) → (a && (b && (c && false))) ≡ true → ⊥
no_truth a b c is = let none : false ≡ true = (and_parts c false (and_parts b (c && false) (and_parts a (b && (c && false)) is).1).1).1 in cc

pub no_tick : (contents : Contents) (at : ℕ) → may_apply contents (at_moment at Tick) ≡ true → ⊥
no_tick contents at may = no_truth (nat_le contents.last at) (nat_le at LAST_TOLD_MOMENT) (not (is_due contents at)) may
