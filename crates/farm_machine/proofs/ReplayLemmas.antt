-- The records of an opening and of a legal history since restore the history's end.
use Rattle.std.proofs.Common.{◌≡◌, ℕ, ◌≤◌, Bool, true, false, ◌&&◌, cond, nat_le, List, [], ◌∷◌, ◌++◌, Option, Some, None, Result, Ok, Err, IfSome, refl, ap, sym, subst, ◌∙◌, arith, append_assoc, inl, inr}
use Rattle.std.proofs.lemmas.Bool.{and_parts, leb-true, le-leb}
use Rattle.std.proofs.lemmas.List.{append-nil}
use Rattle.std.specs.Option.{option_to_list}
use Rattle.history.specs.Histories.{IsLegal, end_state}
use Rattle.farm_text.specs.declared.moment.TheConstants.{LAST_TOLD_MOMENT}
use Rattle.task_types.specs.declared.change.Change.{Change}
use Rattle.task_types.specs.declared.change.Kind.{Kind}
use Rattle.task_types.specs.declared.change.Kind.TheVariants.{Tick, Create, Schedule, Rerun, Cancel, Claim as TakesRuns, Reclaim, Resolve}
use Rattle.farm_record.specs.Records.{tick_at}
use Rattle.task_index.specs.Changes.{may_apply, applied}
use Rattle.task_index.specs.Contents.{Contents, no_contents}
use Rattle.task_index.specs.Due.{is_due, advance}
use Rattle.task_index.proofs.TurnLemmas.{with_last}
use Rattle.farm_machine.specs.Changes.{moment_of, reached, changed}
use Rattle.farm_asks.specs.Questions.{Asking}
use Rattle.farm_machine.specs.Entry.{Entry, tick, call, finished, out_of_memory, disk_failed, was_halted}
use Rattle.farm_machine.specs.Replay.{may_tick, may_come, left_by, may_replay, after_replay, replayed, IsTried, records_by, records_of, Restores}
use Rattle.farm_machine.specs.Replayed.{is_tick, IsTicked}
use Rattle.farm_machine.specs.State.{State}
use Rattle.farm_machine.specs.Step.{MayTick, lawful, after, IsToKeep, farm_rules}
use Rattle.farm_asks.specs.Works.{at_moment}
use Rattle.farm_machine.proofs.BehindLemmas.{IsBehind, behind-is, advance-behind, may_apply-behind, applied-behind, no_tick}

-- ---- contents with an earlier last moment

may_tick-behind : (contents : Contents) (last at : ℕ) → last ≤ contents.last → may_tick contents at ≡ true → may_tick (with_last last contents) at ≡ true
may_tick-behind contents last at le may =
    let parts = and_parts (nat_le contents.last at) (nat_le at LAST_TOLD_MOMENT && is_due contents at) may in
    let reached_ : contents.last ≤ at = leb-true contents.last at parts.0 in
    rw (le-leb last at (omega arith)) parts.1

come-behind : (contents : Contents) (last at : ℕ) (kind : Kind) → last ≤ contents.last → may_come contents at kind ≡ true → may_come (with_last last contents) at kind ≡ true
come-behind contents last at Tick le may = may_tick-behind contents last at le may
come-behind contents last at (Create creation) le may = may_apply-behind contents last (at_moment at (Create creation)) le may
come-behind contents last at (Schedule id) le may = may_apply-behind contents last (at_moment at (Schedule id)) le may
come-behind contents last at (Rerun id) le may = may_apply-behind contents last (at_moment at (Rerun id)) le may
come-behind contents last at (Cancel id) le may = may_apply-behind contents last (at_moment at (Cancel id)) le may
come-behind contents last at (TakesRuns claim) le may = may_apply-behind contents last (at_moment at (TakesRuns claim)) le may
come-behind contents last at (Reclaim r) le may = may_apply-behind contents last (at_moment at (Reclaim r)) le may
come-behind contents last at (Resolve r) le may = may_apply-behind contents last (at_moment at (Resolve r)) le may

left-behind : (contents : Contents) (last at : ℕ) (kind : Kind) → last ≤ contents.last → IsBehind (left_by (with_last last contents) at kind) (left_by contents at kind)
left-behind contents last at Tick le = advance-behind contents last at le
left-behind contents last at (Create creation) le = applied-behind contents last (at_moment at (Create creation)) le
left-behind contents last at (Schedule id) le = applied-behind contents last (at_moment at (Schedule id)) le
left-behind contents last at (Rerun id) le = applied-behind contents last (at_moment at (Rerun id)) le
left-behind contents last at (Cancel id) le = applied-behind contents last (at_moment at (Cancel id)) le
left-behind contents last at (TakesRuns claim) le = applied-behind contents last (at_moment at (TakesRuns claim)) le
left-behind contents last at (Reclaim r) le = applied-behind contents last (at_moment at (Reclaim r)) le
left-behind contents last at (Resolve r) le = applied-behind contents last (at_moment at (Resolve r)) le

replay-behind : (earlier contents : Contents) (change : Change) → IsBehind earlier contents → may_replay contents change ≡ true → may_replay earlier change ≡ true
replay-behind earlier contents change behind may =
    let P : Contents → Type 0 = λ c. may_replay c change ≡ true in
    subst P (sym (behind-is earlier contents behind)) (come-behind contents earlier.last change.at change.kind behind.last may)

after-behind : (earlier contents : Contents) (change : Change) → IsBehind earlier contents → IsBehind (after_replay earlier change) (after_replay contents change)
after-behind earlier contents change behind =
    let P : Contents → Type 0 = λ c. IsBehind (after_replay c change) (after_replay contents change) in
    subst P (sym (behind-is earlier contents behind)) (left-behind contents earlier.last change.at change.kind behind.last)

-- ---- a change that may be applied may be replayed

pub record ReplaysSo (contents : Contents) (change : Change) : Type 0 where
  pub may : may_replay contents change ≡ true
  pub leaves : after_replay contents change ≡ applied contents change

by_kind : (contents : Contents) (at : ℕ) (kind : Kind) → may_apply contents (at_moment at kind) ≡ true → ReplaysSo contents (at_moment at kind)
by_kind contents at Tick may = absurd (no_tick contents at may)
by_kind contents at (Create creation) may = record { may = may; leaves = refl }
by_kind contents at (Schedule id) may = record { may = may; leaves = refl }
by_kind contents at (Rerun id) may = record { may = may; leaves = refl }
by_kind contents at (Cancel id) may = record { may = may; leaves = refl }
by_kind contents at (TakesRuns claim) may = record { may = may; leaves = refl }
by_kind contents at (Reclaim r) may = record { may = may; leaves = refl }
by_kind contents at (Resolve r) may = record { may = may; leaves = refl }

pub applies-so : (contents : Contents) (change : Change) → may_apply contents change ≡ true → ReplaysSo contents change
applies-so contents change may = by_kind contents change.at change.kind may

pub ticks-so : (state : State) (moment : ℕ) → MayTick state moment → may_replay state.contents (tick_at moment) ≡ true
ticks-so state moment may =
    rw (le-leb state.contents.last moment may.not_before, le-leb moment LAST_TOLD_MOMENT may.told, may.due) refl

-- ---- lists of changes

pub replayed-if : (contents : Contents) (change : Change) (changes : List Change) → may_replay contents change ≡ true → replayed contents (change ∷ changes) ≡ replayed (after_replay contents change) changes
replayed-if contents change changes may = ap (λ (b : Bool). cond b (replayed (after_replay contents change) changes) None) may

pub replayed-append : (contents middle : Contents) (changes more : List Change) → replayed contents changes ≡ Some middle → replayed contents (changes ++ more) ≡ replayed middle more
replayed-append contents middle [] more is = let same : contents ≡ middle = cc in ap (λ (c : Contents). replayed c more) same
replayed-append contents middle (change ∷ changes) more is = by (replayed-append (after_replay contents change) middle changes more) (may_replay contents change) refl where
  by : (replayed (after_replay contents change) changes ≡ Some middle → replayed (after_replay contents change) (changes ++ more) ≡ replayed middle more) → (b : Bool) → may_replay contents change ≡ b
      → replayed contents (change ∷ changes ++ more) ≡ replayed middle more
  by behind true may =
      let rest : replayed (after_replay contents change) changes ≡ Some middle = sym (replayed-if contents change changes may) ∙ is in
      replayed-if contents change (changes ++ more) may ∙ behind rest
  by behind false not_ =
      let none : replayed contents (change ∷ changes) ≡ None = ap (λ (b : Bool). cond b (replayed (after_replay contents change) changes) None) not_ in
      cc

pub replayed-front : (contents last : Contents) (changes more : List Change) → replayed contents (changes ++ more) ≡ Some last → (middle : Contents) × (replayed contents changes ≡ Some middle)
replayed-front contents last [] more is = (contents, refl)
replayed-front contents last (change ∷ changes) more is = by (replayed-front (after_replay contents change) last changes more) (may_replay contents change) refl where
  by : (replayed (after_replay contents change) (changes ++ more) ≡ Some last → (middle : Contents) × (replayed (after_replay contents change) changes ≡ Some middle)) → (b : Bool) → may_replay contents change ≡ b
      → (middle : Contents) × (replayed contents (change ∷ changes) ≡ Some middle)
  by behind true may =
      let rest : replayed (after_replay contents change) (changes ++ more) ≡ Some last = sym (replayed-if contents change (changes ++ more) may) ∙ is in
      let found = behind rest in
      (found.0, replayed-if contents change changes may ∙ found.1)
  by behind false not_ =
      let none : replayed contents (change ∷ changes ++ more) ≡ None = ap (λ (b : Bool). cond b (replayed (after_replay contents change) (changes ++ more)) None) not_ in
      cc

-- one more
pub replayed-push : (contents middle : Contents) (changes : List Change) (change : Change) → replayed contents changes ≡ Some middle → may_replay middle change ≡ true → replayed contents (changes ++ change ∷ []) ≡ Some (after_replay middle change)
replayed-push contents middle changes change is may = replayed-append contents middle changes (change ∷ []) is ∙ replayed-if middle change [] may

-- ---- what restores a state

behind-of : (records : List Change) (contents : Contents) (r : Restores records contents) → IsBehind r.reached contents
behind-of records contents r = record { rows = r.rows; next = r.next; last = r.last }

restores-push : (records : List Change) (contents : Contents) (change : Change) → Restores records contents → may_replay contents change ≡ true → Restores (records ++ change ∷ []) (after_replay contents change)
restores-push records contents change r may =
    let behind = behind-of records contents r in
    let later = after-behind r.reached contents change behind in
    record {
      reached = after_replay r.reached change;
      replays = replayed-push no_contents r.reached records change r.replays (replay-behind r.reached contents change behind may);
      rows = later.rows;
      next = later.next;
      last = later.last;
    }

-- a later last moment changes nothing
restores-reached : (records : List Change) (contents : Contents) (moment : ℕ) → Restores records contents → contents.last ≤ moment → Restores (records ++ []) (reached contents moment)
restores-reached records contents moment r le =
    let restored : Restores records (reached contents moment) = record { reached = r.reached; replays = r.replays; rows = r.rows; next = r.next; last = omega (arith, r.last) } in
    rw (append-nil records) restored

restores-same : (records : List Change) (contents : Contents) → Restores records contents → Restores (records ++ []) contents
restores-same records contents r = rw (append-nil records) r

restores-changed : (records : List Change) (contents : Contents) (moment : ℕ) (change : Option Change) → contents.last ≤ moment → Restores records contents → IfSome change (λ change. may_apply contents change ≡ true)
    → Restores (records ++ option_to_list change) (changed contents moment change)
restores-changed records contents moment None le r applies = restores-reached records contents moment r le
restores-changed records contents moment (Some change) le r applies =
    let so = applies-so contents change applies in
    subst (Restores (records ++ change ∷ [])) so.leaves (restores-push records contents change r so.may)

restores-entry : (records : List Change) (state : State) (entry : Entry) → Restores records state.contents → lawful state entry → Restores (records ++ records_by entry) (after state entry).contents
restores-entry records state (tick moment) r may = restores-push records state.contents (tick_at moment) r (ticks-so state moment may)
restores-entry records state (call asking (finished judgement)) r may =
    restores-changed records state.contents (moment_of state.contents asking) judgement.change (omega arith) r may.became.applies
restores-entry records state (call asking out_of_memory) r may = restores-reached records state.contents (moment_of state.contents asking) r (omega arith)
restores-entry records state (call asking disk_failed) r may = restores-same records state.contents r
restores-entry records state (call asking was_halted) r may = restores-same records state.contents r

pub records-restore : (state : State) (records : List Change) (history : List Entry) → Restores records state.contents → IsLegal farm_rules state history → Restores (records ++ records_of history) (end_state farm_rules state history).contents
unfolding farm_rules
records-restore state records [] r legal = restores-same records state.contents r
records-restore state records (entry ∷ rest) r legal =
    let here = restores-entry records state entry r legal.0 in
    let all = records-restore (after state entry) (records ++ records_by entry) rest here legal.1 in
    subst (λ (l : List Change). Restores l (end_state farm_rules (after state entry) rest).contents) (append_assoc records (records_by entry) (records_of rest)) all

-- ---- what may follow

follows : (records : List Change) (contents : Contents) (change : Change) → Restores records contents → may_replay contents change ≡ true → (reached_ : Contents) × (replayed no_contents (records ++ change ∷ []) ≡ Some reached_)
follows records contents change r may = let more = restores-push records contents change r may in (more.reached, more.replays)

pub kept-follows : (state : State) (records : List Change) (asking : Asking) (change : Change) → Restores records state.contents → IsToKeep state asking change → (reached_ : Contents) × (replayed no_contents (records ++ change ∷ []) ≡ Some reached_)
kept-follows state records asking change r (inl ticked) =
    let may : may_replay state.contents change ≡ true = rw ticked.1 (ticks-so state (moment_of state.contents asking) ticked.0) in
    follows records state.contents change r may
kept-follows state records asking change r (inr called) =
    let (judgement, may, is) = called in
    let P : Option Change → Type 0 = λ o. IfSome o (λ (c : Change). may_apply state.contents c ≡ true) in
    let applies : may_apply state.contents change ≡ true = subst P is may.became.applies in
    follows records state.contents change r (applies-so state.contents change applies).may

pub front-replays : (records more : List Change) (last : Contents) → replayed no_contents (records ++ more) ≡ Some last → (middle : Contents) × (replayed no_contents records ≡ Some middle)
front-replays records more last is = replayed-front no_contents last records more is

-- ---- the code

-- what is no tick comes as a change of the tasks
no_tick-come : (contents : Contents) (at : ℕ) (kind : Kind) → is_tick kind ≡ false → (may_come contents at kind ≡ may_apply contents (at_moment at kind)) × (left_by contents at kind ≡ applied contents (at_moment at kind))
no_tick-come contents at Tick is = cc
no_tick-come contents at (Create creation) is = (refl, refl)
no_tick-come contents at (Schedule id) is = (refl, refl)
no_tick-come contents at (Rerun id) is = (refl, refl)
no_tick-come contents at (Cancel id) is = (refl, refl)
no_tick-come contents at (TakesRuns claim) is = (refl, refl)
no_tick-come contents at (Reclaim r) is = (refl, refl)
no_tick-come contents at (Resolve r) is = (refl, refl)

pub tried-change : {E : Type 0} (contents : Contents) (change : Change) (result : Result Bool E) (new : Contents) → is_tick change.kind ≡ false → IsTried (may_apply contents change) (applied contents change) contents result new → IsTried (may_replay contents change) (after_replay contents change) contents result new
tried-change contents change (Ok true) new is tried =
    let same = no_tick-come contents change.at change.kind is in (same.0 ∙ tried.0, tried.1 ∙ sym same.1)
tried-change contents change (Ok false) new is tried = let same = no_tick-come contents change.at change.kind is in (same.0 ∙ tried.0, tried.1)
tried-change contents change (Err e) new is tried = tried

is_tick-is : (kind : Kind) → is_tick kind ≡ true → kind ≡ Tick
is_tick-is Tick is = refl
is_tick-is (Create creation) is = cc
is_tick-is (Schedule id) is = cc
is_tick-is (Rerun id) is = cc
is_tick-is (Cancel id) is = cc
is_tick-is (TakesRuns claim) is = cc
is_tick-is (Reclaim r) is = cc
is_tick-is (Resolve r) is = cc

ticked-by : (E : Type 0) (contents : Contents) (at : ℕ) (ticked : Bool) (new : Contents) → IsTicked contents at ticked new → IsTried {E = E} (may_tick contents at) (advance contents at) contents (Ok ticked) new
ticked-by E contents at true new is = is
ticked-by E contents at false new is = is

pub tried-tick : (E : Type 0) (contents : Contents) (change : Change) (ticked : Bool) (new : Contents) → is_tick change.kind ≡ true → IsTicked contents change.at ticked new → IsTried {E = E} (may_replay contents change) (after_replay contents change) contents (Ok ticked) new
tried-tick E contents change ticked new is done =
    let P : Kind → Type 0 = λ kind. IsTried {E = E} (may_come contents change.at kind) (left_by contents change.at kind) contents (Ok ticked) new in
    subst P (sym (is_tick-is change.kind is)) (ticked-by E contents change.at ticked new done)
