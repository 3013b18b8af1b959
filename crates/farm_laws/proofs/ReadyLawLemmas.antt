-- No task is left ready, and none is scheduled twice.
use Rattle.std.proofs.Common.{◌≡◌, ℕ, true, false, List, [], ◌∷◌, map, Option, Some, None, refl, ap, ◌∙◌}
use Rattle.history.specs.Histories.{end_state}
use Rattle.task_types.specs.declared.change.Change.{Change}
use Rattle.task_types.specs.declared.change.Kind.{Kind}
use Rattle.task_types.specs.declared.change.Kind.TheVariants.{Tick, Create, Schedule, Rerun, Cancel, Claim as TakesRuns, Reclaim, Resolve}
use Rattle.task_index.specs.Changes.{after_kind, after_change, applied}
use Rattle.task_index.specs.Contents.{Contents, HaveOwnIds}
use Rattle.task_index.specs.Ready.{has_ready, settled}
use Rattle.farm_rows.specs.Starts.{starts, starts_once, may_start}
use Rattle.task_index.proofs.AdvanceLemmas.{advance-ready}
use Rattle.task_index.proofs.ReadyLemmas.{settled-none}
use Rattle.farm_laws.proofs.StartLemmas.{starts-kind, starts-schedule, starts-settled, once-advance, once-applied}
use Rattle.farm_machine.specs.Changes.{changed, moment_of}
use Rattle.farm_machine.specs.Entry.{Entry, tick, call, finished, out_of_memory, disk_failed, was_halted}
use Rattle.farm_machine.specs.ReadyLaws.{StartsEach}
use Rattle.farm_machine.specs.State.{State}
use Rattle.farm_machine.specs.Step.{after, farm_rules}

-- ---- no task is left ready

after-none : (contents : Contents) (at : ℕ) (kind : Kind) → has_ready contents ≡ false → has_ready (after_change contents at kind) ≡ false
after-none contents at Tick none = advance-ready contents at none
after-none contents at (Create creation) none = settled-none (after_kind contents at (Create creation)) at
after-none contents at (Schedule id) none = settled-none (after_kind contents at (Schedule id)) at
after-none contents at (Rerun id) none = settled-none (after_kind contents at (Rerun id)) at
after-none contents at (Cancel id) none = settled-none (after_kind contents at (Cancel id)) at
after-none contents at (TakesRuns claim) none = settled-none (after_kind contents at (TakesRuns claim)) at
after-none contents at (Reclaim r) none = settled-none (after_kind contents at (Reclaim r)) at
after-none contents at (Resolve r) none = settled-none (after_kind contents at (Resolve r)) at

applied-none : (contents : Contents) (change : Change) → has_ready contents ≡ false → has_ready (applied contents change) ≡ false
unfolding applied
applied-none contents change none = after-none contents change.at change.kind none

changed-none : (contents : Contents) (moment : ℕ) (change : Option Change) → has_ready contents ≡ false → has_ready (changed contents moment change) ≡ false
changed-none contents moment None none = none
changed-none contents moment (Some change) none = applied-none contents change none

entry-none : (state : State) (entry : Entry) → has_ready state.contents ≡ false → has_ready (after state entry).contents ≡ false
entry-none state (tick moment) none = advance-ready state.contents moment none
entry-none state (call asking out_of_memory) none = none
entry-none state (call asking disk_failed) none = none
entry-none state (call asking was_halted) none = none
entry-none state (call asking (finished judgement)) none = changed-none state.contents (moment_of state.contents asking) judgement.change none

pub entries-none : (state : State) (entries : List Entry) → has_ready state.contents ≡ false → has_ready (end_state farm_rules state entries).contents ≡ false
unfolding farm_rules
entries-none state [] none = none
entries-none state (entry ∷ rest) none = entries-none (after state entry) rest (entry-none state entry none)

-- ---- each is scheduled once

changed-once : (contents : Contents) (moment : ℕ) (change : Option Change) → starts_once contents.rows ≡ true → starts_once (changed contents moment change).rows ≡ true
changed-once contents moment None once = once
changed-once contents moment (Some change) once = once-applied contents change once

entry-once : (state : State) (entry : Entry) → starts_once state.contents.rows ≡ true → starts_once (after state entry).contents.rows ≡ true
entry-once state (tick moment) once = once-advance state.contents moment once
entry-once state (call asking out_of_memory) once = once
entry-once state (call asking disk_failed) once = once
entry-once state (call asking was_halted) once = once
entry-once state (call asking (finished judgement)) once = changed-once state.contents (moment_of state.contents asking) judgement.change once

pub entries-once : (state : State) (entries : List Entry) → starts_once state.contents.rows ≡ true → starts_once (end_state farm_rules state entries).contents.rows ≡ true
unfolding farm_rules
entries-once state [] once = once
entries-once state (entry ∷ rest) once = entries-once (after state entry) rest (entry-once state entry once)

-- ---- where they are ready, and where a change schedules them

-- a change that may not start a task settles what it leaves
after-settles : (contents : Contents) (at : ℕ) (kind : Kind) → may_start kind ≡ false → after_change contents at kind ≡ settled (after_kind contents at kind) at
after-settles contents at Tick none = cc
after-settles contents at (Create creation) none = refl
after-settles contents at (Schedule id) none = refl
after-settles contents at (Rerun id) none = refl
after-settles contents at (Cancel id) none = refl
after-settles contents at (TakesRuns claim) none = refl
after-settles contents at (Reclaim r) none = refl
after-settles contents at (Resolve r) none = refl

pub starts-ready : (contents : Contents) (moment : ℕ) (change : Change) → may_start change.kind ≡ false → StartsEach contents moment change
unfolding applied
starts-ready contents moment change none = record {
  by_itself = starts-kind contents change.at change.kind none;
  where_ready =
      ap (λ (c : Contents). map starts c.rows) (after-settles contents change.at change.kind none)
      ∙ starts-settled (after_kind contents change.at change.kind) change.at;
}

pub starts-scheduled : (contents : Contents) (moment at : ℕ) (id : List ℕ) → HaveOwnIds contents.rows → StartsEach contents moment (record { at = at; kind = Schedule id })
unfolding applied
starts-scheduled contents moment at id own = record {
  by_itself = starts-schedule contents at id own;
  where_ready = starts-settled (after_kind contents at (Schedule id)) at;
}
