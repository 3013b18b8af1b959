-- What replays from no tasks: no task is ready, none was scheduled twice, each has an id of its own, and what was created stands.
use Rattle.std.proofs.Common.{◌≡◌, ℕ, Bool, true, false, cond, List, [], ◌∷◌, ◌++◌, Some, None, refl, ap, sym, subst, ◌∙◌}
use Rattle.std.specs.List.{IsDistinct}
use Rattle.task_types.specs.declared.change.Change.{Change}
use Rattle.task_types.specs.declared.change.Creation.{Creation}
use Rattle.task_types.specs.declared.change.Kind.{Kind}
use Rattle.task_types.specs.declared.change.Kind.TheVariants.{Tick, Create, Schedule, Rerun, Cancel, Claim as TakesRuns, Reclaim, Resolve}
use Rattle.run_states.specs.Later.{RowsLater}
use Rattle.run_states.specs.Rows.{Row}
use Rattle.task_index.specs.Changes.{creating, may_apply, applied}
use Rattle.task_index.specs.Contents.{Contents, no_contents, row_with, HaveOwnIds}
use Rattle.task_index.specs.Due.{advance}
use Rattle.task_index.specs.Ready.{has_ready}
use Rattle.farm_rows.specs.Starts.{starts_once}
use Rattle.task_index.proofs.AdvanceLemmas.{advance-ready, advance-ids, advance-stays}
use Rattle.task_index.proofs.IdLemmas.{may-create, applied-none, applied-ids, applied-stays}
use Rattle.farm_laws.proofs.StartLemmas.{once-advance, once-applied}
use Rattle.farm_machine.specs.Laws.{Stands}
use Rattle.farm_machine.specs.Replay.{may_come, left_by, may_replay, after_replay, replayed, Restores}
use Rattle.farm_asks.specs.Works.{at_moment}
use Rattle.farm_laws.proofs.LastRunLemmas.{are_sound, advance-sound, applied-sound}
use Rattle.farm_laws.proofs.OnceLemmas.{found-later, created-found}
use Rattle.farm_machine.proofs.ReplayLemmas.{replayed-if, replayed-append, replayed-front}

-- ---- what stays

-- each advance keeps it, and each change that may be made
pub record Stays (P : Contents → Type 0) : Type 0 where
  pub by_tick : (contents : Contents) (moment : ℕ) → P contents → P (advance contents moment)
  pub by_change : (contents : Contents) (change : Change) → may_apply contents change ≡ true → P contents → P (applied contents change)

pub left-holds : (P : Contents → Type 0) → Stays P → (contents : Contents) (at : ℕ) (kind : Kind) → may_come contents at kind ≡ true → P contents → P (left_by contents at kind)
left-holds P stays contents at Tick may holds = stays.by_tick contents at holds
left-holds P stays contents at (Create creation) may holds = stays.by_change contents (at_moment at (Create creation)) may holds
left-holds P stays contents at (Schedule id) may holds = stays.by_change contents (at_moment at (Schedule id)) may holds
left-holds P stays contents at (Rerun id) may holds = stays.by_change contents (at_moment at (Rerun id)) may holds
left-holds P stays contents at (Cancel id) may holds = stays.by_change contents (at_moment at (Cancel id)) may holds
left-holds P stays contents at (TakesRuns claim) may holds = stays.by_change contents (at_moment at (TakesRuns claim)) may holds
left-holds P stays contents at (Reclaim r) may holds = stays.by_change contents (at_moment at (Reclaim r)) may holds
left-holds P stays contents at (Resolve r) may holds = stays.by_change contents (at_moment at (Resolve r)) may holds

-- the first of some changes that were replayed may come, and then the others
pub replayed-first : (contents last : Contents) (change : Change) (changes : List Change) → replayed contents (change ∷ changes) ≡ Some last → (may_replay contents change ≡ true) × (replayed (after_replay contents change) changes ≡ Some last)
replayed-first contents last change changes is = by (may_replay contents change) refl where
  by : (b : Bool) → may_replay contents change ≡ b → (may_replay contents change ≡ true) × (replayed (after_replay contents change) changes ≡ Some last)
  by true may = (may, sym (replayed-if contents change changes may) ∙ is)
  by false not_ =
      let none : replayed contents (change ∷ changes) ≡ None = ap (λ (b : Bool). cond b (replayed (after_replay contents change) changes) None) not_ in
      cc

pub replay-holds : (P : Contents → Type 0) → Stays P → (contents last : Contents) (changes : List Change) → replayed contents changes ≡ Some last → P contents → P last
replay-holds P stays contents last [] is holds = let same : contents ≡ last = cc in subst P same holds
replay-holds P stays contents last (change ∷ changes) is holds =
    let parts = replayed-first contents last change changes is in
    replay-holds P stays (after_replay contents change) last changes parts.1 (left-holds P stays contents change.at change.kind parts.0 holds)

-- ---- no task is ready, none was scheduled twice, each has an id of its own

none-stays : Stays (λ contents. has_ready contents ≡ false)
none-stays = record { by_tick = advance-ready; by_change = λ contents change may none. applied-none contents change may }

once-stays : Stays (λ contents. starts_once contents.rows ≡ true)
once-stays = record { by_tick = once-advance; by_change = λ contents change may once. once-applied contents change once }

pub own-stays : Stays (λ contents. HaveOwnIds contents.rows)
own-stays = record { by_tick = advance-ids; by_change = λ contents change may own. applied-ids contents change own may }

pub no-ids : HaveOwnIds no_contents.rows
unfolding IsDistinct
no-ids = tt

pub replays-sound : (changes : List Change) (contents : Contents) → replayed no_contents changes ≡ Some contents
    → (has_ready contents ≡ false) × (starts_once contents.rows ≡ true) × HaveOwnIds contents.rows
replays-sound changes contents is =
    let none = replay-holds (λ c. has_ready c ≡ false) none-stays no_contents contents changes is refl in
    let once = replay-holds (λ c. starts_once c.rows ≡ true) once-stays no_contents contents changes is refl in
    let own = replay-holds (λ c. HaveOwnIds c.rows) own-stays no_contents contents changes is no-ids in
    (none, once, own)

-- ---- of each task every run but the last has ended

sound-stays : Stays (λ contents. are_sound contents.rows ≡ true)
sound-stays = record { by_tick = advance-sound; by_change = λ contents change may all. applied-sound contents change all }

pub replayed-sound : (records : List Change) (contents : Contents) → replayed no_contents records ≡ Some contents → are_sound contents.rows ≡ true
replayed-sound records contents is = replay-holds (λ c. are_sound c.rows ≡ true) sound-stays no_contents contents records is refl

pub restored-sound : (records : List Change) (contents : Contents) → Restores records contents → are_sound contents.rows ≡ true
restored-sound records contents r = subst (λ (rows : List Row). are_sound rows ≡ true) r.rows (replayed-sound records r.reached r.replays)

-- ---- what was created stands

stands-later : (creation : Creation) (contents later : Contents) → RowsLater contents.rows later.rows → Stands contents creation → Stands later creation
stands-later creation contents later stays stands =
    let found = found-later creation.id contents.rows later.rows stands.0 stays stands.1 in
    (found.0, found.1, found.2 ∙ stands.2)

stands-stays : (creation : Creation) → Stays (λ contents. Stands contents creation)
stands-stays creation =
    record {
      by_tick = λ contents moment stands. stands-later creation contents (advance contents moment) (advance-stays contents moment) stands;
      by_change = λ contents change may stands. stands-later creation contents (applied contents change) (applied-stays contents change) stands;
    }

pub recorded-stands : (before after : List Change) (at : ℕ) (creation : Creation) (contents : Contents) → Restores (before ++ creating at creation ∷ after) contents → Stands contents creation
recorded-stands before after at creation contents r =
    let middle = replayed-front no_contents r.reached before (creating at creation ∷ after) r.replays in
    let behind : replayed middle.0 (creating at creation ∷ after) ≡ Some r.reached =
    sym (replayed-append no_contents middle.0 before (creating at creation ∷ after) middle.1) ∙ r.replays in
    let parts = replayed-first middle.0 r.reached (creating at creation) after behind in
    let made = created-found middle.0 at creation (may-create middle.0 at creation parts.0).1 in
    let stands = replay-holds (λ c. Stands c creation) (stands-stays creation) (applied middle.0 (creating at creation)) r.reached after parts.1 made in
    (stands.0, ap (row_with creation.id) (sym r.rows) ∙ stands.1, stands.2)
