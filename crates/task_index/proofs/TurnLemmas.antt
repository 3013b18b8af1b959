-- Turns: each takes some moment away, so there are enough of them.
use Rattle.std.proofs.Common.{◌≡◌, ℕ, zero, suc, ◌+◌, ◌≤◌, ◌<◌, Bool, true, false, cond, map, length, find, Option, Some, None, refl, ap, sym, ◌∙◌, arith}
use Rattle.std.specs.List.{list_any, list_all}
use Rattle.std.proofs.lemmas.Bool.{leb-true, le-leb}
use Rattle.run_states.specs.declared.reasons.ReasonResolved.TheVariants.{ClaimExpired}
use Rattle.run_states.specs.Rows.{loses_claim, exceeded}
use Rattle.run_states.specs.Moves.{expired}
use Rattle.run_states.specs.Later.{RowsLater}
use Rattle.run_states.proofs.LaterLemmas.{exceeded-later, expired-later, RowsLater-refl, RowsLater-trans}
use Rattle.task_index.specs.Contents.{Contents}
use Rattle.task_index.specs.Ready.{has_ready, settled}
use Rattle.task_index.specs.Due.{all_due_moments, is_due, first_due, meets_deadline, change_first, draws, resolved_at, turn, turns, after_first}
use Rattle.task_index.specs.Sweep.{all_turns}
use Rattle.task_index.proofs.LeastLemmas.{first-some, first-is, first-none, none-first, reduce-all, reduce-any}
use Rattle.task_index.proofs.ReadyLemmas.{settled-none, settled-due, settled-stays, settled-ids, settled-last, settled-keeps}
use Rattle.task_index.proofs.DueLemmas.{from, from-rows, some-lost, meets-turn, loses-turn, change-stays, change-ids}

-- ---- what is resolved at a moment: a deadline, or the end of a claim

abbrev at_deadline : Contents → ℕ → Contents
at_deadline contents at = record contents { rows = change_first (meets_deadline at) (exceeded at) contents.rows }

abbrev at_claim : Contents → ℕ → Contents
at_claim contents at = record contents {
  rows = change_first (loses_claim at) (expired contents.next at) contents.rows;
  next = contents.next + draws ClaimExpired (find (loses_claim at) contents.rows);
}

pub deadline-resolved : (contents : Contents) (at : ℕ) → list_any (meets_deadline at) contents.rows ≡ true
    → resolved_at contents at ≡ record contents { rows = change_first (meets_deadline at) (exceeded at) contents.rows }
deadline-resolved contents at is = ap (λ b. cond b (at_deadline contents at) (at_claim contents at)) is

pub claim-resolved : (contents : Contents) (at : ℕ) → list_any (meets_deadline at) contents.rows ≡ false
    → resolved_at contents at ≡ record contents { rows = change_first (loses_claim at) (expired contents.next at) contents.rows; next = contents.next + draws ClaimExpired (find (loses_claim at) contents.rows) }
claim-resolved contents at is = ap (λ b. cond b (at_deadline contents at) (at_claim contents at)) is

-- at the first moment, nothing falls due before
pub first-from : (contents : Contents) (moment at : ℕ) → first_due contents moment ≡ Some at → list_all (from at) contents.rows ≡ true
first-from contents moment at is = from-rows at contents.rows (reduce-all at (all_due_moments contents.rows) (first-some moment at (all_due_moments contents.rows) is).0)

-- and where no deadline comes, a claim ends
pub first-lost : (contents : Contents) (moment at : ℕ) → first_due contents moment ≡ Some at → list_any (meets_deadline at) contents.rows ≡ false → list_any (loses_claim at) contents.rows ≡ true
first-lost contents moment at is none =
    some-lost at contents.rows (first-from contents moment at is) (reduce-any at (all_due_moments contents.rows) (first-some moment at (all_due_moments contents.rows) is).0) none

-- what is first due up to a moment is so up to a later one
pub first-later : (contents : Contents) (early late at : ℕ) → early ≤ late → first_due contents early ≡ Some at → first_due contents late ≡ Some at
first-later contents early late at le is =
    let found = first-some early at (all_due_moments contents.rows) is in
    let h : at ≤ early = leb-true at early found.1 in
    first-is late at (all_due_moments contents.rows) found.0 (le-leb at late (omega arith))

pub idle-first : (contents : Contents) (moment : ℕ) → is_due contents moment ≡ false → first_due contents moment ≡ None
idle-first contents moment is = none-first moment (all_due_moments contents.rows) is

pub first-idle : (contents : Contents) (moment : ℕ) → first_due contents moment ≡ None → is_due contents moment ≡ false
first-idle contents moment is = first-none moment (all_due_moments contents.rows) is

-- what is resolved takes some moment away
pub step-fewer : (contents : Contents) (moment at : ℕ) → first_due contents moment ≡ Some at → length (all_due_moments (resolved_at contents at).rows) < length (all_due_moments contents.rows)
step-fewer contents moment at is = by (list_any (meets_deadline at) contents.rows) refl where
  by : (b : Bool) → list_any (meets_deadline at) contents.rows ≡ b → length (all_due_moments (resolved_at contents at).rows) < length (all_due_moments contents.rows)
  by true some_ =
      let e = ap (λ (c : Contents). length (all_due_moments c.rows)) (deadline-resolved contents at some_) in
      let less = meets-turn at contents.rows some_ in omega arith
  by false none =
      let e = ap (λ (c : Contents). length (all_due_moments c.rows)) (claim-resolved contents at none) in
      let less = loses-turn contents.next at contents.rows (first-lost contents moment at is none) in omega arith

-- ---- a turn

-- what falls due first at a moment is resolved, and the tasks settle
abbrev pub stepped : Contents → ℕ → Contents
stepped contents at = settled (resolved_at contents at) at

pub turn-fewer : (contents : Contents) (moment at : ℕ) → first_due contents moment ≡ Some at → length (all_due_moments (stepped contents at).rows) < length (all_due_moments contents.rows)
turn-fewer contents moment at is =
    let fewer = step-fewer contents moment at is in
    let same = ap length (settled-due (resolved_at contents at) at) in
    omega arith

-- ---- turns

turns-idle : (count moment : ℕ) (contents : Contents) → first_due contents moment ≡ None → turns count moment contents ≡ contents
turns-idle zero moment contents none = refl
turns-idle (suc count) moment contents none =
    ap (turns count moment) (ap (after_first contents) none) ∙ turns-idle count moment contents none

-- any two counts that are enough give the same
turns-enough : (n k moment : ℕ) (contents : Contents) → length (all_due_moments contents.rows) ≤ n → length (all_due_moments contents.rows) ≤ k → turns n moment contents ≡ turns k moment contents
turns-enough zero k moment contents few enough = by (first_due contents moment) refl where
  by : (first : Option ℕ) → first_due contents moment ≡ first → contents ≡ turns k moment contents
  by None is = sym (turns-idle k moment contents is)
  by (Some at) is = let fewer = turn-fewer contents moment at is in absurd (omega arith)
turns-enough (suc n) zero moment contents few enough = by (first_due contents moment) refl where
  by : (first : Option ℕ) → first_due contents moment ≡ first → turns (suc n) moment contents ≡ contents
  by None is = turns-idle (suc n) moment contents is
  by (Some at) is = let fewer = turn-fewer contents moment at is in absurd (omega arith)
turns-enough (suc n) (suc k) moment contents few enough = by (turns-enough n k moment) (first_due contents moment) refl where
  by : ((later : Contents) → length (all_due_moments later.rows) ≤ n → length (all_due_moments later.rows) ≤ k → turns n moment later ≡ turns k moment later)
      → (first : Option ℕ) → first_due contents moment ≡ first → turns (suc n) moment contents ≡ turns (suc k) moment contents
  by more None is = turns-idle (suc n) moment contents is ∙ sym (turns-idle (suc k) moment contents is)
  by more (Some at) is =
      let fewer = turn-fewer contents moment at is in
      let next : turn moment contents ≡ stepped contents at = ap (after_first contents) is in
      ap (turns n moment) next ∙ (more (stepped contents at) (omega arith) (omega arith) ∙ sym (ap (turns k moment) next))

-- all turns: the first, and then all that are left
pub all-step : (contents : Contents) (moment at : ℕ) → first_due contents moment ≡ Some at → all_turns contents moment ≡ all_turns (stepped contents at) moment
unfolding all_turns
all-step contents moment at is =
    let count : ℕ = length (all_due_moments contents.rows) in
    let fewer = turn-fewer contents moment at is in
    turns-enough count (suc count) moment contents (omega arith) (omega arith)
    ∙ (ap (turns count moment) (ap (after_first contents) is)
    ∙ turns-enough count (length (all_due_moments (stepped contents at).rows)) moment (stepped contents at) (omega arith) (omega arith))

pub all-idle : (contents : Contents) (moment : ℕ) → first_due contents moment ≡ None → all_turns contents moment ≡ contents
unfolding all_turns
all-idle contents moment is = turns-idle (length (all_due_moments contents.rows)) moment contents is

turns-end : (count moment : ℕ) (contents : Contents) → length (all_due_moments contents.rows) ≤ count → first_due (turns count moment contents) moment ≡ None
turns-end zero moment contents enough = by (first_due contents moment) refl where
  by : (first : Option ℕ) → first_due contents moment ≡ first → first_due contents moment ≡ None
  by None is = is
  by (Some at) is = let fewer = turn-fewer contents moment at is in absurd (omega arith)
turns-end (suc count) moment contents enough = by (turns-end count moment) (first_due contents moment) refl where
  by : ((later : Contents) → length (all_due_moments later.rows) ≤ count → first_due (turns count moment later) moment ≡ None) → (first : Option ℕ) → first_due contents moment ≡ first
      → first_due (turns (suc count) moment contents) moment ≡ None
  by more None is = ap (λ (c : Contents). first_due c moment) (turns-idle (suc count) moment contents is) ∙ is
  by more (Some at) is =
      let fewer = turn-fewer contents moment at is in
      ap (λ (c : Contents). first_due (turns count moment c) moment) (ap (after_first contents) is) ∙ more (stepped contents at) (omega arith)

pub all-end : (contents : Contents) (moment : ℕ) → first_due (all_turns contents moment) moment ≡ None
unfolding all_turns
all-end contents moment = turns-end (length (all_due_moments contents.rows)) moment contents (omega arith)

-- ---- turns up to an earlier moment are among those up to a later one

turns-together : (count early late : ℕ) (contents : Contents) → early ≤ late → all_turns (turns count early contents) late ≡ all_turns contents late
turns-together zero early late contents le = refl
turns-together (suc count) early late contents le = by (λ later. turns-together count early late later le) (first_due contents early) refl where
  by : ((later : Contents) → all_turns (turns count early later) late ≡ all_turns later late) → (first : Option ℕ) → first_due contents early ≡ first
      → all_turns (turns (suc count) early contents) late ≡ all_turns contents late
  by more None is = ap (λ (c : Contents). all_turns (turns count early c) late) (ap (after_first contents) is) ∙ more contents
  by more (Some at) is =
      ap (λ (c : Contents). all_turns (turns count early c) late) (ap (after_first contents) is)
      ∙ (more (stepped contents at) ∙ sym (all-step contents late at (first-later contents early late at le is)))

pub all-together : (contents : Contents) (early late : ℕ) → early ≤ late → all_turns (all_turns contents early) late ≡ all_turns contents late
unfolding all_turns
all-together contents early late le = turns-together (length (all_due_moments contents.rows)) early late contents le

-- ---- turns do not look at the last moment

abbrev pub with_last : ℕ → Contents → Contents
with_last last contents = record contents { last = last }

last-resolved : (last at : ℕ) (contents : Contents) → resolved_at (with_last last contents) at ≡ with_last last (resolved_at contents at)
last-resolved last at contents = by (list_any (meets_deadline at) contents.rows) refl where
  by : (b : Bool) → list_any (meets_deadline at) contents.rows ≡ b → resolved_at (with_last last contents) at ≡ with_last last (resolved_at contents at)
  by true some_ = deadline-resolved (with_last last contents) at some_ ∙ sym (ap (with_last last) (deadline-resolved contents at some_))
  by false none = claim-resolved (with_last last contents) at none ∙ sym (ap (with_last last) (claim-resolved contents at none))

last-stepped : (last at : ℕ) (contents : Contents) → stepped (with_last last contents) at ≡ with_last last (stepped contents at)
last-stepped last at contents = ap (λ (c : Contents). settled c at) (last-resolved last at contents) ∙ settled-last (resolved_at contents at) at last

turns-last : (count moment last : ℕ) (contents : Contents) → turns count moment (with_last last contents) ≡ with_last last (turns count moment contents)
turns-last zero moment last contents = refl
turns-last (suc count) moment last contents = by (turns-last count moment last) (first_due contents moment) refl where
  by : ((later : Contents) → turns count moment (with_last last later) ≡ with_last last (turns count moment later)) → (first : Option ℕ) → first_due contents moment ≡ first
      → turns (suc count) moment (with_last last contents) ≡ with_last last (turns (suc count) moment contents)
  by more None is =
      ap (turns count moment) (ap (after_first (with_last last contents)) is) ∙ (more contents ∙ sym (ap (λ (c : Contents). with_last last (turns count moment c)) (ap (after_first contents) is)))
  by more (Some at) is =
      ap (turns count moment) (ap (after_first (with_last last contents)) is ∙ last-stepped last at contents)
      ∙ (more (stepped contents at) ∙ sym (ap (λ (c : Contents). with_last last (turns count moment c)) (ap (after_first contents) is)))

pub all-last : (contents : Contents) (moment last : ℕ) → all_turns (with_last last contents) moment ≡ with_last last (all_turns contents moment)
unfolding all_turns
all-last contents moment last = turns-last (length (all_due_moments contents.rows)) moment last contents

-- and they keep it
pub all-keeps : (contents : Contents) (moment : ℕ) → (all_turns contents moment).last ≡ contents.last
all-keeps contents moment = ap (λ (c : Contents). c.last) (all-last contents moment contents.last)

resolved-last : (contents : Contents) (at : ℕ) → (resolved_at contents at).last ≡ contents.last
resolved-last contents at = by (list_any (meets_deadline at) contents.rows) refl where
  by : (b : Bool) → list_any (meets_deadline at) contents.rows ≡ b → (resolved_at contents at).last ≡ contents.last
  by true some_ = ap (λ (c : Contents). c.last) (deadline-resolved contents at some_)
  by false none = ap (λ (c : Contents). c.last) (claim-resolved contents at none)

pub stepped-keeps : (contents : Contents) (at : ℕ) → (settled (resolved_at contents at) at).last ≡ contents.last
stepped-keeps contents at = settled-keeps (resolved_at contents at) at ∙ resolved-last contents at

-- ---- each task stays

resolved-stays : (contents : Contents) (at : ℕ) → RowsLater contents.rows (resolved_at contents at).rows
resolved-stays contents at = by (list_any (meets_deadline at) contents.rows) refl where
  by : (b : Bool) → list_any (meets_deadline at) contents.rows ≡ b → RowsLater contents.rows (resolved_at contents at).rows
  by true some_ = rw (deadline-resolved contents at some_) (change-stays (meets_deadline at) (exceeded at) (exceeded-later at) contents.rows)
  by false none = rw (claim-resolved contents at none) (change-stays (loses_claim at) (expired contents.next at) (expired-later contents.next at) contents.rows)

pub resolved-ids : (contents : Contents) (at : ℕ) → map (λ row. row.id) (resolved_at contents at).rows ≡ map (λ row. row.id) contents.rows
resolved-ids contents at = by (list_any (meets_deadline at) contents.rows) refl where
  by : (b : Bool) → list_any (meets_deadline at) contents.rows ≡ b → map (λ row. row.id) (resolved_at contents at).rows ≡ map (λ row. row.id) contents.rows
  by true some_ = ap (λ (c : Contents). map (λ row. row.id) c.rows) (deadline-resolved contents at some_) ∙ change-ids (meets_deadline at) (exceeded at) (exceeded-later at) contents.rows
  by false none = ap (λ (c : Contents). map (λ row. row.id) c.rows) (claim-resolved contents at none) ∙ change-ids (loses_claim at) (expired contents.next at) (expired-later contents.next at) contents.rows

turn-stays : (contents : Contents) (first : Option ℕ) → RowsLater contents.rows (after_first contents first).rows
turn-stays contents None = RowsLater-refl contents.rows
turn-stays contents (Some at) =
    RowsLater-trans contents.rows (resolved_at contents at).rows (settled (resolved_at contents at) at).rows (resolved-stays contents at) (settled-stays (resolved_at contents at) at)

turn-ids : (contents : Contents) (first : Option ℕ) → map (λ row. row.id) (after_first contents first).rows ≡ map (λ row. row.id) contents.rows
turn-ids contents None = refl
turn-ids contents (Some at) = settled-ids (resolved_at contents at) at ∙ resolved-ids contents at

turns-stay : (count moment : ℕ) (contents : Contents) → RowsLater contents.rows (turns count moment contents).rows
turns-stay zero moment contents = RowsLater-refl contents.rows
turns-stay (suc count) moment contents =
    RowsLater-trans contents.rows (turn moment contents).rows (turns count moment (turn moment contents)).rows (turn-stays contents (first_due contents moment)) (turns-stay count moment (turn moment contents))

turns-ids : (count moment : ℕ) (contents : Contents) → map (λ row. row.id) (turns count moment contents).rows ≡ map (λ row. row.id) contents.rows
turns-ids zero moment contents = refl
turns-ids (suc count) moment contents = turns-ids count moment (turn moment contents) ∙ turn-ids contents (first_due contents moment)

pub all-stay : (contents : Contents) (moment : ℕ) → RowsLater contents.rows (all_turns contents moment).rows
unfolding all_turns
all-stay contents moment = turns-stay (length (all_due_moments contents.rows)) moment contents

pub all-ids : (contents : Contents) (moment : ℕ) → map (λ row. row.id) (all_turns contents moment).rows ≡ map (λ row. row.id) contents.rows
unfolding all_turns
all-ids contents moment = turns-ids (length (all_due_moments contents.rows)) moment contents

-- ---- no task is ready

turn-none : (contents : Contents) (first : Option ℕ) → has_ready contents ≡ false → has_ready (after_first contents first) ≡ false
turn-none contents None none = none
turn-none contents (Some at) none = settled-none (resolved_at contents at) at

turns-none : (count moment : ℕ) (contents : Contents) → has_ready contents ≡ false → has_ready (turns count moment contents) ≡ false
turns-none zero moment contents none = none
turns-none (suc count) moment contents none = turns-none count moment (turn moment contents) (turn-none contents (first_due contents moment) none)

pub all-none : (contents : Contents) (moment : ℕ) → has_ready contents ≡ false → has_ready (all_turns contents moment) ≡ false
unfolding all_turns
all-none contents moment none = turns-none (length (all_due_moments contents.rows)) moment contents none
