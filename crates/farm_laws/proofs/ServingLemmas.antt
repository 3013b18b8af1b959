-- What a task serves those that wait for it, nothing takes back.
use Rattle.std.proofs.Common.{◌≡◌, ℕ, zero, suc, Bool, true, false, List, [], ◌∷◌, length, bytes_eq, Option, Some, None, refl, ap, ◌∙◌}
use Rattle.std.specs.List.{list_any}
use Rattle.task_types.specs.declared.choices.Requires.{Requires}
use Rattle.task_types.specs.declared.choices.Requires.TheVariants.{AllCompleted}
use Rattle.run_states.specs.Rows.{Row, loses_claim, exceeded}
use Rattle.run_states.specs.Moves.{run_again, expired}
use Rattle.run_states.specs.Serving.{serves}
use Rattle.run_states.specs.Later.{RowsLater}
use Rattle.run_states.proofs.LaterLemmas.{again-later, exceeded-later, expired-later}
use Rattle.run_states.proofs.ServeLemmas.{completed-stays, serves-again, serves-exceeded, serves-expired}
use Rattle.task_types.specs.declared.change.Change.{Change}
use Rattle.task_types.specs.declared.change.Kind.TheVariants.{Rerun}
use Rattle.task_index.specs.Contents.{Contents}
use Rattle.task_index.specs.Ready.{id_serves, settled}
use Rattle.task_index.specs.Due.{all_due_moments, first_due, meets_deadline, change_first, resolved_at, after_first, turn, turns, advance}
use Rattle.task_index.specs.Changes.{has_id, changed, change_row, applied}
use Rattle.task_index.proofs.IdLemmas.{applied-stays}
use Rattle.task_index.proofs.ReadyLemmas.{AreAlike, settled-alike}
use Rattle.task_index.proofs.TurnLemmas.{deadline-resolved, claim-resolved}

-- ---- tasks that serve whom they served

-- a task serves later whom it served
record StillServes (needs : Requires) (before after : Row) : Type 0 where
  id : after.id ≡ before.id
  still : serves needs before ≡ true → serves needs after ≡ true

-- each of these does, in its place
abbrev Serve : Requires → List Row → List Row → Type 0
Serve needs [] after = Unit {0}
Serve needs (row ∷ rows) [] = ⊥
Serve needs (row ∷ rows) (other ∷ after) = StillServes needs row other × Serve needs rows after

same-serves : (needs : Requires) (row : Row) → StillServes needs row row
same-serves needs row = record { id = refl; still = λ is. is }

serve-same : (needs : Requires) (rows : List Row) → Serve needs rows rows
serve-same needs [] = tt
serve-same needs (row ∷ rows) = (same-serves needs row, serve-same needs rows)

serve-on : (needs : Requires) (first next last : List Row) → Serve needs first next → Serve needs next last → Serve needs first last
serve-on needs [] next last one two = tt
serve-on needs (row ∷ first) [] last one two = absurd one
serve-on needs (row ∷ first) (other ∷ next) [] one two = absurd two
serve-on needs (row ∷ first) (other ∷ next) (end ∷ last) one two =
    (record { id = two.0.id ∙ one.0.id; still = λ is. two.0.still (one.0.still is) }, serve-on needs first next last one.1 two.1)

serve-change : (needs : Requires) (test : Row → Bool) (f : Row → Row) → ((row : Row) → StillServes needs row (f row)) → (rows : List Row) → Serve needs rows (change_first test f rows)
serve-change needs test f still [] = tt
serve-change needs test f still (row ∷ rows) = by (serve-change needs test f still rows) (test row) refl where
  by : Serve needs rows (change_first test f rows) → (b : Bool) → test row ≡ b → Serve needs (row ∷ rows) (change_first test f (row ∷ rows))
  by rest true is = rw is (still row, serve-same needs rows)
  by rest false is = rw is (same-serves needs row, rest)

serve-alike : (needs : Requires) (rows after : List Row) → AreAlike rows after → Serve needs rows after
serve-alike needs [] after alike = tt
serve-alike needs (row ∷ rows) [] alike = absurd alike
serve-alike needs (row ∷ rows) (other ∷ after) alike =
    (record { id = alike.0.later.id; still = λ is. alike.0.served needs ∙ is }, serve-alike needs rows after alike.1)

serve-later : (rows after : List Row) → RowsLater rows after → Serve AllCompleted rows after
serve-later [] after later = tt
serve-later (row ∷ rows) [] later = absurd later
serve-later (row ∷ rows) (other ∷ after) later = (record { id = later.0.id; still = completed-stays row other later.0 }, serve-later rows after later.1)

-- so one that is found by its id does
serve-found : (needs : Requires) (id : List ℕ) (rows after : List Row) → Serve needs rows after → id_serves needs rows id ≡ true → id_serves needs after id ≡ true
serve-found needs id [] after serve is = cc
serve-found needs id (row ∷ rows) [] serve is = absurd serve
serve-found needs id (row ∷ rows) (other ∷ after) serve is = by (serve-found needs id rows after serve.1) (bytes_eq row.id id) refl where
  also : (b : Bool) → bytes_eq row.id id ≡ b → bytes_eq other.id id ≡ b
  also b same = ap (λ (i : List ℕ). bytes_eq i id) serve.0.id ∙ same

  by : (id_serves needs rows id ≡ true → id_serves needs after id ≡ true) → (b : Bool) → bytes_eq row.id id ≡ b → id_serves needs (other ∷ after) id ≡ true
  by rest true same = rw (also true same) (serve.0.still (rw same at is))
  by rest false no_ = rw (also false no_) (rest (rw no_ at is))

-- ---- advances

exceeded-serves : (needs : Requires) (at : ℕ) (row : Row) → StillServes needs row (exceeded at row)
exceeded-serves needs at row = record { id = (exceeded-later at row).id; still = serves-exceeded needs at row }

expired-serves : (needs : Requires) (number at : ℕ) (row : Row) → StillServes needs row (expired number at row)
expired-serves needs number at row = record { id = (expired-later number at row).id; still = serves-expired needs number at row }

serve-settled : (needs : Requires) (contents : Contents) (at : ℕ) → Serve needs contents.rows (settled contents at).rows
serve-settled needs contents at = serve-alike needs contents.rows (settled contents at).rows (settled-alike contents at)

serve-resolved : (needs : Requires) (contents : Contents) (at : ℕ) → Serve needs contents.rows (resolved_at contents at).rows
serve-resolved needs contents at = by (list_any (meets_deadline at) contents.rows) refl where
  by : (b : Bool) → list_any (meets_deadline at) contents.rows ≡ b → Serve needs contents.rows (resolved_at contents at).rows
  by true some_ = rw (deadline-resolved contents at some_) (serve-change needs (meets_deadline at) (exceeded at) (exceeded-serves needs at) contents.rows)
  by false none = rw (claim-resolved contents at none) (serve-change needs (loses_claim at) (expired contents.next at) (expired-serves needs contents.next at) contents.rows)

serve-turn : (needs : Requires) (contents : Contents) (first : Option ℕ) → Serve needs contents.rows (after_first contents first).rows
serve-turn needs contents None = serve-same needs contents.rows
serve-turn needs contents (Some at) =
    serve-on needs contents.rows (resolved_at contents at).rows (settled (resolved_at contents at) at).rows (serve-resolved needs contents at) (serve-settled needs (resolved_at contents at) at)

serve-turns : (needs : Requires) (count moment : ℕ) (contents : Contents) → Serve needs contents.rows (turns count moment contents).rows
serve-turns needs zero moment contents = serve-same needs contents.rows
serve-turns needs (suc count) moment contents =
    serve-on needs contents.rows (turn moment contents).rows (turns count moment (turn moment contents)).rows (serve-turn needs contents (first_due contents moment)) (serve-turns needs count moment (turn moment contents))

pub advance-serves : (needs : Requires) (contents : Contents) (moment : ℕ) (id : List ℕ) → id_serves needs contents.rows id ≡ true → id_serves needs (advance contents moment).rows id ≡ true
unfolding advance
advance-serves needs contents moment id is =
    let after : List Row = (turns (length (all_due_moments contents.rows)) moment contents).rows in
    serve-found needs id contents.rows after (serve-turns needs (length (all_due_moments contents.rows)) moment contents) is

-- ---- changes

pub applied-completed : (contents : Contents) (change : Change) (id : List ℕ) → id_serves AllCompleted contents.rows id ≡ true → id_serves AllCompleted (applied contents change).rows id ≡ true
applied-completed contents change id is = serve-found AllCompleted id contents.rows (applied contents change).rows (serve-later contents.rows (applied contents change).rows (applied-stays contents change)) is

again-serves : (needs : Requires) (number at : ℕ) (row : Row) → StillServes needs row (run_again number at row)
again-serves needs number at row = record { id = (again-later number at row).id; still = serves-again needs number at row }

pub rerun-serves : (needs : Requires) (contents : Contents) (at : ℕ) (task id : List ℕ) → id_serves needs contents.rows id ≡ true → id_serves needs (applied contents (record { at = at; kind = Rerun task })).rows id ≡ true
unfolding applied
rerun-serves needs contents at task id is =
    let again : Contents = changed contents at (change_row task (run_again contents.next at) contents.rows) 1 in
    serve-found needs id contents.rows (settled again at).rows
    (serve-on needs contents.rows again.rows (settled again at).rows
    (serve-change needs (has_id task) (run_again contents.next at) (again-serves needs contents.next at) contents.rows) (serve-settled needs again at)) is
