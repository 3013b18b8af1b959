-- What a graph of the tasks tells of them: which is ready first, and what becomes of it where one of them changes.
use Rattle.std.proofs.Common.{◌≡◌, ◌≢◌, ℕ, zero, suc, ◌+◌, ◌≤◌, ◌<◌, min, inl, inr, Bool, true, false, not, ◌&&◌, ◌||◌, cond, List, [], ◌∷◌, filter, length, slice_get, Option, Some, None, bytes_eq, refl, ap, sym, ◌∙◌, arith, ◌==◌}
use Rattle.std.specs.List.{fold, reduce, list_any, list_all, position, position_from, position_or_len}
use Rattle.std.specs.Option.{option_map_or}
use Rattle.std.proofs.lemmas.Bool.Decides.{eqb_tells}
use Rattle.std.proofs.lemmas.Iterator.Adapters.{position_from-zero}
use Rattle.std.proofs.lemmas.List.Folds.{find_at}
use Rattle.task_types.specs.declared.choices.Requires.{Requires}
use Rattle.task_types.specs.declared.choices.Requires.TheVariants.{AllCompleted, AllResolved}
use Rattle.task_types.specs.declared.task_def.TaskDef.{TaskDef}
use Rattle.run_states.specs.Rows.{Row, is_unscheduled}
use Rattle.run_states.specs.Serving.{serves}
use Rattle.run_states.specs.Later.{RowsLater}
use Rattle.dep_graph.specs.declared.node.Progress.{Progress}
use Rattle.dep_graph.specs.Nodes.{Task, TaskGraph, rows_of, is_in, moved}
use Rattle.dep_graph.specs.Ready.{row_serves, ready_row}
use Rattle.dep_graph.specs.Ready as judged
use Rattle.dep_graph.proofs.TaskLemmas.{none-serves, moved-rows, moved-none}
use Rattle.task_index.specs.Changes.{has_id}
use Rattle.task_index.specs.Ready.{id_serves, is_ready}
use Rattle.task_index.specs.Dependencies.{needs_of, progress_of, ids_of, place_in, places_in, task_at, tasks_from, depends_on_these, AreDependencies, AreDependenciesBut, MayBeDependencies, MayBeDependenciesBut}

-- ---- numbers that are the same, and that are not

pub equal : (a b : ℕ) → a ≡ b → (a == b) ≡ true
equal a b is = elim (eqb_tells a b) [
  | inl same ↦ same.0
  | inr other ↦ absurd (other.1 is)
]

pub unequal : (a b : ℕ) → a ≢ b → (a == b) ≡ false
unequal a b differ = elim (eqb_tells a b) [
  | inl same ↦ absurd (differ same.1)
  | inr other ↦ other.0
]

-- ---- the rows of the tasks

-- the tasks from a place on have none before it
pub rows-before : (ids : List (List ℕ)) (row place : ℕ) (rows : List Row) → row < place → is_in (rows_of (tasks_from ids place rows)) row ≡ false
rows-before ids row place [] less = refl
rows-before ids row place (r ∷ rows) less = rw (unequal place row (omega arith)) (rows-before ids row (place + 1) rows (omega arith))

-- and they have each from it on
pub rows-in : (ids : List (List ℕ)) (from i row : ℕ) (rows : List Row) → row ≡ from + i → i < length rows → is_in (rows_of (tasks_from ids from rows)) row ≡ true
rows-in ids from i row [] at less = absurd (omega arith)
rows-in ids from zero row (r ∷ rows) at less = rw (equal from row (omega arith)) refl
rows-in ids from (suc i) row (r ∷ rows) at less = rw (unequal from row (omega arith)) (rows-in ids (from + 1) i row rows (omega arith) (omega arith))

-- the task at a place is one of them
pub known-row : (tasks : List Task) (rows : List Row) (place : ℕ) (progress : Progress) → AreDependencies (moved place progress tasks) rows → place < length rows → is_in (rows_of tasks) place ≡ true
known-row tasks rows place progress are within =
    ap (λ (rs : List ℕ). is_in rs place) (sym (moved-rows place progress tasks) ∙ ap rows_of are.all)
    ∙ rows-in (ids_of rows) 0 place place rows (omega arith) within

-- ---- a task that changes

moved-task : (ids : List (List ℕ)) (place : ℕ) (row new : Row) → new.definition ≡ row.definition → record (task_at ids place row) { progress = progress_of new } ≡ task_at ids place new
moved-task ids place row new same =
    ap (λ (d : TaskDef). let t : Task = record { row = place; needs = needs_of d.requires_; dependencies = places_in ids d.dependencies; progress = progress_of new } in t) (sym same)

-- the task at a place may have changed in its state, and the others are as they were
pub record IsChangedAt (place : ℕ) (before rows : List Row) : Type 0 where
  pub stay : RowsLater before rows
  pub long : length rows ≡ length before
  pub others : (other : ℕ) → (other == place) ≡ false → slice_get rows other ≡ slice_get before other

-- tasks that are the same at each place
same-rows : (before rows : List Row) → length rows ≡ length before → ((place : ℕ) → slice_get rows place ≡ slice_get before place) → rows ≡ before
same-rows [] [] long same = refl
same-rows [] (r ∷ rows) long same = absurd (omega arith)
same-rows (b ∷ before) [] long same = absurd (omega arith)
same-rows (b ∷ before) (r ∷ rows) long same =
    let first : r ≡ b = (let e : Some r ≡ Some b = same zero in cc) in
    ap (λ (x : Row). x ∷ rows) first ∙ ap (λ (xs : List Row). b ∷ xs) (same-rows before rows (omega arith) (λ place. same (suc place)))

changed-from : (ids : List (List ℕ)) (from i place : ℕ) (before rows : List Row) (row : Row) → place ≡ from + i → IsChangedAt i before rows → slice_get rows i ≡ Some row
    → moved place (progress_of row) (tasks_from ids from before) ≡ tasks_from ids from rows
changed-from ids from zero place [] [] row at changed is = cc
changed-from ids from (suc i) place [] [] row at changed is = cc
changed-from ids from i place [] (r ∷ rows) row at changed is = absurd (let long = changed.long in omega arith)
changed-from ids from i place (b ∷ before) [] row at changed is = absurd changed.stay
changed-from ids from zero place (b ∷ before) (r ∷ rows) row at changed is =
    let here : r ≡ row = (let e : Some r ≡ Some row = is in cc) in
    let same : (r ∷ rows) ≡ r ∷ before = ap (λ (xs : List Row). r ∷ xs) (same-rows before rows (let long = changed.long in omega arith) (λ k. changed.others (suc k) (unequal (suc k) zero (omega arith)))) in
    rw (equal from place (omega arith))
    (ap (λ (ts : List Task). record (task_at ids from b) { progress = progress_of row } ∷ ts) (sym (moved-none place (progress_of row) (tasks_from ids (from + 1) before) (rows-before ids place (from + 1) before (omega arith))))
    ∙ (ap (λ (x : Row). record (task_at ids from b) { progress = progress_of x } ∷ tasks_from ids (from + 1) before) (sym here)
    ∙ (ap (λ (t : Task). t ∷ tasks_from ids (from + 1) before) (moved-task ids from b r changed.stay.0.definition) ∙ ap (tasks_from ids from) (sym same))))
changed-from ids from (suc i) place (b ∷ before) (r ∷ rows) row at changed is =
    let first : r ≡ b = (let e : Some r ≡ Some b = changed.others zero (unequal zero (suc i) (omega arith)) in cc) in
    let rest : IsChangedAt i before rows = record {
      stay = changed.stay.1;
      long = (let long = changed.long in omega arith);
      others = λ other differs. changed.others (suc other) (unequal (suc other) (suc i) (λ e. let same = equal other i (omega arith) in let no_ : true ≡ false = sym same ∙ differs in absurd (cc)));
    } in
    rw (unequal from place (omega arith))
    (ap (λ (ts : List Task). task_at ids from b ∷ ts) (changed-from ids (from + 1) i place before rows row (omega arith) rest is)
    ∙ ap (λ (x : Row). task_at ids from x ∷ tasks_from ids (from + 1) rows) (sym first))

pub later-ids : (before rows : List Row) → RowsLater before rows → length rows ≡ length before → ids_of rows ≡ ids_of before
later-ids [] [] stay long = refl
later-ids [] (r ∷ rows) stay long = absurd (omega arith)
later-ids (b ∷ before) [] stay long = absurd stay
later-ids (b ∷ before) (r ∷ rows) stay long =
    ap (λ (id : List ℕ). id ∷ ids_of rows) stay.0.id ∙ ap (λ (ids : List (List ℕ)). b.id ∷ ids) (later-ids before rows stay.1 (omega arith))

pub later-stand : (ids : List (List ℕ)) (before rows : List Row) → RowsLater before rows → length rows ≡ length before → list_all (depends_on_these ids) rows ≡ list_all (depends_on_these ids) before
later-stand ids [] [] stay long = refl
later-stand ids [] (r ∷ rows) stay long = absurd (omega arith)
later-stand ids (b ∷ before) [] stay long = absurd stay
later-stand ids (b ∷ before) (r ∷ rows) stay long =
    ap (λ (d : TaskDef). list_all (λ id. list_any (λ other. bytes_eq other id) ids) d.dependencies && list_all (depends_on_these ids) rows) stay.0.definition
    ∙ ap (λ t. depends_on_these ids b && t) (later-stand ids before rows stay.1 (omega arith))

-- a graph of the tasks is one of those of which one changed, once that has come as far
pub changed-but : (tasks : List Task) (place : ℕ) (before rows : List Row) → IsChangedAt place before rows → AreDependencies tasks before → AreDependenciesBut place tasks rows
changed-but tasks place before rows changed are row at =
    let ids = later-ids before rows changed.stay changed.long in
    record {
      all =
          ap (moved place (progress_of row)) are.all
          ∙ (changed-from (ids_of before) 0 place place before rows row (omega arith) changed at ∙ ap (λ (is : List (List ℕ)). tasks_from is 0 rows) (sym ids));
      stand = ap (λ (is : List (List ℕ)). list_all (depends_on_these is) rows) ids ∙ (later-stand (ids_of before) before rows changed.stay changed.long ∙ are.stand);
    }

-- the same, where there is a graph
pub may-change : (graph : Option TaskGraph) (place : ℕ) (before rows : List Row) → IsChangedAt place before rows → MayBeDependencies graph before → MayBeDependenciesBut place graph rows
may-change None place before rows changed are = tt
may-change (Some graph) place before rows changed are = changed-but graph.tasks place before rows changed are

-- ---- which task is ready

-- a task meets what is required where its row serves
meets : (needs : Requires) (row : Row) → judged.serves (needs_of needs) (progress_of row) ≡ serves needs row
meets AllCompleted row = refl
meets AllResolved row = refl

row-serves : (ids : List (List ℕ)) (needs : Requires) (from i place : ℕ) (rows : List Row) → place ≡ from + i → row_serves (tasks_from ids from rows) (needs_of needs) place ≡ option_map_or (serves needs) (slice_get rows i) false
row-serves ids needs from zero place [] at = refl
row-serves ids needs from (suc i) place [] at = refl
row-serves ids needs from zero place (row ∷ rows) at =
    rw (equal from place (omega arith), none-serves (tasks_from ids (from + 1) rows) (needs_of needs) place (rows-before ids place (from + 1) rows (omega arith))) (alone (judged.serves (needs_of needs) (progress_of row)) ∙ meets needs row)
  where
    alone : (b : Bool) → (b || false) ≡ b
    alone true = refl
    alone false = refl
row-serves ids needs from (suc i) place (row ∷ rows) at = rw (unequal from place (omega arith)) (row-serves ids needs (from + 1) i place rows (omega arith))

-- a place among ids is that of the first task with the id
pub place-ids : (id : List ℕ) (rows : List Row) → place_in (ids_of rows) id ≡ position_or_len (has_id id) rows
place-ids id [] = refl
place-ids id (row ∷ rows) = ap (λ n. cond (not (bytes_eq row.id id)) (1 + n) 0) (place-ids id rows)

place-serves : (rows : List Row) (needs : Requires) (id : List ℕ) → row_serves (tasks_from (ids_of rows) 0 rows) (needs_of needs) (place_in (ids_of rows) id) ≡ id_serves needs rows id
place-serves rows needs id =
    let place : ℕ = place_in (ids_of rows) id in
    row-serves (ids_of rows) needs 0 place place rows (omega arith)
    ∙ (ap (λ n. option_map_or (serves needs) (slice_get rows n) false) (place-ids id rows) ∙ ap (λ o. option_map_or (serves needs) o false) (sym (find_at (has_id id) rows)))

places-serve : (rows : List Row) (needs : Requires) (named : List (List ℕ)) → list_all (row_serves (tasks_from (ids_of rows) 0 rows) (needs_of needs)) (places_in (ids_of rows) named) ≡ list_all (id_serves needs rows) named
places-serve rows needs [] = refl
places-serve rows needs (id ∷ named) = rw (place-serves rows needs id, places-serve rows needs named) refl

-- a task is ready in the graph where its row is
ready-same : (rows : List Row) (place : ℕ) (row : Row) → judged.is_ready (tasks_from (ids_of rows) 0 rows) (task_at (ids_of rows) place row) ≡ is_ready rows row
ready-same rows place row = ap (λ b. is_unscheduled row && b) (places-serve rows row.definition.requires_ row.definition.dependencies)

-- ---- the first that is ready

least-from : (ids : List (List ℕ)) (p : Task → Bool) (least from : ℕ) (rows : List Row) → least ≤ from → fold min least (rows_of (filter p (tasks_from ids from rows))) ≡ least
least-from ids p least from [] le = refl
least-from ids p least from (row ∷ rows) le = by (least-from ids p least (from + 1) rows (omega arith)) (p (task_at ids from row)) refl where
  by : fold min least (rows_of (filter p (tasks_from ids (from + 1) rows))) ≡ least → (b : Bool) → p (task_at ids from row) ≡ b → fold min least (rows_of (filter p (tasks_from ids from (row ∷ rows)))) ≡ least
  by rest true is =
      let lesser : min least from ≡ least = omega arith in
      rw is (ap (λ n. fold min n (rows_of (filter p (tasks_from ids (from + 1) rows)))) lesser ∙ rest)
  by rest false is = rw is rest

first-from : (ids : List (List ℕ)) (p : Task → Bool) (q : Row → Bool) → ((place : ℕ) (row : Row) → p (task_at ids place row) ≡ q row) → (from : ℕ) (rows : List Row)
    → reduce min (rows_of (filter p (tasks_from ids from rows))) ≡ position_from q from rows
first-from ids p q same from [] = refl
first-from ids p q same from (row ∷ rows) = by (first-from ids p q same (from + 1) rows) (q row) refl where
  by : reduce min (rows_of (filter p (tasks_from ids (from + 1) rows))) ≡ position_from q (from + 1) rows → (b : Bool) → q row ≡ b → reduce min (rows_of (filter p (tasks_from ids from (row ∷ rows)))) ≡ position_from q from (row ∷ rows)
  by rest true is = rw (same from row, is) (ap Some (least-from ids p from (from + 1) rows (omega arith)))
  by rest false is = rw (same from row, is) rest

-- the least row that is ready is the first place at which a task is
pub first-ready : (tasks : List Task) (rows : List Row) → AreDependencies tasks rows → ready_row tasks ≡ position (is_ready rows) rows
first-ready tasks rows are =
    ap ready_row are.all
    ∙ (first-from (ids_of rows) (judged.is_ready (tasks_from (ids_of rows) 0 rows)) (is_ready rows) (ready-same rows) 0 rows
    ∙ sym (position_from-zero (is_ready rows) rows))
