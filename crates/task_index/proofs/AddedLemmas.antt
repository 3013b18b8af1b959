-- What a graph of the tasks is with one more, which comes behind the others.
use Rattle.std.proofs.Common.{◌≡◌, ◌≢◌, ℕ, ◌+◌, ◌<◌, ◌⊎◌, inl, inr, Bool, true, false, not, ◌&&◌, ◌||◌, cond, List, [], ◌∷◌, ◌++◌, length, bytes_eq, refl, ap, sym, ◌∙◌, arith, ◌==◌}
use Rattle.std.specs.List.{list_any, list_all}
use Rattle.std.proofs.lemmas.Bool.{and_parts, eqb-true}
use Rattle.std.proofs.lemmas.Bool.Decides.{eqb_tells}
use Rattle.std.proofs.lemmas.List.{length-map, length_push, map-append}
use Rattle.std.proofs.lemmas.List.Folds.{list_all-append}
use Rattle.run_states.specs.Rows.{Row}
use Rattle.dep_graph.specs.declared.node.Progress.{Progress}
use Rattle.dep_graph.specs.Nodes.{Task, rows_of, is_in, just_created, added, moved, all_distinct, may_be_added}
use Rattle.dep_graph.proofs.TaskLemmas.{moved-none}
use Rattle.task_index.specs.Dependencies.{needs_of, progress_of, ids_of, place_in, places_in, task_at, tasks_from, depends_on_these, AreDependencies}
use Rattle.task_index.proofs.DependencyLemmas.{equal}

-- ---- what stays of those that stand

-- an id that is among others has its place among these and one more
among-behind : (ids : List (List ℕ)) (id named : List ℕ) → list_any (λ other. bytes_eq other named) ids ≡ true → place_in (ids ++ id ∷ []) named ≡ place_in ids named
among-behind [] id named some_ = cc
among-behind (x ∷ ids) id named some_ = by (among-behind ids id named) (bytes_eq x named) refl where
  by : (list_any (λ other. bytes_eq other named) ids ≡ true → place_in (ids ++ id ∷ []) named ≡ place_in ids named) → (b : Bool) → bytes_eq x named ≡ b → place_in ((x ∷ ids) ++ id ∷ []) named ≡ place_in (x ∷ ids) named
  by rest true is = rw is refl
  by rest false is = rw is (ap (λ n. 1 + n) (rest (rw is at some_)))

places-behind : (ids : List (List ℕ)) (id : List ℕ) (named : List (List ℕ)) → list_all (λ n. list_any (λ other. bytes_eq other n) ids) named ≡ true → places_in (ids ++ id ∷ []) named ≡ places_in ids named
places-behind ids id [] all_ = refl
places-behind ids id (name ∷ named) all_ =
    let parts = and_parts (list_any (λ other. bytes_eq other name) ids) (list_all (λ n. list_any (λ other. bytes_eq other n) ids) named) all_ in
    ap (λ p. p ∷ places_in (ids ++ id ∷ []) named) (among-behind ids id name parts.0) ∙ ap (λ ps. place_in ids name ∷ ps) (places-behind ids id named parts.1)

tasks-behind : (ids : List (List ℕ)) (id : List ℕ) (from : ℕ) (rows : List Row) → list_all (depends_on_these ids) rows ≡ true → tasks_from (ids ++ id ∷ []) from rows ≡ tasks_from ids from rows
tasks-behind ids id from [] all_ = refl
tasks-behind ids id from (row ∷ rows) all_ =
    let parts = and_parts (depends_on_these ids row) (list_all (depends_on_these ids) rows) all_ in
    ap (λ (ps : List ℕ). let t : Task = record { row = from; needs = needs_of row.definition.requires_; dependencies = ps; progress = progress_of row } in t ∷ tasks_from (ids ++ id ∷ []) (from + 1) rows) (places-behind ids id row.definition.dependencies parts.0)
    ∙ ap (λ (ts : List Task). task_at ids from row ∷ ts) (tasks-behind ids id (from + 1) rows parts.1)

any-behind : (ids : List (List ℕ)) (id named : List ℕ) → list_any (λ other. bytes_eq other named) ids ≡ true → list_any (λ other. bytes_eq other named) (ids ++ id ∷ []) ≡ true
any-behind [] id named some_ = cc
any-behind (x ∷ ids) id named some_ = by (any-behind ids id named) (bytes_eq x named) refl where
  by : (list_any (λ other. bytes_eq other named) ids ≡ true → list_any (λ other. bytes_eq other named) (ids ++ id ∷ []) ≡ true) → (b : Bool) → bytes_eq x named ≡ b → list_any (λ other. bytes_eq other named) ((x ∷ ids) ++ id ∷ []) ≡ true
  by rest true is = rw is refl
  by rest false is = rw is (rest (rw is at some_))

all-behind : (ids : List (List ℕ)) (id : List ℕ) (named : List (List ℕ)) → list_all (λ n. list_any (λ other. bytes_eq other n) ids) named ≡ true → list_all (λ n. list_any (λ other. bytes_eq other n) (ids ++ id ∷ [])) named ≡ true
all-behind ids id [] all_ = refl
all-behind ids id (name ∷ named) all_ =
    let parts = and_parts (list_any (λ other. bytes_eq other name) ids) (list_all (λ n. list_any (λ other. bytes_eq other n) ids) named) all_ in
    rw (any-behind ids id name parts.0) (all-behind ids id named parts.1)

pub stand-behind : (ids : List (List ℕ)) (id : List ℕ) (rows : List Row) → list_all (depends_on_these ids) rows ≡ true → list_all (depends_on_these (ids ++ id ∷ [])) rows ≡ true
stand-behind ids id [] all_ = refl
stand-behind ids id (row ∷ rows) all_ =
    let parts = and_parts (depends_on_these ids row) (list_all (depends_on_these ids) rows) all_ in
    rw (all-behind ids id row.definition.dependencies parts.0) (stand-behind ids id rows parts.1)

-- ---- the one more

tasks-push : (ids : List (List ℕ)) (from place : ℕ) (rows : List Row) (row : Row) → place ≡ from + length rows → tasks_from ids from (rows ++ row ∷ []) ≡ tasks_from ids from rows ++ task_at ids place row ∷ []
tasks-push ids from place [] row at = let same : from ≡ place = omega arith in ap (λ n. task_at ids n row ∷ []) same
tasks-push ids from place (r ∷ rows) row at = ap (λ (ts : List Task). task_at ids from r ∷ ts) (tasks-push ids (from + 1) place rows row (omega arith))

-- it comes as far as it has
moved-push : (tasks : List Task) (task : Task) (progress : Progress) → is_in (rows_of tasks) task.row ≡ false → moved task.row progress (tasks ++ task ∷ []) ≡ tasks ++ (record task { progress = progress }) ∷ []
moved-push tasks task progress none =
    map-append (λ (t : Task). cond (t.row == task.row) (record t { progress = progress }) t) tasks (task ∷ [])
    ∙ (ap (λ (ts : List Task). ts ++ moved task.row progress (task ∷ [])) (sym (moved-none task.row progress tasks none))
    ∙ ap (λ b. tasks ++ cond b (record task { progress = progress }) task ∷ []) (equal task.row task.row refl))

-- a row that is among them is that of a place
row-within : (ids : List (List ℕ)) (from row : ℕ) (rows : List Row) → is_in (rows_of (tasks_from ids from rows)) row ≡ true → row < from + length rows
row-within ids from row [] is = cc
row-within ids from row (r ∷ rows) is = by (row-within ids (from + 1) row rows) (eqb_tells from row) where
  by : (is_in (rows_of (tasks_from ids (from + 1) rows)) row ≡ true → row < from + 1 + length rows) → ((from == row) ≡ true) × (from ≡ row) ⊎ ((from == row) ≡ false) × (from ≢ row) → row < from + length (r ∷ rows)
  by rest (inl same) = let e = same.1 in omega arith
  by rest (inr other) = let less = rest (rw other.0 at is) in omega arith

-- an id with a place among others is one of them
within-any : (ids : List (List ℕ)) (named : List ℕ) → place_in ids named < length ids → list_any (λ other. bytes_eq other named) ids ≡ true
within-any [] named less = absurd (omega arith)
within-any (x ∷ ids) named less = by (within-any ids named) (bytes_eq x named) refl where
  by : (place_in ids named < length ids → list_any (λ other. bytes_eq other named) ids ≡ true) → (b : Bool) → bytes_eq x named ≡ b → list_any (λ other. bytes_eq other named) (x ∷ ids) ≡ true
  by rest true is = rw is refl
  by rest false is =
      let place : place_in (x ∷ ids) named ≡ 1 + place_in ids named = ap (λ b. cond (not b) (1 + place_in ids named) 0) is in
      rw is (rest (omega arith))

-- the ids that it names are among the others and its own
abbrev stands : List ℕ → ℕ → ℕ → Bool
stands rows row held = (held == row) || is_in rows held

or-cases : (a b : Bool) → (a || b) ≡ true → (a ≡ true) ⊎ (b ≡ true)
or-cases true b is = inl refl
or-cases false b is = inr is

named-stand : (ids more : List (List ℕ)) (row : ℕ) (rows : List Row) (named : List (List ℕ)) → row ≡ length rows → length more ≡ length rows + 1
    → list_all (stands (rows_of (tasks_from ids 0 rows)) row) (places_in more named) ≡ true → list_all (λ n. list_any (λ other. bytes_eq other n) more) named ≡ true
named-stand ids more row rows [] at long all_ = refl
named-stand ids more row rows (name ∷ named) at long all_ =
    let known : List ℕ = rows_of (tasks_from ids 0 rows) in
    let held : ℕ = place_in more name in
    let parts = and_parts (stands known row held) (list_all (stands known row) (places_in more named)) all_ in
    let within : held < length more = elim (or-cases (held == row) (is_in known held) parts.0) [
      | inl own ↦ (let same : held ≡ row = eqb-true held row own in omega arith)
      | inr other ↦ (let less = row-within ids 0 held rows other in omega arith)
    ] in
    rw (within-any more name within) (named-stand ids more row rows named at long parts.1)

-- the graph with the one more
pub added-are : (tasks : List Task) (rows : List Row) (row : Row) → AreDependencies tasks rows → may_be_added tasks (length rows) (places_in (ids_of rows ++ row.id ∷ []) row.definition.dependencies) ≡ true
    → AreDependencies (moved (length rows) (progress_of row) (added (length rows) (needs_of row.definition.requires_) (places_in (ids_of rows ++ row.id ∷ []) row.definition.dependencies) tasks)) (rows ++ row ∷ [])
added-are tasks rows row are may =
    let ids : List (List ℕ) = ids_of rows in
    let more : List (List ℕ) = ids ++ row.id ∷ [] in
    let named = row.definition.dependencies in
    let places : List ℕ = places_in more named in
    let n : ℕ = length rows in
    let free = and_parts (not (is_in (rows_of tasks) n)) (all_distinct places && list_all (stands (rows_of tasks) n) places) may in
    let known = (and_parts (all_distinct places) (list_all (stands (rows_of tasks) n) places) free.1).1 in
    let new : is_in (rows_of tasks) n ≡ false = none (is_in (rows_of tasks) n) free.0 in
    let is : ids_of (rows ++ row ∷ []) ≡ more = map-append (λ (r : Row). r.id) rows (row ∷ []) in
    let task : Task = record { row = n; needs = needs_of row.definition.requires_; dependencies = places; progress = just_created } in
    let long : length more ≡ n + 1 = (let push = length_push ids row.id in let same : length ids ≡ n = length-map rows (λ (r : Row). r.id) in omega arith) in
    record {
      all =
          moved-push tasks task (progress_of row) new
          ∙ (ap (λ (ts : List Task). ts ++ task_at more n row ∷ []) (are.all ∙ sym (tasks-behind ids row.id 0 rows are.stand))
          ∙ (sym (tasks-push more 0 n rows row (omega arith)) ∙ ap (λ (i : List (List ℕ)). tasks_from i 0 (rows ++ row ∷ [])) (sym is)));
      stand =
          ap (λ (i : List (List ℕ)). list_all (depends_on_these i) (rows ++ row ∷ [])) is
          ∙ (list_all-append (depends_on_these more) rows (row ∷ [])
          ∙ rw (stand-behind ids row.id rows are.stand, named-stand ids more n rows named refl long (ap (λ (ts : List Task). list_all (stands (rows_of ts) n) places) (sym are.all) ∙ known)) refl);
    }
  where
    none : (b : Bool) → not b ≡ true → b ≡ false
    none false is = refl
    none true is = cc
