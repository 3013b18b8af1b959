-- What a graph keeps as a task is added, and as room for one is made.
use Rattle.std.proofs.Common.{◌≡◌, ℕ, Bool, true, false, List, [], ◌∷◌, ◌++◌, map, length, Option, Some, None, refl, sym, ◌∙◌, ap, subst, ◌==◌}
use Rattle.std.specs.Prelude.{◌||◌, All, if◌then◌else◌}
use Rattle.std.specs.List.{IsDistinct, AllByRecursion}
use Rattle.std.proofs.lemmas.List.{map-append, length-map}
use Rattle.std.proofs.lemmas.List.Elements.{All-head, All-tail}
use Rattle.dep_graph.specs.declared.edges.Edges.{Edges}
use Rattle.dep_graph.specs.declared.graph.Addition.{Addition}
use Rattle.dep_graph.specs.Nodes.{Task, rows_of, is_in, dependants_of}
use Rattle.dep_graph.specs.Kept.{HaveOwnRows, HasRoom, IsKept, with_edges, own_edges, edges_of}
use Rattle.dep_graph.proofs.TaskLemmas.{same_row, row_same}
use Rattle.dep_graph.proofs.EdgeLemmas.{with-lists, dependants-more}

rows-push : (tasks : List Task) (t : Task) → rows_of (tasks ++ t ∷ []) ≡ rows_of tasks ++ t.row ∷ []
rows-push tasks t = map-append (λ (task : Task). task.row) tasks (t ∷ [])

-- a row that is new differs from all
differs-push : (r row : ℕ) (rs : List ℕ) → AllByRecursion (λ y. (r == y) ≡ false) rs → (r == row) ≡ false → AllByRecursion (λ y. (r == y) ≡ false) (rs ++ row ∷ [])
differs-push r row [] differ no_ = (no_, tt)
differs-push r row (x ∷ xs) differ no_ = (differ.0, differs-push r row xs differ.1 no_)

distinct-push : (rows : List ℕ) (row : ℕ) → IsDistinct ◌==◌ rows → is_in rows row ≡ false → IsDistinct ◌==◌ (rows ++ row ∷ [])
unfolding IsDistinct
distinct-push [] row distinct new = (tt, tt)
distinct-push (r ∷ rs) row distinct new = by (distinct-push rs row distinct.1) (r == row) refl where
  by : (is_in rs row ≡ false → IsDistinct ◌==◌ (rs ++ row ∷ [])) → (b : Bool) → (r == row) ≡ b → IsDistinct ◌==◌ ((r ∷ rs) ++ row ∷ [])
  by rest true is = absurd (let e : true ≡ false = rw is at new in cc)
  by rest false is = let others : is_in rs row ≡ false = rw is at new in (differs-push r row rs distinct.0 is, rest others)

tasks-alike : (f g : Task → List ℕ) (tasks : List Task) → ((task : Task) → f task ≡ g task) → map f tasks ≡ map g tasks
tasks-alike f g [] same = refl
tasks-alike f g (t ∷ ts) same = rw (same t) (ap (λ (l : List (List ℕ)). g t ∷ l) (tasks-alike f g ts same))

-- the edges from the task that is added
own-last : (tasks : List Task) (t : Task) → dependants_of tasks t.row ≡ [] → own_edges t.row t.dependencies ≡ dependants_of (tasks ++ t ∷ []) t.row
own-last tasks t none = by (is_in t.dependencies t.row) refl where
  by : (b : Bool) → is_in t.dependencies t.row ≡ b → own_edges t.row t.dependencies ≡ dependants_of (tasks ++ t ∷ []) t.row
  by true is = rw is (sym (dependants-more tasks t t.row ∙ rw (is, none) refl))
  by false is = rw is (sym (dependants-more tasks t t.row ∙ rw (is, none) refl))

-- a row that no task has is named by none
not-needed : (named rows : List ℕ) (row on : ℕ) → All (λ held. ((held == row) || is_in rows held) ≡ true) named → is_in rows on ≡ false → (row == on) ≡ false → is_in named on ≡ false
not-needed [] rows row on stand none other = refl
not-needed (n ∷ ns) rows row on stand none other = by (not-needed ns rows row on (All-tail (λ held. ((held == row) || is_in rows held) ≡ true) n ns stand) none other) (n == on) refl where
  by : is_in ns on ≡ false → (b : Bool) → (n == on) ≡ b → is_in (n ∷ ns) on ≡ false
  by rest false is = rw is rest
  by rest true is =
      let same : n ≡ on = same_row n on is in
      let P : ℕ → Type 0 = λ y. ((y == row) || is_in rows y) ≡ true in
      let stands : ((on == row) || is_in rows on) ≡ true = subst P same (All-head (λ held. ((held == row) || is_in rows held) ≡ true) n ns stand) in
      let back : (on == row) ≡ false = again (on == row) refl in
      absurd (let e : false ≡ true = rw (back, none) at stands in cc)
    where
      again : (b : Bool) → (on == row) ≡ b → (on == row) ≡ false
      again false it = it
      again true it = absurd (let same : on ≡ row = same_row on row it in let e : (row == on) ≡ true = ap (λ y. row == y) same ∙ row_same row in cc)

-- neither the rows before nor the one behind them have it
neither : (rows : List ℕ) (row on : ℕ) → is_in (rows ++ row ∷ []) on ≡ false → (is_in rows on ≡ false) × ((row == on) ≡ false)
neither [] row on none = by (row == on) refl where
  by : (b : Bool) → (row == on) ≡ b → (is_in [] on ≡ false) × ((row == on) ≡ false)
  by true is = absurd (let e : true ≡ false = rw is at none in cc)
  by false is = (refl, is)
neither (r ∷ rs) row on none = by (neither rs row on) (r == on) refl where
  by : (is_in (rs ++ row ∷ []) on ≡ false → (is_in rs on ≡ false) × ((row == on) ≡ false)) → (b : Bool) → (r == on) ≡ b → (is_in (r ∷ rs) on ≡ false) × ((row == on) ≡ false)
  by rest true is = absurd (let e : true ≡ false = rw is at none in cc)
  by rest false is = let others : is_in (rs ++ row ∷ []) on ≡ false = rw is at none in let both = rest others in (rw is both.0, both.1)

-- a task is added
pub kept-added : (tasks : List Task) (edges after : List Edges) (task_capacity edge_capacity task_now edge_now : ℕ) (room : Option Addition) (t : Task) → IsKept tasks edges task_capacity edge_capacity room → is_in (rows_of tasks) t.row ≡ false
    → All (λ held. ((held == t.row) || is_in (rows_of tasks) held) ≡ true) t.dependencies → edges_of after ≡ with_edges (rows_of tasks) t.row t.dependencies (edges_of edges) ++ own_edges t.row t.dependencies ∷ [] → IsKept (tasks ++ t ∷ []) after task_now edge_now None
kept-added tasks edges after task_capacity edge_capacity task_now edge_now room t kept new stand are =
    let all : List Task = tasks ++ t ∷ [] in
    let f : Task → List ℕ = λ task. dependants_of tasks task.row in
    let g : Task → List ℕ = λ task. dependants_of (tasks ++ t ∷ []) task.row in
    let more : Task → List ℕ = λ task. if is_in t.dependencies task.row then dependants_of tasks task.row ++ t.row ∷ [] else dependants_of tasks task.row in
    let before : with_edges (rows_of tasks) t.row t.dependencies (edges_of edges) ≡ map g tasks =
    ap (with_edges (rows_of tasks) t.row t.dependencies) kept.edges_are ∙ (with-lists t.row t.dependencies f tasks ∙ tasks-alike more g tasks (λ task. sym (dependants-more tasks t task.row))) in
    let last : own_edges t.row t.dependencies ≡ g t = own-last tasks t (kept.unnamed t.row new) in
    let whole : map g (tasks ++ t ∷ []) ≡ map g tasks ++ g t ∷ [] = map-append g tasks (t ∷ []) in
    record {
      own_rows = subst (IsDistinct ◌==◌) (sym (rows-push tasks t)) (distinct-push (rows_of tasks) t.row kept.own_rows new);
      edges_are = are ∙ (ap (λ (l : List (List ℕ)). l ++ own_edges t.row t.dependencies ∷ []) before ∙ (ap (λ (l : List ℕ). map g tasks ++ l ∷ []) last ∙ sym whole));
      unnamed = λ on none.
          let both = neither (rows_of tasks) t.row on (ap (λ (l : List ℕ). is_in l on) (sym (rows-push tasks t)) ∙ none) in
          let unneeded : is_in t.dependencies on ≡ false = not-needed t.dependencies (rows_of tasks) t.row on stand both.0 both.1 in
          dependants-more tasks t on ∙ rw unneeded (kept.unnamed on both.0);
      room_is = λ x is. absurd (let e : None ≡ Some x = is in cc);
    }

-- room is made for a task
pub kept-room : (tasks now : List Task) (edges after : List Edges) (task_capacity edge_capacity task_now edge_now : ℕ) (room : Option Addition) (addition : Addition) → IsKept tasks edges task_capacity edge_capacity room → now ≡ tasks → edges_of after ≡ edges_of edges
    → HasRoom now after task_now edge_now addition → IsKept now after task_now edge_now (Some addition)
kept-room tasks now edges after task_capacity edge_capacity task_now edge_now room addition kept same are fits =
    let P : List Task → Type 0 = λ l. HaveOwnRows l in
    let Q : List Task → Type 0 = λ l. edges_of after ≡ map (λ task. dependants_of l task.row) l in
    let R : List Task → Type 0 = λ l. (row : ℕ) → is_in (rows_of l) row ≡ false → dependants_of l row ≡ [] in
    record {
      own_rows = subst P (sym same) kept.own_rows;
      edges_are = subst Q (sym same) (are ∙ kept.edges_are);
      unnamed = subst R (sym same) kept.unnamed;
      room_is = λ x is. let e : addition ≡ x = (let f : Some addition ≡ Some x = is in cc) in let H : Addition → Type 0 = λ a. HasRoom now after task_now edge_now a in subst H e fits;
    }

-- there are as many lists of edges as tasks
pub edges-long : (tasks : List Task) (edges : List Edges) (task_capacity edge_capacity : ℕ) (room : Option Addition) → IsKept tasks edges task_capacity edge_capacity room → length (edges_of edges) ≡ length (rows_of tasks)
edges-long tasks edges task_capacity edge_capacity room kept =
    ap length kept.edges_are ∙ (length-map tasks (λ (task : Task). dependants_of tasks task.row) ∙ sym (length-map tasks (λ (task : Task). task.row)))
