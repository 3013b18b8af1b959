-- The edges of a graph, as tasks are added and go on.
use Rattle.std.proofs.Common.{◌≡◌, ℕ, zero, suc, ◌+◌, ◌<◌, ◌≤◌, Bool, true, false, List, [], ◌∷◌, ◌++◌, map, length, take, drop, get_or, Option, Some, None, inl, inr, ◌⊎◌, refl, sym, ◌∙◌, ap, subst, arith, ◌==◌}
use Rattle.std.specs.Prelude.{slice_index, vec_len, vec_capacity, ◌-◌, slice_get, if◌then◌else◌}
use Rattle.std.specs.List.{IsDistinct, AllByRecursion}
use Rattle.std.proofs.Math.ListN.{set}
use Rattle.std.proofs.Math.Seq.{map-set_same, take-suc, drop-cons}
use Rattle.std.proofs.lemmas.Grind.{get_or_default_zero}
use Rattle.std.proofs.lemmas.Option.{slice_get-get_or}
use Rattle.std.proofs.lemmas.List.{map-set, get_or-map, get_or-set_same, get_or-set_other, length-map, take_all}
use Rattle.dep_graph.specs.declared.node.Progress.{Progress}
use Rattle.dep_graph.specs.declared.edges.Edges.{Edges}
use Rattle.dep_graph.specs.declared.graph.Addition.{Addition}
use Rattle.dep_graph.specs.Nodes.{Task, all_distinct, rows_of, is_in, dependants_of, added, moved}
use Rattle.dep_graph.specs.Kept.{HasRooms, HasRoom, IsKept, spares, with_edges, edges_of, list_at}
use Rattle.dep_graph.proofs.TaskLemmas.{none-some, row-at, moved-rows, dependants-moved, none-in, same_row, row_same, differs-at}

-- ---- a place that a row has alone

pub one-place : (rows : List ℕ) (row p q : ℕ) → IsDistinct ◌==◌ rows → slice_get rows p ≡ Some row → slice_get rows q ≡ Some row → p ≡ q
unfolding IsDistinct
one-place [] row p q own at here = absurd (none-some row at)
one-place (r ∷ rs) row zero zero own at here = refl
one-place (r ∷ rs) row zero (suc q) own at here =
    let same : r ≡ row = (let e : Some r ≡ Some row = at in cc) in
    let no_ : (r == row) ≡ false = differs-at row r rs q own.0 here in
    absurd (let yes_ : (r == row) ≡ true = ap (λ y. r == y) (sym same) ∙ row_same r in cc)
one-place (r ∷ rs) row (suc p) zero own at here =
    let same : r ≡ row = (let e : Some r ≡ Some row = here in cc) in
    let no_ : (r == row) ≡ false = differs-at row r rs p own.0 at in
    absurd (let yes_ : (r == row) ≡ true = ap (λ y. r == y) (sym same) ∙ row_same r in cc)
one-place (r ∷ rs) row (suc p) (suc q) own at here = ap suc (one-place rs row p q own.1 at here)

pub place-within : (rows : List ℕ) (row p : ℕ) → slice_get rows p ≡ Some row → p < length rows
place-within [] row p at = absurd (none-some row at)
place-within (r ∷ rs) row zero at = omega arith
place-within (r ∷ rs) row (suc p) at = let rest = place-within rs row p at in omega arith

-- ---- edges from tasks that are named

-- none is named
pub with-none : (rows : List ℕ) (row : ℕ) (lists : List (List ℕ)) → length lists ≡ length rows → lists ≡ with_edges rows row [] lists
with-none [] row lists long = refl
with-none (r ∷ rs) row [] long = absurd (omega arith)
with-none (r ∷ rs) row (l ∷ ls) long = ap (λ (xs : List (List ℕ)). l ∷ xs) (with-none rs row ls (omega arith))

-- a number that is none of a list, and not the one behind it
pub not-named : (named : List ℕ) (name row : ℕ) → (name == row) ≡ false → is_in (named ++ name ∷ []) row ≡ is_in named row
not-named [] name row no_ = rw no_ refl
not-named (n ∷ ns) name row no_ = by (not-named ns name row no_) (n == row) refl where
  by : is_in (ns ++ name ∷ []) row ≡ is_in ns row → (b : Bool) → (n == row) ≡ b → is_in ((n ∷ ns) ++ name ∷ []) row ≡ is_in (n ∷ ns) row
  by rest true is = rw is refl
  by rest false is = rw is rest

-- the one behind a list is in it
pub last-named : (named : List ℕ) (name : ℕ) → is_in (named ++ name ∷ []) name ≡ true
last-named [] name = rw (row_same name) refl
last-named (n ∷ ns) name = by (last-named ns name) (n == name) refl where
  by : is_in (ns ++ name ∷ []) name ≡ true → (b : Bool) → (n == name) ≡ b → is_in ((n ∷ ns) ++ name ∷ []) name ≡ true
  by rest true is = rw is refl
  by rest false is = rw is rest

pub other-way : (a b : ℕ) → (b == a) ≡ false → (a == b) ≡ false
other-way a b no_ = by (a == b) refl where
  by : (t : Bool) → (a == b) ≡ t → (a == b) ≡ false
  by true is = absurd (let e : (b == a) ≡ true = ap (λ y. y == a) (sym (same_row a b is)) ∙ row_same a in cc)
  by false is = is

-- the list of names grows by one that is at no place
pub with-nowhere : (rows : List ℕ) (row name : ℕ) (named : List ℕ) (lists : List (List ℕ)) → is_in rows name ≡ false → with_edges rows row named lists ≡ with_edges rows row (named ++ name ∷ []) lists
with-nowhere [] row name named lists none = refl
with-nowhere (r ∷ rs) row name named [] none = refl
with-nowhere (r ∷ rs) row name named (l ∷ ls) none = by (with-nowhere rs row name named ls) (r == name) refl where
  by : (is_in rs name ≡ false → with_edges rs row named ls ≡ with_edges rs row (named ++ name ∷ []) ls) → (b : Bool) → (r == name) ≡ b → with_edges (r ∷ rs) row named (l ∷ ls) ≡ with_edges (r ∷ rs) row (named ++ name ∷ []) (l ∷ ls)
  by rest true is = absurd (let e : true ≡ false = rw is at none in cc)
  by rest false is =
      let others : is_in rs name ≡ false = rw is at none in
      let same : is_in (named ++ name ∷ []) r ≡ is_in named r = not-named named name r (other-way name r is) in
      rw same (ap (λ (xs : List (List ℕ)). (if is_in named r then l ++ row ∷ [] else l) ∷ xs) (rest others))

-- an edge is added at the place of one name more
pub with-more : (rows : List ℕ) (row name p : ℕ) (named : List ℕ) (lists : List (List ℕ)) → IsDistinct ◌==◌ rows → length lists ≡ length rows → slice_get rows p ≡ Some name → is_in named name ≡ false
    → set (with_edges rows row named lists) p (list_at (with_edges rows row named lists) p ++ row ∷ []) ≡ with_edges rows row (named ++ name ∷ []) lists
unfolding IsDistinct
with-more [] row name p named lists own long at new = absurd (none-some name at)
with-more (r ∷ rs) row name p named [] own long at new = absurd (omega arith)
with-more (r ∷ rs) row name zero named (l ∷ ls) own long at new =
    let same : name ≡ r = (let e : Some r ≡ Some name = at in cc) in
    let P : ℕ → Type 0 = λ n. is_in named n ≡ false → set (with_edges (r ∷ rs) row named (l ∷ ls)) zero (list_at (with_edges (r ∷ rs) row named (l ∷ ls)) zero ++ row ∷ []) ≡ with_edges (r ∷ rs) row (named ++ n ∷ []) (l ∷ ls) in
    subst P (sym same) (λ none. rw none (rw (last-named named r) (ap (λ (xs : List (List ℕ)). (l ++ row ∷ []) ∷ xs) (with-nowhere rs row r named ls (none-in r rs own.0))))) new
with-more (r ∷ rs) row name (suc p) named (l ∷ ls) own long at new =
    let no_ : (r == name) ≡ false = differs-at name r rs p own.0 at in
    let same : is_in (named ++ name ∷ []) r ≡ is_in named r = not-named named name r (other-way name r no_) in
    rw same (ap (λ (xs : List (List ℕ)). (if is_in named r then l ++ row ∷ [] else l) ∷ xs) (with-more rs row name p named ls own.1 (omega arith) at new))

-- ---- the edges of the tasks, with one task more

-- the edges from each task, where one task more names these
pub with-lists : (row : ℕ) (named : List ℕ) (f : Task → List ℕ) (tasks : List Task) → with_edges (rows_of tasks) row named (map f tasks) ≡ map (λ task. if is_in named task.row then f task ++ row ∷ [] else f task) tasks
with-lists row named f [] = refl
with-lists row named f (t ∷ ts) = ap (λ (xs : List (List ℕ)). (if is_in named t.row then f t ++ row ∷ [] else f t) ∷ xs) (with-lists row named f ts)

-- those that depend on a row, with one task more
pub dependants-more : (tasks : List Task) (task : Task) (row : ℕ) → dependants_of (tasks ++ task ∷ []) row ≡ (if is_in task.dependencies row then dependants_of tasks row ++ task.row ∷ [] else dependants_of tasks row)
dependants-more [] task row = by (is_in task.dependencies row) refl where
  by : (b : Bool) → is_in task.dependencies row ≡ b → dependants_of (task ∷ []) row ≡ (if is_in task.dependencies row then task.row ∷ [] else [])
  by true is = rw is refl
  by false is = rw is refl
dependants-more (t ∷ ts) task row = by (dependants-more ts task row) (is_in t.dependencies row) (is_in task.dependencies row) refl refl where
  by : dependants_of (ts ++ task ∷ []) row ≡ (if is_in task.dependencies row then dependants_of ts row ++ task.row ∷ [] else dependants_of ts row) → (a b : Bool) → is_in t.dependencies row ≡ a → is_in task.dependencies row ≡ b
      → dependants_of ((t ∷ ts) ++ task ∷ []) row ≡ (if is_in task.dependencies row then dependants_of (t ∷ ts) row ++ task.row ∷ [] else dependants_of (t ∷ ts) row)
  by rest true true is also = let more : dependants_of (ts ++ task ∷ []) row ≡ dependants_of ts row ++ task.row ∷ [] = rw also at rest in rw is (rw also (ap (λ (xs : List ℕ). t.row ∷ xs) more))
  by rest true false is also = let more : dependants_of (ts ++ task ∷ []) row ≡ dependants_of ts row = rw also at rest in rw is (rw also (ap (λ (xs : List ℕ). t.row ∷ xs) more))
  by rest false true is also = let more : dependants_of (ts ++ task ∷ []) row ≡ dependants_of ts row ++ task.row ∷ [] = rw also at rest in rw is (rw also more)
  by rest false false is also = let more : dependants_of (ts ++ task ∷ []) row ≡ dependants_of ts row = rw also at rest in rw is (rw also more)

-- ---- one list of edges is changed

pub pushed-edges : (edges : List Edges) (place row : ℕ) (g y : Edges) → place < length edges → g ≡ get_or edges place g → y.rows.items ≡ g.rows.items ++ row ∷ []
    → edges_of (set edges place y) ≡ set (edges_of edges) place (list_at (edges_of edges) place ++ row ∷ [])
pushed-edges edges place row g y within at is =
    let here : list_at (edges_of edges) place ≡ g.rows.items = get_or-map (λ (e : Edges). e.rows.items) edges place g [] within ∙ ap (λ (e : Edges). e.rows.items) (sym at) in
    map-set (λ (e : Edges). e.rows.items) edges place y ∙ ap (set (edges_of edges) place) (is ∙ ap (λ (l : List ℕ). l ++ row ∷ []) (sym here))

pub same-edges : (edges : List Edges) (place : ℕ) (g y : Edges) → g ≡ get_or edges place g → y.rows.items ≡ g.rows.items → edges_of (set edges place y) ≡ edges_of edges
same-edges edges place g y at is = map-set_same (λ (e : Edges). e.rows.items) edges place y g (is ∙ ap (λ (e : Edges). e.rows.items) at)

abbrev spare : Edges → ℕ
spare edge = vec_capacity edge.rows - vec_len edge.rows

pub other-spares : (edges : List Edges) (place k : ℕ) (y : Edges) → (k ≡ place → ⊥) → slice_index (spares (set edges place y)) k ≡ slice_index (spares edges) k
other-spares edges place k y other = ap (λ (l : List ℕ). get_or l k 0) (map-set spare edges place y) ∙ get_or-set_other (spares edges) place k (spare y) 0 other

pub spare-at : (edges : List Edges) (place : ℕ) (y : Edges) → place < length edges → slice_index (spares (set edges place y)) place ≡ vec_capacity y.rows - vec_len y.rows
spare-at edges place y within =
    let long : length (spares edges) ≡ length edges = length-map edges spare in
    ap (λ (l : List ℕ). get_or l place 0) (map-set spare edges place y) ∙ get_or-set_same (spares edges) place (spare y) 0 (omega arith)

pub kept-spares : (edges : List Edges) (place : ℕ) (g y : Edges) → place < length edges → g ≡ get_or edges place g → vec_len y.rows ≡ vec_len g.rows → vec_capacity g.rows ≤ vec_capacity y.rows
    → (k : ℕ) → slice_index (spares edges) k ≤ slice_index (spares (set edges place y)) k
kept-spares edges place g y within at len more k = by (k == place) refl where
  by : (b : Bool) → (k == place) ≡ b → slice_index (spares edges) k ≤ slice_index (spares (set edges place y)) k
  by true is =
      let here : k ≡ place = same_row k place is in
      let old : slice_index (spares edges) place ≡ vec_capacity g.rows - vec_len g.rows = get_or-map spare edges place g 0 within ∙ ap spare (sym at) in
      let new = spare-at edges place y within in
      let P : ℕ → Type 0 = λ j. slice_index (spares edges) j ≤ slice_index (spares (set edges place y)) j in
      let there : slice_index (spares edges) place ≤ slice_index (spares (set edges place y)) place = omega arith in
      subst P (sym here) there
  by false is =
      let same = other-spares edges place k y (λ e. absurd (let yes_ : (k == place) ≡ true = ap (λ j. k == j) (sym e) ∙ row_same k in cc)) in
      omega arith

-- ---- room for edges

-- a row that is in a list with one more is in it, or is that one
pub in-more : (named : List ℕ) (name row : ℕ) → is_in (named ++ name ∷ []) row ≡ true → (is_in named row ≡ true) ⊎ (name ≡ row)
in-more [] name row is = inr (same_row name row (by (name == row) refl)) where
  by : (b : Bool) → (name == row) ≡ b → (name == row) ≡ true
  by true it = it
  by false it = absurd (let e : false ≡ true = rw it at is in cc)
in-more (n ∷ ns) name row is = by (in-more ns name row) (n == row) refl where
  by : (is_in (ns ++ name ∷ []) row ≡ true → (is_in ns row ≡ true) ⊎ (name ≡ row)) → (b : Bool) → (n == row) ≡ b → (is_in (n ∷ ns) row ≡ true) ⊎ (name ≡ row)
  by rest true it = inl (rw it refl)
  by rest false it = let there : is_in (ns ++ name ∷ []) row ≡ true = rw it at is in elim (rest there) [
    | inl a ↦ inl (rw it a)
    | inr b ↦ inr b
  ]

pub rooms-more : (rows named : List ℕ) (name : ℕ) (before after : List Edges) → HasRooms rows named before → ((k : ℕ) → slice_index (spares before) k ≤ slice_index (spares after) k)
    → ((place : ℕ) → slice_get rows place ≡ Some name → 0 < slice_index (spares after) place) → HasRooms rows (named ++ name ∷ []) after
rooms-more rows named name before after rooms kept here place row at is = elim (in-more named name row is) [
  | inl was ↦ let some_ = rooms place row at was in let more = kept place in omega arith
  | inr same ↦ here place (at ∙ ap Some (sym same))
]

-- a row at a place is in the list
pub at-in : (rows : List ℕ) (place row : ℕ) → slice_get rows place ≡ Some row → is_in rows row ≡ true
at-in [] place row at = absurd (none-some row at)
at-in (r ∷ rs) zero row at =
    let same : r ≡ row = (let e : Some r ≡ Some row = at in cc) in
    let here : (r == row) ≡ true = ap (λ y. r == y) (sym same) ∙ row_same r in
    rw here refl
at-in (r ∷ rs) (suc place) row at = by (at-in rs place row at) (r == row) refl where
  by : is_in rs row ≡ true → (b : Bool) → (r == row) ≡ b → is_in (r ∷ rs) row ≡ true
  by rest true is = rw is refl
  by rest false is = rw is rest

-- ---- what a graph keeps

map-rows : (f : ℕ → List ℕ) (tasks : List Task) → map (λ (task : Task). f task.row) tasks ≡ map f (rows_of tasks)
map-rows f [] = refl
map-rows f (t ∷ ts) = ap (λ (l : List (List ℕ)). f t.row ∷ l) (map-rows f ts)

map-alike : (f g : ℕ → List ℕ) (rows : List ℕ) → ((row : ℕ) → f row ≡ g row) → map f rows ≡ map g rows
map-alike f g [] same = refl
map-alike f g (r ∷ rs) same = rw (same r) (ap (λ (l : List (List ℕ)). g r ∷ l) (map-alike f g rs same))

rows-length : (tasks : List Task) → length (rows_of tasks) ≡ length tasks
rows-length tasks = length-map tasks (λ (task : Task). task.row)

-- the edges from the task at a place
pub dependants-at : (tasks : List Task) (edges : List Edges) (row place : ℕ) (g : Edges) → edges_of edges ≡ map (λ task. dependants_of tasks task.row) tasks → slice_get (rows_of tasks) place ≡ Some row → g ≡ get_or edges place g → g.rows.items ≡ dependants_of tasks row
dependants-at [] edges row place g are at here = absurd (none-some row at)
dependants-at (t ∷ ts) edges row place g are at here =
    let tasks : List Task = t ∷ ts in
    let below : place < length (rows_of (t ∷ ts)) = place-within (rows_of (t ∷ ts)) row place at in
    let rows : length (rows_of (t ∷ ts)) ≡ length (t ∷ ts) = rows-length (t ∷ ts) in
    let within : place < length (t ∷ ts) = omega arith in
    let lists : length (edges_of edges) ≡ length edges = length-map edges (λ (e : Edges). e.rows.items) in
    let named : length (map (λ task. dependants_of (t ∷ ts) task.row) (t ∷ ts)) ≡ length (t ∷ ts) = length-map (t ∷ ts) (λ (task : Task). dependants_of (t ∷ ts) task.row) in
    let both : length (edges_of edges) ≡ length (map (λ task. dependants_of (t ∷ ts) task.row) (t ∷ ts)) = ap length are in
    let inside : place < length edges = omega arith in
    let held : get_or (edges_of edges) place [] ≡ g.rows.items = get_or-map (λ (e : Edges). e.rows.items) edges place g [] inside ∙ ap (λ (e : Edges). e.rows.items) (sym here) in
    let told : get_or (map (λ (task : Task). dependants_of (t ∷ ts) task.row) (t ∷ ts)) place [] ≡ dependants_of (t ∷ ts) ((get_or (t ∷ ts) place t).row) = get_or-map (λ (task : Task). dependants_of (t ∷ ts) task.row) (t ∷ ts) place t [] within in
    let same : Some ((get_or (t ∷ ts) place t).row) ≡ Some row = sym (row-at (t ∷ ts) place t within) ∙ at in
    let row_is : (get_or (t ∷ ts) place t).row ≡ row = cc in
    sym held ∙ (ap (λ (l : List (List ℕ)). get_or l place []) are ∙ (told ∙ ap (dependants_of (t ∷ ts)) row_is))

pub kept-none : (tasks : List Task) (edges : List Edges) (task_capacity edge_capacity : ℕ) → tasks ≡ [] → edges ≡ [] → IsKept tasks edges task_capacity edge_capacity None
unfolding IsDistinct
kept-none tasks edges task_capacity edge_capacity no_tasks no_edges = rw (no_tasks, no_edges) (record { own_rows = tt; edges_are = refl; unnamed = λ row none. refl; room_is = λ x is. absurd (let e : None ≡ Some x = is in cc) })

-- one task goes on
room-moved : (tasks : List Task) (edges : List Edges) (task_capacity now edge_capacity row : ℕ) (progress : Progress) (addition : Addition) → now ≡ task_capacity → HasRoom tasks edges task_capacity edge_capacity addition → HasRoom (moved row progress tasks) edges now edge_capacity addition
room-moved tasks edges task_capacity now edge_capacity row progress addition same room =
    let rows : rows_of tasks ≡ rows_of (moved row progress tasks) = sym (moved-rows row progress tasks) in
    let old : length (rows_of tasks) ≡ length tasks = rows-length tasks in
    let new : length (rows_of (moved row progress tasks)) ≡ length (moved row progress tasks) = rows-length (moved row progress tasks) in
    let both : length (rows_of tasks) ≡ length (rows_of (moved row progress tasks)) = ap length rows in
    let fits : length tasks < task_capacity = room.task in
    let P : List ℕ → Type 0 = λ l. HasRooms l addition.node.dependencies edges in
    record { task = omega arith; list = room.list; own = room.own; own_room = room.own_room; created = room.created; rooms = subst P rows room.rooms }

pub kept-moved : (tasks : List Task) (edges : List Edges) (task_capacity now edge_capacity row : ℕ) (progress : Progress) (room : Option Addition) → now ≡ task_capacity → IsKept tasks edges task_capacity edge_capacity room → IsKept (moved row progress tasks) edges now edge_capacity room
kept-moved tasks edges task_capacity now edge_capacity row progress room same kept =
    let later = moved row progress tasks in
    let rows : rows_of tasks ≡ rows_of (moved row progress tasks) = sym (moved-rows row progress tasks) in
    let alike : (on : ℕ) → dependants_of tasks on ≡ dependants_of (moved row progress tasks) on = λ on. sym (dependants-moved row progress tasks on) in
    record {
      own_rows = subst (IsDistinct ◌==◌) rows kept.own_rows;
      edges_are = kept.edges_are ∙ (map-rows (dependants_of tasks) tasks ∙ (ap (map (dependants_of tasks)) rows ∙ (map-alike (dependants_of tasks) (dependants_of later) (rows_of later) alike ∙ sym (map-rows (dependants_of later) later))));
      unnamed = λ on none. dependants-moved row progress tasks on ∙ kept.unnamed on (ap (λ (l : List ℕ). is_in l on) rows ∙ none);
      room_is = λ addition is. room-moved tasks edges task_capacity now edge_capacity row progress addition same (kept.room_is addition is);
    }

-- ---- one step of making room, and of adding edges

-- the names up to a place, and the one there
pub take-more : (names : List ℕ) (i : ℕ) (name : ℕ) → i < length names → name ≡ get_or names i name → take (i + 1) names ≡ take i names ++ name ∷ []
take-more names i name within at =
    let one : i + 1 ≡ suc i = omega arith in
    ap (λ n. take n names) one ∙ (take-suc names i name within ∙ ap (λ n. take i names ++ n ∷ []) (sym at))

drop-more : (names : List ℕ) (i : ℕ) (name : ℕ) → i < length names → name ≡ get_or names i name → drop i names ≡ name ∷ drop (i + 1) names
drop-more names i name within at =
    let one : suc i ≡ i + 1 = omega arith in
    drop-cons names i name within ∙ (ap (λ n. n ∷ drop (suc i) names) (sym at) ∙ ap (λ n. name ∷ drop n names) one)

-- no task has the name: room for it is room for none
pub rooms-nowhere : (rows named : List ℕ) (name : ℕ) (edges : List Edges) → HasRooms rows named edges → is_in rows name ≡ false → HasRooms rows (named ++ name ∷ []) edges
rooms-nowhere rows named name edges rooms none =
    rooms-more rows named name edges edges rooms (λ k. omega arith) (λ place at. absurd (let some_ : is_in rows name ≡ true = at-in rows place name at in cc))

pub rooms-step : (rows names : List ℕ) (i name : ℕ) (before after : List Edges) → i < length names → name ≡ get_or names i name → HasRooms rows (take i names) before
    → ((k : ℕ) → slice_index (spares before) k ≤ slice_index (spares after) k) → ((place : ℕ) → slice_get rows place ≡ Some name → 0 < slice_index (spares after) place) → HasRooms rows (take (i + 1) names) after
rooms-step rows names i name before after within at rooms kept here =
    let P : List ℕ → Type 0 = λ l. HasRooms rows l after in
    subst P (sym (take-more names i name within at)) (rooms-more rows (take i names) name before after rooms kept here)

pub rooms-step_nowhere : (rows names : List ℕ) (i name : ℕ) (edges : List Edges) → i < length names → name ≡ get_or names i name → HasRooms rows (take i names) edges → is_in rows name ≡ false → HasRooms rows (take (i + 1) names) edges
rooms-step_nowhere rows names i name edges within at rooms none =
    let P : List ℕ → Type 0 = λ l. HasRooms rows l edges in
    subst P (sym (take-more names i name within at)) (rooms-nowhere rows (take i names) name edges rooms none)

pub rooms-whole : (rows names : List ℕ) (i : ℕ) (edges : List Edges) → length names ≤ i → HasRooms rows (take i names) edges → HasRooms rows names edges
rooms-whole rows names i edges past rooms =
    let P : List ℕ → Type 0 = λ l. HasRooms rows l edges in
    subst P (take_all i names past) rooms

-- a name that is left is one of those that were left before
rooms-fewer : (rows left : List ℕ) (name : ℕ) (edges : List Edges) → HasRooms rows (name ∷ left) edges → HasRooms rows left edges
rooms-fewer rows left name edges rooms place row at is = rooms place row at (by (name == row) refl) where
  by : (b : Bool) → (name == row) ≡ b → is_in (name ∷ left) row ≡ true
  by true it = rw it refl
  by false it = rw it is

-- the names before a place are not the one there
pub not-before : (names : List ℕ) (i name : ℕ) → IsDistinct ◌==◌ names → i < length names → name ≡ get_or names i name → is_in (take i names) name ≡ false
unfolding IsDistinct
not-before [] i name distinct within at = absurd (omega arith)
not-before (n ∷ ns) zero name distinct within at = refl
not-before (n ∷ ns) (suc i) name distinct within at =
    let held : slice_get ns i ≡ Some name = slice_get-get_or ns i name (omega arith) ∙ ap Some (sym at) in
    let no_ : (n == name) ≡ false = differs-at name n ns i distinct.0 held in
    rw no_ (not-before ns i name distinct.1 (omega arith) at)

-- and none behind it is
not-behind : (names : List ℕ) (i name row : ℕ) → IsDistinct ◌==◌ names → i < length names → name ≡ get_or names i name → is_in (drop (i + 1) names) row ≡ true → name ≡ row → ⊥
unfolding IsDistinct
not-behind [] i name row distinct within at is same = absurd (omega arith)
not-behind (n ∷ ns) zero name row distinct within at is same =
    let none : is_in ns n ≡ false = none-in n ns distinct.0 in
    let here : n ≡ row = sym at ∙ same in
    let P : ℕ → Type 0 = λ y. is_in ns y ≡ false in
    let also : is_in ns row ≡ false = subst P here none in
    let e : false ≡ true = sym also ∙ is in cc
not-behind (n ∷ ns) (suc i) name row distinct within at is same =
    let one : suc i + 1 ≡ suc (i + 1) = omega arith in
    let P : ℕ → Type 0 = λ k. is_in (drop k (n ∷ ns)) row ≡ true in
    not-behind ns i name row distinct.1 (omega arith) at (subst P one is) same

-- what is kept as edges are added: those of the names so far are there, and there is room for those that are left
pub record AddsSo (rows names : List ℕ) (row i : ℕ) (old : List (List ℕ)) (edges : List Edges) : Type 0 where
  pub lists : edges_of edges ≡ with_edges rows row (take i names) old
  pub rooms : HasRooms rows (drop i names) edges

pub adds-first : (rows names : List ℕ) (row : ℕ) (edges : List Edges) → length (edges_of edges) ≡ length rows → HasRooms rows names edges → AddsSo rows names row 0 (edges_of edges) edges
adds-first rows names row edges long rooms = record { lists = with-none rows row (edges_of edges) long; rooms = rooms }

-- no task has the name
pub adds-nowhere : (rows names : List ℕ) (row i name : ℕ) (old : List (List ℕ)) (edges : List Edges) → i < length names → name ≡ get_or names i name → is_in rows name ≡ false → AddsSo rows names row i old edges → AddsSo rows names row (i + 1) old edges
adds-nowhere rows names row i name old edges within at none adds =
    let P : List ℕ → Type 0 = λ l. edges_of edges ≡ with_edges rows row l old in
    let Q : List ℕ → Type 0 = λ l. HasRooms rows l edges in
    record {
      lists = subst P (sym (take-more names i name within at)) (adds.lists ∙ with-nowhere rows row name (take i names) old none);
      rooms = rooms-fewer rows (drop (i + 1) names) name edges (subst Q (drop-more names i name within at) adds.rooms);
    }

-- an edge is added at the place of the name
pub adds-at : (rows names : List ℕ) (row i name place : ℕ) (old : List (List ℕ)) (edges after : List Edges) → IsDistinct ◌==◌ rows → IsDistinct ◌==◌ names → length old ≡ length rows → i < length names → name ≡ get_or names i name → slice_get rows place ≡ Some name
    → edges_of after ≡ set (edges_of edges) place (list_at (edges_of edges) place ++ row ∷ []) → ((k : ℕ) → (k ≡ place → ⊥) → slice_index (spares after) k ≡ slice_index (spares edges) k) → AddsSo rows names row i old edges → AddsSo rows names row (i + 1) old after
adds-at rows names row i name place old edges after own distinct long within at here added others adds =
    let P : List ℕ → Type 0 = λ l. edges_of after ≡ with_edges rows row l old in
    let Q : List ℕ → Type 0 = λ l. HasRooms rows l edges in
    let new : is_in (take i names) name ≡ false = not-before names i name distinct within at in
    let lists : edges_of after ≡ with_edges rows row (take i names ++ name ∷ []) old =
    added ∙ (ap (λ (l : List (List ℕ)). set l place (list_at l place ++ row ∷ [])) adds.lists ∙ with-more rows row name place (take i names) old own long here new) in
    let left : HasRooms rows (drop (i + 1) names) edges = rooms-fewer rows (drop (i + 1) names) name edges (subst Q (drop-more names i name within at) adds.rooms) in
    record {
      lists = subst P (sym (take-more names i name within at)) lists;
      rooms = λ k r stands is.
          let other : k ≡ place → ⊥ = λ same. not-behind names i name r distinct within at is (let e : Some name ≡ Some r = sym here ∙ (ap (slice_get rows) (sym same) ∙ stands) in cc) in
          let some_ = left k r stands is in
          let same = others k other in
          omega arith;
    }

-- there is room for an edge from the task with the next name
pub room-next : (rows names : List ℕ) (row i name place : ℕ) (old : List (List ℕ)) (edges : List Edges) → i < length names → name ≡ get_or names i name → slice_get rows place ≡ Some name → AddsSo rows names row i old edges → 0 < slice_index (spares edges) place
room-next rows names row i name place old edges within at here adds =
    let first : is_in (name ∷ drop (i + 1) names) name ≡ true = rw (row_same name) refl in
    let P : List ℕ → Type 0 = λ l. is_in l name ≡ true in
    adds.rooms place name here (subst P (sym (drop-more names i name within at)) first)

-- how long the lists of edges are
pub length-with : (rows : List ℕ) (row : ℕ) (named : List ℕ) (lists : List (List ℕ)) → length lists ≡ length rows → length (with_edges rows row named lists) ≡ length rows
length-with [] row named [] long = refl
length-with [] row named (l ∷ ls) long = absurd (omega arith)
length-with (r ∷ rs) row named [] long = absurd (omega arith)
length-with (r ∷ rs) row named (l ∷ ls) long = ap suc (length-with rs row named ls (omega arith))

-- the next name
pub next-name : (names : List ℕ) (i : ℕ) → i < length names → slice_index names i ≡ get_or names i (slice_index names i)
next-name names i within = sym (get_or_default_zero names i (slice_index names i) within)

-- the place of a row is one of the edges
pub edge-within : (rows : List ℕ) (row place : ℕ) (edges : List Edges) → length (edges_of edges) ≡ length rows → slice_get rows place ≡ Some row → place < length edges
edge-within rows row place edges long at =
    let below = place-within rows row place at in
    let lists : length (edges_of edges) ≡ length edges = length-map edges (λ (e : Edges). e.rows.items) in
    omega arith

-- ---- numbers of which none stands twice

differs-from : (r : ℕ) (rs : List ℕ) → is_in rs r ≡ false → AllByRecursion (λ y. (r == y) ≡ false) rs
differs-from r [] none = tt
differs-from r (x ∷ xs) none = by (differs-from r xs) (x == r) refl where
  by : (is_in xs r ≡ false → AllByRecursion (λ y. (r == y) ≡ false) xs) → (b : Bool) → (x == r) ≡ b → AllByRecursion (λ y. (r == y) ≡ false) (x ∷ xs)
  by rest true is = absurd (let e : true ≡ false = rw is at none in cc)
  by rest false is = let others : is_in xs r ≡ false = rw is at none in (other-way r x is, rest others)

pub distinct-of : (rows : List ℕ) → all_distinct rows ≡ true → IsDistinct ◌==◌ rows
unfolding IsDistinct
distinct-of [] is = tt
distinct-of (r ∷ rs) is = by (distinct-of rs) (is_in rs r) refl where
  by : (all_distinct rs ≡ true → IsDistinct ◌==◌ rs) → (b : Bool) → is_in rs r ≡ b → IsDistinct ◌==◌ (r ∷ rs)
  by rest true it = absurd (let e : false ≡ true = rw it at is in cc)
  by rest false it = let others : all_distinct rs ≡ true = rw it at is in (differs-from r rs it, rest others)

pub place-within-tasks : (tasks : List Task) (row place : ℕ) → slice_get (rows_of tasks) place ≡ Some row → place < length tasks
place-within-tasks tasks row place at = let within = place-within (rows_of tasks) row place at in let long = rows-length tasks in omega arith
