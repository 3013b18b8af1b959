-- What a graph keeps in memory. The contracts of private functions alone speak of these.
use Rattle.std.specs.Prelude.{◌≡◌, ℕ, ◌<◌, ◌-◌, ◌==◌, true, false, List, [], ◌∷◌, ◌++◌, map, length, Option, Some, slice_get, slice_index, slice_index_or, vec_len, vec_capacity, if◌then◌else◌}
use Rattle.std.specs.List.{IsDistinct}
use Rattle.std.specs.Option.{ForSome}
use Rattle.dep_graph.specs.declared.edges.Edges.{Edges}
use Rattle.dep_graph.specs.declared.graph.Addition.{Addition}
use Rattle.dep_graph.specs.Nodes.{Task, Adding, rows_of, is_in, dependants_of, just_created}

-- no two tasks have one row
abbrev pub HaveOwnRows : List Task → Type 0
HaveOwnRows tasks = IsDistinct ◌==◌ (rows_of tasks)

-- the lists of the edges
abbrev pub edges_of : List Edges → List (List ℕ)
edges_of edges = map (λ edge. edge.rows.items) edges

-- for how many edges more each task has room
abbrev pub spares : List Edges → List ℕ
spares edges = map (λ edge. vec_capacity edge.rows - vec_len edge.rows) edges

-- the list at a place, and an empty one behind the last
abbrev pub list_at : List (List ℕ) → ℕ → List ℕ
list_at lists place = slice_index_or lists place []

-- each task of these rows has room for one edge more
abbrev pub HasRooms : List ℕ → List ℕ → List Edges → Type 0
HasRooms rows named edges = (place row : ℕ) → slice_get rows place ≡ Some row → is_in named row ≡ true → 0 < slice_index (spares edges) place

-- the edges of tasks with these rows, with one more from each that is named
abbrev pub with_edges : List ℕ → ℕ → List ℕ → List (List ℕ) → List (List ℕ)
with_edges [] row named lists = lists
with_edges (r ∷ rs) row named [] = []
with_edges (r ∷ rs) row named (l ∷ ls) = (if is_in named r then l ++ row ∷ [] else l) ∷ with_edges rs row named ls

-- the list of those that depend on a task that is added: itself, where it does
abbrev pub own_edges : ℕ → List ℕ → List ℕ
own_edges row dependencies = if is_in dependencies row then row ∷ [] else []

-- a task that is added, as contracts see it
abbrev pub adding_of : Addition → Adding
adding_of addition = record { row = addition.node.row; dependencies = addition.node.dependencies }

-- there is room for a task, and for its edges
pub record HasRoom (tasks : List Task) (edges : List Edges) (task_capacity edge_capacity : ℕ) (addition : Addition) : Type 0 where
  pub task : length tasks < task_capacity
  pub list : length edges < edge_capacity
  pub own : addition.edges.rows.items ≡ []
  pub own_room : 0 < vec_capacity addition.edges.rows
  pub created : addition.node.progress ≡ just_created
  pub rooms : HasRooms (rows_of tasks) addition.node.dependencies edges

-- what a graph keeps
pub record IsKept (tasks : List Task) (edges : List Edges) (task_capacity edge_capacity : ℕ) (room : Option Addition) : Type 0 where
  pub own_rows : HaveOwnRows tasks
  pub edges_are : edges_of edges ≡ map (λ task. dependants_of tasks task.row) tasks
  pub unnamed : (row : ℕ) → is_in (rows_of tasks) row ≡ false → dependants_of tasks row ≡ []
  pub room_is : ForSome room (HasRoom tasks edges task_capacity edge_capacity)
