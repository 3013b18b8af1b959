-- The tasks of a graph with their places, and what each still waits for. The contracts of private functions alone speak of these.
use Rattle.std.specs.Prelude.{◌≡◌, ℕ, ◌+◌, ◌^◌, ◌<◌, ◌≤◌, ◌==◌, nat_eq, Bool, true, false, not, ◌&&◌, List, length, filter, Option, Some, None, slice_get, slice_index, vec_capacity, if◌then◌else◌}
use Rattle.std.specs.Int.{from_bool}
use Rattle.std.specs.List.{IsDistinct}
use Rattle.std.specs.Option.{ForSome}
use Rattle.std.specs.HashMap.{HashMap, get}
use Rattle.dep_graph.specs.declared.node.Progress.{Progress}
use Rattle.dep_graph.specs.declared.node.Requires.{Requires}
use Rattle.dep_graph.specs.declared.edges.Edges.{Edges}
use Rattle.dep_graph.specs.declared.graph.Addition.{Addition}
use Rattle.dep_graph.specs.declared.waits.Waits.{Waits}
use Rattle.dep_graph.specs.Nodes.{Task, rows_of, is_in}
use Rattle.dep_graph.specs.Kept.{HasRooms, HaveOwnRows}
use Rattle.dep_graph.specs.Ready.{serves, row_serves}
use Rattle.dep_graph.specs.Trees.{node_at}

-- the tasks, and for how many in all there is memory
pub record TaskTable : Type 0 where
  pub tasks : List Task
  pub capacity : ℕ

-- the row stands at the place, or at none
abbrev pub IsPlaceOf : List ℕ → ℕ → Option ℕ → Type 0
IsPlaceOf rows row (Some place) = slice_get rows place ≡ Some row
IsPlaceOf rows row None = is_in rows row ≡ false

-- of each row the place is known
abbrev pub KnowsPlaces : {S : Type 0} → List ℕ → HashMap ℕ ℕ S → Type 0
KnowsPlaces rows places = (row : ℕ) → IsPlaceOf rows row (get nat_eq places row)

-- how many of these tasks do not meet what is required
abbrev pub lacks : List Task → Requires → List ℕ → ℕ
lacks tasks needs rows = length (filter (λ row. not (row_serves tasks needs row)) rows)

-- the number of those that a task waits for, before and after one of them, or another task, came from here to there
abbrev pub IsMoved : Bool → Requires → Progress → Progress → ℕ → ℕ → Type 0
IsMoved true needs before now old new = new + from_bool (serves needs now) ≡ old + from_bool (serves needs before)
IsMoved false needs before now old new = new ≡ old

-- the row of a task that waits for so many, where it is ready
abbrev pub shown : Task → ℕ → Option ℕ
shown task lacking = if task.progress.unscheduled && (lacking == 0) then Some task.row else None

abbrev pub shown_at : Option Task → ℕ → Option ℕ
shown_at None lacking = None
shown_at (Some task) lacking = shown task lacking

-- at each place stands the row of its task, where it is ready
abbrev pub ShowReady : List Task → List ℕ → List (Option ℕ) → Type 0
ShowReady tasks lacking ready = (place : ℕ) → node_at ready place ≡ shown_at (slice_get tasks place) (slice_index lacking place)

-- what is known of those that wait: for how many, and who is ready
pub record AreCounted (tasks : List Task) (lacking : List ℕ) (ready : List (Option ℕ)) : Type 0 where
  pub long : length lacking ≡ length tasks
  pub fit : length tasks ≤ length ready
  pub counted : (place : ℕ) (task : Task) → slice_get tasks place ≡ Some task → slice_index lacking place ≡ lacks tasks task.needs task.dependencies
  pub showing : ShowReady tasks lacking ready
  pub few : (place : ℕ) (task : Task) → slice_get tasks place ≡ Some task → length task.dependencies < 2 ^ 63
  pub distinct : (place : ℕ) (task : Task) → slice_get tasks place ≡ Some task → IsDistinct ◌==◌ task.dependencies

-- For these rows, which depend on a task that came from here to there, it may be counted again for how many each waits.
pub record MayCount (tasks : List Task) (rows : List ℕ) (before now : Progress) (lacking : List ℕ) (ready : List (Option ℕ)) : Type 0 where
  pub own : HaveOwnRows tasks
  pub long : length lacking ≡ length tasks
  pub fit : length tasks ≤ length ready
  pub distinct : IsDistinct ◌==◌ rows
  pub fits : (place : ℕ) (task : Task) → slice_get tasks place ≡ Some task → is_in rows task.row ≡ true → (new : ℕ) × (new < 2 ^ 63) × IsMoved true task.needs before now (slice_index lacking place) new
  pub showing : ShowReady tasks lacking ready

-- It was counted again for these rows, and for no others.
pub record CountsAgain (tasks : List Task) (rows : List ℕ) (before now : Progress) (old new : List ℕ) (old_ready new_ready : List (Option ℕ)) : Type 0 where
  pub counted : (place : ℕ) (task : Task) → slice_get tasks place ≡ Some task → IsMoved (is_in rows task.row) task.needs before now (slice_index old place) (slice_index new place)
  pub showing : ShowReady tasks new new_ready
  pub long : length new ≡ length old
  pub fit : length new_ready ≡ length old_ready

-- where there is room for a task, there is room to count what it waits for
abbrev pub HasCounts : List Task → Waits → Option Addition → Type 0
HasCounts tasks waits room = ForSome room (λ addition. (length waits.lacking.items < vec_capacity waits.lacking) × (length tasks < length waits.ready))

-- there is room for a task that depends on these, for its edges, and to count what it waits for
pub record HasAllRoom (tasks : TaskTable) (edges : List Edges) (edge_capacity : ℕ) (waits : Waits) (dependencies : List ℕ) : Type 0 where
  pub task : length tasks.tasks < tasks.capacity
  pub list : length edges < edge_capacity
  pub rooms : HasRooms (rows_of tasks.tasks) dependencies edges
  pub count : length waits.lacking.items < vec_capacity waits.lacking
  pub place : length tasks.tasks < length waits.ready
