-- Which tasks are ready, and what settling makes of them (the queue service of the Taskcluster reference: an unscheduled task becomes
-- pending once each task that it depends on meets what it requires).
use Rattle.std.specs.Prelude.{ℕ, ◌+◌, Bool, false, ◌&&◌, List, [], ◌∷◌, count_by, if◌then◌else◌}
use Rattle.std.specs.List.{list_any, list_all}
use Rattle.std.specs.Option.{option_map_or}
use Rattle.task_types.specs.declared.choices.Requires.{Requires}
use Rattle.run_states.specs.Rows.{Row, is_unscheduled, scheduled}
use Rattle.run_states.specs.Serving.{serves}
use Rattle.task_index.specs.Contents.{Contents, row_with}

-- the task with this id stands, and serves one that requires this
abbrev pub id_serves : Requires → List Row → List ℕ → Bool
id_serves needs rows id = option_map_or (serves needs) (row_with id rows) false

-- a task is ready: it is unscheduled, and each task that it depends on stands and serves it
abbrev pub is_ready : List Row → Row → Bool
is_ready rows row = is_unscheduled row && list_all (id_serves row.definition.requires_ rows) row.definition.dependencies

-- some task is ready
abbrev pub has_ready : Contents → Bool
has_ready contents = list_any (is_ready contents.rows) contents.rows

-- each task that passes a test becomes pending at a moment, in the order of creation, the first one with this number
abbrev pub started : (Row → Bool) → ℕ → ℕ → List Row → List Row
started test number at [] = []
started test number at (row ∷ rows) =
    if test row then scheduled number at row ∷ started test (number + 1) at rows else row ∷ started test number at rows

-- a task that is added to these as it stands once they have settled: pending with the next number, where it is ready
abbrev pub settled_row : Contents → ℕ → Row → Row
settled_row contents at row = if is_ready contents.rows row then scheduled contents.next at row else row

-- the tasks settle at a moment: each that is ready becomes pending (and serves nobody by that, so that no other becomes ready)
unfoldable pub settled : Contents → ℕ → Contents
settled contents at = record contents {
  rows = started (is_ready contents.rows) contents.next at contents.rows;
  next = contents.next + count_by (is_ready contents.rows) contents.rows;
}
