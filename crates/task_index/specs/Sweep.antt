-- The turns of a tick, and what the tables keep besides their contents. The contracts of private functions alone speak of these.
use Rattle.std.specs.Prelude.{◌≡◌, ℕ, ◌+◌, ◌≤◌, true, Bool, false, ◌&&◌, nat_le, List, length, sum_by}
use Rattle.std.specs.List.{list_any, list_all}
use Rattle.farm_text.specs.declared.moment.TheConstants.{LAST_TOLD_MOMENT}
use Rattle.run_states.specs.Rows.{Row}
use Rattle.task_index.specs.Contents.{Contents, HaveOwnIds}
use Rattle.task_index.specs.Ready.{is_ready}
use Rattle.task_index.specs.Due.{all_due_moments, turns}
use Rattle.task_index.specs.Plans.{room_for}

-- rows with the number that is drawn next
abbrev pub numbered : List Row → ℕ → Contents
numbered rows next = record { rows = rows; last = 0; next = next }

-- all turns up to a moment
unfoldable pub all_turns : Contents → ℕ → Contents
all_turns contents moment = turns (length (all_due_moments contents.rows)) moment contents

-- how many runs there are
abbrev pub runs_made : List Row → ℕ
runs_made rows = sum_by (λ row. length row.runs) rows

-- the runs of a task and the retries that are left are 50 at most
abbrev pub fits : Row → Bool
fits row = nat_le (length row.runs + row.retries_left) 50 && nat_le row.retries_left 49

-- what tables keep: among others, that no task is ready
pub record IsKept (rows : List Row) (last next : ℕ) (capacity : ℕ) : Type 0 where
  pub told : last ≤ LAST_TOLD_MOMENT
  pub few : length rows ≤ 1_000_000
  pub own : HaveOwnIds rows
  pub none : list_any (is_ready rows) rows ≡ false
  pub fit : list_all fits rows ≡ true
  pub drawn : next ≤ runs_made rows
  pub room : room_for (length rows) ≤ capacity
