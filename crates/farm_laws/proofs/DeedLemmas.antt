-- What calls change: nothing, or what their row or their run says.
use Rattle.std.proofs.Common.{ℕ, Bool, true, false, List, Option, Some, None}
use Rattle.task_types.specs.declared.change.Change.{Change}
use Rattle.run_states.specs.Rows.{Row}
use Rattle.farm_machine.specs.Case.{Case, of_row, of_run}

pub each-task : (P : Option Change → Type 0) (id : List ℕ) (row : Option Row) (each : Row → Case) → P None → ((r : Row) → P (each r).deed.change) → P (of_row id each row).deed.change
each-task P id None each none some_ = none
each-task P id (Some row) each none some_ = some_ row

pub each-run : (P : Option Change → Type 0) (id : List ℕ) (run : ℕ) (each : Row → Case) (there : Bool) (row : Row) → P None → P (each row).deed.change → P (of_run id run each there row).deed.change
each-run P id run each true row none some_ = some_
each-run P id run each false row none some_ = none
