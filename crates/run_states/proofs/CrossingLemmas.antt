-- The row of a task may go to another thread where its definition may, and be read by several: it is shared with the row's copies.
use denote.Param.Send.{IsSend, IsSync, sendable, view_send}
use denote.Param.SendFields.{declared_send}
use Rattle.std.proofs.Crossing.{crosses}
use Rattle.task_types.specs.contracts.task_def.TaskDef as defs
use Rattle.run_states.specs.contracts.row.TaskRow.{the_row}
use Rattle.run_states.specs.contracts.row.TaskRow.TheInside.{the_type as inside_type}

pub row_send : IsSend defs.the_row → IsSync defs.the_row → IsSend the_row
row_send sent shared = view_send _ _ _ _ _ (declared_send inside_type (
  search (crosses, sendable) depth 40 fits 50000,
  (
    search (crosses, sendable) depth 40 fits 50000,
    (
      search (crosses, sendable) depth 40 fits 50000,
      (search (crosses, sendable) depth 40 fits 50000, tt),
    ),
  ),
))
