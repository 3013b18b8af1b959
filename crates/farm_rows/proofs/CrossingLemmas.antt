-- The tables of a farm's tasks may go to another thread where a task's row may.
use denote.Param.Send.{IsSend, sendable, view_send}
use denote.Param.SendFields.{declared_send}
use Rattle.std.proofs.Crossing.{crosses}
use Rattle.std.proofs.MapsCrossing as maps
use Rattle.claim_queue.specs.contracts.due_rows.DueRows as held
use Rattle.claim_queue.specs.contracts.due_rows.DueRows.TheInside.{the_type as held_type}
use Rattle.run_states.specs.contracts.row.TaskRow as rows
use Rattle.task_index.specs.contracts.dues.Dues as dues
use Rattle.task_index.specs.contracts.index.Index as indexes
use Rattle.farm_rows.specs.contracts.tables.TaskTables.{the_row}
use Rattle.farm_rows.specs.contracts.tables.TaskTables.TheInside.{the_type as inside_type}
use Rattle.farm_rows.proofs.GraphCrossing.{dependencies_send}
use Rattle.farm_rows.proofs.MemberCrossing.{members_send}
use Rattle.farm_rows.proofs.PlaceCrossing.{places_send}
use Rattle.farm_rows.proofs.QueueCrossing.{queues_send}

held_send : IsSend held.the_row
held_send = view_send _ _ _ _ _ (declared_send held_type (
  search (crosses, sendable) depth 40 fits 50000,
  (
    search (crosses, sendable) depth 40 fits 50000,
    (search (crosses, sendable) depth 40 fits 50000, (search (crosses, sendable) depth 40 fits 50000, tt)),
  ),
))

dues_send : IsSend dues.the_row
dues_send = declared_send dues.the_type (held_send, (held_send, tt))

index_send : IsSend indexes.the_row
index_send = declared_send indexes.the_type (
  search (crosses, maps.crosses, sendable) depth 40 fits 50000,
  (
    search (members_send, crosses, sendable) depth 40 fits 50000,
    (
      search (dues_send, crosses, sendable) depth 40 fits 50000,
      (search (dependencies_send, crosses, sendable) depth 40 fits 50000, (search (queues_send, crosses, sendable) depth 40 fits 50000, tt)),
    ),
  ),
)

pub tables_send : IsSend rows.the_row → IsSend the_row
tables_send sent = view_send _ _ _ _ _ (declared_send inside_type (
  search (crosses, sendable) depth 40 fits 50000,
  (search (crosses, sendable) depth 40 fits 50000, (search (crosses, sendable) depth 40 fits 50000, (index_send, (places_send, tt)))),
))
