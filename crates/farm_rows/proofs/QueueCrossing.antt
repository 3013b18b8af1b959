-- The tasks that wait, by their queues, may go to another thread.
use denote.Param.Send.{IsSend, sendable, view_send}
use denote.Param.SendFields.{declared_send}
use Rattle.std.proofs.Crossing.{crosses}
use Rattle.std.proofs.MapsCrossing as maps
use Rattle.farm_text.specs.contracts.text.Text as texts
use Rattle.farm_text.specs.contracts.text.Text.TheInside.{the_type as text_type}
use Rattle.claim_queue.specs.contracts.queues.Queue as rooms
use Rattle.claim_queue.specs.contracts.pending.Pending as pending
use Rattle.claim_queue.specs.contracts.pending.Pending.TheInside.{the_type as pending_type}
use Rattle.task_index.specs.contracts.queues.Queues.{the_row, the_type}

text_send : IsSend texts.the_row
text_send = view_send _ _ _ _ _ (declared_send text_type (search (crosses, sendable) depth 40 fits 50000, tt))

room_send : IsSend rooms.the_row
room_send = declared_send rooms.the_type (text_send, (search (crosses, sendable) depth 40 fits 50000, tt))

pending_send : IsSend pending.the_row
pending_send = view_send _ _ _ _ _ (declared_send pending_type (
  search (room_send, crosses, sendable) depth 40 fits 50000,
  (
    search (crosses, sendable) depth 40 fits 50000,
    (
      search (crosses, sendable) depth 40 fits 50000,
      (search (crosses, sendable) depth 40 fits 50000, (search (crosses, maps.crosses, sendable) depth 40 fits 50000, tt)),
    ),
  ),
))

pub queues_send : IsSend the_row
queues_send = declared_send the_type (
  pending_send,
  (search (text_send, crosses, sendable) depth 40 fits 50000, (search (text_send, crosses, sendable) depth 40 fits 50000, tt)),
)
