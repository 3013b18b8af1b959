-- The places that are kept with tasks may go to another thread.
use denote.Param.Send.{IsSend, sendable, view_send}
use denote.Param.SendFields.{declared_send}
use Rattle.std.proofs.Crossing.{crosses}
use Rattle.task_index.specs.contracts.place_lists.kept.TaskPlaces as kept
use Rattle.task_index.specs.contracts.place_lists.kept.TaskPlaces.TheInside.{the_type as kept_type}
use Rattle.task_index.specs.contracts.place_lists.PlaceLists.{the_row}
use Rattle.task_index.specs.contracts.place_lists.PlaceLists.TheInside.{the_type as inside_type}

kept_send : IsSend kept.the_row
kept_send = view_send _ _ _ _ _ (declared_send kept_type (search (crosses, sendable) depth 60 fits 50000))

pub places_send : IsSend the_row
places_send = view_send _ _ _ _ _ (declared_send inside_type (search (kept_send, crosses, sendable) depth 60 fits 50000))
