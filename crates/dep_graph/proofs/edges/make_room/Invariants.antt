use Rattle.std.proofs.Common.{◌≡◌, take}
use Rattle.dep_graph.specs.Nodes.{rows_of}
use Rattle.dep_graph.specs.Kept.{HasRooms, edges_of}
use Rattle.dep_graph.proofs.edges.make_room.Given as goal

abbrev pub invariant-loop-row : goal.invariant-loop-row
invariant-loop-row l = (edges_of l.edges.items ≡ edges_of l.fn.edges.items) × HasRooms (rows_of l.tasks.tasks) (take l.row-index l.rows) l.edges.items
