-- The graph of a farm's tasks may go to another thread.
use denote.Param.Send.{IsSend, sendable, view_send}
use denote.Param.SendFields.{declared_send}
use Rattle.std.proofs.Crossing.{crosses}
use Rattle.std.proofs.MapsCrossing as maps
use Rattle.dep_graph.specs.contracts.node.Node as node
use Rattle.dep_graph.specs.contracts.node.Node.TheInside.{the_type as node_type}
use Rattle.dep_graph.specs.contracts.edges.Edges as edges
use Rattle.dep_graph.specs.contracts.tasks.Tasks as tasks
use Rattle.dep_graph.specs.contracts.tasks.Tasks.TheInside.{the_type as tasks_type}
use Rattle.dep_graph.specs.contracts.least.Least as least
use Rattle.dep_graph.specs.contracts.least.Least.TheInside.{the_type as least_type}
use Rattle.dep_graph.specs.contracts.waits.Waits as waits
use Rattle.dep_graph.specs.contracts.graph.Addition as addition
use Rattle.dep_graph.specs.contracts.graph.Graph as graph
use Rattle.dep_graph.specs.contracts.graph.Graph.TheInside.{the_type as graph_type}
use Rattle.task_index.specs.contracts.dependencies.noted.Noted as noted
use Rattle.task_index.specs.contracts.dependencies.noted.Noted.TheInside.{the_type as noted_type}
use Rattle.task_index.specs.contracts.dependencies.DependencyGraph.{the_row}
use Rattle.task_index.specs.contracts.dependencies.DependencyGraph.TheInside.{the_type as inside_type}

node_send : IsSend node.the_row
node_send = view_send _ _ _ _ _ (declared_send node_type (
  search (crosses, sendable) depth 40 fits 50000,
  (
    search (crosses, sendable) depth 40 fits 50000,
    (search (crosses, sendable) depth 40 fits 50000, (search (crosses, sendable) depth 40 fits 50000, tt)),
  ),
))

edges_send : IsSend edges.the_row
edges_send = declared_send edges.the_type (search (crosses, sendable) depth 40 fits 50000, tt)

tasks_send : IsSend tasks.the_row
tasks_send = view_send _ _ _ _ _ (declared_send tasks_type (
  search (node_send, crosses, sendable) depth 40 fits 50000,
  (search (crosses, maps.crosses, sendable) depth 40 fits 50000, tt),
))

least_send : IsSend least.the_row
least_send = view_send _ _ _ _ _ (declared_send least_type (search (crosses, sendable) depth 40 fits 50000, tt))

waits_send : IsSend waits.the_row
waits_send = declared_send waits.the_type (search (crosses, sendable) depth 40 fits 50000, (least_send, tt))

addition_send : IsSend addition.the_row
addition_send = declared_send addition.the_type (node_send, (edges_send, tt))

graph_send : IsSend graph.the_row
graph_send = view_send _ _ _ _ _ (declared_send graph_type (
  tasks_send,
  (
    search (edges_send, crosses, sendable) depth 40 fits 50000,
    (waits_send, (search (addition_send, crosses, sendable) depth 40 fits 50000, tt)),
  ),
))

noted_send : IsSend noted.the_row
noted_send = view_send _ _ _ _ _ (declared_send noted_type (search (crosses, sendable) depth 40 fits 50000, (search (crosses, sendable) depth 40 fits 50000, tt)))

pub dependencies_send : IsSend the_row
dependencies_send = view_send _ _ _ _ _ (declared_send inside_type (graph_send, (search (noted_send, crosses, sendable) depth 40 fits 50000, tt)))
