use Rattle.std.proofs.Common.{◌≡◌, List, length, sym, subst, arith, rules, vec_len}
use Rattle.dep_graph.specs.Nodes.{Task, rows_of}
use Rattle.dep_graph.specs.Tables.{KnowsPlaces}
use Rattle.dep_graph.proofs.PlaceLemmas.{knows-same}
use Rattle.dep_graph.proofs.tasks.Tasks.reserve.Goals as goal

pub invariant_of-self : goal.invariant_of-self
invariant_of-self c = subst (λ (l : List Task). KnowsPlaces (rows_of l) c.self.inside.places) (sym c.reserve.ensures.items) c.self.invariant

pub invariant_of-self-2 : goal.invariant_of-self-2
invariant_of-self-2 c =
    subst (λ (l : List Task). KnowsPlaces (rows_of l) c.reserve-2.new.self) (sym c.reserve.ensures.items) (knows-same (rows_of c.self.inside.nodes.items) c.self.inside.places c.reserve-2.new.self c.self.invariant c.reserve-2.ensures.entries.2)

pub returns-clause-room : goal.returns-clause-room
returns-clause-room c =
    let len : vec_len c.reserve.new.self ≡ length c.reserve.new.self.items = search rules in
    let nodes = c.in_ok-reserve.ensures.ok in
    let places = c.in_ok-reserve-2.ensures.ok in
    omega (arith, len, nodes, places)
