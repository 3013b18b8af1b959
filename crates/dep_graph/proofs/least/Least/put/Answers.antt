use Rattle.std.proofs.Common.{◌≡◌, ◌∙◌, ◌+◌, ◌/◌, List, Option, ℕ, length, slice_set, ap, sym, arith}
use Rattle.dep_graph.proofs.TreeLemmas.{leaves-put, leaves-half, leaves-long}
use Rattle.dep_graph.proofs.least.Least.put.Goals as goal

pub overflow_add-leaf : goal.overflow_add-leaf
overflow_add-leaf c =
    let nodes = c.self.inside.nodes.items in
    let places = c.places.ensures in
    let long = leaves-long nodes c.self.invariant in
    let is = ap length c.self.view_is in
    let below = c.requires in
    let small = c.ranges in
    omega arith

pub put-requires : goal.put-requires
put-requires c =
    let nodes = c.self.inside.nodes.items in
    let places = c.places.ensures in
    let long = leaves-long nodes c.self.invariant in
    let is = ap length c.self.view_is in
    let below = c.requires in
    record { leaf = (omega arith, omega arith, omega arith); tree = c.self.invariant }

pub invariant_of-self : goal.invariant_of-self
invariant_of-self c = c.put.ensures.tree

pub returns : goal.returns
returns c =
    let nodes = c.self.inside.nodes.items in
    let long = leaves-long nodes c.self.invariant in
    let is = ap length c.self.view_is in
    let below = c.requires in
    let places : c.places.result ≡ length nodes / 2 = c.places.ensures ∙ (sym is ∙ sym (leaves-half nodes c.self.invariant)) in
    leaves-put nodes c.put.new.nodes.items c.args.place _ c.args.row c.self.invariant c.put.ensures.long (ap (λ n. n + c.args.place) places) (omega arith) c.put.ensures.leaves
    ∙ ap (λ (l : List (Option ℕ)). slice_set l c.args.place c.args.row) c.self.view_is
