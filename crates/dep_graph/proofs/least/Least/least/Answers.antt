use Rattle.std.proofs.Common.{◌≡◌, ◌∙◌, List, Option, ℕ, ap, subst}
use Rattle.std.specs.Prelude.{IfSome, Some}
use Rattle.dep_graph.specs.Trees.{node_at}
use Rattle.dep_graph.proofs.TreeLemmas.{least-some, least-all}
use Rattle.dep_graph.proofs.least.Least.least.Goals as goal

pub returns-clause-some : goal.returns-clause-some
returns-clause-some c =
    let nodes = c.self.inside.nodes.items in
    let top : c.top.result ≡ node_at nodes 1 = c.top.ensures ∙ ap (λ (l : List (Option ℕ)). node_at l 1) c.deref.ensures.value in
    subst (λ (l : List (Option ℕ)). IfSome c.top.result (λ least. (place : ℕ) × (node_at l place ≡ Some least))) c.self.view_is (least-some nodes c.top.result c.self.invariant top)

pub returns-clause-least : goal.returns-clause-least
returns-clause-least c place row is =
    let nodes = c.self.inside.nodes.items in
    let top : c.top.result ≡ node_at nodes 1 = c.top.ensures ∙ ap (λ (l : List (Option ℕ)). node_at l 1) c.deref.ensures.value in
    let found = least-all nodes c.self.invariant place row (ap (λ (l : List (Option ℕ)). node_at l place) c.self.view_is ∙ is) in
    (found.0, top ∙ found.1, found.2)
