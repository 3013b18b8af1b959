use Rattle.std.proofs.Common.{◌≡◌, ◌/◌, length, ap, ◌∙◌, rules}
use Rattle.dep_graph.proofs.TreeLemmas.{leaves-half}
use Rattle.dep_graph.proofs.least.Least.places.Goals as goal

pub returns : goal.returns
returns c =
    let nodes = c.self.inside.nodes.items in
    let len : c.len.result ≡ length nodes = search rules in
    ap (λ n. n / 2) len ∙ (leaves-half nodes c.self.invariant ∙ ap length c.self.view_is)
