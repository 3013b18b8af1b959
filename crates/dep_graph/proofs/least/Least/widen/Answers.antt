use Rattle.std.proofs.Common.{◌∙◌, List, Option, ℕ, length, ap, sym, subst, arith}
use Rattle.dep_graph.specs.Trees.{node_at, leaves_of, IsTree}
use Rattle.dep_graph.proofs.TreeLemmas.{leaves-long}
use Rattle.dep_graph.proofs.least.Least.widen.Goals as goal

pub wider-requires : goal.wider-requires
wider-requires c = subst IsTree (sym c.deref.ensures.value) c.self.invariant

pub invariant_of-self : goal.invariant_of-self
invariant_of-self c = c.in_ok-self-inside.ensures.tree

pub returns-clause-kept : goal.returns-clause-kept
returns-clause-kept c place =
    c.in_ok-self-inside.ensures.kept place ∙ (ap (λ (l : List (Option ℕ)). node_at (leaves_of l) place) c.deref.ensures.value ∙ ap (λ (l : List (Option ℕ)). node_at l place) c.self.view_is)

pub returns-clause-more : goal.returns-clause-more
returns-clause-more c =
    let new = leaves-long c.in_ok-self-inside.field-0.items c.in_ok-self-inside.ensures.tree in
    let old = leaves-long c.self.inside.nodes.items c.self.invariant in
    let is = ap length c.self.view_is in
    let same = ap length c.deref.ensures.value in
    let wide = c.in_ok-self-inside.ensures.wide.1 in
    omega arith

pub returns-clause-ok : goal.returns-clause-ok
returns-clause-ok c =
    let new = leaves-long c.in_ok-self-inside.field-0.items c.in_ok-self-inside.ensures.tree in
    let wide = c.in_ok-self-inside.ensures.wide.0 in
    omega arith
