use Rattle.std.proofs.Common.{◌≡◌, not, true, false, ap, sym, ◌∙◌}
use Rattle.dep_graph.proofs.EdgeLemmas.{distinct-of}
use Rattle.dep_graph.proofs.graph.Graph.may_add.Goals as goal
use Rattle.dep_graph.proofs.graph.Graph.may_add.Goals.{then-not-holds, else-not-holds}

pub returns-then-are_distinct-clause-distinct : goal.returns-then-are_distinct-clause-distinct
returns-then-are_distinct-clause-distinct c all =
    elim c.if-not-holds.branch [
      | then-not-holds w ↦ distinct-of c.args.dependencies.now (sym w.are_distinct.ensures ∙ (sym w.value-is ∙ c.if-are_distinct.true))
      | else-not-holds w ↦ absurd (let e : not c.holds.result ≡ true = sym w.value-is ∙ c.if-are_distinct.true in let f : not c.holds.result ≡ false = ap not w.if-not-holds.false in cc)
    ]
