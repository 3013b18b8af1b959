use Rattle.std.proofs.Common.{Option, ◌∙◌, subst}
use Rattle.dep_graph.specs.Nodes.{TaskGraph}
use Rattle.task_index.specs.Dependencies.{MayBeDependencies}
use Rattle.task_index.proofs.DependencyLemmas.{first-ready}
use Rattle.task_index.proofs.dependencies.kept.known_ready.Goals as goal

pub returns-in-Some : goal.returns-in-Some
returns-in-Some c =
    λ rows all. c.ready.ensures ∙ first-ready c.in-Some.graph.tasks rows (subst (λ (graph : Option TaskGraph). MayBeDependencies graph rows) c.in-Some.is all)
