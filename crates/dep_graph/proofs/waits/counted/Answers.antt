use Rattle.std.proofs.Common.{◌≡◌, ◌∙◌, ap, arith}
use Rattle.std.specs.Int.{from_bool}
use Rattle.dep_graph.specs.Ready.{serves}
use Rattle.dep_graph.proofs.CountLemmas.{one-most}
use Rattle.dep_graph.proofs.waits.counted.Goals as goal

pub overflow_add-all : goal.overflow_add-all
overflow_add-all c =
    let was : c.from-was_met.result ≡ from_bool (serves c.args.needs c.args.step.before) = c.from-was_met.ensures ∙ ap from_bool c.is_met.ensures in
    let one = one-most (serves c.args.needs c.args.step.now) in
    let moved = c.requires.2 in
    let small = c.requires.1 in
    omega (arith, was, one, moved, small)

pub overflow_sub-result : goal.overflow_sub-result
overflow_sub-result c =
    let was : c.from-was_met.result ≡ from_bool (serves c.args.needs c.args.step.before) = c.from-was_met.ensures ∙ ap from_bool c.is_met.ensures in
    let is : c.from-is_met.result ≡ from_bool (serves c.args.needs c.args.step.now) = c.from-is_met.ensures ∙ ap from_bool c.is_met-2.ensures in
    let moved = c.requires.2 in
    omega (arith, was, is, moved)

pub returns : goal.returns
returns c =
    let was : c.from-was_met.result ≡ from_bool (serves c.args.needs c.args.step.before) = c.from-was_met.ensures ∙ ap from_bool c.is_met.ensures in
    let is : c.from-is_met.result ≡ from_bool (serves c.args.needs c.args.step.now) = c.from-is_met.ensures ∙ ap from_bool c.is_met-2.ensures in
    let moved = c.requires.2 in
    omega (arith, was, is, moved)
