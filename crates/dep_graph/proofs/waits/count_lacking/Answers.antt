use Rattle.std.proofs.Common.{◌≡◌, ◌<◌, ◌≤◌, ◌∙◌, length, not, refl, ap, arith, rules}
use Rattle.std.specs.Prelude.{slice_index}
use Rattle.std.specs.Int.{from_bool}
use Rattle.std.proofs.lemmas.List.{take_all}
use Rattle.dep_graph.specs.Ready.{row_serves}
use Rattle.dep_graph.specs.Tables.{lacks}
use Rattle.dep_graph.proofs.EdgeLemmas.{next-name}
use Rattle.dep_graph.proofs.CountLemmas.{lacks-more, one-most}
use Rattle.dep_graph.proofs.waits.count_lacking.Goals as goal

pub loop-row-init : goal.loop-row-init
loop-row-init c = (refl, omega arith)

pub overflow_add-lacking : goal.overflow_add-lacking
overflow_add-lacking c =
    let within : c.loop-row.row-index < length c.args.rows.now = search (rules, arith) in
    let one : c.from-lacking.result ≡ from_bool (not c.row_serves.result) = c.from-lacking.ensures in
    let most = one-most (not c.row_serves.result) in
    let few = c.loop-row.invariant.1 in
    omega (arith, within, one, most, few)

pub loop-row-preserved : goal.loop-row-preserved
loop-row-preserved c =
    let tasks = c.args.tasks.now.tasks in
    let names = c.args.rows.now in
    let i = c.loop-row.row-index in
    let name = slice_index names i in
    let within : i < length names = search (rules, arith) in
    let one : c.from-lacking.result ≡ from_bool (not (row_serves tasks c.args.needs name)) = c.from-lacking.ensures ∙ ap (λ b. from_bool (not b)) c.row_serves.ensures in
    let most = one-most (not (row_serves tasks c.args.needs name)) in
    let more = lacks-more tasks c.args.needs names i name within (next-name names i within) in
    let was = c.loop-row.invariant.0 in
    let few = c.loop-row.invariant.1 in
    (omega (arith, one, more, was), omega (arith, one, most, few))

pub returns-clause-lacks : goal.returns-clause-lacks
returns-clause-lacks c =
    let past : length c.args.rows.now ≤ c.loop-row.row-index = search (rules, arith) in
    c.loop-row.invariant.0 ∙ ap (lacks c.args.tasks.now.tasks c.args.needs) (take_all c.loop-row.row-index c.args.rows.now past)
