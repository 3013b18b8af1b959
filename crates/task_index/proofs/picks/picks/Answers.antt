use Rattle.std.proofs.Common.{◌<◌, List, length, ap, sym, ◌∙◌, rules, arith}
use Rattle.task_types.specs.declared.change.RunName.{RunName}
use Rattle.task_index.specs.Picks.{pick}
use Rattle.task_index.specs.Left.{left}
use Rattle.task_index.proofs.PickLemmas.{picks-init, picks-step}
use Rattle.task_index.proofs.picks.picks.Goals as goal

pub turns-init : goal.turns-init
turns-init c = picks-init c.args.most c.args.queue.now c.new-names.result.items c.args.rows.now c.new-names.ensures.items

pub turns-preserved : goal.turns-preserved
turns-preserved c =
    let names = c.turns.names.items in
    let rows = c.args.rows.now in
    let queue = c.args.queue.now in
    let lt : length names < c.args.most = search (rules, arith) in
    picks-step c.args.most queue names c.push.new.self.items c.last_name.result c.in-Some.row.now rows lt
    (sym (c.in-Some.ensures ∙ ap (λ (ns : List RunName). pick queue (left ns rows)) c.deref.ensures.value)) c.last_name.ensures c.in_ok-push-in-Some.ensures.items c.turns.invariant
