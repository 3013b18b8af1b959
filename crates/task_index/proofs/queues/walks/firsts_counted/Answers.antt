use Rattle.std.proofs.Common.{◌<◌, length, rules, arith}
use Rattle.task_index.proofs.QueuePickLemmas.{is-first, is-next, is-none}
use Rattle.task_index.proofs.queues.walks.firsts_counted.Goals as goal

pub turns-init : goal.turns-init
turns-init g c =
    is-first c.args.queue.now c.name_of.ensures.slash c.args.rows.now c.requires.own c.args.most c.new-names.result.items c.firsts-walk.result c.in_ok-name.name c.args.pending.now c.requires.all c.in_ok-name.ensures.name c.firsts-walk.ensures
    c.new-names.ensures.items

pub turns-preserved : goal.turns-preserved
turns-preserved g c =
    let names = c.turns.names.items in
    let lt : length names < c.args.most = search (rules, arith) in
    is-next c.args.queue.now c.name_of.ensures.slash c.args.rows.now c.requires.own c.args.most names c.turns.walk lt c.turns.invariant c.in-Some.row.now c.push.new.self.items c.last_name.result c.next_task.new.walk c.in-Some.ensures.row
    c.last_name.ensures c.in_ok-push-in-Some.ensures.items c.next_task.ensures.left

pub returns-in-None : goal.returns-in-None
returns-in-None g c =
    let names = c.turns.names.items in
    let lt : length names < c.args.most = search (rules, arith) in
    is-none c.args.queue.now c.name_of.ensures.slash c.args.rows.now c.requires.own c.args.most names c.turns.walk lt c.turns.invariant c.in-None.ensures.row
