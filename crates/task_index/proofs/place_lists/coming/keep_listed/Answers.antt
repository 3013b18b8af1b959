use Rattle.task_index.proofs.ComingLemmas.{waited-all}
use Rattle.task_index.proofs.IdLemmas.{created-ids}
use Rattle.task_index.proofs.place_lists.coming.keep_listed.Goals as goal

pub wait_for_each-requires-clause-own : goal.wait_for_each-requires-clause-own
wait_for_each-requires-clause-own c = created-ids c.args.rows.now c.args.row.now c.requires.own c.requires.unknown

pub returns : goal.returns
returns c = record {
  waited = waited-all c.wait_for_each.new.lists c.args.rows.now c.args.row.now c.requires.listed.waited.stand c.requires.stand c.wait_for_each.ensures.waited;
  grouped = c.wait_for_each.ensures.grouped;
}
