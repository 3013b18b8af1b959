-- What a body is the record of is replayed.
use Rattle.std.specs.declared.alloc.AllocError.{AllocError}
use Rattle.farm_core.proofs.OpenLemmas.{replayed-read, unread-broken}
use Rattle.farm_core.proofs.restoring.restore_one.Goals as goal

pub returns-in-Some : goal.returns-in-Some
returns-in-Some c =
    replayed-read AllocError c.in_ok-change.field-0 c.args.tables.now c.args.body.now c.in-Some.change c.in-Some.is c.in_ok-change.ensures c.replay.result c.replay.new.tables c.replay.ensures

pub returns-in-None : goal.returns-in-None
returns-in-None c = unread-broken c.in_ok-change.field-0 c.args.tables.now c.args.body.now c.in-None.is c.in_ok-change.ensures
