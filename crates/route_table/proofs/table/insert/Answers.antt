use Rattle.route_table.proofs.TableLemmas.{inserts, refuses}
use Rattle.route_table.proofs.table.insert.Goals as goal

pub no_memory-requires : goal.no_memory-requires
no_memory-requires c =
    refuses c.args.form _ c.args.router.now c.insert.new.self c.in-Err.error c.text.ensures.reads c.requires c.in-Err.ensures

pub returns-in-Ok : goal.returns-in-Ok
returns-in-Ok c = inserts c.args.form _ c.args.router.now c.insert.new.self c.text.ensures.reads c.requires c.in-Ok.ensures
