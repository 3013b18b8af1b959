use Rattle.std.proofs.Common.{None}
use Rattle.route_table.proofs.TableLemmas.{first_is, bytes_of}
use Rattle.route_table.proofs.table.Table.find.Goals as goal

pub returns-in-Ok : goal.returns-in-Ok
returns-in-Ok c =
    first_is c.args.path.now c.self.inside.router _ c.self.invariant (bytes_of c.args.path.now c.type_inv.path) c.in-Ok.ensures.found

pub returns-in-Err : goal.returns-in-Err
returns-in-Err c =
    first_is c.args.path.now c.self.inside.router None c.self.invariant (bytes_of c.args.path.now c.type_inv.path) c.in-Err.ensures.missing
