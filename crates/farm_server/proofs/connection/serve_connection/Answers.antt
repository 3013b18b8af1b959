use Rattle.std.proofs.Common.{arith}
use Rattle.farm_server.specs.declared.served.TheConstants.{REQUESTS}
use Rattle.farm_server.proofs.ServesLemmas.{ServesWithin-no_memory}
use Rattle.farm_server.proofs.connection.serve_connection.Goals as goal

pub returns-in-Err-clause-serves : goal.returns-in-Err-clause-serves
returns-in-Err-clause-serves g c = ServesWithin-no_memory REQUESTS _ _ (omega arith)
