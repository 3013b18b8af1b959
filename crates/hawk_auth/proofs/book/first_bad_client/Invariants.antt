use Rattle.std.proofs.Common.{take}
use Rattle.std.specs.List.{All}
use Rattle.hawk_auth.specs.Clients.{clients_data, HasClientForm}
use Rattle.hawk_auth.proofs.book.first_bad_client.Given as goal

abbrev pub invariant-loop-place : goal.invariant-loop-place
invariant-loop-place l = All HasClientForm (take l.place (clients_data l.clients))
