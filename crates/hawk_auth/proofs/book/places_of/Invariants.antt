use Rattle.std.proofs.Common.{take, ◌≢◌}
use Rattle.std.specs.List.{AllPairs}
use Rattle.hawk_auth.specs.Clients.{clients_data}
use Rattle.hawk_auth.specs.Places.{HasPlaces}
use Rattle.hawk_auth.proofs.book.places_of.Given as goal

abbrev pub invariant-loop-later : goal.invariant-loop-later
invariant-loop-later l = AllPairs (λ p q. p.id ≢ q.id) (take l.later (clients_data l.clients)) × HasPlaces (clients_data l.clients) l.places l.later
