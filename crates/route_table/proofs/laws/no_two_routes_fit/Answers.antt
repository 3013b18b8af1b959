use Rattle.route_table.proofs.MeetLemmas.{no_two_fit}
use Rattle.route_table.proofs.laws.no_two_routes_fit.Goals as goal

pub returns : goal.returns
returns c = no_two_fit
