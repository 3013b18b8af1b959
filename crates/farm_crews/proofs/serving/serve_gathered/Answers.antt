use Rattle.std.proofs.Common.{◌≡◌, List, ap, map, refl, subst, rules}
use Rattle.shared_desk.specs.Standing.{fresh_token}
use Rattle.farm_serving.specs.Connections.{Station}
use Rattle.farm_crews.specs.Crew.{station_by}
use Rattle.farm_crews.specs.Serves.{IsLed, ServesAll}
use Rattle.farm_crews.proofs.CrewLemmas.{IsKeptCrew-whole}
use Rattle.farm_crews.proofs.ServesLemmas.{IsLed-closed, ServesAll-never, ServesAll-served, put_back}
use Rattle.farm_crews.proofs.serving.serve_gathered.Goals as goal

-- the workers served, or `ready` could not be written
pub returns-in-Ok-clause-serves : goal.returns-in-Ok-clause-serves
returns-in-Ok-clause-serves g c = λ count lent whole.
    let start = g.O.Object.state c.args.object in
    let fresh : c.in-Ok.token ≡ fresh_token c.in-Ok.token.desk start = rw c.in-Ok.ensures.token refl in
    let ends = c.close-object.ensures.ends in
    let led = IsLed-closed g.O.Object.state g.O.Object.holds c.args.object _ (g.O.Object.state c.close-object.result) (g.O.Object.holds c.close-object.result) _ _ c.in-Ok.ensures.first ends.2 c.close-object.ensures.holds in
    let back = put_back c.args.crew.len c.serve_ready-token.new.workers c.args.crew.items (search rules) (search rules) in
    rw back (ServesAll-served _ _ _ _ _ _ _ _ _ _ _ _ _ _ _ fresh whole ends.1 led (rw c.as_mut_slice-workers.ensures.value at c.serve_ready-token.ensures.serves))

-- memory ran out
pub returns-in-Err-clause-serves : goal.returns-in-Err-clause-serves
returns-in-Err-clause-serves g c = λ count lent whole. rw c.in-Err.ensures.refused (ServesAll-never _ _ _ _ _ _ _ _ _ (record { left = refl; faults = refl }, record { written = refl; faults = refl }, IsKeptCrew-whole count lent _ whole))
