use Rattle.api_routes.specs.Calls.{run_of}
use Rattle.api_routes.proofs.parts.run_of.Goals as goal

pub returns-in-Some : goal.returns-in-Some
unfolding run_of
returns-in-Some c = c.in-Some.ensures.value

pub returns-in-None : goal.returns-in-None
unfolding run_of
returns-in-None c = c.in-None.ensures.value
