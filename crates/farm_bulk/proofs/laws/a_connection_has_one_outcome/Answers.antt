use Rattle.farm_bulk.proofs.OneLemmas.{Converses-one}
use Rattle.farm_bulk.proofs.laws.a_connection_has_one_outcome.Goals as goal

pub returns-clause-state : goal.returns-clause-state
returns-clause-state c = λ before one other sent written text x y.
    (Converses-one (record { document = c.a_text_is_of_one_document.ensures; routes = c.no_two_routes_fit.ensures; messages = c.messages_are_one.ensures; verdict = c.verdict_is_one.ensures }) before one other sent written text x y).states

pub returns-clause-written : goal.returns-clause-written
returns-clause-written c = λ before one other sent written text x y.
    (Converses-one (record { document = c.a_text_is_of_one_document.ensures; routes = c.no_two_routes_fit.ensures; messages = c.messages_are_one.ensures; verdict = c.verdict_is_one.ensures }) before one other sent written text x y).texts
