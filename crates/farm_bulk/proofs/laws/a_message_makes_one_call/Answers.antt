use Rattle.farm_bulk.proofs.CallLemmas.{call_one}
use Rattle.farm_bulk.proofs.laws.a_message_makes_one_call.Goals as goal

pub returns : goal.returns
returns c = call_one c.a_text_is_of_one_document.ensures c.no_two_routes_fit.ensures
