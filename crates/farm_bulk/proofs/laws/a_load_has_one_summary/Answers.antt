use Rattle.farm_bulk.proofs.OneLemmas.{IsBulk-one}
use Rattle.farm_bulk.proofs.laws.a_load_has_one_summary.Goals as goal

pub returns : goal.returns
returns c =
    IsBulk-one (record { document = c.a_text_is_of_one_document.ensures; routes = c.no_two_routes_fit.ensures; messages = c.messages_are_one.ensures; verdict = c.verdict_is_one.ensures })
