use Rattle.farm_record.proofs.LawLemmas.{records_apart}
use Rattle.farm_record.proofs.laws.no_record_begins_another.Goals as goal

pub returns : goal.returns
returns c = λ a b bytes more x y. (records_apart c.a_text_is_of_one_document.ensures c.equal_full_forms_are_of_equal_definitions.ensures a b bytes more x y).1
