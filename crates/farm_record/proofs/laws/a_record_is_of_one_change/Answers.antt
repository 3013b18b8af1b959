use Rattle.std.proofs.Common.{[], sym, subst}
use Rattle.std.proofs.lemmas.List.{append-nil}
use Rattle.farm_record.specs.Records.{IsRecord}
use Rattle.farm_record.proofs.LawLemmas.{records_apart}
use Rattle.farm_record.proofs.laws.a_record_is_of_one_change.Goals as goal

pub returns : goal.returns
returns c = λ a b bytes x y. (records_apart c.a_text_is_of_one_document.ensures c.equal_full_forms_are_of_equal_definitions.ensures a b bytes [] x (subst (IsRecord b) (sym (append-nil bytes)) y)).0
