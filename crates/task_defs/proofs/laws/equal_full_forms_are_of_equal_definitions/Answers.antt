use Rattle.task_defs.proofs.SaysLemmas.{full_forms_one}
use Rattle.task_defs.proofs.laws.equal_full_forms_are_of_equal_definitions.Goals as goal

pub returns : goal.returns
returns c d e id other a b full u v x y =
    full_forms_one c.written_moments_are_read_back.ensures c.a_text_has_one_moment.ensures.read d e id other a b full u v x.definition y.definition
