use Rattle.task_defs.proofs.SaysLemmas.{full_form_says}
use Rattle.task_defs.proofs.laws.a_full_form_says_its_definition.Goals as goal

pub returns : goal.returns
returns c = full_form_says c.written_moments_are_read_back.ensures c.a_text_has_one_moment.ensures.read
