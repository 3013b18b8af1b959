use Rattle.task_defs.proofs.DefinitionLemmas.{full_form_one}
use Rattle.task_defs.proofs.laws.the_full_form_is_one.Goals as goal

pub returns : goal.returns
returns c = full_form_one
