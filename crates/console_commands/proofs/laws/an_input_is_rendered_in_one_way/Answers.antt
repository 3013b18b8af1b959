use Rattle.console_commands.proofs.RenderingLemmas.{rendering_is_one, rendering_not_refused}
use Rattle.console_commands.proofs.laws.an_input_is_rendered_in_one_way.Goals as goal

pub returns-clause-one : goal.returns-clause-one
returns-clause-one c = rendering_is_one c.the_rendering_is_one.ensures c.a_text_is_of_one_document.ensures

pub returns-clause-either : goal.returns-clause-either
returns-clause-either c = rendering_not_refused c.the_rendering_is_one.ensures c.a_text_is_of_one_document.ensures
