use Rattle.console_commands.proofs.ExpansionLemmas.{expansion_is_one, expansion_not_refused}
use Rattle.console_commands.proofs.laws.an_input_is_answered_in_one_way.Goals as goal

pub returns-clause-one : goal.returns-clause-one
returns-clause-one c = expansion_is_one

pub returns-clause-either : goal.returns-clause-either
returns-clause-either c = expansion_not_refused
