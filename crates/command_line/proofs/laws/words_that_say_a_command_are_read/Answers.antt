use Rattle.command_line.proofs.FormLemmas.{reading_says, said_read}
use Rattle.command_line.specs.declared.command.Command.TheVariants.{OverFarm}
use Rattle.command_line.proofs.laws.words_that_say_a_command_are_read.Goals as goal

pub returns : goal.returns
returns c = λ words farm work utf8. (reading_says words (OverFarm farm work) utf8, said_read words farm work)
