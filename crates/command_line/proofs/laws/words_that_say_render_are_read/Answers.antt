use Rattle.command_line.proofs.FormLemmas.{reading_says, says_render_read}
use Rattle.command_line.specs.declared.command.Command.TheVariants.{Render}
use Rattle.command_line.proofs.laws.words_that_say_render_are_read.Goals as goal

pub returns : goal.returns
returns c = λ words utf8. (reading_says words Render utf8, says_render_read words)
