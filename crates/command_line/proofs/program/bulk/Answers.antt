use Rattle.std.proofs.Common.{codes}
use Rattle.clap.specs.Words.{new_app}
use Rattle.command_line.proofs.program.bulk.Goals as goal

pub returns : goal.returns
returns c = c.with_option.ensures _ (c.with_option-command.ensures (new_app (codes "bulk")) c.bare-command.ensures)
