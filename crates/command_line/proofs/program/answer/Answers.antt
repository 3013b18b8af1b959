use Rattle.std.proofs.Common.{codes}
use Rattle.command_line.specs.Words.{with_farm}
use Rattle.command_line.proofs.program.answer.Goals as goal

pub returns : goal.returns
returns c = c.with_disk.ensures (with_farm (codes "answer")) c.over_farm-command.ensures
