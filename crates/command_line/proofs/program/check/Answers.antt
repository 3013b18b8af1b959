use Rattle.std.proofs.Common.{codes}
use Rattle.command_line.specs.Words.{with_farm}
use Rattle.command_line.proofs.program.check.Goals as goal

pub returns : goal.returns
returns c = c.with_disk.ensures (with_farm (codes "check")) c.over_farm-command.ensures
