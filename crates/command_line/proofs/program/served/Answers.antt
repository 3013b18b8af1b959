use Rattle.std.proofs.Common.{codes}
use Rattle.command_line.specs.Words.{with_farm}
use Rattle.command_line.proofs.program.served.Goals as goal

pub returns : goal.returns
returns c = c.with_disk.ensures (with_farm (codes "serve")) c.over_farm-command.ensures
