use Rattle.std.proofs.Common.{rules}
use Rattle.command_line.proofs.program.without_commands.Goals as goal

pub returns : goal.returns
returns c = search rules
