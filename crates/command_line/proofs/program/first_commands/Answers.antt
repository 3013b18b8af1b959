use Rattle.std.proofs.Common.{codes}
use Rattle.clap.specs.Words.{with_subcommand}
use Rattle.command_line.specs.Words.{bare_app, with_disk, with_farm}
use Rattle.command_line.proofs.program.first_commands.Goals as goal

pub returns : goal.returns
returns c =
    let one = with_subcommand bare_app (with_disk (codes "answer")).top in
    let two = with_subcommand one (with_farm (codes "expand")).top in
    let first = c.joined-program.ensures bare_app (with_disk (codes "answer")) c.without_commands.ensures c.answer.ensures in
    let second = c.joined-program-2.ensures one (with_farm (codes "expand")) first c.expand.ensures in
    c.joined.ensures two (with_disk (codes "check")) second c.check.ensures
