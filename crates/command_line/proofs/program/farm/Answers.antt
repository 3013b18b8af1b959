use Rattle.std.proofs.Common.{codes}
use Rattle.clap.specs.Words.{App, with_subcommand}
use Rattle.command_line.specs.Signing.{sign_app}
use Rattle.command_line.specs.Load.{bulk_app}
use Rattle.command_line.specs.Words.{bare_app, render_app, serve_app, with_disk, with_farm}
use Rattle.command_line.proofs.program.farm.Goals as goal

pub returns : goal.returns
returns c =
    let three : App = with_subcommand (with_subcommand (with_subcommand bare_app (with_disk (codes "answer")).top) (with_farm (codes "expand")).top) (with_disk (codes "check")).top in
    let four = with_subcommand three sign_app.top in
    let five = with_subcommand four bulk_app.top in
    let six = with_subcommand five render_app.top in
    let fourth = c.joined-program.ensures three sign_app c.first_commands.ensures c.sign.ensures in
    let fifth = c.joined-program-2.ensures four bulk_app fourth c.bulk.ensures in
    let sixth = c.joined-program-3.ensures five render_app fifth c.render.ensures in
    c.joined.ensures six serve_app sixth c.serve.ensures
