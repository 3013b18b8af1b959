use Rattle.std.proofs.Common.{◌≡◌, ◌∙◌, ap, subst}
use Rattle.std.specs.Prelude.{IfOk}
use Rattle.std.proofs.lemmas.Result.{IfOk-weaker}
use Rattle.std.specs.declared.result.Result.{Result}
use Rattle.std.specs.declared.alloc.AllocError.{AllocError}
use Rattle.clap.specs.Words.{App, app_of, with_subcommand}
use Rattle.clap.specs.declared.builder.Command.{Command as Program}
use Rattle.command_line.proofs.program.joined.Goals as goal

pub returns-in-Ok : goal.returns-in-Ok
returns-in-Ok c = λ whole app is leaf.
    let made : app_of c.in-Ok.program ≡ whole = subst (λ (r : Result Program AllocError). IfOk r (λ p. app_of p ≡ whole)) c.in-Ok.is is in
    IfOk-weaker c.with.result _ _ (λ more adds. adds app leaf ∙ ap (λ (a : App). with_subcommand a app.top) made) c.with.ensures
