use Rattle.std.proofs.Common.{◌∙◌, ap, subst}
use Rattle.std.specs.Prelude.{IfOk}
use Rattle.std.proofs.lemmas.Result.{IfOk-weaker}
use Rattle.std.specs.declared.result.Result.{Result}
use Rattle.std.specs.declared.alloc.AllocError.{AllocError}
use Rattle.clap.specs.Words.{App, app_of, with_subcommand}
use Rattle.clap.specs.declared.builder.Command.{Command as Program}
use Rattle.command_line.specs.Parts.{IsPlainLeaf}
use Rattle.command_line.proofs.program.with.Goals as goal

pub returns-in-Ok : goal.returns-in-Ok
returns-in-Ok c =
    IfOk-weaker c.subcommand.result _ _ (λ more adds app is.
    let plain : IsPlainLeaf app c.in-Ok.command = subst (λ (r : Result Program AllocError). IfOk r (IsPlainLeaf app)) c.in-Ok.is is in
    adds.shape plain.1 ∙ ap (λ (a : App). with_subcommand (app_of c.args.program) a.top) plain.0) c.subcommand.ensures
