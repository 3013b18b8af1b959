use Rattle.std.proofs.Common.{subst}
use Rattle.std.specs.Prelude.{IfOk}
use Rattle.std.proofs.lemmas.Result.{IfOk-weaker}
use Rattle.std.specs.declared.result.Result.{Result}
use Rattle.std.specs.declared.alloc.AllocError.{AllocError}
use Rattle.clap.specs.declared.builder.Command.{Command as Program}
use Rattle.command_line.specs.Parts.{IsPlainLeaf}
use Rattle.command_line.proofs.OptionLemmas.{with_one}
use Rattle.command_line.proofs.program.with_option.Goals as goal

pub returns-in-Ok : goal.returns-in-Ok
returns-in-Ok c = λ app is.
    let plain : IsPlainLeaf app c.in-Ok.command = subst (λ (r : Result Program AllocError). IfOk r (IsPlainLeaf app)) c.in-Ok.is is in
    IfOk-weaker c.arg.result _ _ (λ more adds. with_one _ _ _ _ _ plain c.option.ensures.rule c.option.ensures.local adds) c.arg.ensures
