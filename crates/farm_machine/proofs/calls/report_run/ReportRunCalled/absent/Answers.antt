use Rattle.std.proofs.Common.{◌≡◌, Option, IfOk, refl, sym, subst}
use Rattle.farm_asks.specs.declared.reply.Answer.{Answer}
use Rattle.farm_machine.proofs.MayLemmas.{absent-same}
use Rattle.farm_machine.proofs.calls.report_run.ReportRunCalled.absent.Goals as goal

pub returns : goal.returns
returns c =
    subst (λ (absent : Option Answer). IfOk c.absent_run.result (λ a. a ≡ absent)) (sym (absent-same (record { id = c.args.self.now.report.id; run = c.args.self.now.report.run }) c.args.at.now _ (λ row. refl))) c.absent_run.ensures
