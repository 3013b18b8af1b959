use Rattle.farm_machine.proofs.MayLemmas.{report-deed}
use Rattle.farm_machine.proofs.calls.report_run.ReportRunCalled.deed.Goals as goal

pub returns : goal.returns
returns c = report-deed c.args.self.report c.args._at.now c.requires.ready c.requires.there c.requires.unruled
