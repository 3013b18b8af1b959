use Rattle.farm_machine.proofs.MayLemmas.{rerun-deed}
use Rattle.farm_machine.proofs.calls.rerun_task.RerunTaskCalled.deed.Goals as goal

pub returns : goal.returns
returns c = rerun-deed c.args.self.id c.args._at.now c.requires.ready c.requires.there c.requires.unruled
