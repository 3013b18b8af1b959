use Rattle.farm_machine.proofs.MayLemmas.{cancel-deed}
use Rattle.farm_machine.proofs.calls.cancel_task.CancelTaskCalled.deed.Goals as goal

pub returns : goal.returns
returns c = cancel-deed c.args.self.id c.args._at.now c.requires.ready c.requires.there c.requires.unruled
