use Rattle.farm_machine.proofs.JoinLemmas.{create-deed}
use Rattle.farm_machine.proofs.calls.create_task.CreateTaskCalled.deed.Goals as goal

pub returns : goal.returns
returns c = create-deed c.args.self.creation c.args._at.now c.requires.ready c.requires.unruled
