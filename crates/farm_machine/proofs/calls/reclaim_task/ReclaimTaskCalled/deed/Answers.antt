use Rattle.farm_machine.proofs.MayLemmas.{reclaim-deed}
use Rattle.farm_machine.proofs.calls.reclaim_task.ReclaimTaskCalled.deed.Goals as goal

pub returns : goal.returns
returns c = rw c.taken_until-taken_until.ensures (reclaim-deed c.args.self.name c.args.at.now c.requires.ready c.requires.there c.requires.unruled)
