use Rattle.farm_machine.proofs.MayLemmas.{schedule-deed}
use Rattle.farm_machine.proofs.calls.schedule_task.ScheduleTaskCalled.deed.Goals as goal

pub returns : goal.returns
returns c = schedule-deed c.args.self.id c.args._at.now c.requires.ready c.requires.there c.requires.unruled
