use Rattle.farm_laws.proofs.ReadyLawLemmas.{entries-once, starts-ready, starts-scheduled}
use Rattle.farm_laws.proofs.machine.a_task_is_scheduled_once.Goals as goal

pub returns : goal.returns
returns c = record { once = entries-once; ready = starts-ready; scheduled = starts-scheduled }
