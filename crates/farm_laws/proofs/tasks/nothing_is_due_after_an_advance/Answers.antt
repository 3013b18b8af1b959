use Rattle.task_index.proofs.AdvanceLemmas.{advance-none}
use Rattle.farm_laws.proofs.tasks.nothing_is_due_after_an_advance.Goals as goal

pub returns : goal.returns
returns c = advance-none
