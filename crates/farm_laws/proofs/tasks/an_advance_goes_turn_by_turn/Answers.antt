use Rattle.task_index.proofs.AdvanceLemmas.{advance-turn, advance-idle}
use Rattle.farm_laws.proofs.tasks.an_advance_goes_turn_by_turn.Goals as goal

pub returns-clause-due : goal.returns-clause-due
returns-clause-due c = advance-turn

pub returns-clause-idle : goal.returns-clause-idle
returns-clause-idle c = advance-idle
