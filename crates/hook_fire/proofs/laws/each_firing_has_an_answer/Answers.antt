use Rattle.hook_fire.proofs.SomeFiring.{some_firing}
use Rattle.hook_fire.proofs.laws.each_firing_has_an_answer.Goals as goal

pub returns : goal.returns
returns c = some_firing
