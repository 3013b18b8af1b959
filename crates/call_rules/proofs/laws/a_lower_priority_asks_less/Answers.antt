use Rattle.call_rules.proofs.PriorityLemmas.{lower_asks_less}
use Rattle.call_rules.proofs.laws.a_lower_priority_asks_less.Goals as goal

pub returns : goal.returns
returns c = lower_asks_less
