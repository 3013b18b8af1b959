use Rattle.std.proofs.Common.{◌∙◌, sym}
use Rattle.history.proofs.tests.a_sum_has_one_entry.Goals as goal

pub returns : goal.returns
returns c = λ state question entry other comes another asked asks same. asked ∙ sym asks
