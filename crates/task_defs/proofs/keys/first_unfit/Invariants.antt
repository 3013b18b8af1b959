use Rattle.std.proofs.Common.{◌≡◌, List, ◌++◌}
use Rattle.farm_text.proofs.DocLemmas.{Entry}
use Rattle.task_defs.proofs.KeyLemmas.{AllFit}
use Rattle.task_defs.proofs.keys.first_unfit.Given as goal

abbrev pub invariant-loop-key : goal.invariant-loop-key
invariant-loop-key l = (done : List Entry) × (l.members.entries ≡ done ++ l.key-iterator) × AllFit done
