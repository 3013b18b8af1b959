use Rattle.std.proofs.Common.{map, take}
use Rattle.task_defs.proofs.TextLemmas.{HasSeen}
use Rattle.task_defs.proofs.texts.has_repeat.Given as goal

abbrev pub invariant-loop-text : goal.invariant-loop-text
invariant-loop-text l = HasSeen l.seen.keys (map (λ t. t.now) (take l.text-index l.texts))
