use Rattle.std.proofs.Common.{◌≡◌, map, take, All}
use Rattle.task_defs.specs.Values.{IsScope}
use Rattle.task_defs.proofs.texts.scopes_of.Given as goal

abbrev pub invariant-loop-text : goal.invariant-loop-text
invariant-loop-text l =
    (l.scopes.items ≡ map (λ t. t.now) (take l.text-index l.texts)) × All IsScope (map (λ t. t.now) (take l.text-index l.texts))
