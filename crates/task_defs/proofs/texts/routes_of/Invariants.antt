use Rattle.std.proofs.Common.{◌≡◌, map, take, All}
use Rattle.task_types.specs.Forms.{IsRoute}
use Rattle.task_defs.proofs.texts.routes_of.Given as goal

abbrev pub invariant-loop-text : goal.invariant-loop-text
invariant-loop-text l =
    (l.routes.items ≡ map (λ t. t.now) (take l.text-index l.texts)) × All IsRoute (map (λ t. t.now) (take l.text-index l.texts))
