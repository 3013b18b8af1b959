use Rattle.std.proofs.Common.{◌≡◌, map, take, All}
use Rattle.scope_sets.specs.Scopes.{IsPrintable}
use Rattle.farm_files.proofs.scopes.scopes_of.Given as goal

abbrev pub invariant-loop-text : goal.invariant-loop-text
invariant-loop-text l =
    (l.scopes.items ≡ map (λ t. t.now) (take l.text-index l.texts)) × All (All IsPrintable) (map (λ t. t.now) (take l.text-index l.texts))
