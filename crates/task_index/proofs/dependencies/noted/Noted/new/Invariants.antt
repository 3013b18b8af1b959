use Rattle.std.proofs.Common.{◌≡◌, [], ◌∷◌, ◌++◌, take}
use Rattle.task_index.specs.Dependencies.{ids_of, places_in}
use Rattle.task_index.proofs.dependencies.noted.Noted.new.Given as goal

-- the places of those so far
abbrev pub invariant-loop-name : goal.invariant-loop-name
invariant-loop-name l = l.dependencies.items ≡ places_in (ids_of l.rows ++ l.id ∷ []) (take l.name-index l.named)
