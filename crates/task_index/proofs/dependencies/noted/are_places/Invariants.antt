use Rattle.std.proofs.Common.{◌≡◌, ℕ, ◌<◌, [], ◌∷◌, ◌++◌, length, get_or}
use Rattle.task_index.specs.Dependencies.{ids_of, place_in}
use Rattle.task_index.proofs.dependencies.noted.are_places.Given as goal

-- so far each is the place of its id
abbrev pub invariant-loop-name : goal.invariant-loop-name
invariant-loop-name l = (k : ℕ) → k < length l.yielded → get_or l.dependencies k 0 ≡ place_in (ids_of l.rows ++ l.id ∷ []) (get_or l.named k [])
