use Rattle.std.proofs.Common.{◌≡◌, ◌∷◌, ◌++◌, ℕ, suc, List, get_or}
use Rattle.role_expand.specs.Roles.{roles_data}
use Rattle.role_expand.specs.Levels.{IsLeastWalk}
use Rattle.role_expand.proofs.cycles.cycle_from.Given as goal

abbrev pub invariant-loop-left : goal.invariant-loop-left
invariant-loop-left l =
    (get_or l.steps l.at 0 ≡ suc l.left)
    × ((front : List ℕ) × (l.cycle.items ≡ l.place ∷ front)
    × ((rest : List ℕ) → IsLeastWalk (roles_data l.roles) l.place l.at rest → IsLeastWalk (roles_data l.roles) l.place l.place (front ++ rest)))

abbrev pub decreases-loop-left : goal.decreases-loop-left
decreases-loop-left l = l.left
