use Rattle.std.proofs.Common.{map, take}
use Rattle.api_routes.specs.Queries.{values_in}
use Rattle.api_routes.specs.Values.{IsValue}
use Rattle.api_routes.proofs.queries.value_of.Given as goal

-- what the pieces so far say of the name
abbrev pub invariant-loop-piece : goal.invariant-loop-piece
invariant-loop-piece l = IsValue (values_in l.name (map (λ piece. piece.now) (take l.piece-index l.pieces))) l.value
