use Rattle.std.proofs.Common.{◌≡◌, map, take}
use Rattle.route_table.specs.Texts.{segment_in, picked}
use Rattle.route_table.proofs.parameters.parameters.Given as goal

-- the parameters among the first parts
abbrev pub invariant-loop-place : goal.invariant-loop-place
invariant-loop-place l =
    map (λ part. part.now) l.found.items
    ≡ picked (map segment_in (take l.place (map (λ part. part.now) l.pieces.items))) (take l.place (map (λ part. part.now) l.parts.items))
