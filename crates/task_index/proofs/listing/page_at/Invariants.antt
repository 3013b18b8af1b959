use Rattle.std.proofs.Common.{◌≡◌, map, take, slice_get, Some}
use Rattle.task_index.proofs.listing.page_at.Given as goal

-- the tasks at the places so far are found
abbrev pub invariant-loop-place : goal.invariant-loop-place
invariant-loop-place l = map Some (map (λ row. row.now) l.found.items) ≡ map (slice_get l.rows) (take l.place-index l.page.places.now)
