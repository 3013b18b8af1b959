use Rattle.std.proofs.Common.{◌≡◌, ◌<◌, [], ◌∷◌, ◌++◌, map, length, get_or, slice_get, Some, ap, sym, ◌∙◌, Bor}
use Rattle.std.proofs.lemmas.List.{map-append}
use Rattle.std.proofs.lemmas.Option.{slice_get-get_or}
use Rattle.run_states.specs.Rows.{Row}
use Rattle.task_index.proofs.ListingLemmas.{found-more}
use Rattle.task_index.proofs.listing.page_at.Goals as goal

pub loop-place-preserved : goal.loop-place-preserved
loop-place-preserved c =
    let rows = c.args.rows.now in
    let places = c.args.page.places.now in
    let i = c.loop-place.place-index in
    let row = c.index-rows-place.result in
    let items = c.loop-place.found.items in
    let within : get_or places i 0 < length rows = c.requires i 0 c.loop-place-test.true in
    let at : slice_get rows (get_or places i 0) ≡ Some row = slice_get-get_or rows (get_or places i 0) row within ∙ ap Some (sym c.index-rows-place.is) in
    let more : map (λ (r : Bor Row). r.now) c.push.new.self.items ≡ map (λ (r : Bor Row). r.now) items ++ row ∷ [] =
    ap (map (λ (r : Bor Row). r.now)) c.in_ok-push.ensures.items ∙ map-append (λ (r : Bor Row). r.now) items _ in
    found-more rows places i (map (λ (r : Bor Row). r.now) items) (map (λ (r : Bor Row). r.now) c.push.new.self.items) row c.loop-place-test.true at more c.loop-place.invariant
