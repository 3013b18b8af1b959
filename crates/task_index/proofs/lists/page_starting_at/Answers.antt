use Rattle.std.proofs.Common.{◌≡◌, ◌<◌, ℕ, List, length, map, take, nat_lt, slice_get, ap, sym, ◌∙◌, subst, Bor}
use Rattle.std.specs.Prelude.{All}
use Rattle.std.specs.List.{AllPairs}
use Rattle.std.proofs.lemmas.Result.{IfOk-weaker}
use Rattle.run_states.specs.Rows.{Row}
use Rattle.task_index.specs.Listing.{places_of, starting_at}
use Rattle.task_index.proofs.ListingLemmas.{listed-page, page-within, places-rise}
use Rattle.task_index.proofs.lists.page_starting_at.Goals as goal

pub page_from-requires : goal.page_from-requires
page_from-requires c = subst (λ (places : List ℕ). AllPairs (λ x y. x < y) places) (sym c.places_on-places.ensures) (places-rise _ 0 c.args.rows.now)

pub page_at-requires : goal.page_at-requires
page_at-requires c =
    let rows = c.args.rows.now in
    let start = c.args.start in
    let places : c.page_from.result.places.now ≡ take c.args.limit (starting_at start (places_of c.args.list.now rows)) =
    c.page_from.ensures.places
    ∙ (ap (λ n. take n (starting_at start c.places_on-places.result.now)) c.from.ensures ∙ ap (λ (ps : List ℕ). take c.args.limit (starting_at start ps)) c.places_on-places.ensures) in
    subst (λ (rs : List Row). All (λ p. p < length rs) c.page_from.result.places.now) (sym c.list.ensures)
    (subst (All (λ p. p < length rows)) (sym places) (page-within c.args.list.now rows start c.args.limit))

pub returns : goal.returns
returns c =
    let rows = c.args.rows.now in
    let start = c.args.start in
    let found = c.page_from.result.places.now in
    let places : found ≡ take c.args.limit (starting_at start (places_of c.args.list.now rows)) =
    c.page_from.ensures.places
    ∙ (ap (λ n. take n (starting_at start c.places_on-places.result.now)) c.from.ensures ∙ ap (λ (ps : List ℕ). take c.args.limit (starting_at start ps)) c.places_on-places.ensures) in
    let more : c.page_from.result.more ≡ nat_lt c.args.limit (length (starting_at start (places_of c.args.list.now rows))) =
    c.page_from.ensures.more
    ∙ (ap (λ n. nat_lt n (length (starting_at start c.places_on-places.result.now))) c.from.ensures ∙ ap (λ (ps : List ℕ). nat_lt c.args.limit (length (starting_at start ps))) c.places_on-places.ensures) in
    IfOk-weaker c.page_at.result _ _ (λ p at.
    let page = listed-page c.args.list.now rows (map (λ (r : Bor Row). r.now) p.rows.items) start c.args.limit p.more found places (at.1 ∙ more)
    (at.0 ∙ ap (λ (rs : List Row). map (slice_get rs) found) c.list.ensures) in
    (page.page, page.more_is)) c.page_at.ensures
