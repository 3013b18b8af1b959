use Rattle.std.proofs.Common.{map, arith}
use Rattle.std.proofs.lemmas.List.{at_drop_all}
use Rattle.farm_text.specs.Document.{text, items_of}
use Rattle.task_defs.proofs.LengthLemmas.{items_size, list_size, all_seen}
use Rattle.task_defs.proofs.full_length.routes_bytes.Goals as goal

pub returns : goal.returns
returns c =
    let routes = c.args.routes.now in
    all_seen c.loop-route.most (items_size (items_of (map text routes))) _ _ (list_size (items_of (map text routes)))
    (at_drop_all (λ ts. items_size (items_of (map text ts))) routes c.loop-route.route-index (omega (arith, c.loop-route-test.false))) c.loop-route.invariant
