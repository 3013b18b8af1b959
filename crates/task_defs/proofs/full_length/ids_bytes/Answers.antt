use Rattle.std.proofs.Common.{map, arith}
use Rattle.std.proofs.lemmas.List.{at_drop_all}
use Rattle.farm_text.specs.Slug.{slug_text}
use Rattle.farm_text.specs.Document.{text, items_of}
use Rattle.task_defs.proofs.LengthLemmas.{items_size, list_size, all_seen}
use Rattle.task_defs.proofs.full_length.ids_bytes.Goals as goal

pub returns : goal.returns
returns c =
    let ids = c.args.ids.now in
    all_seen c.loop-id.most (items_size (items_of (map text (map slug_text ids)))) _ _ (list_size (items_of (map text (map slug_text ids))))
    (at_drop_all (λ ts. items_size (items_of (map text (map slug_text ts)))) ids c.loop-id.id-index (omega (arith, c.loop-id-test.false))) c.loop-id.invariant
