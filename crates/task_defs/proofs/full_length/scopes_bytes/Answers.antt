use Rattle.std.proofs.Common.{map, arith}
use Rattle.std.proofs.lemmas.List.{at_drop_all}
use Rattle.farm_text.specs.Document.{text, items_of}
use Rattle.task_defs.proofs.LengthLemmas.{items_size, list_size, all_seen}
use Rattle.task_defs.proofs.full_length.scopes_bytes.Goals as goal

pub returns : goal.returns
returns c =
    let scopes = c.args.scopes.now in
    all_seen c.loop-scope.most (items_size (items_of (map text scopes))) _ _ (list_size (items_of (map text scopes)))
    (at_drop_all (λ ts. items_size (items_of (map text ts))) scopes c.loop-scope.scope-index (omega (arith, c.loop-scope-test.false))) c.loop-scope.invariant
