use Rattle.std.proofs.Common.{◌≡◌, ◌+◌, ◌∷◌, ◌++◌, List, drop, sym, ap, ◌∙◌}
use Rattle.std.proofs.lemmas.List.{drop_more}
use Rattle.farm_text.specs.Document.{Document, items_of}
use Rattle.farm_text.specs.Doc.{document, documents}
use Rattle.farm_text.specs.declared.doc.Doc.{Doc}
use Rattle.jsone_render.specs.Merges.{leaves, items_leaves}
use Rattle.jsone_render.proofs.KindLemmas.{one_more}
use Rattle.jsone_render.proofs.merges.+push_leaves.Goals as goal

pub loop-item-preserved : goal.loop-item-preserved
loop-item-preserved t c =
    let l = c.loop-item in
    let items = c.deref-item-items.result.now in
    let x = c.item-item.result in
    let behind = drop (l.item-index + 1) items in
    let rest : drop l.item-index items ≡ x ∷ behind = drop_more items l.item-index x c.loop-item-test.true ∙ ap (λ y. y ∷ behind) (sym c.item-item.is) in
    let left : List Doc → List Document = λ xs. items_leaves (items_of (documents xs)) in
    one_more (documents l.flat.items) (documents c.push_leaves.new.flat.items) (leaves (document x)) (left behind) (left (drop l.item-index items)) (documents c.args.flat.now.items ++ left items) (ap left rest) c.in_ok-push_leaves-in-List.ensures l.invariant
