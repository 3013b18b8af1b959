use Rattle.std.proofs.Common.{◌≡◌, [], ◌∷◌, ◌++◌, List, sym, ap, ◌∙◌, append_assoc, arith}
use Rattle.std.specs.Vec.Iter.{into_iter_items}
use Rattle.std.proofs.lemmas.Grind.{common_steps}
use Rattle.farm_text.specs.Doc.{document, documents}
use Rattle.farm_text.specs.declared.doc.Doc.{Doc}
use Rattle.jsone_render.specs.Merges.{flattened}
use Rattle.jsone_render.proofs.KindLemmas.{flattened-append}
use Rattle.jsone_render.proofs.merges.flattened.Goals as goal

pub loop-item-preserved : goal.loop-item-preserved
loop-item-preserved c =
    let l = c.loop-item in
    let left = documents (into_iter_items c.next.new.self) in
    let next : into_iter_items l.item-iterator ≡ c.in-Some.item ∷ into_iter_items c.next.new.self = grind (arith, common_steps) in
    ap (λ x. x ++ flattened left) c.in_ok-push_flat.ensures
    ∙ append_assoc (documents l.flat.items) (flattened (document c.in-Some.item ∷ [])) (flattened left)
    ∙ ap (λ x. documents l.flat.items ++ x) (sym (flattened-append (document c.in-Some.item ∷ []) left) ∙ ap (λ (ds : List Doc). flattened (documents ds)) (sym next))
    ∙ l.invariant
