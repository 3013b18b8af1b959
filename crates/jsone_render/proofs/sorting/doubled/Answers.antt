use Rattle.std.proofs.Common.{◌≡◌, [], ◌∷◌, ◌++◌, List, map, ap, ◌∙◌, arith}
use Rattle.std.specs.Vec.Iter.{into_iter_items}
use Rattle.std.proofs.lemmas.Grind.{common_steps}
use Rattle.farm_text.specs.Document.{Document}
use Rattle.farm_text.specs.Doc.{document, documents}
use Rattle.farm_text.specs.declared.doc.Doc.{Doc}
use Rattle.jsone_render.specs.Answers.{pairs_of}
use Rattle.jsone_render.proofs.KindLemmas.{one_more}
use Rattle.jsone_render.proofs.sorting.doubled.Goals as goal

pub loop-item-preserved : goal.loop-item-preserved
loop-item-preserved c =
    let l = c.loop-item in
    let d = document c.in-Some.item in
    let next : into_iter_items l.item-iterator ≡ c.in-Some.item ∷ into_iter_items c.next.new.self = grind (arith, common_steps) in
    let left : List Doc → List (Document × Document) = λ xs. map (λ x. (x, x)) (documents xs) in
    one_more (pairs_of l.pairs.items) (pairs_of c.keep_pair.new.pairs.items) ((d, d) ∷ []) (left (into_iter_items c.next.new.self)) (left (into_iter_items l.item-iterator)) (left c.args.items.items) (ap left next)
    (c.in_ok-keep_pair-in-Ok.ensures ∙ ap (λ x. pairs_of l.pairs.items ++ (x, d) ∷ []) c.in-Ok.ensures.cases) l.invariant
