use Rattle.std.proofs.Common.{◌≡◌, [], ◌∷◌, List, map, ap, arith, rules}
use Rattle.std.specs.Vec.Iter.{into_iter_items}
use Rattle.std.proofs.lemmas.Grind.{common_steps}
use Rattle.std.proofs.lemmas.List.{map-append}
use Rattle.farm_text.specs.Document.{Document}
use Rattle.farm_text.specs.Doc.{document, documents}
use Rattle.farm_text.specs.declared.doc.Doc.{Doc}
use Rattle.jsone_render.specs.Answers.{pairs_of}
use Rattle.jsone_render.proofs.KindLemmas.{one_more}
use Rattle.jsone_render.proofs.sorting.values_of.Goals as goal

pub loop-key-preserved : goal.loop-key-preserved
loop-key-preserved c =
    let l = c.loop-key in
    let next : into_iter_items l.key-iterator ≡ (c.in-Some.key, c.in-Some.value) ∷ into_iter_items c.next.new.self = grind (arith, common_steps) in
    let left : List (Doc × Doc) → List Document = λ ps. map (λ q. q.1) (pairs_of ps) in
    one_more (documents l.values.items) (documents c.push.new.self.items) (document c.in-Some.value ∷ []) (left (into_iter_items c.next.new.self)) (left (into_iter_items l.key-iterator)) (left c.args.pairs.items) (ap left next) (search (rules, map-append)) l.invariant
