use Rattle.std.proofs.Common.{◌≡◌, ◌∷◌, ℕ, pos, length, ap, ◌∙◌, arith}
use Rattle.std.specs.Vec.Iter.{into_iter_items}
use Rattle.std.proofs.lemmas.Grind.{common_steps}
use Rattle.farm_text.specs.Document.{whole}
use Rattle.farm_text.specs.Doc.{document, documents}
use Rattle.jsone_render.specs.Answers.{pairs_of}
use Rattle.jsone_render.specs.Bindings.{numbered}
use Rattle.jsone_render.proofs.KindLemmas.{numbered_more}
use Rattle.jsone_render.proofs.turns.numbered.Goals as goal

pub loop-item-preserved : goal.loop-item-preserved
loop-item-preserved c =
    let l = c.loop-item in
    let next : into_iter_items l.item-iterator ≡ c.in-Some.item ∷ into_iter_items c.next.new.self = grind (arith, common_steps) in
    let size : c.len.result ≡ length (pairs_of l.turns.items) = grind (arith, common_steps) in
    numbered_more (pairs_of l.turns.items) (numbered 0 (documents (into_iter_items c.into_iter-item-iterator.result))) (pairs_of c.keep_pair.new.pairs.items) (document c.in-Some.item) (document c.in-Ok.index)
    (documents (into_iter_items c.next.new.self)) (documents (into_iter_items l.item-iterator)) (ap documents next) (c.in-Ok.ensures ∙ ap (λ (k : ℕ). whole (pos k)) size) c.in_ok-keep_pair-in-Ok.ensures l.invariant
