use Rattle.std.proofs.Common.{◌≡◌, [], ◌∷◌, List, Ok, sym, ap, ◌∙◌, arith}
use Rattle.std.specs.Vec.Iter.{into_iter_items}
use Rattle.std.proofs.lemmas.Grind.{common_steps}
use Rattle.farm_text.specs.Doc.{document, documents}
use Rattle.farm_text.specs.declared.doc.Doc.{Doc}
use Rattle.farm_text.proofs.DocLemmas.{members_in, document-List, document-Map}
use Rattle.jsone_render.specs.Merges.{merged, merged_onto}
use Rattle.jsone_render.proofs.KindLemmas.{no_map, merge_list}
use Rattle.jsone_render.proofs.merges.merge_of.Goals as goal

pub returns-in-None-into_map : goal.returns-in-None-into_map
returns-in-None-into_map c =
    let l = c.loop-item in
    let ms = members_in l.map.entries in
    let next : into_iter_items l.item-iterator ≡ c.in-Some.item ∷ into_iter_items c.next.new.self = grind (arith, common_steps) in
    let all : into_iter_items c.into_iter-item-iterator.result ≡ c.in-List.items.items = grind (arith, common_steps) in
    no_map ms (document c.in-Some.item) (documents (into_iter_items c.next.new.self)) c.in-None-into_map.ensures
    ∙ ap (λ (ds : List Doc). merged_onto ms (documents ds)) (sym next) ∙ l.invariant ∙ ap (λ (ds : List Doc). merged (documents ds)) all
    ∙ merge_list (document c.args.value) (documents c.in-List.items.items) (ap document c.in-List.is ∙ document-List c.in-List.items)

pub returns : goal.returns
returns c =
    let l = c.loop-item in
    let ms = members_in l.map.entries in
    let none : into_iter_items l.item-iterator ≡ [] = grind (arith, common_steps) in
    let all : into_iter_items c.into_iter-item-iterator.result ≡ c.in-List.items.items = grind (arith, common_steps) in
    ap (λ d. Ok d) (document-Map l.map) ∙ ap (λ (ds : List Doc). merged_onto ms (documents ds)) (sym none) ∙ l.invariant ∙ ap (λ (ds : List Doc). merged (documents ds)) all
    ∙ merge_list (document c.args.value) (documents c.in-List.items.items) (ap document c.in-List.is ∙ document-List c.in-List.items)
