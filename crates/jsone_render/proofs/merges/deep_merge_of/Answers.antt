use Rattle.std.proofs.Common.{◌≡◌, [], ◌∷◌, ◌+◌, List, Ok, drop, sym, ap, ◌∙◌, arith}
use Rattle.std.proofs.lemmas.List.{drop_more}
use Rattle.std.proofs.lemmas.Grind.{common_steps}
use Rattle.farm_text.specs.Document.{no_members}
use Rattle.farm_text.specs.Doc.{document, documents}
use Rattle.farm_text.specs.declared.doc.Doc.{Doc}
use Rattle.farm_text.proofs.DocLemmas.{members_in, document-List, document-Map}
use Rattle.jsone_render.specs.Merges.{deep_merged_onto}
use Rattle.jsone_render.proofs.PutLemmas.{map_more, no_map_left, deep_list}
use Rattle.jsone_render.proofs.merges.deep_merge_of.Goals as goal

pub returns-in-None : goal.returns-in-None
returns-in-None c =
    let l = c.loop-item in
    let items = c.deref-item-items.result.now in
    let x = c.item-item.result in
    let rest : drop l.item-index items ≡ x ∷ drop (l.item-index + 1) items = drop_more items l.item-index x c.loop-item-test.true ∙ ap (λ y. y ∷ drop (l.item-index + 1) items) (sym c.item-item.is) in
    no_map_left (documents (drop l.item-index items)) (documents (drop (l.item-index + 1) items)) (document x) (members_in l.map.entries) (deep_merged_onto no_members (documents items)) (ap documents rest) c.in-None.ensures l.invariant
    ∙ ap (λ (ds : List Doc). deep_merged_onto no_members (documents ds)) c.deref-item-items.ensures.value
    ∙ deep_list (document c.args.value.now) (documents c.in-List.items.items) (ap document c.in-List.is ∙ document-List c.in-List.items)

pub loop-item-preserved : goal.loop-item-preserved
loop-item-preserved c =
    let l = c.loop-item in
    let items = c.deref-item-items.result.now in
    let x = c.item-item.result in
    let rest : drop l.item-index items ≡ x ∷ drop (l.item-index + 1) items = drop_more items l.item-index x c.loop-item-test.true ∙ ap (λ y. y ∷ drop (l.item-index + 1) items) (sym c.item-item.is) in
    map_more (documents (drop l.item-index items)) (documents (drop (l.item-index + 1) items)) (document x) (members_in l.map.entries) (members_in c.in-Some.more.now.entries) (members_in c.deep_all.new.members.entries) (deep_merged_onto no_members (documents items))
    (ap documents rest) c.in-Some.ensures c.in-Ok.ensures l.invariant

pub returns : goal.returns
returns c =
    let l = c.loop-item in
    let items = c.deref-item-items.result.now in
    let none : drop l.item-index items ≡ [] = grind (arith, common_steps) in
    ap (λ d. Ok d) (document-Map l.map) ∙ ap (λ (ds : List Doc). deep_merged_onto (members_in l.map.entries) (documents ds)) (sym none) ∙ l.invariant
    ∙ ap (λ (ds : List Doc). deep_merged_onto no_members (documents ds)) c.deref-item-items.ensures.value
    ∙ deep_list (document c.args.value.now) (documents c.in-List.items.items) (ap document c.in-List.is ∙ document-List c.in-List.items)
