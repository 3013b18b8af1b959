use Rattle.std.proofs.Common.{◌≡◌, sym, ap, ◌∙◌, subst, List, ℕ, map}
use Rattle.farm_text.specs.Document.{text, items_of}
use Rattle.farm_text.specs.Doc.{document, documents}
use Rattle.farm_text.specs.declared.doc.Doc.{Doc}
use Rattle.task_defs.specs.Documents.{text_of}
use Rattle.task_defs.proofs.TextLemmas.{not_texts_at, documents_more}
use Rattle.task_defs.proofs.texts.texts_of.Goals as goal

pub returns-in-None : goal.returns-in-None
returns-in-None c =
    let of : c.deref-item-items.result.now ≡ c.args.items.now.items = c.deref-item-items.ensures.value in
    subst (λ (x : List Doc). (ts : List (List ℕ)) → ¬ (items_of (documents x) ≡ items_of (map text ts))) of
    (not_texts_at c.deref-item-items.result.now c.loop-item.item-index c.item-item.result c.loop-item-test.true
    (ap (λ (d : Doc). text_of (document d)) (sym c.item-item.is) ∙ sym c.in-None.ensures))

pub loop-item-preserved : goal.loop-item-preserved
loop-item-preserved c =
    documents_more c.deref-item-items.result.now c.loop-item.item-index c.item-item.result c.in-Some.text c.loop-item.texts.items c.push.new.self.items c.loop-item-test.true c.item-item.is
    c.in-Some.ensures c.in_ok-push-in-Some.ensures.items c.loop-item.invariant
