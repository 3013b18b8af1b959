use Rattle.std.proofs.Common.{Ok, ap, ◌∙◌}
use Rattle.farm_text.specs.Document.{array, items_of}
use Rattle.farm_text.specs.Doc.{document, documents}
use Rattle.farm_text.proofs.DocLemmas.{document-List}
use Rattle.jsone_render.proofs.KindLemmas.{map-reverse, reverse_list}
use Rattle.jsone_render.proofs.merges.reverse_of.Goals as goal

pub returns-in-List : goal.returns-in-List
returns-in-List c =
    ap (λ d. Ok d) (document-List c.reverse.new.self ∙ ap (λ ds. array (items_of ds)) (ap documents c.reverse.ensures.items ∙ map-reverse document c.in-List.items.items))
    ∙ reverse_list (document c.args.value) (documents c.in-List.items.items) (ap document c.in-List.is ∙ document-List c.in-List.items)
