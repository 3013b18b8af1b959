use Rattle.std.proofs.Common.{option_map, ap, sym, ◌∙◌}
use Rattle.farm_text.specs.Document.{get}
use Rattle.farm_text.specs.Doc.{document}
use Rattle.farm_text.proofs.DocLemmas.{document_of_ref, document-lookup, document-Map}
use Rattle.farm_text.proofs.doc.Doc.get.Goals as goal

pub returns-in-Map : goal.returns-in-Map
returns-in-Map c =
    let seen = ap document c.in-Map.is ∙ document-Map c.in-Map.members in
    document_of_ref c.get.result ∙ ap (option_map document) c.get.ensures.value ∙ document-lookup c.args.key.now c.in-Map.members.entries ∙ ap (get c.args.key.now) (sym seen)
