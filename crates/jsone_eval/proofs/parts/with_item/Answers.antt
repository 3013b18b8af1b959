use Rattle.std.proofs.Common.{ℕ, List, [], ◌∷◌, ap, ◌∙◌}
use Rattle.std.proofs.lemmas.List.{map-append}
use Rattle.farm_text.specs.Document.{Document}
use Rattle.farm_text.specs.Doc.{document, documents, entries_of}
use Rattle.jsone_eval.specs.Machine.{Part}
use Rattle.jsone_eval.proofs.parts.with_item.Goals as goal

abbrev part : List (List ℕ × Document) → List Document → Part
part ms ds = (ds, ms)

pub returns : goal.returns
returns c = ap (part (entries_of c.args.part.members.items)) (ap documents c.in_ok-push.ensures.items ∙ map-append document c.args.part.values.items (c.args.value ∷ []))
