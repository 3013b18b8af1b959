use Rattle.std.proofs.Common.{ℕ, List, [], ◌∷◌, ◌++◌, ap, ◌∙◌}
use Rattle.farm_text.specs.Document.{Document}
use Rattle.farm_text.specs.Doc.{document, documents, entries_of}
use Rattle.jsone_eval.specs.Machine.{Part}
use Rattle.jsone_eval.proofs.PartLemmas.{entries_of-append}
use Rattle.jsone_eval.proofs.parts.with_member.Goals as goal

abbrev part : List Document → List (List ℕ × Document) → Part
part ds ms = (ds, ms)

pub returns : goal.returns
returns c =
    ap (part (documents c.args.part.values.items))
    (ap entries_of c.in_ok-push.ensures.items
    ∙ entries_of-append c.args.part.members.items ((c.in_ok-name.name, c.args.value) ∷ [])
    ∙ ap (λ (k : List ℕ). entries_of c.args.part.members.items ++ (k, document c.args.value) ∷ []) c.in_ok-name.ensures.ok)
