use Rattle.std.proofs.Common.{◌≡◌, Result, sym, subst}
use Rattle.farm_text.specs.Document.{Document}
use Rattle.farm_text.specs.Doc.{document, documents}
use Rattle.farm_text.specs.declared.doc.Doc.TheVariants.{List as ListDoc}
use Rattle.farm_text.proofs.DocLemmas.{document-List}
use Rattle.jsone_values.specs.declared.faults.Fault.{Fault}
use Rattle.jsone_values.specs.Meets.{Meets}
use Rattle.jsone_render.proofs.KindLemmas.{merge_list}
use Rattle.jsone_render.proofs.turns.merged.Goals as goal

pub returns : goal.returns
returns c =
    subst (λ (x : Result Document Fault). Meets (λ r. r ≡ x) c.merge_of.result) (sym (merge_list (document (ListDoc c.args.items)) (documents c.args.items.items) (document-List c.args.items))) c.merge_of.ensures
