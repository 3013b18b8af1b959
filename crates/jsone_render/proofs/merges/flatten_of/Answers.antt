use Rattle.std.proofs.Common.{◌≡◌, List, Vec, Global, Result, Ok, Err, IfOk, MatchResult, sym, ap, subst, ◌∙◌}
use Rattle.farm_text.specs.Document.{Document, array, items_of}
use Rattle.farm_text.specs.Doc.{document, documents}
use Rattle.farm_text.specs.declared.doc.Doc.{Doc}
use Rattle.farm_text.specs.declared.doc.Doc.TheVariants.{List as ListDoc}
use Rattle.farm_text.proofs.DocLemmas.{document-List}
use Rattle.jsone_values.specs.declared.faults.Stop.{Stop}
use Rattle.jsone_values.specs.declared.faults.Stop.TheVariants.{NoMemory}
use Rattle.jsone_values.specs.Meets.{Meets}
use Rattle.jsone_render.specs.Merges.{flattened, flatten_of}
use Rattle.jsone_render.proofs.KindLemmas.{listed-items_of}
use Rattle.jsone_render.proofs.merges.flatten_of.Goals as goal

flat_made : {E : Type 0} (d : Document) (ds : List Document) → d ≡ array (items_of ds) → (made : Result (Vec Doc Global) E) (r : Result Doc Stop) → IfOk made (λ v. documents v.items ≡ flattened ds) → MatchResult made (λ v. r ≡ Ok (ListDoc v)) (λ x. r ≡ Err NoMemory)
    → Meets (λ q. q ≡ flatten_of d) r
flat_made d ds e (Ok v) r h m =
    subst (λ (x : Result Doc Stop). Meets (λ q. q ≡ flatten_of d) x) (sym m)
    (ap (λ x. Ok x) (document-List v ∙ ap (λ l. array (items_of l)) (h ∙ ap flattened (sym (listed-items_of ds)))) ∙ ap flatten_of (sym e))
flat_made d ds e (Err x) r h m = subst (λ (x : Result Doc Stop). Meets (λ q. q ≡ flatten_of d) x) (sym m) tt

pub returns-in-List : goal.returns-in-List
returns-in-List c =
    flat_made (document c.args.value) (documents c.in-List.items.items) (ap document c.in-List.is ∙ document-List c.in-List.items) c.flattened.result c.listing.result c.flattened.ensures c.listing.ensures
