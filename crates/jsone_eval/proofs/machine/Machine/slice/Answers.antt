use Rattle.std.proofs.Common.{◌≡◌, Option, option_map, reverse, ap, subst, ◌∙◌}
use Rattle.farm_text.specs.Document.{Document}
use Rattle.farm_text.specs.Doc.{document, documents}
use Rattle.farm_text.proofs.DocLemmas.{document_of_ref}
use Rattle.jsone_values.specs.Indexes.{sliced}
use Rattle.jsone_values.specs.Meets.{Meets}
use Rattle.jsone_eval.specs.Machine.{values_in, parts_in}
use Rattle.jsone_eval.proofs.MachineLemmas.{pays_for_slice}
use Rattle.jsone_eval.proofs.machine.Machine.slice.Goals as goal

pub returns : goal.returns
returns c = λ s.
    let self = c.args.self.now in
    let from = document_of_ref c.as_ref.result ∙ ap (option_map document) c.as_ref.ensures.value in
    let to = document_of_ref c.as_ref-2.result ∙ ap (option_map document) c.as_ref-2.ensures.value in
    let value = document c.take-value.result in
    let meets =
    subst (λ (e : Option Document). Meets (λ r. r ≡ sliced value e (option_map document c.take_side-to.result)) c.slice_by-found.result) from
    (subst (λ (g : Option Document). Meets (λ r. r ≡ sliced value (option_map (λ d. document d.now) c.as_ref.result) g) c.slice_by-found.result) to c.slice_by-found.ensures) in
    pays_for_slice (λ d e g r. r ≡ sliced d e g) c.slice_by-found.result c.args.from c.args.to (values_in self) (reverse (documents c.take_side-to.new.values.items)) (reverse (documents c.take_side-from.new.values.items)) (reverse (documents c.take-value.new.values.items))
    value (option_map document c.take_side-from.result) (option_map document c.take_side-to.result) (parts_in self) self.passed self.spent c.pay.result c.pay.new.self
    c.take_side-to.ensures.top c.take_side-to.ensures.below c.take_side-from.ensures.top c.take_side-from.ensures.below c.take-value.ensures.top c.take-value.ensures.below meets c.pay.ensures
