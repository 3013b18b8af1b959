use Rattle.std.proofs.Common.{ℕ, List, ◌+◌, ◌≤◌, ◌≡◌, map, to_z, of_z, w64, ◌∙◌, arith, rules}
use Rattle.std.proofs.lemmas.Int.{ints, to_z-of_z}
use Rattle.farm_text.specs.Slug.{slug_text}
use Rattle.farm_text.specs.Document.{Document, text, whole}
use Rattle.task_defs.specs.Definitions.{text_list}
use Rattle.task_defs.proofs.FullLengthLemmas.{covered, summed, form_total}
use Rattle.task_defs.proofs.full_length.full_form_bytes.Goals as goal

pub returns : goal.returns
returns c full form within =
    let all : 1500 + c.text_bytes.result + c.text_bytes-2.result + c.queue_bytes.result + c.slug_bytes.result + c.ids_bytes.result + c.routes_bytes.result + c.scopes_bytes.result + c.metadata_bytes.result + c.most_bytes.result + c.most_bytes-2.result + c.most_bytes-3.result + c.text_bytes-3.result + c.text_bytes-4.result + c.number_bytes.result ≤ c.total.result =
    summed _ _ _ c.as_slice.ensures c.total.ensures within in
    let same : to_z w64 (of_z w64 c.from.result) ≡ c.from.result = search (rules, ints, to_z-of_z) in
    form_total c.args.def.now full _ _ _ _ _ _ _ _ _ _ _ _ _ _ _ form all
    (covered text _ _ _ c.as_str.ensures.value c.text_bytes.ensures.text (omega arith))
    (covered text _ _ _ c.as_str-2.ensures.value c.text_bytes-2.ensures.text (omega arith))
    (c.queue_bytes.ensures (omega arith))
    (c.slug_bytes.ensures (omega arith))
    (covered (λ (ids : List (List ℕ)). text_list (map slug_text ids)) _ _ _ c.list.ensures c.ids_bytes.ensures (omega arith))
    (covered text_list _ _ _ c.list-2.ensures c.routes_bytes.ensures (omega arith))
    (covered text_list _ _ _ c.list-3.ensures c.scopes_bytes.ensures (omega arith))
    (c.metadata_bytes.ensures (omega arith))
    (covered (λ (d : Document). d) _ _ _ c.as_doc.ensures c.most_bytes.ensures (omega arith))
    (covered (λ (d : Document). d) _ _ _ c.as_doc-2.ensures c.most_bytes-2.ensures (omega arith))
    (covered (λ (d : Document). d) _ _ _ c.as_doc-3.ensures.map c.most_bytes-3.ensures (omega arith))
    (covered text _ _ _ c.name.ensures c.text_bytes-3.ensures.text (omega arith))
    (covered text _ _ _ c.name-2.ensures c.text_bytes-4.ensures.text (omega arith))
    (covered whole _ _ _ (same ∙ c.from.ensures) c.number_bytes.ensures (omega arith))
