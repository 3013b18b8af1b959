use Rattle.std.proofs.Common.{◌++◌, List, ℕ, refl, ap, ◌∙◌, append_assoc}
use Rattle.farm_record.specs.Fields.{sized}
use Rattle.farm_record.proofs.DefinitionLemmas.{written}
use Rattle.farm_record.proofs.writing.put_creation.Goals as goal

pub returns : goal.returns
returns c =
    let made = c.args.creation.now in
    let out = c.args.out.now.items in
    let bytes = c.as_bytes.result.now in
    let uuid = c.put_id.ensures.id in
    let text = c.in_ok-text.text in (
      made.id ++ sized text,
      (uuid, (text, written c.a_full_form_says_its_definition.ensures made.id made.definition text uuid c.in_ok-text.ensures, refl)),
      c.in_ok-put_sized.ensures ∙ ap (λ (l : List ℕ). l ++ sized bytes) c.in_ok-put_id.ensures.text ∙ append_assoc out made.id (sized bytes)
          ∙ ap (λ (l : List ℕ). out ++ (made.id ++ sized l)) c.as_bytes.ensures.bytes,
    )
