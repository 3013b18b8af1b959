use Rattle.std.proofs.Common.{◌≡◌, ◌≤◌, length, take, Ok, sym, ap, ◌∙◌, subst, arith}
use Rattle.std.proofs.lemmas.List.{length-take-le}
use Rattle.std.proofs.lemmas.Option.{IfSome_then}
use Rattle.base64.specs.GeneralPurpose.{decode_of}
use Rattle.base64.specs.Engines.{url_safe_no_pad}
use Rattle.farm_text.specs.Slug.{IsSlug, slug_text}
use Rattle.farm_text.proofs.SlugLemmas.{IsSlug-length, IsSlug-refused, IsSlug-decoded, IsSlug-decoded_length, text_of_decoded, slug_of_uuid}
use Rattle.farm_text.proofs.slug.SlugId.find.Goals as goal

pub returns-then-text-ne-SLUG_LEN-clause-valid : goal.returns-then-text-ne-SLUG_LEN-clause-valid
returns-then-text-ne-SLUG_LEN-clause-valid c = (λ e. cc, λ h. absurd (c.if-text-ne-SLUG_LEN.true (IsSlug-length c.args.text.now h)))

pub returns-in_default-clause-valid : goal.returns-in_default-clause-valid
returns-in_default-clause-valid c = (λ e. cc, λ h. absurd (IsSlug-refused c.args.text.now c.in_default.field-0 c.in_default.ensures.err h))

pub returns-then-len-ne-UUID_LEN-clause-valid : goal.returns-then-len-ne-UUID_LEN-clause-valid
returns-then-len-ne-UUID_LEN-clause-valid c =
    let n = c.in-Ok.len in
    let new = c.decode_slice_unchecked.new.output in
    let within : n ≤ length new = omega (arith, c.in-Ok.ensures.ok.2, c.decode_slice_unchecked.auto.output) in
    (λ e. cc, λ h. absurd (c.if-len-ne-UUID_LEN.true (sym (length-take-le n new within) ∙ IsSlug-decoded_length c.args.text.now (take n new) c.in-Ok.ensures.ok.0 h)))

pub returns-clause-valid : goal.returns-clause-valid
returns-clause-valid c =
    let text = c.args.text.now in
    let uuid = c.copy_from_slice.new.self in
    let bytes : uuid ≡ take c.in-Ok.len c.decode_slice_unchecked.new.output = rw c.if-len-ne-UUID_LEN.false c.copy_from_slice.ensures.after in
    let decodes : decode_of url_safe_no_pad text ≡ Ok uuid = c.in-Ok.ensures.ok.0 ∙ ap Ok (sym bytes) in
    let same : slug_text uuid ≡ text = text_of_decoded text uuid (λ i. let f = c.type_inv.text i in omega arith) decodes in
    (λ some. subst IsSlug same (slug_of_uuid uuid (c.of_uuid.ensures.valid.0 some)), λ h. c.of_uuid.ensures.valid.1 (IsSlug-decoded text uuid decodes h))

pub returns-clause-value : goal.returns-clause-value
returns-clause-value c =
    let text = c.args.text.now in
    let uuid = c.copy_from_slice.new.self in
    let bytes : uuid ≡ take c.in-Ok.len c.decode_slice_unchecked.new.output = rw c.if-len-ne-UUID_LEN.false c.copy_from_slice.ensures.after in
    let decodes : decode_of url_safe_no_pad text ≡ Ok uuid = c.in-Ok.ensures.ok.0 ∙ ap Ok (sym bytes) in
    let same : slug_text uuid ≡ text = text_of_decoded text uuid (λ i. let f = c.type_inv.text i in omega arith) decodes in
    IfSome_then c.of_uuid.result c.of_uuid.ensures.value (λ s is. ap slug_text is ∙ same)
