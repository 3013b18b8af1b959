use Rattle.std.proofs.Common.{sym, ◌∙◌}
use Rattle.std.proofs.lemmas.Bool.{true≢false}
use Rattle.hawk_auth.proofs.AttributeLemmas.{off_without_equals, off_without_quote, off_without_end, off_form}
use Rattle.hawk_auth.proofs.attributes.split_attribute.Goals as goal

pub returns-in_default : goal.returns-in_default
returns-in_default c = λ a after h. off_without_equals c.args.text.now a after h c.in_default.ensures

pub returns-in_default-after_byte : goal.returns-in_default-after_byte
returns-in_default-after_byte c = λ a after h.
    off_without_quote c.args.text.now a after h c.in-Some.name.now c.in-Some.rest.now c.in-Some.ensures.0 c.in-Some.ensures.1 c.in_default-after_byte.ensures

pub returns-in_default-cut : goal.returns-in_default-cut
returns-in_default-cut c = λ a after h.
    off_without_end c.args.text.now a after h c.in-Some.name.now c.in-Some.rest.now c.in-Some.ensures.0 c.in-Some.ensures.1
    c.in-Some-after_byte.quoted.now c.in-Some-after_byte.ensures c.in_default-cut.ensures

pub returns-else-has_form : goal.returns-else-has_form
returns-else-has_form c = λ a after h.
    off_form c.args.text.now a after h c.in-Some.name.now c.in-Some.rest.now c.in-Some.ensures.0 c.in-Some.ensures.1
    c.in-Some-after_byte.quoted.now c.in-Some-after_byte.ensures c.in-Some-cut.value.now c.in-Some-cut.after.now
    c.in-Some-cut.ensures.0 c.in-Some-cut.ensures.1 (λ n v. true≢false (sym (c.has_form.ensures.1 (n, v)) ∙ c.if-has_form.false))
