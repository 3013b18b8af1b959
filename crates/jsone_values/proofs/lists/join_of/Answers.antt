use Rattle.std.proofs.Common.{◌<◌, ℕ, List, length, sym, ap, ap₂, ◌∙◌, subst}
use Rattle.std.specs.List.{list_all, join_by}
use Rattle.farm_text.specs.Doc.{documents}
use Rattle.farm_text.specs.declared.doc.Doc.{Doc}
use Rattle.jsone_values.specs.Lists.{is_part, part_text}
use Rattle.jsone_values.proofs.JoinLemmas.{no_parts, parts_joined, parts_too_long}
use Rattle.jsone_values.proofs.lists.join_of.Goals as goal

pub returns-then-not-are_parts : goal.returns-then-not-are_parts
returns-then-not-are_parts c =
    let all = ap (λ (xs : List Doc). list_all is_part (documents xs)) (sym c.deref.ensures.value) ∙ sym c.are_parts.ensures ∙ c.if-not-are_parts.true in
    no_parts c.args.parts.now c.args.separator.now c.in-List-Text.parts c.in-List-Text.separator c.in-List-Text.is-0 c.in-List-Text.is-1 all

pub returns-in-Ok-Some : goal.returns-in-Ok-Some
returns-in-Ok-Some c =
    let all = ap (λ (xs : List Doc). list_all is_part (documents xs)) (sym c.deref.ensures.value) ∙ sym c.are_parts.ensures ∙ c.if-not-are_parts.false in
    let made = rw c.in-Ok-Some.field-0-is at c.in-Ok-Some.ensures in
    let bytes = c.from_string.ensures ∙ made ∙ ap₂ (λ (t : List ℕ) (xs : List Doc). join_by part_text t (documents xs)) c.as_str.ensures c.deref-2.ensures.value in
    parts_joined c.args.parts.now c.args.separator.now c.in-List-Text.parts c.in-List-Text.separator c.from_string.result c.in-List-Text.is-0 c.in-List-Text.is-1 all bytes

pub returns-in-Ok-None : goal.returns-in-Ok-None
returns-in-Ok-None c =
    let all = ap (λ (xs : List Doc). list_all is_part (documents xs)) (sym c.deref.ensures.value) ∙ sym c.are_parts.ensures ∙ c.if-not-are_parts.false in
    let made = rw c.in-Ok-None.field-0-is at c.in-Ok-None.ensures in
    let long = subst (λ (bs : List ℕ). c.args.most < length bs) (ap₂ (λ (t : List ℕ) (xs : List Doc). join_by part_text t (documents xs)) c.as_str.ensures c.deref-2.ensures.value) made in
    parts_too_long c.args.parts.now c.args.separator.now c.in-List-Text.parts c.in-List-Text.separator c.args.most c.in-List-Text.is-0 c.in-List-Text.is-1 all long
