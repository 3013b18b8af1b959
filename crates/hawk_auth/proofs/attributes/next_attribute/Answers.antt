use Rattle.std.proofs.Common.{◌≡◌, ◌<◌, ◌≤◌, List, ℕ, [], length, ap, sym, ◌∙◌, subst, arith, ◌∷◌}
use Rattle.std.proofs.lemmas.Grind.{common_steps}
use Rattle.hawk_auth.specs.Header.{AttributeData, attribute_data, IsAttributes}
use Rattle.hawk_auth.specs.Mac.{skip_spaces}
use Rattle.hawk_auth.proofs.AttributeLemmas.{off_at_front, alone, off_after, longer, shorter, fewer}
use Rattle.hawk_auth.proofs.attributes.next_attribute.Goals as goal

pub returns-in_default : goal.returns-in_default
returns-in_default c = off_at_front c.args.text.now c.in_default.ensures

pub returns-then-is_empty : goal.returns-then-is_empty
returns-then-is_empty c =
    let a : AttributeData = attribute_data c.in-Some.attribute in
    let end : c.skip_spaces-rest.result.now ≡ [] = grind (arith, common_steps, c.if-is_empty.ensures, c.if-is_empty.true, c.is_empty.ensures) in
    let gone : skip_spaces c.in-Some.after.now ≡ [] = sym c.skip_spaces-rest.ensures.value ∙ end in
    ((c.in-Some.after.now, c.in-Some.ensures, gone), alone c.args.text.now a c.in-Some.after.now c.in-Some.ensures gone)

pub returns-in-Some-after_byte : goal.returns-in-Some-after_byte
returns-in-Some-after_byte c =
    let text : List ℕ = c.args.text.now in
    let a : AttributeData = attribute_data c.in-Some.attribute in
    let after : List ℕ = c.in-Some.after.now in
    let more : List ℕ = c.in-Some-after_byte.more.now in
    let rest : List ℕ = c.skip_spaces.result.now in
    let comma : skip_spaces after ≡ 44 ∷ more = sym c.skip_spaces-rest.ensures.value ∙ c.in-Some-after_byte.ensures in
    let is : rest ≡ skip_spaces more = c.skip_spaces.ensures.value in
    let shrinks : length (skip_spaces more) ≤ length more = subst (λ (x : List ℕ). length x ≤ length more) is c.skip_spaces.ensures.bound in
    let skips : length (skip_spaces after) ≤ length after = subst (λ (x : List ℕ). length x ≤ length after) c.skip_spaces-rest.ensures.value c.skip_spaces-rest.ensures.bound in (
      subst (λ (x : List ℕ). length x < length text) (sym is) (fewer text a after c.in-Some.ensures more comma shrinks skips),
      λ ms k. longer text a after c.in-Some.ensures more comma ms (subst (λ (x : List ℕ). IsAttributes ms x) is k),
      λ all k. let (ms, e, h) = shorter text a after c.in-Some.ensures more comma all k in (ms, e, subst (λ (x : List ℕ). IsAttributes ms x) (sym is) h),
    )

pub returns-in-None : goal.returns-in-None
returns-in-None c =
    let after : List ℕ = c.in-Some.after.now in
    off_after c.args.text.now (attribute_data c.in-Some.attribute) after c.in-Some.ensures
    (λ e. let z : length c.skip_spaces-rest.result.now ≡ 0 = ap length (c.skip_spaces-rest.ensures.value ∙ e) in grind (arith, common_steps, z, c.if-is_empty.false, c.is_empty.ensures))
    (λ more e. c.in-None.ensures more (c.skip_spaces-rest.ensures.value ∙ e))
