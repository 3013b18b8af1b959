use Rattle.std.proofs.Common.{◌≡◌, ◌<◌, ℤ, pos, List, length, sym, ap, subst, ◌∙◌, w64, to_z, of_z}
use Rattle.std.proofs.lemmas.Int.{to_z-of_z}
use Rattle.farm_text.specs.Document.{Document}
use Rattle.jsone_values.proofs.RangeLemmas.{no_step, numbers_made, numbers_too_many, same_range}
use Rattle.jsone_values.proofs.ranges.ranged.Goals as goal

pub returns-then-step-eq0 : goal.returns-then-step-eq0
returns-then-step-eq0 c = no_step c.args.from c.args.end c.args.step (sym (to_z-of_z w64 _ c.ranges.step) ∙ ap (to_z w64) c.if-step-eq0.true)

pub returns-in-Ok-Some : goal.returns-in-Ok-Some
returns-in-Ok-Some c =
    let made = rw c.in-Ok-Some.field-0-is at c.in-Ok-Some.ensures in
    numbers_made c.args.from c.args.end c.args.step c.in-Ok-Some.numbers (λ zero. c.if-step-eq0.false (ap (of_z w64) zero))
    (made ∙ same_range _ c.args.from _ c.args.end _ c.args.step (to_z-of_z w64 _ c.ranges.from) (to_z-of_z w64 _ c.ranges.end) (to_z-of_z w64 _ c.ranges.step))

pub returns-in-Ok-None : goal.returns-in-Ok-None
returns-in-Ok-None c =
    let more = rw c.in-Ok-None.field-0-is at c.in-Ok-None.ensures in
    numbers_too_many c.args.from c.args.end c.args.step c.args.most (λ zero. c.if-step-eq0.false (ap (of_z w64) zero))
    (subst (λ (ds : List Document). c.args.most < length ds) (same_range _ c.args.from _ c.args.end _ c.args.step (to_z-of_z w64 _ c.ranges.from) (to_z-of_z w64 _ c.ranges.end) (to_z-of_z w64 _ c.ranges.step)) more)
