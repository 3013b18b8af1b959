use Rattle.std.proofs.Common.{◌≡◌, pos, ap, ◌∙◌, arith, to_z, of_z}
use Rattle.std.specs.Int.{w16, w64}
use Rattle.std.proofs.lemmas.Int.{to_z_pos}
use Rattle.jiff_core.specs.Calendar.{days_from_civil}
use Rattle.jiff_core.specs.Date.{epoch_day}
use Rattle.jiff_core.proofs.SignedLemmas.{signed_arith, back_small}
use Rattle.farm_text.proofs.MomentLemmas.{year_of_later_day}
use Rattle.farm_text.proofs.moment.civil_day.Goals as goal

pub overflow_cast-result : goal.overflow_cast-result
overflow_cast-result c =
    let d = c.in-Ok.date in
    let number : epoch_day d ≡ pos c.args.number = c.in-Ok.ensures.value ∙ to_z_pos w64 c.args.number (omega arith) in
    let year = year_of_later_day d.year d.month d.day c.args.number (d.year_in, d.month_in, d.day_in) number in
    let back : to_z w16 (of_z w16 d.year) ≡ d.year = back_small w16 d.year (omega (arith, signed_arith)) in
    rw back (omega (arith, signed_arith), omega (arith, signed_arith))

pub returns-clause-number : goal.returns-clause-number
returns-clause-number c =
    let d = c.in-Ok.date in
    let number : epoch_day d ≡ pos c.args.number = c.in-Ok.ensures.value ∙ to_z_pos w64 c.args.number (omega arith) in
    let year = year_of_later_day d.year d.month d.day c.args.number (d.year_in, d.month_in, d.day_in) number in
    let back : to_z w16 (of_z w16 d.year) ≡ d.year = back_small w16 d.year (omega (arith, signed_arith)) in
    rw back (ap (λ y. days_from_civil y d.month d.day) year ∙ number)
