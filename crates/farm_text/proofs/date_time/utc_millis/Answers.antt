use Rattle.std.proofs.Common.{◌≡◌, to_z-of_z, ◌∙◌, arith}
use Rattle.jiff_core.proofs.SignedLemmas.{signed_arith}
use Rattle.farm_text.proofs.date_time.utc_millis.Goals as goal

pub returns : goal.returns
returns c =
    let days : c.from.result ≡ c.args.days = c.from.ensures ∙ to_z-of_z c.ranges.days in
    let offset : c.from-3.result ≡ c.args.offset = c.from-3.ensures ∙ to_z-of_z c.ranges.offset in
    rw (days, offset) (omega (arith, signed_arith, c.from-2.ensures, c.requires.seconds, c.requires.thousandths, c.ranges.days.sfits, c.ranges.offset.sfits))
