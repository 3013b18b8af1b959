use mir.Syntax.{w64}
use mir.ValLaws.{to_z-of_z}
use Rattle.jsone_values.proofs.PowerLemmas.{power_past}
use Rattle.jsone_values.proofs.numbers.power.Goals as goal

pub returns-else-turns-lt64 : goal.returns-else-turns-lt64
returns-else-turns-lt64 c =
    power_past c.args.base c.args.exponent _ _ c.raised-else-turns-lt64.result (to_z-of_z w64 c.args.base c.ranges.base) (to_z-of_z w64 c.args.exponent c.ranges.exponent) c.if-turns-lt64.false c.if-exponent-lt0.false c.raised-else-turns-lt64.ensures
