use Rattle.std.proofs.Common.{arith}
use Rattle.std.proofs.lemmas.Grind.{common_steps}
use Rattle.farm_text.proofs.reading.Unread.under.Goals as goal

pub returns-in-Ok : goal.returns-in-Ok
returns-in-Ok c = λ parts same. (c.in-NotWhole.parts, c.in-NotWhole.is, grind (arith, common_steps, same))
