-- The call's entry is the number that was asked; a sum holds nothing.
use Rattle.std.proofs.Common.{rules, Some}
use Rattle.desk_tests.proofs.asks.SumObject.ask.Goals as goal

pub returns : goal.returns
returns c = (Some c.args.question, search rules, λ opening seen leads held. tt)
