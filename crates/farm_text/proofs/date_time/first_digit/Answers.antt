use Rattle.std.proofs.Common.{arith}
use Rattle.farm_text.proofs.DateTimeLemmas.{no_digit_ahead}
use Rattle.farm_text.proofs.date_time.first_digit.Goals as goal

pub returns-in_err-digit-clause-none : goal.returns-in_err-digit-clause-none
returns-in_err-digit-clause-none c = λ _. no_digit_ahead c.args.text.now (λ d lt is. c.digit.ensures.none (grind arith) d lt is)
