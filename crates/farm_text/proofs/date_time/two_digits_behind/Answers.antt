use Rattle.std.proofs.Common.{◌∷◌, ◌++◌, ap, ◌∙◌}
use Rattle.farm_text.specs.Moment.{last_digits}
use Rattle.farm_text.proofs.DateTimeLemmas.{if_some}
use Rattle.farm_text.proofs.date_time.two_digits_behind.Goals as goal

pub returns-clause-is : goal.returns-clause-is
returns-clause-is c = if_some c.two_digits.result (λ p is. c.in_ok-after.ensures.is ∙ ap (λ t. c.args.mark ∷ t) is) c.two_digits.ensures.is

pub returns-clause-only : goal.returns-clause-only
returns-clause-only c = λ n rest lt spelled. c.two_digits.ensures.only n rest lt (c.in_ok-after.ensures.only (last_digits 2 n ++ rest) spelled)
