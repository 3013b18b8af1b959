use Rattle.std.proofs.Common.{◌/◌, ◌%◌, slice_index, ap, arith}
use Rattle.farm_text.proofs.date_time.two_digits.Goals as goal

pub returns-in_err-high-clause-only : goal.returns-in_err-high-clause-only
returns-in_err-high-clause-only c = λ n rest lt spelled. absurd (c.digit.ensures.none (grind arith) (n / 10 % 10) (omega arith) (ap (λ l. slice_index l 0) spelled))

pub returns-in_err-low-clause-only : goal.returns-in_err-low-clause-only
returns-in_err-low-clause-only c = λ n rest lt spelled. absurd (c.digit-2.ensures.none (grind arith) (n % 10) (omega arith) (ap (λ l. slice_index l 1) spelled))
