use Rattle.std.proofs.Common.{◌≡◌, ◌<◌, ◌^◌, drop}
use Rattle.jsone_values.specs.Numbers.{digits_from}
use Rattle.jsone_values.proofs.numbers.size_of.Given as goal

-- with the digits that are left it is the whole number
abbrev pub invariant-loop-digit : goal.invariant-loop-digit
invariant-loop-digit l = record { whole : digits_from l.size (drop l.digit-index l.digits) ≡ digits_from 0 l.digits; small : l.size < 2 ^ 64 }
