use Rattle.std.proofs.Common.{◌≡◌, ℕ, ◌^◌, ◌<◌, ◌≤◌, ◌++◌, length}
use Rattle.farm_text.specs.Moment.{last_digits}
use Rattle.farm_text.proofs.date_time.leading_number.Given as goal

abbrev pub invariant-digits : goal.invariant-digits
invariant-digits l = (k : ℕ) × (k ≤ 9) × (l.scale ≡ 10 ^ k) × (l.number < 10 ^ k) × (l.text ≡ last_digits k l.number ++ l.rest)

abbrev pub decreases-digits : goal.decreases-digits
decreases-digits l = length l.rest
