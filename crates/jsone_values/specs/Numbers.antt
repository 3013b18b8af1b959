-- What operators do to whole numbers (JSON-e, "Arithmetic"; 64 bits with a sign, and exact division, are this project's).
use Rattle.std.specs.Prelude.{◌≡◌, ◌≢◌, ℕ, ℤ, pos, negsuc, ◌+◌, ◌*◌, ◌-◌, FitsSigned, List, [], ◌∷◌, Result, Ok, Err, int_div, int_rem, neg_ℤ, Bool, true, false, not, ◌&&◌, length, ◌==◌, if◌then◌else◌}
use Rattle.std.specs.List.{list_all}
use Rattle.std.specs.Char.{is_ascii_digit}
use Rattle.std.specs.Int.{w64, int_pow}
use Rattle.jsone_values.specs.declared.faults.Fault.{Fault}
use Rattle.jsone_values.specs.declared.faults.Fault.TheVariants.{OutOfRange, NotExact, WrongKind}

-- the number, where it has 64 bits with a sign
abbrev pub IsInRange : ℤ → Result ℤ Fault → Type 0
IsInRange z (Ok n) = FitsSigned w64 z × (n ≡ z)
IsInRange z (Err f) = (¬ FitsSigned w64 z) × (f ≡ OutOfRange)

-- the quotient, where the divisor is not 0 and leaves no rest
pub record IsQuotient (a b : ℤ) (r : Result ℤ Fault) : Type 0 where
  pub by_zero : b ≡ pos 0 → r ≡ Err NotExact
  pub rest : b ≢ pos 0 → int_rem a b ≢ pos 0 → r ≡ Err NotExact
  pub exact : b ≢ pos 0 → int_rem a b ≡ pos 0 → IsInRange (int_div a b) r

-- the power, of an exponent that is not below 0
abbrev pub IsPower : ℤ → ℤ → Result ℤ Fault → Type 0
IsPower base (pos e) r = IsInRange (int_pow base e) r
IsPower base (negsuc e) r = r ≡ Err NotExact

-- the number that decimal digits write, behind those that write n
abbrev pub digits_from : ℕ → List ℕ → ℕ
digits_from n [] = n
digits_from n (d ∷ ds) = digits_from (n * 10 + (d - 48)) ds

-- one digit or more
abbrev pub are_digits : List ℕ → Bool
are_digits ds = not (length ds == 0) && list_all is_ascii_digit ds

-- the bytes behind a minus, if they begin with one
abbrev pub behind_minus : List ℕ → List ℕ
behind_minus [] = []
behind_minus (b ∷ bs) = if b == 45 then bs else []

-- the number that the text writes, digits or digits behind a minus; no other text writes one
pub record IsNumberOf (text : List ℕ) (r : Result ℤ Fault) : Type 0 where
  pub from_zero : are_digits text ≡ true → IsInRange (pos (digits_from 0 text)) r
  pub below_zero : are_digits (behind_minus text) ≡ true → IsInRange (neg_ℤ (pos (digits_from 0 (behind_minus text)))) r
  pub no_number : are_digits text ≡ false → are_digits (behind_minus text) ≡ false → r ≡ Err WrongKind
