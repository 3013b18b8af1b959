-- What the operators of expressions give for the values of their sides (JSON-e, "Operators").
use Rattle.std.specs.Prelude.{◌≡◌, Bool, true, false, not, Result, Ok, Err}
use Rattle.std.specs.declared.cmp.Ordering.{Ordering}
use Rattle.std.specs.declared.cmp.Ordering.TheVariants.{Less, Equal as same, Greater}
use Rattle.farm_text.specs.Document.{Document, boolean}
use Rattle.jsone_values.specs.declared.faults.Fault.{Fault}
use Rattle.jsone_values.specs.Truth.{is_true, order_of}
use Rattle.jsone_values.specs.Operators.{IsSum, IsDifference, IsProduct, IsExactQuotient, IsRaised, IsNegated, IsKept, IsTruthOf, IsEquality, IsWithin}
use Rattle.jsone_expr.specs.declared.marks.Operator.{Operator}
use Rattle.jsone_expr.specs.declared.marks.Operator.TheVariants.{Or, And, Within, Equal, NotEqual, Below, AtMost, Above, AtLeast, Plus, Minus, Times, Over, Power}
use Rattle.jsone_expr.specs.declared.marks.Sign.{Sign}
use Rattle.jsone_expr.specs.declared.marks.Sign.TheVariants.{Denied, Negative, Positive}

-- `!`, `-` and `+`
abbrev pub IsSigned : Sign → Document → Result Document Fault → Type 0
IsSigned Denied d r = r ≡ Ok (boolean (not (is_true d)))
IsSigned Negative d r = IsNegated d r
IsSigned Positive d r = IsKept d r

-- which orders an operator asks for
abbrev pub is_below : Ordering → Bool
is_below Less = true
is_below same = false
is_below Greater = false

abbrev pub is_above : Ordering → Bool
is_above Less = false
is_above same = false
is_above Greater = true

abbrev pub compared : (Ordering → Bool) → Result Ordering Fault → Result Bool Fault
compared test (Ok o) = Ok (test o)
compared test (Err f) = Err f

abbrev pub truth : Result Bool Fault → Result Document Fault
truth (Ok b) = Ok (boolean b)
truth (Err f) = Err f

-- the left side decides: of `&&` a false one, of `||` a true one
abbrev pub decides : Operator → Document → Bool
decides And d = not (is_true d)
decides Or d = is_true d
decides _ d = false

-- of two sides of which the left one does not decide
abbrev pub IsJoined : Operator → Document → Document → Result Document Fault → Type 0
IsJoined Or d e r = r ≡ Ok (boolean (is_true e))
IsJoined And d e r = r ≡ Ok (boolean (is_true e))
IsJoined Within d e r = IsWithin d e r
IsJoined Equal d e r = IsEquality d e r
IsJoined NotEqual d e r = IsTruthOf (¬ (d ≡ e)) r
IsJoined Below d e r = r ≡ truth (compared is_below (order_of d e))
IsJoined AtMost d e r = r ≡ truth (compared (λ o. not (is_above o)) (order_of d e))
IsJoined Above d e r = r ≡ truth (compared is_above (order_of d e))
IsJoined AtLeast d e r = r ≡ truth (compared (λ o. not (is_below o)) (order_of d e))
IsJoined Plus d e r = IsSum d e r
IsJoined Minus d e r = IsDifference d e r
IsJoined Times d e r = IsProduct d e r
IsJoined Over d e r = IsExactQuotient d e r
IsJoined Power d e r = IsRaised d e r
