-- What some functions of the language give for one value (JSON-e, "Builtins").
use Rattle.std.specs.Prelude.{ℕ, ℤ, pos, codes, List, length, Result, Ok, Err, ◌≡◌}
use Rattle.std.specs.Str.{chars}
use Rattle.farm_text.specs.Document.{Document, null, boolean, whole, text, array, object, document_text}
use Rattle.jsone_values.specs.declared.faults.Fault.{Fault}
use Rattle.jsone_values.specs.declared.faults.Fault.TheVariants.{WrongKind}
use Rattle.jsone_values.specs.Members.{listed}
use Rattle.jsone_values.specs.Numbers.{IsInRange}

-- `typeof`
abbrev pub kind_of : Document → List ℕ
kind_of null = codes "null"
kind_of (boolean b) = codes "boolean"
kind_of (whole z) = codes "number"
kind_of (text bs) = codes "string"
kind_of (array ds) = codes "array"
kind_of (object ms) = codes "object"

-- `str`: a text is its own, and a number, a truth value and null have that of JSON
abbrev pub text_of : Document → Result (List ℕ) Fault
text_of (text bs) = Ok bs
text_of (array ds) = Err WrongKind
text_of (object ms) = Err WrongKind
text_of d = Ok (document_text d)

-- `len`: the characters of a text, the members of a list
abbrev pub IsLengthOf : Document → Result ℤ Fault → Type 0
IsLengthOf (text bs) r = IsInRange (pos (length (chars bs))) r
IsLengthOf (array ds) r = IsInRange (pos (length (listed ds))) r
IsLengthOf d r = r ≡ Err WrongKind
