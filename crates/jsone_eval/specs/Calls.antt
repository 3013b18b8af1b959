-- What the functions of the language give for their arguments (JSON-e, "Builtins").
use Rattle.std.specs.Prelude.{◌≡◌, ℕ, pos, codes, List, [], ◌∷◌, is_some, Option, Some, None, Result, Ok, Err}
use Rattle.std.specs.Int.{int_min, int_max}
use Rattle.farm_text.specs.declared.doc.Doc.{Doc}
use Rattle.farm_text.specs.Document.{Document, boolean, whole, text}
use Rattle.jsone_values.specs.declared.faults.Fault.{Fault}
use Rattle.jsone_values.specs.declared.faults.Fault.TheVariants.{UnknownName, WrongKind}
use Rattle.jsone_values.specs.declared.faults.Stop.{Stop}
use Rattle.jsone_values.specs.Builtins.{kind_of, text_of, IsLengthOf}
use Rattle.jsone_values.specs.Letters.{lowered, raised, stripped, stripped_left, stripped_right}
use Rattle.jsone_values.specs.Lists.{picked, IsAbsolute, IsRead, joined}
use Rattle.jsone_values.specs.Operators.{IsNumber}
use Rattle.jsone_values.specs.Ranges.{ranged}
use Rattle.jsone_values.specs.Spans.{IsFromNow}
use Rattle.jsone_values.specs.Splits.{IsPieces}
use Rattle.jsone_expr.specs.declared.functions.Function.{Function}
use Rattle.jsone_expr.specs.declared.functions.Function.TheVariants.{Min, Max, Abs, Len, Str, Number, Lowercase, Uppercase, Strip, StripLeft, StripRight, Split, Join, Range, TypeOf, Defined, FromNow}
use Rattle.jsone_eval.specs.Scopes.{bound}

abbrev pub as_text : Result (List ℕ) Fault → Result Document Fault
as_text (Ok bs) = Ok (text bs)
as_text (Err f) = Err f

-- whether the name that a text is is bound
abbrev pub defined : List Document → Document → Result Document Fault
defined scopes (text name) = Ok (boolean (is_some (bound name scopes)))
defined scopes _ = Err WrongKind

-- `fromNow`: the moment that it begins at has to be a text, whatever the span is
abbrev pub IsFromNowAt : Document → Option Document → Result Document Fault → Type 0
IsFromNowAt d None r = IsFromNow d None r
IsFromNowAt d (Some (text from)) r = IsFromNow d (Some (text from)) r
IsFromNowAt d (Some _) r = r ≡ Err WrongKind

-- functions of one value; the others take another number of them
abbrev pub IsOfOne : Function → List Document → Document → Result Document Fault → Type 0
IsOfOne Abs scopes d r = IsAbsolute d r
IsOfOne Len scopes d r = IsNumber (IsLengthOf d) r
IsOfOne Str scopes d r = r ≡ as_text (text_of d)
IsOfOne Number scopes d r = IsRead d r
IsOfOne Lowercase scopes d r = r ≡ lowered d
IsOfOne Uppercase scopes d r = r ≡ raised d
IsOfOne Strip scopes d r = r ≡ stripped d
IsOfOne StripLeft scopes d r = r ≡ stripped_left d
IsOfOne StripRight scopes d r = r ≡ stripped_right d
IsOfOne TypeOf scopes d r = r ≡ Ok (text (kind_of d))
IsOfOne Defined scopes d r = r ≡ defined scopes d
IsOfOne FromNow scopes d r = IsFromNowAt d (bound (codes "now") scopes) r
IsOfOne _ scopes d r = r ≡ Err WrongKind

-- of two
abbrev pub IsOfTwo : Function → Document → Document → Result Document Fault → Type 0
IsOfTwo Split d e r = IsPieces d e r
IsOfTwo Join d e r = r ≡ joined d e
IsOfTwo Range d e r = r ≡ ranged d e (whole (pos 1))
IsOfTwo FromNow d e r = IsFromNowAt d (Some e) r
IsOfTwo _ d e r = r ≡ Err WrongKind

-- of three
abbrev pub IsOfThree : Function → Document → Document → Document → Result Document Fault → Type 0
IsOfThree Range d e f r = r ≡ ranged d e f
IsOfThree _ d e f r = r ≡ Err WrongKind

-- of so many as are given, which `min` and `max` do not count
abbrev pub IsOfMany : Function → List Document → List Document → Result Document Fault → Type 0
IsOfMany f scopes (d ∷ []) r = IsOfOne f scopes d r
IsOfMany f scopes (d ∷ e ∷ []) r = IsOfTwo f d e r
IsOfMany f scopes (d ∷ e ∷ g ∷ []) r = IsOfThree f d e g r
IsOfMany f scopes _ r = r ≡ Err WrongKind

abbrev pub IsCalled : Function → List Document → List Document → Result Document Fault → Type 0
IsCalled Min scopes ds r = r ≡ picked int_min ds
IsCalled Max scopes ds r = r ≡ picked int_max ds
IsCalled f scopes ds r = IsOfMany f scopes ds r

-- a name is called only where it is a function's
abbrev pub IsCall : Option Function → List Document → List Document → Result Document Fault → Type 0
IsCall (Some f) scopes ds r = IsCalled f scopes ds r
IsCall None scopes ds r = r ≡ Err UnknownName

-- a value that is made, whatever it weighs; for private clauses
abbrev pub made : Result Doc Stop → Result (Option Doc) Stop
made (Ok d) = Ok (Some d)
made (Err s) = Err s
