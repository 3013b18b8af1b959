-- What functions of the language give for several numbers, and for a list that is joined (JSON-e, "Builtins").
use Rattle.std.specs.Prelude.{◌≡◌, ℕ, ℤ, pos, unsigned_abs, if◌then◌else◌, Bool, true, false, List, [], ◌∷◌, Result, Ok, Err}
use Rattle.std.specs.List.{list_all, join_by}
use Rattle.farm_text.specs.Document.{Document, whole, text, array, document_text}
use Rattle.jsone_values.specs.declared.faults.Fault.{Fault}
use Rattle.jsone_values.specs.declared.faults.Fault.TheVariants.{WrongKind}
use Rattle.jsone_values.specs.Members.{listed}
use Rattle.jsone_values.specs.Numbers.{IsInRange, IsNumberOf}
use Rattle.jsone_values.specs.Operators.{IsNumber}

-- the one that is picked of a number and of those that follow, which have to be numbers
abbrev pub picked_from : (ℤ → ℤ → ℤ) → ℤ → List Document → Result Document Fault
picked_from pick a [] = Ok (whole a)
picked_from pick a (whole b ∷ ds) = picked_from pick (pick a b) ds
picked_from pick a (_ ∷ ds) = Err WrongKind

-- `min` and `max`, of one or more numbers
abbrev pub picked : (ℤ → ℤ → ℤ) → List Document → Result Document Fault
picked pick (whole a ∷ ds) = picked_from pick a ds
picked pick _ = Err WrongKind

-- `abs`
abbrev pub IsAbsolute : Document → Result Document Fault → Type 0
IsAbsolute (whole z) r = IsNumber (IsInRange (pos (unsigned_abs z))) r
IsAbsolute _ r = r ≡ Err WrongKind

-- `number`, of a text
abbrev pub IsRead : Document → Result Document Fault → Type 0
IsRead (text bs) r = IsNumber (IsNumberOf bs) r
IsRead _ r = r ≡ Err WrongKind

-- `join`: of a list of texts and numbers
abbrev pub is_part : Document → Bool
is_part (text bs) = true
is_part (whole z) = true
is_part _ = false

abbrev pub part_text : Document → List ℕ
part_text (text bs) = bs
part_text d = document_text d

abbrev pub joined : Document → Document → Result Document Fault
joined (array ds) (text sep) = if list_all is_part (listed ds) then Ok (text (join_by part_text sep (listed ds))) else Err WrongKind
joined _ _ = Err WrongKind
