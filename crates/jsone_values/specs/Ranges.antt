-- The numbers of a range (JSON-e, "Builtins").
use Rattle.std.specs.Prelude.{ℕ, zero, suc, ℤ, pos, negsuc, nat_eq, ◌+◌, ◌-◌, ◌/◌, ◌+ℤ◌, ◌-ℤ◌, if◌then◌else◌, Bool, false, List, [], ◌∷◌, Result, Ok, Err}
use Rattle.farm_text.specs.Document.{Document, whole, array, items_of}
use Rattle.jsone_values.specs.declared.faults.Fault.{Fault}
use Rattle.jsone_values.specs.declared.faults.Fault.TheVariants.{WrongKind, OutOfRange}

abbrev pub is_zero : ℤ → Bool
is_zero (pos n) = nat_eq n 0
is_zero (negsuc n) = false

abbrev pub positive_part : ℤ → ℕ
positive_part (pos n) = n
positive_part (negsuc n) = 0

-- how many steps stay before the end: the distance over the step, rounded up
abbrev pub steps_before : ℤ → ℤ → ℤ → ℕ
steps_before from end (pos n) = (positive_part (end -ℤ from) + (n - 1)) / n
steps_before from end (negsuc n) = (positive_part (from -ℤ end) + n) / (n + 1)

-- so many numbers, each a step behind the one before it
abbrev pub stepping : ℤ → ℤ → ℕ → List Document
stepping from step zero = []
stepping from step (suc n) = whole from ∷ stepping (from +ℤ step) step n

-- `range`: the numbers from the first on, and before the second
abbrev pub ranged : Document → Document → Document → Result Document Fault
ranged (whole from) (whole end) (whole step) =
    if is_zero step then Err OutOfRange else Ok (array (items_of (stepping from step (steps_before from end step))))
ranged _ _ _ = Err WrongKind
