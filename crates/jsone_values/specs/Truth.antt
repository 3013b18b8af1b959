-- Which values are true (JSON-e, "Truthiness"), and which of two comes first.
use Rattle.std.specs.Prelude.{pos, negsuc, Bool, true, false, [], ◌∷◌, nat_eq, not, Result, Ok, Err}
use Rattle.std.specs.declared.cmp.Ordering.{Ordering}
use Rattle.std.specs.Ordering.{nat_cmp, int_cmp}
use Rattle.std.specs.Cmp.Lexicographic.{slice_cmp}
use Rattle.farm_text.specs.Document.{Document, null, boolean, whole, text, array, object, no_items, item, no_members, member}
use Rattle.jsone_values.specs.declared.faults.Fault.{Fault}
use Rattle.jsone_values.specs.declared.faults.Fault.TheVariants.{WrongKind}

-- false are null, false, 0, and an empty text, list or map
abbrev pub is_true : Document → Bool
is_true null = false
is_true (boolean b) = b
is_true (whole (pos n)) = not (nat_eq n 0)
is_true (whole (negsuc n)) = true
is_true (text []) = false
is_true (text (b ∷ bs)) = true
is_true (array no_items) = false
is_true (array (item d ds)) = true
is_true (object no_members) = false
is_true (object (member k d ms)) = true

-- the order of two numbers, or of two texts by their bytes
abbrev pub order_of : Document → Document → Result Ordering Fault
order_of (whole a) (whole b) = Ok (int_cmp a b)
order_of (text s) (text t) = Ok (slice_cmp nat_cmp s t)
order_of _ _ = Err WrongKind
