-- The part of a list or a text that a slice means (JSON-e, "Indexing and Slicing"): a side that is absent is an end, and a text counts by characters.
use Rattle.std.specs.Prelude.{ℕ, ℤ, ◌-◌, List, length, take, drop, Option, Some, None, Result, Ok, Err, encode_utf8_all}
use Rattle.std.specs.Str.{chars}
use Rattle.farm_text.specs.Document.{Document, text, array, items_of}
use Rattle.jsone_values.specs.declared.faults.Fault.{Fault}
use Rattle.jsone_values.specs.declared.faults.Fault.TheVariants.{WrongKind}
use Rattle.jsone_values.specs.Places.{cut_of}
use Rattle.jsone_values.specs.Members.{listed}

abbrev pub start_of : Option ℤ → ℕ → ℕ
start_of None count = 0
start_of (Some index) count = cut_of index count

abbrev pub end_of : Option ℤ → ℕ → ℕ
end_of None count = count
end_of (Some index) count = cut_of index count

-- nothing, where the ends cross
abbrev pub between : {A : Type 0} → Option ℤ → Option ℤ → List A → List A
between from to xs = take (end_of to (length xs) - start_of from (length xs)) (drop (start_of from (length xs)) xs)

abbrev pub slice_of : Option ℤ → Option ℤ → Document → Result Document Fault
slice_of from to (array ds) = Ok (array (items_of (between from to (listed ds))))
slice_of from to (text bs) = Ok (text (encode_utf8_all (between from to (chars bs))))
slice_of from to _ = Err WrongKind
