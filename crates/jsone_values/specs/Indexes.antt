-- What `value[index]` and `value[from:to]` give (JSON-e, "Indexing and Slicing").
use Rattle.std.specs.Prelude.{ℕ, ℤ, length, Option, Some, None, Result, Ok, Err}
use Rattle.std.specs.Option.{option_and_then}
use Rattle.std.specs.Char.{encode_utf8}
use Rattle.std.specs.List.{slice_get}
use Rattle.std.specs.Str.{chars}
use Rattle.farm_text.specs.Document.{Document, whole, text}
use Rattle.jsone_values.specs.declared.faults.Fault.{Fault}
use Rattle.jsone_values.specs.declared.faults.Fault.TheVariants.{WrongKind, NoMember}
use Rattle.jsone_values.specs.Members.{member_of, item_of}
use Rattle.jsone_values.specs.Places.{place_of}
use Rattle.jsone_values.specs.Slices.{slice_of}

abbrev pub found_char : Option ℕ → Result Document Fault
found_char (Some c) = Ok (text (encode_utf8 c))
found_char None = Err NoMember

-- an item of a list, or a character of a text
abbrev pub at_place : ℤ → Document → Result Document Fault
at_place index (text bs) = found_char (option_and_then (slice_get (chars bs)) (place_of index (length (chars bs))))
at_place index d = item_of index d

-- by a number a place, by a text a key
abbrev pub indexed : Document → Document → Result Document Fault
indexed d (whole index) = at_place index d
indexed d (text key) = member_of key d
indexed d _ = Err WrongKind

-- the number that a side of a slice is, if it is there
abbrev pub side_of : Option Document → Result (Option ℤ) Fault
side_of None = Ok None
side_of (Some (whole z)) = Ok (Some z)
side_of (Some _) = Err WrongKind

abbrev pub sliced_by : Document → Result (Option ℤ) Fault → Result (Option ℤ) Fault → Result Document Fault
sliced_by d (Ok from) (Ok to) = slice_of from to d
sliced_by d _ _ = Err WrongKind

abbrev pub sliced : Document → Option Document → Option Document → Result Document Fault
sliced d from to = sliced_by d (side_of from) (side_of to)
