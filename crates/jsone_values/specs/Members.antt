-- What a map has at a key, and a list at an index (JSON-e, "Property Access" and "Indexing and Slicing").
use Rattle.std.specs.Prelude.{ℕ, ℤ, List, [], ◌∷◌, length, Option, Some, None, Result, Ok, Err}
use Rattle.std.specs.Option.{option_and_then}
use Rattle.std.specs.List.{slice_get}
use Rattle.farm_text.specs.Document.{Document, array, object, Items, no_items, item, member_at}
use Rattle.jsone_values.specs.declared.faults.Fault.{Fault}
use Rattle.jsone_values.specs.declared.faults.Fault.TheVariants.{WrongKind, NoMember}
use Rattle.jsone_values.specs.Places.{place_of}

-- the members of a list, in order
abbrev pub listed : Items → List Document
listed no_items = []
listed (item d ds) = d ∷ listed ds

abbrev pub found : Option Document → Result Document Fault
found (Some d) = Ok d
found None = Err NoMember

-- a map has to have the key, and nothing else has keys
abbrev pub member_of : List ℕ → Document → Result Document Fault
member_of key (object ms) = found (member_at key ms)
member_of key _ = Err WrongKind

-- the member of a list at the place that the index means
abbrev pub item_of : ℤ → Document → Result Document Fault
item_of index (array ds) = found (option_and_then (slice_get (listed ds)) (place_of index (length (listed ds))))
item_of index _ = Err WrongKind
