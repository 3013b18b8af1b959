-- Maps that an expression writes out (JSON-e, "Object Literals"; that no key stands twice is this project's).
use Rattle.std.specs.Prelude.{ℕ, List, [], ◌∷◌, if◌then◌else◌, is_some, Result, Ok, Err}
use Rattle.farm_text.specs.Document.{Document, object, Members, no_members, put, member_at}
use Rattle.jsone_values.specs.declared.faults.Fault.{Fault}
use Rattle.jsone_values.specs.declared.faults.Fault.TheVariants.{KeyTwice}

-- the map of these members and the further ones
abbrev pub map_with : Members → List (List ℕ × Document) → Result Document Fault
map_with ms [] = Ok (object ms)
map_with ms (m ∷ more) = if is_some (member_at m.0 ms) then Err KeyTwice else map_with (put m.0 m.1 ms) more

abbrev pub map_of : List (List ℕ × Document) → Result Document Fault
map_of ms = map_with no_members ms
