-- The way to a place in a document, from the inside out; for private clauses.
use Rattle.std.specs.Prelude.{ℕ, List, [], ◌∷◌, ◌++◌, decimal, string_bytes}
use Rattle.farm_text.specs.Reading.{escaped}
use Rattle.farm_text.specs.declared.pointer.Part.{Part}
use Rattle.farm_text.specs.declared.pointer.Part.TheVariants.{Index, Key}

-- one step, as it stands in a pointer
abbrev pub part_text : Part → List ℕ
part_text (Index i) = decimal i
part_text (Key k) = escaped (string_bytes k)

-- the pointer to what lies at `path` below all these steps, the innermost first
abbrev pub pointer_under : List ℕ → List Part → List ℕ
pointer_under path [] = path
pointer_under path (p ∷ ps) = pointer_under (47 ∷ (part_text p ++ path)) ps
