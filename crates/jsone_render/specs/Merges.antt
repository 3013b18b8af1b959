-- `$merge`, `$mergeDeep`, `$flatten`, `$flattenDeep`, `$reverse` and `$json`: what they give for a value (JSON-e, "Operators").
use Rattle.std.specs.Prelude.{List, [], ◌∷◌, ◌++◌, reverse, Option, Some, Result, Ok, Err}
use Rattle.farm_text.specs.Document.{Document, text, array, object, Items, no_items, item, items_of, Members, no_members, member, member_at, put, document_text}
use Rattle.jsone_values.specs.declared.faults.Fault.{Fault}
use Rattle.jsone_values.specs.declared.faults.Fault.TheVariants.{WrongKind}
use Rattle.jsone_values.specs.Members.{listed}

-- further members, of which each takes the place of one that has its key
abbrev pub put_all : Members → Members → Members
put_all ms no_members = ms
put_all ms (member k d more) = put_all (put k d ms) more

-- maps, of which later ones win
abbrev pub merged_onto : Members → List Document → Result Document Fault
merged_onto ms [] = Ok (object ms)
merged_onto ms (object more ∷ ds) = merged_onto (put_all ms more) ds
merged_onto ms (_ ∷ ds) = Err WrongKind

abbrev pub merged : List Document → Result Document Fault
merged ds = merged_onto no_members ds

abbrev mutual
  -- a later value where an earlier one may stand: maps are merged, lists are joined, and else the later one wins
  pub deep : Document → Option Document → Document
  deep (array ds) (Some (array es)) = array (items_of (listed es ++ listed ds))
  deep (object ms) (Some (object before)) = object (deep_all ms before)
  deep d e = d

  pub deep_all : Members → Members → Members
  deep_all no_members before = before
  deep_all (member k d ms) before = deep_all ms (put k (deep d (member_at k before)) before)

abbrev pub deep_merged_onto : Members → List Document → Result Document Fault
deep_merged_onto ms [] = Ok (object ms)
deep_merged_onto ms (object more ∷ ds) = deep_merged_onto (deep_all more ms) ds
deep_merged_onto ms (_ ∷ ds) = Err WrongKind

-- the members of the members that are lists, and the other members
abbrev pub flattened : List Document → List Document
flattened [] = []
flattened (array es ∷ ds) = listed es ++ flattened ds
flattened (d ∷ ds) = d ∷ flattened ds

abbrev mutual
  -- what is no list, at any depth
  pub leaves : Document → List Document
  leaves (array ds) = items_leaves ds
  leaves d = d ∷ []

  pub items_leaves : Items → List Document
  items_leaves no_items = []
  items_leaves (item d ds) = leaves d ++ items_leaves ds

-- each of a list alone
abbrev pub of_list : (List Document → Result Document Fault) → Document → Result Document Fault
of_list f (array ds) = f (listed ds)
of_list f _ = Err WrongKind

abbrev pub listing : List Document → Result Document Fault
listing ds = Ok (array (items_of ds))

abbrev pub merge_of : Document → Result Document Fault
merge_of d = of_list merged d

abbrev pub deep_merge_of : Document → Result Document Fault
deep_merge_of d = of_list (deep_merged_onto no_members) d

abbrev pub flatten_of : Document → Result Document Fault
flatten_of d = of_list (λ ds. listing (flattened ds)) d

abbrev pub deep_flatten_of : Document → Result Document Fault
deep_flatten_of (array ds) = listing (items_leaves ds)
deep_flatten_of _ = Err WrongKind

abbrev pub reverse_of : Document → Result Document Fault
reverse_of d = of_list (λ ds. listing (reverse ds)) d

-- the compact text
abbrev pub json_of : Document → Result Document Fault
json_of d = Ok (text (document_text d))
