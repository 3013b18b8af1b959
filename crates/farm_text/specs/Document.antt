-- JSON with whole numbers (RFC 8259): what a document is, and its text.
use Rattle.std.specs.Prelude.{ℕ, ℤ, pos, negsuc, List, [], ◌∷◌, Bool, Option, Some, None}
use Rattle.std.specs.Ordering.{nat_cmp, match_ordering}
use Rattle.std.specs.Cmp.Lexicographic.{slice_cmp}
use Rattle.serde_json.specs.Data as json
use Rattle.serde_json.specs.Written.{compact_text}

mutual
  pub data Document : Type 0 where
    null : Document
    boolean : Bool → Document
    whole : ℤ → Document
    text : List ℕ → Document
    array : Items → Document
    object : Members → Document

  pub data Items : Type 0 where
    no_items : Items
    item : Document → Items → Items

  pub data Members : Type 0 where
    no_members : Members
    member : List ℕ → Document → Members → Members

-- the documents of a list, as items
abbrev pub items_of : List Document → Items
items_of [] = no_items
items_of (d ∷ ds) = item d (items_of ds)

-- keys with their documents, as members
abbrev pub members_of : List (List ℕ × Document) → Members
members_of [] = no_members
members_of (m ∷ ms) = member m.0 m.1 (members_of ms)

-- the members with d at k; keys rise by bytes
abbrev pub put : List ℕ → Document → Members → Members
put k d no_members = member k d no_members
put k d (member l e ms) = match_ordering (slice_cmp nat_cmp k l) (member k d (member l e ms)) (member l d ms) (member l e (put k d ms))

-- what the members have at k
abbrev pub member_at : List ℕ → Members → Option Document
member_at k no_members = None
member_at k (member l d ms) = match_ordering (slice_cmp nat_cmp k l) (member_at k ms) (Some d) (member_at k ms)

-- what a document has at the key k, which only an object can have
abbrev pub get : List ℕ → Document → Option Document
get k null = None
get k (boolean b) = None
get k (whole z) = None
get k (text s) = None
get k (array ds) = None
get k (object ms) = member_at k ms

-- a whole number is serde_json's `u64` from 0 on, and its `i64` below
abbrev pub number_of : ℤ → json.Num
number_of (pos n) = json.unsigned n
number_of (negsuc n) = json.negative (negsuc n)

-- the value of serde_json that is this document
abbrev mutual
  pub data_of : Document → json.Data
  data_of null = json.null
  data_of (boolean b) = json.boolean b
  data_of (whole z) = json.number (number_of z)
  data_of (text s) = json.string s
  data_of (array ds) = json.array (items_data ds)
  data_of (object ms) = json.object (members_data ms)

  pub items_data : Items → json.Items
  items_data no_items = json.no_items
  items_data (item d ds) = json.item (data_of d) (items_data ds)

  pub members_data : Members → json.Members
  members_data no_members = json.no_members
  members_data (member k d ms) = json.member k (data_of d) (members_data ms)

-- the text of a document without spaces, as serde_json writes it
abbrev pub document_text : Document → List ℕ
document_text d = compact_text (data_of d)
