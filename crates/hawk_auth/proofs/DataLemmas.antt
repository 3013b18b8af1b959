-- A document is told by its data: as farm_text proves it, for the lemmas of this crate and of those above.
use Rattle.std.proofs.Common.{◌≡◌, ℕ, List, ℤ, pos, negsuc, Some, option_map, unwrap_or, refl, sym, ap, ap₂, ◌∙◌}
use Rattle.serde_json.specs.Data as json
use Rattle.farm_text.specs.Document.{Document, null, boolean, whole, text, array, object, Items, no_items, item, Members, no_members, member, data_of, items_data, members_data}
use Rattle.farm_text.specs.Reading.{IsJson}

abbrev whole_of : json.Num → ℤ
whole_of (json.unsigned n) = pos n
whole_of (json.negative z) = z
whole_of (json.float x) = pos 0

abbrev mutual
  document_of : json.Data → Document
  document_of json.null = null
  document_of (json.boolean b) = boolean b
  document_of (json.number n) = whole (whole_of n)
  document_of (json.string s) = text s
  document_of (json.array ds) = array (items_from ds)
  document_of (json.object ms) = object (members_from ms)

  items_from : json.Items → Items
  items_from json.no_items = no_items
  items_from (json.item d ds) = item (document_of d) (items_from ds)

  members_from : json.Members → Members
  members_from json.no_members = no_members
  members_from (json.member k d ms) = member k (document_of d) (members_from ms)

mutual
  back : (d : Document) → document_of (data_of d) ≡ d
  back null = refl
  back (boolean b) = refl
  back (whole (pos n)) = refl
  back (whole (negsuc n)) = refl
  back (text s) = refl
  back (array ds) = ap array (items_back ds)
  back (object ms) = ap object (members_back ms)

  items_back : (ds : Items) → items_from (items_data ds) ≡ ds
  items_back no_items = refl
  items_back (item d ds) = ap₂ item (back d) (items_back ds)

  members_back : (ms : Members) → members_from (members_data ms) ≡ ms
  members_back no_members = refl
  members_back (member k d ms) = ap₂ (member k) (back d) (members_back ms)

read_as : {A : Type 0} (f : json.Data → A) (other : A) (a b : json.Data) → Some a ≡ Some b → f a ≡ f b
read_as f other a b same = ap (λ o. unwrap_or (option_map f o) other) same

pub IsJson-one : (bytes : List ℕ) (a b : Document) → IsJson bytes (data_of a) → IsJson bytes (data_of b) → a ≡ b
IsJson-one bytes a b x y = sym (back a) ∙ read_as document_of null (data_of a) (data_of b) (sym x.1 ∙ y.1) ∙ back b
