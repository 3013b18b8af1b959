-- What is written of a document has the grammar's value of its data, and each number in it is whole.
use Rattle.std.specs.Prelude.{◌≡◌, ℕ, [], Some}
use Rattle.serde_json.specs.Data as json
use Rattle.serde_json.specs.Read.{of_json, of_items, of_members}
use Rattle.serde_json.specs.Written.{outline, items_outline, members_outline}
use Rattle.farm_text.specs.Document.{Document, Items, Members, data_of, items_data, members_data}
use Rattle.farm_text.specs.Reading.{unwhole, unwhole_items, unwhole_members}

abbrev pub ReadsBack : Document → Type 0
ReadsBack d = of_json (outline (data_of d)) ≡ Some (data_of d)

abbrev pub ItemsReadBack : Items → Type 0
ItemsReadBack ds = of_items (items_outline (items_data ds)) ≡ Some (items_data ds)

abbrev pub MembersReadBack : Members → Type 0
MembersReadBack ms = of_members (members_outline (members_data ms)) json.no_members ≡ Some (members_data ms)

-- each number has an `i64`
abbrev pub IsWhole : Document → Type 0
IsWhole d = unwhole (data_of d) ≡ []

abbrev pub AreWhole : Items → Type 0
AreWhole ds = (place : ℕ) → unwhole_items place (items_data ds) ≡ []

abbrev pub MembersWhole : Members → Type 0
MembersWhole ms = unwhole_members (members_data ms) ≡ []
