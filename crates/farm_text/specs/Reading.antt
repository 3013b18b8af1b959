-- Which document a JSON text is (RFC 8259), by serde_json's reading, and where it has a number that is not whole.
use Rattle.std.specs.Prelude.{◌≡◌, ℕ, suc, ◌==◌, List, [], ◌∷◌, ◌++◌, map, decimal, if◌then◌else◌, Some, is_some, IsUtf8}
use Rattle.serde_json.specs.Data.{Data, null, boolean, number, string, array, object, Items, no_items, item, Members, no_members, member}
use Rattle.serde_json.specs.Find.{as_i64}
use Rattle.serde_json.specs.Read.{read}

-- the bytes are UTF-8, and serde_json's grammar reads them as this value
abbrev pub IsJson : List ℕ → Data → Type 0
IsJson bytes d = IsUtf8 bytes × (read bytes ≡ Some d)

-- a key as part of a pointer: `~0` for `~`, and `~1` for `/` (RFC 6901)
abbrev pub escaped : List ℕ → List ℕ
escaped [] = []
escaped (c ∷ cs) = (if c == 126 then 126 ∷ 48 ∷ [] else (if c == 47 then 126 ∷ 49 ∷ [] else c ∷ [])) ++ escaped cs

-- the JSON pointers (RFC 6901) of the numbers that have no `i64`: depth first, in the order of a list's items and of rising keys
abbrev mutual
  pub unwhole : Data → List (List ℕ)
  unwhole null = []
  unwhole (boolean b) = []
  unwhole (number n) = if is_some (as_i64 n) then [] else [] ∷ []
  unwhole (string s) = []
  unwhole (array ds) = unwhole_items 0 ds
  unwhole (object ms) = unwhole_members ms

  -- of the items from this place on
  pub unwhole_items : ℕ → Items → List (List ℕ)
  unwhole_items i no_items = []
  unwhole_items i (item d ds) = map (λ path. 47 ∷ (decimal i ++ path)) (unwhole d) ++ unwhole_items (suc i) ds

  pub unwhole_members : Members → List (List ℕ)
  unwhole_members no_members = []
  unwhole_members (member k d ms) = map (λ path. 47 ∷ (escaped k ++ path)) (unwhole d) ++ unwhole_members ms
