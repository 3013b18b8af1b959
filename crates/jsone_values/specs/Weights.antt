-- What a value weighs, by which expressions cost (this project's own).
use Rattle.std.specs.Prelude.{ℕ, ◌+◌, length}
use Rattle.farm_text.specs.Document.{Document, null, boolean, whole, text, array, object, Items, no_items, item, Members, no_members, member}

abbrev mutual
  pub weight : Document → ℕ
  weight null = 1
  weight (boolean b) = 1
  weight (whole z) = 1
  weight (text bs) = 1 + length bs
  weight (array ds) = 1 + items_weight ds
  weight (object ms) = 1 + members_weight ms

  pub items_weight : Items → ℕ
  items_weight no_items = 0
  items_weight (item d ds) = weight d + items_weight ds

  -- the keys with their bytes
  pub members_weight : Members → ℕ
  members_weight no_members = 0
  members_weight (member k d ms) = length k + (weight d + members_weight ms)
