-- Where a desk belongs: what no ask of it changes.
use Rattle.std.specs.Prelude.{ℕ, Option, None, []}
use Rattle.atomic_table.specs.Seated.{TableId}

-- Which shared desk it is of, where the history begins that all of its passes see, and how many asks were made or are left.
pub record Home (S : Type 0) : Type 0 where
  pub desk : TableId
  pub opening : Option S
  pub asks : ℕ

-- the home of a desk that is of no shared one
abbrev pub nowhere : {S : Type 0} → Home S
nowhere = record {
  desk = record { words = 0; slots = 0; views_name = 0; atom = 0; block = 0; offset = 0; slot_names = [] };
  opening = None;
  asks = 0;
}
