-- One more member of a map that is written out.
use Rattle.std.proofs.Common.{◌≡◌, ℕ, true, false, List, ◌∷◌, Err, is_some, refl}
use Rattle.farm_text.specs.Document.{Document, Members, member_at, put}
use Rattle.jsone_values.specs.declared.faults.Fault.TheVariants.{KeyTwice}
use Rattle.jsone_values.specs.Maps.{map_with}

pub one_member : (ms : Members) (key : List ℕ) (d : Document) (more : List (List ℕ × Document)) → is_some (member_at key ms) ≡ false → map_with ms ((key, d) ∷ more) ≡ map_with (put key d ms) more
one_member ms key d more new = rw new refl

pub key_twice : (ms : Members) (key : List ℕ) (d : Document) (more : List (List ℕ × Document)) → is_some (member_at key ms) ≡ true → map_with ms ((key, d) ∷ more) ≡ Err KeyTwice
key_twice ms key d more known = rw known refl
