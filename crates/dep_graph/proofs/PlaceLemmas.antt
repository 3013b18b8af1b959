-- The place that is known of each row.
use Rattle.std.proofs.Common.{◌≡◌, ℕ, zero, suc, Bool, true, false, cond, List, [], ◌∷◌, ◌++◌, length, Option, Some, None, refl, sym, ◌∙◌, ap, subst, ◌==◌}
use Rattle.std.specs.Prelude.{slice_get, nat_eq}
use Rattle.std.specs.HashMap.{HashMap, get}
use Rattle.std.specs.Map.{lookup}
use Rattle.dep_graph.specs.Nodes.{Task, rows_of}
use Rattle.dep_graph.specs.Tables.{IsPlaceOf, KnowsPlaces}
use Rattle.dep_graph.proofs.TaskLemmas.{same_row}
use Rattle.dep_graph.proofs.EdgeLemmas.{not-named}

pub get-push : {A : Type 0} (xs : List A) (x y : A) (place : ℕ) → slice_get xs place ≡ Some x → slice_get (xs ++ y ∷ []) place ≡ Some x
get-push [] x y place at = absurd (let e : None ≡ Some x = at in cc)
get-push (z ∷ zs) x y zero at = at
get-push (z ∷ zs) x y (suc place) at = get-push zs x y place at

pub get-last : {A : Type 0} (xs : List A) (y : A) → slice_get (xs ++ y ∷ []) (length xs) ≡ Some y
get-last [] y = refl
get-last (x ∷ xs) y = get-last xs y

-- one row more, which is new, at the place behind the last
place-more : (rows : List ℕ) (new row : ℕ) (found : Option ℕ) → (new == row) ≡ false → IsPlaceOf rows row found → IsPlaceOf (rows ++ new ∷ []) row found
place-more rows new row None other is = not-named rows new row other ∙ is
place-more rows new row (Some place) other is = get-push rows row new place is

pub knows-more : {S : Type 0} (rows : List ℕ) (new len : ℕ) (before after : HashMap ℕ ℕ S) → KnowsPlaces rows before → len ≡ length rows → ((row : ℕ) → get nat_eq after row ≡ cond (nat_eq new row) (Some len) (get nat_eq before row)) → KnowsPlaces (rows ++ new ∷ []) after
knows-more rows new len before after knows long updates row = by (nat_eq new row) refl where
  by : (b : Bool) → nat_eq new row ≡ b → IsPlaceOf (rows ++ new ∷ []) row (get nat_eq after row)
  by true is =
      let found : get nat_eq after row ≡ Some len = updates row ∙ rw is refl in
      let same : new ≡ row = same_row new row is in
      let there : slice_get (rows ++ new ∷ []) len ≡ Some row = ap (slice_get (rows ++ new ∷ [])) long ∙ (get-last rows new ∙ ap Some same) in
      subst (IsPlaceOf (rows ++ new ∷ []) row) (sym found) there
  by false is =
      let found : get nat_eq after row ≡ get nat_eq before row = updates row ∙ rw is refl in
      subst (IsPlaceOf (rows ++ new ∷ []) row) (sym found) (place-more rows new row (get nat_eq before row) is (knows row))

pub knows-same : {S : Type 0} (rows : List ℕ) (before after : HashMap ℕ ℕ S) → KnowsPlaces rows before → ((row : ℕ) → get nat_eq after row ≡ get nat_eq before row) → KnowsPlaces rows after
knows-same rows before after knows same row = subst (IsPlaceOf rows row) (sym (same row)) (knows row)

pub knows-none : {S : Type 0} (tasks : List Task) (places : HashMap ℕ ℕ S) → tasks ≡ [] → places.entries ≡ [] → KnowsPlaces (rows_of tasks) places
knows-none tasks places none empty_ row =
    let found : get nat_eq places row ≡ None = ap (lookup (nat_eq row)) empty_ in
    let rows : rows_of tasks ≡ [] = ap rows_of none in
    subst (λ (l : List ℕ). IsPlaceOf l row (get nat_eq places row)) (sym rows) (subst (IsPlaceOf [] row) (sym found) refl)
