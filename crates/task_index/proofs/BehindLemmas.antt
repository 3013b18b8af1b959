-- Places among the tasks with one more behind them.
use Rattle.std.proofs.Common.{◌≡◌, ℕ, zero, suc, ◌+◌, ◌≤◌, ◌<◌, inl, inr, Bool, true, false, not, cond, List, [], ◌∷◌, ◌++◌, length, nat_lt, Some, None, bytes_eq, get_or, refl, ap, sym, ◌∙◌, arith}
use Rattle.std.specs.List.{position, position_or_len}
use Rattle.std.proofs.lemmas.Bool.{ltb-true, ltb-false}
use Rattle.std.proofs.lemmas.Bool.Decides.{eqb_tells}
use Rattle.std.proofs.lemmas.List.{length-map}
use Rattle.std.proofs.lemmas.List.Folds.{position_or_len_push}
use Rattle.std.proofs.lemmas.List.Sums.{prefix_len-le-length}
use Rattle.run_states.specs.Rows.{Row}
use Rattle.task_index.specs.Changes.{has_id}
use Rattle.task_index.specs.Dependencies.{ids_of, place_in, places_in}
use Rattle.task_index.proofs.DependencyLemmas.{equal, unequal, place-ids}

some-is : {A : Type 0} (x y : A) → Some x ≡ Some y → x ≡ y
some-is x y is = cc

-- the first place that passes, where there is one, and behind the last, where there is none
pub place-some : {A : Type 0} (test : A → Bool) (xs : List A) (place : ℕ) → position test xs ≡ Some place → (position_or_len test xs ≡ place) × (place < length xs)
place-some test xs place is = by (nat_lt (position_or_len test xs) (length xs)) refl where
  by : (b : Bool) → nat_lt (position_or_len test xs) (length xs) ≡ b → (position_or_len test xs ≡ place) × (place < length xs)
  by true less =
      let same : position_or_len test xs ≡ place = some-is (position_or_len test xs) place (sym (ap (λ b. cond b (Some (position_or_len test xs)) None) less) ∙ is) in
      let within = ltb-true (position_or_len test xs) (length xs) less in
      (same, omega arith)
  by false far = let no_ : None ≡ Some place = sym (ap (λ b. cond b (Some (position_or_len test xs)) None) far) ∙ is in absurd (cc)

place-none : {A : Type 0} (test : A → Bool) (xs : List A) → position test xs ≡ None → position_or_len test xs ≡ length xs
place-none test xs is = by (nat_lt (position_or_len test xs) (length xs)) refl where
  by : (b : Bool) → nat_lt (position_or_len test xs) (length xs) ≡ b → position_or_len test xs ≡ length xs
  by true less = let no_ : Some (position_or_len test xs) ≡ None = sym (ap (λ b. cond b (Some (position_or_len test xs)) None) less) ∙ is in absurd (cc)
  by false far =
      let past = ltb-false (position_or_len test xs) (length xs) far in
      let most : position_or_len test xs ≤ length xs = prefix_len-le-length (λ x. not (test x)) xs in
      omega arith

-- an id that is among others has the same place among these with one more
pub known-behind : (ids : List (List ℕ)) (id named : List ℕ) → place_in ids named < length ids → place_in (ids ++ id ∷ []) named ≡ place_in ids named
known-behind ids id named within =
    position_or_len_push (λ other. bytes_eq other named) ids id
    ∙ ap (λ b. cond b (length ids + cond (bytes_eq id named) 0 1) (place_in ids named)) (unequal (place_in ids named) (length ids) (omega arith))

-- and one that is not has that of the one more, or none
pub unknown-behind : (ids : List (List ℕ)) (id named : List ℕ) → place_in ids named ≡ length ids → place_in (ids ++ id ∷ []) named ≡ length ids + cond (bytes_eq id named) 0 1
unknown-behind ids id named none =
    position_or_len_push (λ other. bytes_eq other named) ids id
    ∙ ap (λ b. cond b (length ids + cond (bytes_eq id named) 0 1) (place_in ids named)) (equal (place_in ids named) (length ids) none)

pub long : (rows : List Row) → length (ids_of rows) ≡ length rows
long rows = length-map rows (λ (row : Row). row.id)

-- the place of a task that stands
pub place-known : (rows : List Row) (id named : List ℕ) (place : ℕ) → position (has_id named) rows ≡ Some place → place ≡ place_in (ids_of rows ++ id ∷ []) named
place-known rows id named place is =
    let at = place-some (has_id named) rows place is in
    let same : place_in (ids_of rows) named ≡ place = place-ids named rows ∙ at.0 in
    let same_length = long rows in
    let less = at.1 in
    sym (known-behind (ids_of rows) id named (omega arith) ∙ same)

-- and that of one that does not
pub place-unknown : (rows : List Row) (id named : List ℕ) → position (has_id named) rows ≡ None → place_in (ids_of rows ++ id ∷ []) named ≡ length rows + cond (bytes_eq id named) 0 1
place-unknown rows id named is =
    let none : place_in (ids_of rows) named ≡ length (ids_of rows) = place-ids named rows ∙ (place-none (has_id named) rows is ∙ sym (long rows)) in
    unknown-behind (ids_of rows) id named none ∙ ap (λ n. n + cond (bytes_eq id named) 0 1) (long rows)

-- ---- the places of some ids, one by one

pub more-places : (ids named : List (List ℕ)) (places : List ℕ) (n : ℕ) → ((k : ℕ) → k < n → get_or places k 0 ≡ place_in ids (get_or named k [])) → get_or places n 0 ≡ place_in ids (get_or named n [])
    → (k : ℕ) → k < n + 1 → get_or places k 0 ≡ place_in ids (get_or named k [])
more-places ids named places n before here k less = elim (eqb_tells k n) [
  | inl same ↦ rw same.1 here
  | inr other ↦ before k (let differ = other.1 in omega arith)
]

pub all-places : (ids named : List (List ℕ)) (places : List ℕ) → length named ≡ length places → ((k : ℕ) → k < length named → get_or places k 0 ≡ place_in ids (get_or named k [])) → places ≡ places_in ids named
all-places ids [] [] same each = refl
all-places ids [] (place ∷ places) same each = absurd (omega arith)
all-places ids (name ∷ named) [] same each = absurd (omega arith)
all-places ids (name ∷ named) (place ∷ places) same each =
    ap (λ p. p ∷ places) (each zero (omega arith)) ∙ ap (λ ps. place_in ids name ∷ ps) (all-places ids named places (omega arith) (λ k less. each (suc k) (omega arith)))
