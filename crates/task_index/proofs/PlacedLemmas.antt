-- What the places of ids tell of a look-up.
use Rattle.std.proofs.Common.{◌≡◌, ℕ, zero, suc, Bool, true, false, cond, ◌⊎◌, inl, inr, List, [], ◌∷◌, ◌++◌, length, map, Option, Some, None, option_map, Result, Ok, Err, OnOk, OnErr, bytes_eq, slice_get, get_or, refl, ap, sym, ◌∙◌, subst}
use Rattle.std.specs.List.{list_any, position}
use Rattle.std.specs.Option.{option_map_or}
use Rattle.std.proofs.lemmas.Bool.{eqb-true}
use Rattle.std.proofs.lemmas.List.{length-map, map-append}
use Rattle.std.proofs.lemmas.List.Quantifiers.{position-Some}
use Rattle.std.proofs.lemmas.Map.Keys.{any_passes_from_place}
use Rattle.std.proofs.lemmas.Option.{slice_get-map, slice_get-get_or}
use Rattle.std.proofs.lemmas.Slice.Eq.{bytes_eq-Decides}
use Rattle.run_states.specs.Rows.{Row}
use Rattle.task_index.specs.Changes.{has_id}
use Rattle.task_index.specs.Placed.{PlaceMap, kept_of, holds_place, is_noted, AreKept, MayBeKept, ArePlaced}
use Rattle.task_index.proofs.PlaceLemmas.{place-no}

-- the ids of some tasks
abbrev pub ids_of : List Row → List (List ℕ)
ids_of rows = map (λ row. row.id) rows

-- the task at a place has this id
abbrev pub stands_at : List Row → List ℕ → ℕ → Bool
stands_at rows id place = option_map_or (has_id id) (slice_get rows place) false

-- ---- the first that passes a test

record FoundAt {A : Type 0} (test : A → Bool) (xs : List A) (place : ℕ) : Type 0 where
  item : A
  is : slice_get xs place ≡ Some item
  passes : test item ≡ true

found-at : {A : Type 0} (test : A → Bool) (xs : List A) (place : ℕ) → position test xs ≡ Some place → FoundAt test xs place
found-at test [] place first = cc
found-at test (x ∷ xs) place first =
    let at = position-Some test (x ∷ xs) place x first in
    record { item = get_or (x ∷ xs) place x; is = slice_get-get_or (x ∷ xs) place x at.0; passes = at.1 }

pub none-passes : {A : Type 0} (test : A → Bool) (xs : List A) (place : ℕ) → list_any test xs ≡ false → option_map_or test (slice_get xs place) false ≡ false
none-passes test xs place none = by (slice_get xs place) refl where
  by : (o : Option _) → slice_get xs place ≡ o → option_map_or test o false ≡ false
  by None at = refl
  by (Some x) at = tested (test x) refl where
    tested : (b : Bool) → test x ≡ b → test x ≡ false
    tested false is = is
    tested true is = let some = any_passes_from_place test xs place x at is in cc

-- ---- the place of an id

-- the first task that has an id stands where its place is kept
first-kept : (places : PlaceMap) (rows : List Row) (id : List ℕ) (place : ℕ) → AreKept places (ids_of rows) → position (has_id id) rows ≡ Some place → kept_of places id ≡ Some place
first-kept places rows id place kept first =
    let found = found-at (has_id id) rows place first in
    let same : found.item.id ≡ id = (bytes_eq-Decides found.item.id id).0 found.passes in
    let here : slice_get (ids_of rows) place ≡ Some id = slice_get-map (λ (row : Row). row.id) rows place ∙ (ap (λ o. option_map (λ (row : Row). row.id) o) found.is ∙ ap Some same) in
    kept.at place id here

first-stands : (rows : List Row) (id : List ℕ) (place : ℕ) → position (has_id id) rows ≡ Some place → stands_at rows id place ≡ true
first-stands rows id place first =
    let found = found-at (has_id id) rows place first in
    ap (λ o. option_map_or (has_id id) o false) found.is ∙ found.passes

-- where no place is kept of an id, no task has it
pub place-unkept : (places : PlaceMap) (rows : List Row) (id : List ℕ) → AreKept places (ids_of rows) → kept_of places id ≡ None → None ≡ position (has_id id) rows
place-unkept places rows id kept none = by (position (has_id id) rows) refl where
  by : (o : Option ℕ) → position (has_id id) rows ≡ o → None ≡ o
  by None first = refl
  by (Some place) first = let other : kept_of places id ≡ Some place = first-kept places rows id place kept first in cc

-- where one is kept, a task that has the id stands there
pub place-checked : (places : PlaceMap) (rows : List Row) (id : List ℕ) (place : ℕ) → AreKept places (ids_of rows) → kept_of places id ≡ Some place → cond (stands_at rows id place) (Some place) None ≡ position (has_id id) rows
place-checked places rows id place kept is = by (position (has_id id) rows) refl where
  by : (o : Option ℕ) → position (has_id id) rows ≡ o → cond (stands_at rows id place) (Some place) None ≡ o
  by None first = ap (λ b. cond b (Some place) None) (none-passes (has_id id) rows place (place-no (has_id id) rows first))
  by (Some other) first =
      let there : kept_of places id ≡ Some other = first-kept places rows id other kept first in
      let same : place ≡ other = cc in
      let stands : stands_at rows id place ≡ true = ap (stands_at rows id) same ∙ first-stands rows id other first in
      ap (λ b. cond b (Some place) None) stands ∙ ap Some same

-- ---- tasks that come and change

-- tasks with the same ids stand where those stood
pub placed-same : (places : Option PlaceMap) (rows new : List Row) → ids_of new ≡ ids_of rows → ArePlaced places rows → ArePlaced places new
placed-same places rows new same placed = subst (MayBeKept places) (sym same) placed

-- an id that is among others is found there
other-id : (id : List ℕ) (ids : List (List ℕ)) (place : ℕ) (other : List ℕ) → list_any (bytes_eq id) ids ≡ false → slice_get ids place ≡ Some other → bytes_eq id other ≡ false
other-id id ids place other none here = by (bytes_eq id other) refl where
  by : (b : Bool) → bytes_eq id other ≡ b → bytes_eq id other ≡ false
  by false is = is
  by true is = let some = any_passes_from_place (bytes_eq id) ids place other here is in cc

-- where the place of another id is noted, or memory was wanting, these keep theirs
pub noted-keeps : {A E : Type 0} (old new : PlaceMap) (id : List ℕ) (place : ℕ) (result : Result A E) → OnOk result ((other : List ℕ) → kept_of new other ≡ cond (bytes_eq id other) (Some place) (kept_of old other))
    → OnErr result ((other : List ℕ) → kept_of new other ≡ kept_of old other) → (ids : List (List ℕ)) → list_any (bytes_eq id) ids ≡ false → AreKept old ids → AreKept new ids
noted-keeps old new id place (Ok a) noted same ids none kept = record {
  at =
      λ k other here. noted other
      ∙ (ap (λ b. cond b (Some place) (kept_of old other)) (other-id id ids k other none here) ∙ kept.at k other here);
}
noted-keeps old new id place (Err e) noted same ids none kept = record { at = λ k other here. same other ∙ kept.at k other here }

-- ---- a task behind the others

behind : (ids : List (List ℕ)) (id : List ℕ) (place : ℕ) (other : List ℕ) → slice_get (ids ++ id ∷ []) place ≡ Some other → (slice_get ids place ≡ Some other) ⊎ ((place ≡ length ids) × (other ≡ id))
behind [] id zero other here = let same : other ≡ id = cc in inr (refl, same)
behind [] id (suc place) other here = cc
behind (x ∷ ids) id zero other here = inl here
behind (x ∷ ids) id (suc place) other here =
    elim (behind ids id place other here) [ inl before ↦ inl before | inr last ↦ (let next : suc place ≡ length (x ∷ ids) = ap suc last.0 in inr (next, last.1)) ]

noted-at : (kept : Option ℕ) (place : ℕ) → holds_place kept place ≡ true → kept ≡ Some place
noted-at None place holds = cc
noted-at (Some other) place holds = ap Some (eqb-true other place holds)

-- with one more id, whose place is noted
pub kept-behind : (places : Option PlaceMap) (id : List ℕ) (ids : List (List ℕ)) → is_noted places id (length ids) ≡ true → MayBeKept places ids → MayBeKept places (ids ++ id ∷ [])
kept-behind None id ids noted kept = tt
kept-behind (Some places) id ids noted kept = record {
  at =
      λ place other here. elim (behind ids id place other here) [
        | inl before ↦ kept.at place other before
        | inr last ↦ ap (kept_of places) last.1 ∙ (noted-at (kept_of places id) (length ids) noted ∙ ap Some (sym last.0))
      ];
}

-- what is kept of tasks behind which one more comes
pub placed-more : (before places : Option PlaceMap) (rows new : List Row) (row : Row) (id : List ℕ) (place : ℕ) → ((ids : List (List ℕ)) → length ids ≡ place → MayBeKept before ids → MayBeKept places (ids ++ id ∷ []))
    → new ≡ rows ++ row ∷ [] → id ≡ row.id → place ≡ length rows → ArePlaced before rows → ArePlaced places new
placed-more before places rows new row id place keeps is same len placed =
    let long : length (ids_of rows) ≡ place = length-map rows (λ (r : Row). r.id) ∙ sym len in
    let ids : ids_of rows ++ id ∷ [] ≡ ids_of new =
    ap (λ (i : List ℕ). ids_of rows ++ i ∷ []) same
    ∙ (sym (map-append (λ (r : Row). r.id) rows (row ∷ [])) ∙ ap ids_of (sym is)) in
    subst (MayBeKept places) ids (keeps (ids_of rows) long placed)
