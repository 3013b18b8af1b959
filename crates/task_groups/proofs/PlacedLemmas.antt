-- What the places that are kept tell of a look-up, and what a group that comes leaves of them.
use Rattle.std.proofs.Common.{◌≡◌, ℕ, zero, suc, Bool, true, false, cond, ◌⊎◌, inl, inr, List, [], ◌∷◌, ◌++◌, length, map, Option, Some, None, option_map, Result, Ok, Err, OnOk, OnErr, bytes_eq, slice_get, get_or, refl, ap, sym, ◌∙◌, subst, position}
use Rattle.std.specs.List.{list_any}
use Rattle.std.specs.Option.{option_map_or}
use Rattle.std.specs.Cmp.Lexicographic.{nat_list_eq_equiv}
use Rattle.std.proofs.lemmas.List.{length-map, map-append}
use Rattle.std.proofs.lemmas.List.Quantifiers.{position-Some}
use Rattle.std.proofs.lemmas.Map.Keys.{any_passes_from_place}
use Rattle.std.proofs.lemmas.Option.{slice_get-map, slice_get-get_or}
use Rattle.std.proofs.lemmas.Slice.Eq.{bytes_eq-Decides}
use Rattle.task_groups.specs.declared.group.Group.{Group}
use Rattle.task_groups.specs.Members.{TaskGroup, is_group, with_row, change_first, joined}
use Rattle.task_groups.specs.Placed.{PlaceMap, kept_of, ids_of, ArePlaced}
use Rattle.task_groups.specs.Kept.{shown, HasRoom, HasRoomAt}
use Rattle.task_groups.proofs.GroupLemmas.{at-place, no-place, length-shown}

abbrev pub has_id : List ℕ → Group → Bool
has_id id group = bytes_eq group.id id

-- the group at a place has this id
abbrev pub stands_at : List Group → List ℕ → ℕ → Bool
stands_at groups id place = option_map_or (has_id id) (slice_get groups place) false

-- ---- the first that passes a test

record FoundAt {A : Type 0} (test : A → Bool) (xs : List A) (place : ℕ) : Type 0 where
  item : A
  is : slice_get xs place ≡ Some item
  passes : test item ≡ true

found-at : {A : Type 0} (test : A → Bool) (xs : List A) (place : ℕ) → position test xs ≡ Some place → FoundAt test xs place
found-at test [] place first = cc
found-at test (x ∷ xs) place first =
    let at = position-Some test (x ∷ xs) place x first in
    record { item = get_or (x ∷ xs) place x; is = slice_get-get_or (x ∷ xs) place x at.0; passes = at.1 }

-- ---- the place of an id

id-at : (groups : List Group) (place : ℕ) (group : Group) → slice_get groups place ≡ Some group → slice_get (ids_of (map shown groups)) place ≡ Some group.id
id-at groups place group is =
    slice_get-map (λ (t : TaskGroup). t.id) (map shown groups) place
    ∙ (ap (λ o. option_map (λ (t : TaskGroup). t.id) o) (slice_get-map shown groups place) ∙ ap (λ o. option_map (λ (t : TaskGroup). t.id) (option_map shown o)) is)

-- the first group that has an id stands where its place is kept
first-kept : (places : PlaceMap) (groups : List Group) (id : List ℕ) (place : ℕ) → ArePlaced places (map shown groups) → position (has_id id) groups ≡ Some place → kept_of places id ≡ Some place
first-kept places groups id place placed first =
    let found = found-at (has_id id) groups place first in
    let same : found.item.id ≡ id = (bytes_eq-Decides found.item.id id).0 found.passes in
    placed.at place id (id-at groups place found.item found.is ∙ ap Some same)

first-stands : (groups : List Group) (id : List ℕ) (place : ℕ) → position (has_id id) groups ≡ Some place → stands_at groups id place ≡ true
first-stands groups id place first =
    let found = found-at (has_id id) groups place first in
    ap (λ o. option_map_or (has_id id) o false) found.is ∙ found.passes

none-stands : (groups : List Group) (id : List ℕ) (place : ℕ) → list_any (is_group id) (map shown groups) ≡ false → stands_at groups id place ≡ false
none-stands groups id place none = by (slice_get groups place) refl where
  by : (o : Option Group) → slice_get groups place ≡ o → option_map_or (has_id id) o false ≡ false
  by None at = refl
  by (Some g) at = tested (has_id id g) refl where
    tested : (b : Bool) → has_id id g ≡ b → has_id id g ≡ false
    tested false is = is
    tested true is =
        let here : slice_get (map shown groups) place ≡ Some (shown g) = slice_get-map shown groups place ∙ ap (λ o. option_map shown o) at in
        let some = any_passes_from_place (is_group id) (map shown groups) place (shown g) here is in cc

-- where no place is kept of an id, no group has it
pub place-unkept : (places : PlaceMap) (groups : List Group) (id : List ℕ) → ArePlaced places (map shown groups) → kept_of places id ≡ None → None ≡ position (has_id id) groups
place-unkept places groups id placed none = by (position (has_id id) groups) refl where
  by : (o : Option ℕ) → position (has_id id) groups ≡ o → None ≡ o
  by None first = refl
  by (Some place) first = let other : kept_of places id ≡ Some place = first-kept places groups id place placed first in cc

-- where one is kept, a group that has the id stands there
pub place-checked : (places : PlaceMap) (groups : List Group) (id : List ℕ) (place : ℕ) → ArePlaced places (map shown groups) → kept_of places id ≡ Some place → cond (stands_at groups id place) (Some place) None ≡ position (has_id id) groups
place-checked places groups id place placed is = by (position (has_id id) groups) refl where
  by : (o : Option ℕ) → position (has_id id) groups ≡ o → cond (stands_at groups id place) (Some place) None ≡ o
  by None first = ap (λ b. cond b (Some place) None) (none-stands groups id place (no-place groups id first).any)
  by (Some other) first =
      let there : kept_of places id ≡ Some other = first-kept places groups id other placed first in
      let same : place ≡ other = cc in
      let stands : stands_at groups id place ≡ true = ap (stands_at groups id) same ∙ first-stands groups id other first in
      ap (λ b. cond b (Some place) None) stands ∙ ap Some same

-- ---- a place that is noted

-- an id that no group has is not that of a group
other-id : (id : List ℕ) (groups : List TaskGroup) (place : ℕ) (other : List ℕ) → list_any (is_group id) groups ≡ false → slice_get (ids_of groups) place ≡ Some other → bytes_eq id other ≡ false
other-id id groups place other none here = by (slice_get groups place) refl where
  ids : slice_get (ids_of groups) place ≡ option_map (λ (t : TaskGroup). t.id) (slice_get groups place)
  ids = slice_get-map (λ (t : TaskGroup). t.id) groups place

  by : (o : Option TaskGroup) → slice_get groups place ≡ o → bytes_eq id other ≡ false
  by None at =
      let lost : slice_get (ids_of groups) place ≡ None = ids ∙ ap (λ o. option_map (λ (t : TaskGroup). t.id) o) at in cc
  by (Some group) at =
      let found : slice_get (ids_of groups) place ≡ Some group.id = ids ∙ ap (λ o. option_map (λ (t : TaskGroup). t.id) o) at in
      let same : group.id ≡ other = cc in
      tested (bytes_eq group.id id) refl same where
        tested : (b : Bool) → bytes_eq group.id id ≡ b → group.id ≡ other → bytes_eq id other ≡ false
        tested false is same = ap (bytes_eq id) (sym same) ∙ (nat_list_eq_equiv.symm id group.id ∙ is)
        tested true is same = let some = any_passes_from_place (is_group id) groups place group at is in cc

-- where the place of an id that no group has is noted, or memory was wanting, the groups' places stay
pub noted-keeps : {A E : Type 0} (old new : PlaceMap) (id : List ℕ) (place : ℕ) (result : Result A E) → OnOk result ((other : List ℕ) → kept_of new other ≡ cond (bytes_eq id other) (Some place) (kept_of old other))
    → OnErr result ((other : List ℕ) → kept_of new other ≡ kept_of old other) → (groups : List TaskGroup) → list_any (is_group id) groups ≡ false → ArePlaced old groups → ArePlaced new groups
noted-keeps old new id place (Ok a) noted same groups none placed = record {
  at =
      λ k other here. noted other
      ∙ (ap (λ b. cond b (Some place) (kept_of old other)) (other-id id groups k other none here) ∙ placed.at k other here);
}
noted-keeps old new id place (Err e) noted same groups none placed = record { at = λ k other here. same other ∙ placed.at k other here }

pub noted-place : {A E : Type 0} (old new : PlaceMap) (id : List ℕ) (place : ℕ) (result : Result A E) → OnOk result ((other : List ℕ) → kept_of new other ≡ cond (bytes_eq id other) (Some place) (kept_of old other)) → OnOk result (kept_of new id ≡ Some place)
noted-place old new id place (Ok a) noted = noted id ∙ ap (λ b. cond b (Some place) (kept_of old id)) ((bytes_eq-Decides id id).1 refl)
noted-place old new id place (Err e) noted = tt

-- ---- a row that joins

ids-change : (test : TaskGroup → Bool) (row : ℕ) (groups : List TaskGroup) → ids_of (change_first test (with_row row) groups) ≡ ids_of groups
ids-change test row [] = refl
ids-change test row (g ∷ gs) = by (ids-change test row gs) (test g) refl where
  by : ids_of (change_first test (with_row row) gs) ≡ ids_of gs → (b : Bool) → test g ≡ b → ids_of (change_first test (with_row row) (g ∷ gs)) ≡ ids_of (g ∷ gs)
  by rest true is = rw is refl
  by rest false is = rw is (ap (λ (ids : List (List ℕ)). g.id ∷ ids) rest)

behind : (ids : List (List ℕ)) (id : List ℕ) (place : ℕ) (other : List ℕ) → slice_get (ids ++ id ∷ []) place ≡ Some other → (slice_get ids place ≡ Some other) ⊎ ((place ≡ length ids) × (other ≡ id))
behind [] id zero other here = let same : other ≡ id = cc in inr (refl, same)
behind [] id (suc place) other here = cc
behind (x ∷ ids) id zero other here = inl here
behind (x ∷ ids) id (suc place) other here =
    elim (behind ids id place other here) [ inl before ↦ inl before | inr last ↦ (let next : suc place ≡ length (x ∷ ids) = ap suc last.0 in inr (next, last.1)) ]

-- groups with the same ids stand where those stood
placed-same : (places : PlaceMap) (groups new : List TaskGroup) → ids_of new ≡ ids_of groups → ArePlaced places groups → ArePlaced places new
placed-same places groups new same placed = record { at = λ place id here. placed.at place id (ap (λ (ids : List (List ℕ)). slice_get ids place) (sym same) ∙ here) }

-- a group behind the others, whose place is noted
placed-behind : (places : PlaceMap) (groups : List TaskGroup) (group : TaskGroup) → kept_of places group.id ≡ Some (length groups) → ArePlaced places groups → ArePlaced places (groups ++ group ∷ [])
placed-behind places groups group noted placed =
    let ids : ids_of (groups ++ group ∷ []) ≡ ids_of groups ++ group.id ∷ [] = map-append (λ (t : TaskGroup). t.id) groups (group ∷ []) in
    let long : length (ids_of groups) ≡ length groups = length-map groups (λ (t : TaskGroup). t.id) in
    record {
      at =
          λ place id here. elim (behind (ids_of groups) group.id place id (ap (λ (l : List (List ℕ)). slice_get l place) (sym ids) ∙ here)) [
            | inl before ↦ placed.at place id before
            | inr last ↦ ap (kept_of places) last.1 ∙ (noted ∙ ap Some (sym (last.0 ∙ long)))
          ];
    }

-- where there is room for a row, the groups stand where their places are kept once it has joined
pub placed-joined : (places : PlaceMap) (groups : List Group) (capacity row : ℕ) (joining : Group) → HasRoom groups capacity places joining → ArePlaced places (map shown groups) → ArePlaced places (joined joining.id joining.scheduler row (map shown groups))
placed-joined places groups capacity row joining room placed = by (position (has_id joining.id) groups) refl where
  by : (o : Option ℕ) → position (has_id joining.id) groups ≡ o → ArePlaced places (joined joining.id joining.scheduler row (map shown groups))
  by None is =
      let P : Option ℕ → Type 0 = λ o. HasRoomAt groups capacity places joining o in
      let new : P None = subst P is room in
      let noted : kept_of places joining.id ≡ Some (length (map shown groups)) = new.3 ∙ ap Some (sym (length-shown groups)) in
      rw (no-place groups joining.id is).any
      (placed-behind places (map shown groups) (record { id = joining.id; scheduler = joining.scheduler; rows = row ∷ [] }) noted placed)
  by (Some place) is =
      rw (at-place groups joining.id place row (shown joining) is).first.any
      (placed-same places (map shown groups) (change_first (is_group joining.id) (with_row row) (map shown groups)) (ids-change (is_group joining.id) row (map shown groups)) placed)
