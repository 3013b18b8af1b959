-- The place that is kept of a name: what it is after another is kept, and that it goes on being that of the first hook of the name.
use Rattle.std.proofs.Common.{◌≡◌, ℕ, zero, suc, ◌<◌, Bool, true, false, ◌&&◌, cond, if◌then◌else◌, List, [], ◌∷◌, ◌++◌, length, Option, Some, None, option_and_then, bytes_eq, slice_get, refl, sym, ◌∙◌, Global, String, Result, Ok, Err, OnOk, OnErr}
use Rattle.std.specs.BTreeMap.{BTreeMap, get_by_text}
use Rattle.std.proofs.lemmas.List.Folds.{find-append}
use Rattle.std.proofs.lemmas.Option.{slice_get_within}
use Rattle.std.proofs.lemmas.Slice.Eq.{bytes_eq-Decides}
use Rattle.hook_book.specs.Places.{Places, place_in, IsPlaceOf, first_place}
use Rattle.hook_book.specs.Hooks.{HookData, hook_named, is_named}

-- ---- a book's places

-- a hook that stands in a list goes on standing there
stays : (xs : List HookData) (h : HookData) (place : ℕ) (hook : HookData) → slice_get xs place ≡ Some hook → slice_get (xs ++ h ∷ []) place ≡ Some hook
stays [] h place hook at = cc
stays (x ∷ xs) h zero hook at = at
stays (x ∷ xs) h (suc place) hook at = stays xs h place hook at

-- the last one stands at the list's end
last : (xs : List HookData) (h : HookData) → slice_get (xs ++ h ∷ []) (length xs) ≡ Some h
last [] h = refl
last (x ∷ xs) h = last xs h

-- behind the others a new hook is the first of its name where there was none
pub IsPlaceOf-pushed : (xs : List HookData) (h : HookData) (group id : List ℕ) (kept : Option ℕ) → IsPlaceOf xs group id kept → IsPlaceOf (xs ++ h ∷ []) group id (first_place kept (is_named group id h) (length xs))
IsPlaceOf-pushed xs h group id (Some place) (hook, at, found) =
    (hook, stays xs h place hook at, find-append (is_named group id) xs (h ∷ []) ∙ rw found refl)
IsPlaceOf-pushed xs h group id None none = by (is_named group id h) refl where
  by : (b : Bool) → is_named group id h ≡ b → IsPlaceOf (xs ++ h ∷ []) group id (first_place None b (length xs))
  by true named = (h, last xs h, find-append (is_named group id) xs (h ∷ []) ∙ rw (none, named) refl)
  by false other = find-append (is_named group id) xs (h ∷ []) ∙ rw (none, other) refl

-- what is read of a place that is kept
pub read_place : (hooks : List HookData) (group id : List ℕ) (place : ℕ) → IsPlaceOf hooks group id (Some place) → slice_get hooks place ≡ hook_named group id hooks
read_place hooks group id place (hook, at, found) = at ∙ sym found

pub place_within : (hooks : List HookData) (group id : List ℕ) (place : ℕ) → IsPlaceOf hooks group id (Some place) → place < length hooks
place_within hooks group id place (hook, at, found) = slice_get_within hooks place hook at

-- ---- what is kept of a name

-- the ids of a group
abbrev pub Ids : Type 0
Ids = BTreeMap (String Global) ℕ

-- what is kept of an id, where the ids are there
abbrev pub id_in : Option Ids → List ℕ → Option ℕ
id_in ids id = option_and_then (λ (m : Ids). get_by_text m id) ids

-- where no ids are, nothing is kept of any
pub no_id : (ids : Ids) → ids.entries ≡ [] → (id : List ℕ) → get_by_text ids id ≡ None
no_id ids none id = rw none refl

module _ (old new : Places) (group : List ℕ) (ids : Option Ids) (kept : Ids) (was : get_by_text old group ≡ ids) (now : (g : List ℕ) → get_by_text new g ≡ cond (bytes_eq group g) (Some kept) (get_by_text old g)) where
  at_group : (g : List ℕ) → bytes_eq group g ≡ true → get_by_text old g ≡ ids
  at_group g same = let e : group ≡ g = (bytes_eq-Decides group g).0 same in rw (← e) was

  pub noted : (id : List ℕ) (place : ℕ) → ((i : List ℕ) → get_by_text kept i ≡ cond (bytes_eq id i) (Some place) (id_in ids i))
      → (g i : List ℕ) → place_in new g i ≡ (if bytes_eq group g && bytes_eq id i then Some place else place_in old g i)
  noted id place each g i = by (bytes_eq group g) refl where
    by : (b : Bool) → bytes_eq group g ≡ b → place_in new g i ≡ (if bytes_eq group g && bytes_eq id i then Some place else place_in old g i)
    by true same = rw (now g, same, at_group g same) (each i)
    by false other = rw (now g, other) refl

  pub left : ((i : List ℕ) → get_by_text kept i ≡ id_in ids i) → (g i : List ℕ) → place_in new g i ≡ place_in old g i
  left each g i = by (bytes_eq group g) refl where
    by : (b : Bool) → bytes_eq group g ≡ b → place_in new g i ≡ place_in old g i
    by true same = rw (now g, same, at_group g same) (each i)
    by false other = rw (now g, other) refl

  -- the same of a call that keeps it, or leaves all as it was
  pub noted_so : {A E : Type 0} (id : List ℕ) (place : ℕ) (result : Result A E) → OnOk result ((i : List ℕ) → get_by_text kept i ≡ (if bytes_eq id i then Some place else id_in ids i))
      → OnOk result ((g i : List ℕ) → place_in new g i ≡ (if bytes_eq group g && bytes_eq id i then Some place else place_in old g i))
  noted_so id place (Ok a) each = noted id place each
  noted_so id place (Err e) each = tt

  pub left_so : {A E : Type 0} (result : Result A E) → OnErr result ((i : List ℕ) → get_by_text kept i ≡ id_in ids i) → OnErr result ((g i : List ℕ) → place_in new g i ≡ place_in old g i)
  left_so (Ok a) each = tt
  left_so (Err e) each = left each
