-- A task that comes behind the others, onto its lists.
use Rattle.std.proofs.Common.{◌≡◌, ℕ, zero, suc, ◌+◌, ◌-◌, ◌≤◌, ◌<◌, ◌==◌, ◌⊎◌, inl, inr, Bool, true, false, ◌||◌, cond, List, [], ◌∷◌, ◌++◌, length, slice_get, get_or, bytes_eq, nat_le, Option, Some, None, refl, sym, ◌∙◌, ap, subst, arith}
use Rattle.std.specs.Prelude.{All}
use Rattle.std.specs.List.{list_any, list_all, position, IsDistinct, AllByRecursion}
use Rattle.std.specs.Option.{option_map, option_map_or}
use Rattle.std.proofs.lemmas.Bool.{and_parts, eqb-true}
use Rattle.std.proofs.lemmas.Bool.Decides.{eqb_tells}
use Rattle.std.proofs.lemmas.List.{length-map, length_push, map-append}
use Rattle.std.proofs.lemmas.List.Folds.{list_all-append, list_any-append}
use Rattle.std.proofs.lemmas.List.Quantifiers.{position-Some}
use Rattle.std.proofs.lemmas.Map.Keys.{IsDistinct-head, IsDistinct-tail}
use Rattle.std.proofs.lemmas.Option.{slice_get_within, slice_get-get_or, get_or_from_slice_get, slice_get-map}
use Rattle.std.proofs.Math.ListN.{length-append}
use Rattle.std.proofs.lemmas.Slice.Eq.{bytes_eq-Decides}
use Rattle.run_states.specs.Rows.{Row}
use Rattle.task_types.specs.declared.change.Creation.{Creation}
use Rattle.task_index.specs.declared.lists.TaskList.TheVariants.{Dependants}
use Rattle.task_index.specs.Contents.{row_with, HaveOwnIds}
use Rattle.task_index.specs.Changes.{has_id, waits_well}
use Rattle.task_index.specs.Lists.{is_listed, listed}
use Rattle.task_index.specs.Listing.{places_of}
use Rattle.task_index.specs.Dependencies.{ids_of, place_in, depends_on_these}
use Rattle.task_index.specs.Plans.{HasRoom, HasRoomOn}
use Rattle.task_index.specs.PlaceLists.{KeptPlaces, no_places, dependants_at, members_at, kept_at, is_last, with_place, AreNowAt, AreWaited, AreWaitedSoFar}
use Rattle.task_index.proofs.AddedLemmas.{stand-behind}
use Rattle.task_index.proofs.BehindLemmas.{place-some}
use Rattle.task_index.proofs.DependantLemmas.{first-id, same-place, any-ids, none-from}
use Rattle.task_index.proofs.DependencyLemmas.{equal, unequal}
use Rattle.task_index.proofs.ListingLemmas.{places-within}
use Rattle.task_index.proofs.MemberLemmas.{places-push, append-none}
use Rattle.task_index.proofs.PlaceLemmas.{any-found, any-lost}
use Rattle.task_index.proofs.PlaceListLemmas.{count-listed, few-places}

-- ---- one more behind others

pub get-kept : {A : Type 0} (xs : List A) (x : A) (k : ℕ) → k < length xs → slice_get (xs ++ x ∷ []) k ≡ slice_get xs k
get-kept [] x k less = absurd (omega arith)
get-kept (y ∷ xs) x zero less = refl
get-kept (y ∷ xs) x (suc k) less = get-kept xs x k (omega arith)

pub get-last : {A : Type 0} (xs : List A) (x : A) → slice_get (xs ++ x ∷ []) (length xs) ≡ Some x
get-last [] x = refl
get-last (y ∷ xs) x = get-last xs x

get-push : {A : Type 0} (xs : List A) (x y : A) (k : ℕ) → slice_get (xs ++ x ∷ []) k ≡ Some y → (slice_get xs k ≡ Some y) ⊎ ((k ≡ length xs) × (x ≡ y))
get-push [] x y zero at = inr (refl, (let e : Some x ≡ Some y = at in cc))
get-push [] x y (suc k) at = cc
get-push (z ∷ xs) x y zero at = inl at
get-push (z ∷ xs) x y (suc k) at = elim (get-push xs x y k at) [
  | inl there ↦ inl there
  | inr last ↦ inr (ap suc last.0, last.1)
]

-- ---- a place comes behind places

last-at : (xs : List ℕ) (x : ℕ) → slice_get (xs ++ x ∷ []) (length (xs ++ x ∷ []) - 1) ≡ Some x
last-at xs x =
    let long = length_push xs x in
    let at : length (xs ++ x ∷ []) - 1 ≡ length xs = omega arith in
    ap (slice_get (xs ++ x ∷ [])) at ∙ get-last xs x

is-last : (place : ℕ) (places : List ℕ) → is_last place (places ++ place ∷ []) ≡ true
is-last place places = ap (λ (o : Option ℕ). option_map_or (λ last. last == place) o false) (last-at places place) ∙ equal place place refl

not-last : (place : ℕ) (places : List ℕ) → All (λ p. p < place) places → is_last place places ≡ false
not-last place places below = by (slice_get places (length places - 1)) refl where
  by : (o : Option ℕ) → slice_get places (length places - 1) ≡ o → is_last place places ≡ false
  by None at = ap (λ (o : Option ℕ). option_map_or (λ last. last == place) o false) at
  by (Some p) at =
      let within = slice_get_within places (length places - 1) p at in
      let less : get_or places (length places - 1) p < place = below (length places - 1) p within in
      let same : get_or places (length places - 1) p ≡ p = get_or_from_slice_get places (length places - 1) p p at in
      ap (λ (o : Option ℕ). option_map_or (λ last. last == place) o false) at ∙ unequal p place (omega arith)

-- places with one, where it may be the last of them already
came : (place : ℕ) (places : List ℕ) (b : Bool) → All (λ p. p < place) places → with_place place (places ++ cond b (place ∷ []) []) ≡ places ++ place ∷ []
came place places true below = rw (is-last place places) refl
came place places false below = rw (append-none places) (rw (not-last place places below) refl)

-- ---- a task is found at its place by its id

all-at : {A : Type 0} (P : A → Type 0) (xs : List A) (k : ℕ) (x : A) → AllByRecursion P xs → slice_get xs k ≡ Some x → P x
all-at P [] k x all at = cc
all-at P (y ∷ xs) zero x all at = let e : Some y ≡ Some x = at in subst P (let same : y ≡ x = cc in same) all.0
all-at P (y ∷ xs) (suc k) x all at = all-at P xs k x all.1 at

own-place : (ids : List (List ℕ)) → IsDistinct bytes_eq ids → (place : ℕ) (id : List ℕ) → slice_get ids place ≡ Some id → place_in ids id ≡ place
own-place [] own place id at = cc
own-place (x ∷ ids) own zero id at =
    let e : Some x ≡ Some id = at in
    let same : x ≡ id = cc in
    first-id x id ids true ((bytes_eq-Decides x id).1 same)
own-place (x ∷ ids) own (suc place) id at =
    let other = all-at (λ y. bytes_eq x y ≡ false) ids place id (IsDistinct-head bytes_eq x ids own) at in
    let here : place_in (x ∷ ids) id ≡ 1 + place_in ids id = first-id x id ids false other in
    let rest : place_in ids id ≡ place = own-place ids (IsDistinct-tail bytes_eq x ids own) place id at in
    omega arith

pub row-place : (rows : List Row) (place : ℕ) (row : Row) → HaveOwnIds rows → slice_get rows place ≡ Some row → place_in (ids_of rows) row.id ≡ place
row-place rows place row own at = own-place (ids_of rows) own place row.id (slice_get-map (λ (r : Row). r.id) rows place ∙ ap (option_map (λ (r : Row). r.id)) at)

ids-push : (rows : List Row) (row : Row) → ids_of (rows ++ row ∷ []) ≡ ids_of rows ++ row.id ∷ []
ids-push rows row = map-append (λ (r : Row). r.id) rows (row ∷ [])

-- the place of a named id is that of the task with it
named-here : (rows : List Row) (row other : Row) (id : List ℕ) (at place : ℕ) → HaveOwnIds (rows ++ row ∷ []) → at ≡ place_in (ids_of rows ++ row.id ∷ []) id → slice_get (rows ++ row ∷ []) place ≡ Some other → (place == at) ≡ bytes_eq id other.id
named-here rows row other id at place own is here =
    let all : List Row = rows ++ row ∷ [] in
    let ids = ids-push rows row in
    let there : place_in (ids_of all) other.id ≡ place = row-place all place other own here in
    let long : length (ids_of all) ≡ length all = length-map all (λ (r : Row). r.id) in
    let within : place < length all = slice_get_within all place other here in
    let found : place_in (ids_of all) id ≡ at = ap (λ (is : List (List ℕ)). place_in is id) ids ∙ sym is in
    flip place at ∙ (ap (λ n. n == place) (sym found) ∙ same-place (ids_of all) other.id id place there (omega arith))
  where
    flip : (a b : ℕ) → (a == b) ≡ (b == a)
    flip a b = elim (eqb_tells a b) [
      | inl same ↦ same.0 ∙ sym (equal b a (sym same.1))
      | inr other ↦ other.0 ∙ sym (unequal b a (λ e. other.1 (sym e)))
    ]

-- ---- what is kept with the tasks so far

pub kept-push : (lists : List KeptPlaces) (place : ℕ) → place < length lists → (dependants_at place (lists ++ no_places ∷ []) ≡ dependants_at place lists) × (members_at place (lists ++ no_places ∷ []) ≡ members_at place lists)
kept-push lists place less =
    let same = get-kept lists no_places place less in
    (ap (λ (o : Option KeptPlaces). option_map_or (λ k. k.dependants) o []) same, ap (λ (o : Option KeptPlaces). option_map_or (λ k. k.members) o []) same)

pub kept-last : (lists : List KeptPlaces) (place : ℕ) → place ≡ length lists → (dependants_at place (lists ++ no_places ∷ []) ≡ []) × (members_at place (lists ++ no_places ∷ []) ≡ [])
kept-last lists place is =
    let same : slice_get (lists ++ no_places ∷ []) place ≡ Some no_places = ap (slice_get (lists ++ no_places ∷ [])) is ∙ get-last lists no_places in
    (ap (λ (o : Option KeptPlaces). option_map_or (λ k. k.dependants) o []) same, ap (λ (o : Option KeptPlaces). option_map_or (λ k. k.members) o []) same)

-- no task waits for one that does not stand
pub unwaited : (rows : List Row) (id : List ℕ) → list_all (depends_on_these (ids_of rows)) rows ≡ true → row_with id rows ≡ None → places_of (Dependants id) rows ≡ []
unwaited rows id stand none = none-from (ids_of rows) id 0 rows (any-ids id rows ∙ any-lost (has_id id) rows none) stand

-- those that wait for the task with an id
pub waited-at : (lists : List KeptPlaces) (rows : List Row) (id : List ℕ) (place : ℕ) → AreWaited lists rows → position (has_id id) rows ≡ Some place → dependants_at place lists ≡ places_of (Dependants id) rows
waited-at lists rows id place are at = by (slice_get rows place) refl where
  slice_get_lost : (rs : List Row) (k : ℕ) → slice_get rs k ≡ None → length rs ≤ k
  slice_get_lost [] k none = omega arith
  slice_get_lost (r ∷ rs) zero none = cc
  slice_get_lost (r ∷ rs) (suc k) none = let rest = slice_get_lost rs k none in omega arith

  by : (o : Option Row) → slice_get rows place ≡ o → dependants_at place lists ≡ places_of (Dependants id) rows
  by None here = let less = (place-some (has_id id) rows place at).1 in absurd (let past = slice_get_lost rows place here in omega arith)
  by (Some row) here =
      let found : bytes_eq (get_or rows place row).id id ≡ true = (position-Some (has_id id) rows place row at).1 in
      let row_is : get_or rows place row ≡ row = get_or_from_slice_get rows place row row here in
      let same : row.id ≡ id = (bytes_eq-Decides row.id id).0 (ap (λ (r : Row). bytes_eq r.id id) (sym row_is) ∙ found) in
      are.places place row here ∙ ap (λ (i : List ℕ). places_of (Dependants i) rows) same

-- ---- the list of its own

-- the places before one of several lists come are as they were
pub begun : (lists new : List KeptPlaces) (rows : List Row) (row : Row) (first : ℕ) (members : List ℕ) → AreWaited lists rows → row_with row.id rows ≡ None
    → AreNowAt first (record (kept_at first (lists ++ no_places ∷ [])) { members = members }) (lists ++ no_places ∷ []) new → AreWaitedSoFar new rows row []
begun lists new rows row first members are none now = record {
  long = now.long ∙ (length_push lists no_places ∙ ap (λ n. n + 1) are.long);
  places = λ place other here. now.dependants place ∙ (same place (place == first) refl ∙ (at place other here ∙ sym (append-none (places_of (Dependants other.id) rows))));
} where
  pushed : List KeptPlaces
  pushed = lists ++ no_places ∷ []

  same : (place : ℕ) (b : Bool) → (place == first) ≡ b → cond b (dependants_at first pushed) (dependants_at place pushed) ≡ dependants_at place pushed
  same place true is = let e : place ≡ first = eqb-true place first is in ap (λ n. dependants_at n pushed) (sym e)
  same place false is = refl

  at : (place : ℕ) (other : Row) → slice_get (rows ++ row ∷ []) place ≡ Some other → dependants_at place pushed ≡ places_of (Dependants other.id) rows
  at place other here = elim (get-push rows row other place here) [
    | inl there ↦ (let less = slice_get_within rows place other there in let long = are.long in (kept-push lists place (omega arith)).0 ∙ are.places place other there)
    | inr last ↦ (let long = are.long in let end : place ≡ length lists = last.0 ∙ sym are.long in
        (kept-last lists place end).0 ∙ sym (unwaited rows other.id are.stand (ap (λ (r : Row). row_with r.id rows) (sym last.1) ∙ none)))
  ]

-- ---- the lists of the tasks that it waits for

any-more : (id other : List ℕ) (named : List (List ℕ)) → list_any (λ i. bytes_eq i other) (named ++ id ∷ []) ≡ (list_any (λ i. bytes_eq i other) named || bytes_eq id other)
any-more id other named = list_any-append (λ i. bytes_eq i other) named (id ∷ []) ∙ ap (λ b. list_any (λ i. bytes_eq i other) named || b) (alone (bytes_eq id other)) where
  alone : (b : Bool) → (b || false) ≡ b
  alone true = refl
  alone false = refl

-- one more of them
pub waited-more : (lists new : List KeptPlaces) (rows : List Row) (row : Row) (named : List (List ℕ)) (id : List ℕ) (at : ℕ) → HaveOwnIds (rows ++ row ∷ []) → at ≡ place_in (ids_of rows ++ row.id ∷ []) id → AreWaitedSoFar lists rows row named
    → AreNowAt at (record (kept_at at lists) { dependants = with_place (length rows) (dependants_at at lists) }) lists new → AreWaitedSoFar new rows row (named ++ id ∷ [])
waited-more lists new rows row named id at own is so_far now = record {
  long = now.long ∙ so_far.long;
  places = λ place other here. now.dependants place ∙ by place other here (bytes_eq id other.id) refl;
} where
  n : ℕ
  n = length rows

  none : Bool → List ℕ
  none b = cond b (n ∷ []) []

  or-true : (b : Bool) → (b || true) ≡ true
  or-true true = refl
  or-true false = refl

  or-false : (b : Bool) → (b || false) ≡ b
  or-false true = refl
  or-false false = refl

  by : (place : ℕ) (other : Row) → slice_get (rows ++ row ∷ []) place ≡ Some other → (b : Bool) → bytes_eq id other.id ≡ b
      → cond (place == at) (with_place n (dependants_at at lists)) (dependants_at place lists) ≡ places_of (Dependants other.id) rows ++ none (list_any (λ i. bytes_eq i other.id) (named ++ id ∷ []))
  by place other here true same =
      let there : (place == at) ≡ true = named-here rows row other id at place own is here ∙ same in
      let place_is : place ≡ at = eqb-true place at there in
      let known : Bool = list_any (λ i. bytes_eq i other.id) named in
      let before : dependants_at at lists ≡ places_of (Dependants other.id) rows ++ none known = ap (λ p. dependants_at p lists) (sym place_is) ∙ so_far.places place other here in
      ap (λ b. cond b (with_place n (dependants_at at lists)) (dependants_at place lists)) there
      ∙ (ap (with_place n) before
      ∙ (came n (places_of (Dependants other.id) rows) known (places-within (Dependants other.id) rows)
      ∙ ap (λ b. places_of (Dependants other.id) rows ++ none b) (sym (any-more id other.id named ∙ (ap (λ b. known || b) same ∙ or-true known)))))
  by place other here false same =
      let there : (place == at) ≡ false = named-here rows row other id at place own is here ∙ same in
      let known : Bool = list_any (λ i. bytes_eq i other.id) named in
      ap (λ b. cond b (with_place n (dependants_at at lists)) (dependants_at place lists)) there
      ∙ (so_far.places place other here
      ∙ ap (λ b. places_of (Dependants other.id) rows ++ none b) (sym (any-more id other.id named ∙ (ap (λ b. known || b) same ∙ or-false known))))

-- all of them
pub waited-all : (lists : List KeptPlaces) (rows : List Row) (row : Row) → list_all (depends_on_these (ids_of rows)) rows ≡ true → depends_on_these (ids_of rows ++ row.id ∷ []) row ≡ true
    → AreWaitedSoFar lists rows row row.definition.dependencies → AreWaited lists (rows ++ row ∷ [])
waited-all lists rows row stand own so_far =
    let more : List (List ℕ) = ids_of rows ++ row.id ∷ [] in
    record {
      long = so_far.long ∙ sym (length_push rows row);
      stand =
          ap (λ (is : List (List ℕ)). list_all (depends_on_these is) (rows ++ row ∷ [])) (ids-push rows row)
          ∙ (list_all-append (depends_on_these more) rows (row ∷ []) ∙ rw (stand-behind (ids_of rows) row.id rows stand, own) refl);
      places = λ place other here. so_far.places place other here ∙ sym (places-push (is_listed (Dependants other.id)) 0 (length rows) rows row (omega arith));
    }

-- a task that waits well waits for such as stand, and for itself
pub well-stand : (creation : Creation) (rows : List Row) → waits_well creation rows ≡ true → list_all (λ id. list_any (λ other. bytes_eq other id) (ids_of rows ++ creation.id ∷ [])) creation.definition.dependencies ≡ true
well-stand creation rows well = each creation.definition.dependencies well where
  more : List (List ℕ)
  more = ids_of rows ++ creation.id ∷ []

  test : List ℕ → Bool
  test id = bytes_eq id creation.id || option_map_or (λ r. nat_le creation.definition.deadline r.definition.expires) (row_with id rows) false

  or-true : (b : Bool) → (b || true) ≡ true
  or-true true = refl
  or-true false = refl

  stands : (id : List ℕ) (o : Option Row) → row_with id rows ≡ o → option_map_or (λ r. nat_le creation.definition.deadline r.definition.expires) o false ≡ true → list_any (λ other. bytes_eq other id) (ids_of rows) ≡ true
  stands id None none no_ = cc
  stands id (Some r) found yes_ = any-ids id rows ∙ any-found (has_id id) rows r found

  one : (id : List ℕ) (b : Bool) → bytes_eq id creation.id ≡ b → (b || option_map_or (λ r. nat_le creation.definition.deadline r.definition.expires) (row_with id rows) false) ≡ true → list_any (λ other. bytes_eq other id) more ≡ true
  one id true same yes_ =
      let id_is : id ≡ creation.id = (bytes_eq-Decides id creation.id).0 same in
      list_any-append (λ other. bytes_eq other id) (ids_of rows) (creation.id ∷ [])
      ∙ (ap (λ b. list_any (λ other. bytes_eq other id) (ids_of rows) || (b || false)) ((bytes_eq-Decides creation.id id).1 (sym id_is)) ∙ or-true (list_any (λ other. bytes_eq other id) (ids_of rows)))
  one id false differs yes_ =
      list_any-append (λ other. bytes_eq other id) (ids_of rows) (creation.id ∷ [])
      ∙ ap (λ b. b || list_any (λ other. bytes_eq other id) (creation.id ∷ [])) (stands id (row_with id rows) refl yes_)

  each : (ids : List (List ℕ)) → list_all test ids ≡ true → list_all (λ id. list_any (λ other. bytes_eq other id) more) ids ≡ true
  each [] all_ = refl
  each (id ∷ ids) all_ =
      let parts = and_parts (test id) (list_all test ids) all_ in
      rw (one id (bytes_eq id creation.id) refl parts.0) (each ids parts.1)

-- what is kept of groups stays
pub members-same : (at place : ℕ) (dependants : List ℕ) (lists new : List KeptPlaces) → AreNowAt at (record (kept_at at lists) { dependants = dependants }) lists new → members_at place new ≡ members_at place lists
members-same at place dependants lists new now = now.members place ∙ by (place == at) refl where
  by : (b : Bool) → (place == at) ≡ b → cond b (members_at at lists) (members_at place lists) ≡ members_at place lists
  by true is = let e : place ≡ at = eqb-true place at is in ap (λ n. members_at n lists) (sym e)
  by false is = refl

-- ---- the room

any-within : (ids : List (List ℕ)) (id : List ℕ) → list_any (λ other. bytes_eq other id) ids ≡ true → place_in ids id < length ids
any-within [] id some_ = cc
any-within (x ∷ ids) id some_ = by (any-within ids id) (bytes_eq x id) refl where
  by : (list_any (λ other. bytes_eq other id) ids ≡ true → place_in ids id < length ids) → (b : Bool) → bytes_eq x id ≡ b → place_in (x ∷ ids) id < length (x ∷ ids)
  by rest true is = let place = first-id x id ids true is in omega arith
  by rest false is = let place = first-id x id ids false is in let less = rest (rw is at some_) in omega arith

-- a list of a task that it waits for
pub record CanWait (lists : List KeptPlaces) (at place spare : ℕ) : Type 0 where
  pub within : at < length lists
  pub few : length (dependants_at at lists) ≤ 1_000_000
  pub room : is_last place (dependants_at at lists) ≡ false → HasRoom (length (dependants_at at lists)) spare

pub can-wait : (lists : List KeptPlaces) (rows : List Row) (row : Row) (named : List (List ℕ)) (id : List ℕ) (at spare : ℕ) → HaveOwnIds (rows ++ row ∷ []) → length rows < 1_000_000 → at ≡ place_in (ids_of rows ++ row.id ∷ []) id
    → list_any (λ other. bytes_eq other id) (ids_of rows ++ row.id ∷ []) ≡ true → HasRoomOn rows (Dependants id) spare → AreWaitedSoFar lists rows row named → CanWait lists at (length rows) spare
can-wait lists rows row named id at spare own fewer is stands has so_far = at_row (slice_get all at) refl where
  all : List Row
  all = rows ++ row ∷ []

  n : ℕ
  n = length rows

  long : length (ids_of rows ++ row.id ∷ []) ≡ n + 1
  long = length_push (ids_of rows) row.id ∙ ap (λ k. k + 1) (length-map rows (λ (r : Row). r.id))

  within : at < n + 1
  within = let less = any-within (ids_of rows ++ row.id ∷ []) id stands in let same = long in omega arith

  at_row : (o : Option Row) → slice_get all at ≡ o → CanWait lists at n spare
  at_row None here =
      let length_is = length_push rows row in
      let less = within in
      let there = slice_get-get_or all at row (omega arith) in
      let no_ : None ≡ Some (get_or all at row) = sym here ∙ there in absurd (cc)
  at_row (Some other) here =
      let same : bytes_eq id other.id ≡ true = sym (named-here rows row other id at at own is here) ∙ equal at at refl in
      let id_is : id ≡ other.id = (bytes_eq-Decides id other.id).0 same in
      let known : Bool = list_any (λ i. bytes_eq i other.id) named in
      let places : List ℕ = places_of (Dependants other.id) rows in
      let count : length places ≡ length (listed (Dependants id) rows) = count-listed (Dependants other.id) rows ∙ ap (λ (i : List ℕ). length (listed (Dependants i) rows)) (sym id_is) in
      let before = so_far.places at other here in
      record {
        within = (let l = so_far.long in let less = within in omega arith);
        few = few_of known refl before;
        room = room_of known refl before count;
      }
    where
      known_ : Row → Bool
      known_ other = list_any (λ i. bytes_eq i other.id) named

      one_or : (b : Bool) → length (cond b (n ∷ []) []) ≤ 1
      one_or true = omega arith
      one_or false = omega arith

      few_of : (b : Bool) → known_ other ≡ b → dependants_at at lists ≡ places_of (Dependants other.id) rows ++ cond (known_ other) (n ∷ []) [] → length (dependants_at at lists) ≤ 1_000_000
      few_of b is_ before =
          let most = few-places (Dependants other.id) rows in
          let at_most : length (cond (known_ other) (n ∷ []) []) ≤ 1 = one_or (known_ other) in
          let sum : length (dependants_at at lists) ≡ length (places_of (Dependants other.id) rows) + length (cond (known_ other) (n ∷ []) []) = ap length before ∙ length-append (places_of (Dependants other.id) rows) (cond (known_ other) (n ∷ []) []) in
          omega arith

      room_of : (b : Bool) → known_ other ≡ b → dependants_at at lists ≡ places_of (Dependants other.id) rows ++ cond (known_ other) (n ∷ []) [] → length (places_of (Dependants other.id) rows) ≡ length (listed (Dependants id) rows)
          → is_last n (dependants_at at lists) ≡ false → HasRoom (length (dependants_at at lists)) spare
      room_of true is_ before count no_ =
          let last : is_last n (dependants_at at lists) ≡ true = ap (is_last n) (before ∙ ap (λ b. places_of (Dependants other.id) rows ++ cond b (n ∷ []) []) is_) ∙ is-last n (places_of (Dependants other.id) rows) in
          let e : true ≡ false = sym last ∙ no_ in absurd (cc)
      room_of false is_ before count no_ =
          let same : length (dependants_at at lists) ≡ length (listed (Dependants id) rows) =
          ap length (before ∙ (ap (λ b. places_of (Dependants other.id) rows ++ cond b (n ∷ []) []) is_ ∙ append-none (places_of (Dependants other.id) rows))) ∙ count in
          subst (λ k. HasRoom k spare) (sym same) has
