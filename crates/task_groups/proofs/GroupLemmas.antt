-- The first group of an id, and a row that joins it.
use Rattle.std.proofs.Common.{◌≡◌, ℕ, ◌+◌, ◌<◌, Bool, true, false, not, List, [], ◌∷◌, ◌++◌, map, length, get_or, Option, Some, None, refl, sym, ◌∙◌, ap, subst, cond, bytes_eq, arith, nat_lt, find, position, zero, suc, vec_len, ◌-◌, IfSome}
use Rattle.std.specs.Prelude.{All, slice_index, vec_capacity}
use Rattle.std.specs.List.{list_any, AllPairs, position_or_len, prefix_len}
use Rattle.std.proofs.Math.ListN.{set}
use Rattle.std.proofs.Math.Seq.{map-set_same}
use Rattle.std.proofs.lemmas.Bool.{ltb-false}
use Rattle.std.proofs.lemmas.List.{map-set, get_or-map, get_or-set_same, length-set}
use Rattle.std.proofs.lemmas.List.Quantifiers.{position-Some, all_pairs_push}
use Rattle.std.proofs.lemmas.List.Sums.{fails_before_first}
use Rattle.task_groups.specs.declared.group.Group.{Group}
use Rattle.task_groups.specs.declared.fault.ReserveFault.{ReserveFault}
use Rattle.task_groups.specs.Faults.{IsCauseOf}
use Rattle.task_groups.specs.Kept.{shown, spares, HaveRisingRows}
use Rattle.task_groups.specs.Members.{TaskGroup, is_group, group_with, rows_of, kept_scheduler, with_row, change_first, joined}

-- ---- the first of a list that passes a test

-- what is known of a list whose first element that passes is this one
pub record FirstIs {A : Type 0} (test : A → Bool) (change : A → A) (xs : List A) (k : ℕ) (d : A) : Type 0 where
  pub changed : set xs k (change (get_or xs k d)) ≡ change_first test change xs
  pub any : list_any test xs ≡ true
  pub found : find test xs ≡ Some (get_or xs k d)

first-is : {A : Type 0} (test : A → Bool) (change : A → A) (xs : List A) (k : ℕ) (d : A) → k < length xs → test (get_or xs k d) ≡ true → ((j : ℕ) → j < k → test (get_or xs j d) ≡ false) → FirstIs test change xs k d
first-is test change [] k d within is before = absurd (omega arith)
first-is test change (x ∷ xs) zero d within is before = record { changed = rw is refl; any = rw is refl; found = rw is refl }
first-is test change (x ∷ xs) (suc k) d within is before =
    let no_ : test x ≡ false = before 0 (omega arith) in
    let rest = first-is test change xs k d (omega arith) is (λ j below. before (suc j) (omega arith)) in
    record { changed = rw no_ (ap (λ l. x ∷ l) rest.changed); any = rw no_ rest.any; found = rw no_ rest.found }

-- what a list has none of
pub record NoneIs {A : Type 0} (test : A → Bool) (xs : List A) : Type 0 where
  pub any : list_any test xs ≡ false
  pub found : find test xs ≡ None

none-is : {A : Type 0} (test : A → Bool) (xs : List A) → ((j : ℕ) (d : A) → j < length xs → test (get_or xs j d) ≡ false) → NoneIs test xs
none-is test [] none = record { any = refl; found = refl }
none-is test (x ∷ xs) none =
    let no_ : test x ≡ false = none 0 x (omega arith) in
    let rest = none-is test xs (λ j d below. none (suc j) d (omega arith)) in
    record { any = rw no_ rest.any; found = rw no_ rest.found }

-- ---- the place of a group

abbrev has_id : List ℕ → Group → Bool
has_id id group = bytes_eq group.id id

pub length-shown : (groups : List Group) → length (map shown groups) ≡ length groups
length-shown [] = refl
length-shown (g ∷ gs) = ap suc (length-shown gs)

-- what is known of the first group with an id, which stands at this place
pub record GroupAt (groups : List Group) (id : List ℕ) (k row : ℕ) (d : TaskGroup) : Type 0 where
  pub within : k < length groups
  pub first : FirstIs (is_group id) (with_row row) (map shown groups) k d

none-some : (k : ℕ) → None ≡ Some k → ⊥
none-some k is = cc

pub at-place : (groups : List Group) (id : List ℕ) (k row : ℕ) (d : TaskGroup) → position (λ (group : Group). bytes_eq group.id id) groups ≡ Some k → GroupAt groups id k row d
at-place [] id k row d is = absurd (none-some k is)
at-place (g ∷ gs) id k row d is =
    let known = position-Some (has_id id) (g ∷ gs) k g is in
    let inside : k < length (g ∷ gs) = known.0 in
    let long : length (map shown (g ∷ gs)) ≡ length (g ∷ gs) = length-shown (g ∷ gs) in
    let P : TaskGroup → Type 0 = λ t. is_group id t ≡ true in
    let Q : TaskGroup → Type 0 = λ t. is_group id t ≡ false in
    record {
      within = inside;
      first = first-is (is_group id) (with_row row) (map shown (g ∷ gs)) k d (omega arith) (subst P (sym (get_or-map shown (g ∷ gs) k g d inside)) known.1)
          (λ j below. subst Q (sym (get_or-map shown (g ∷ gs) j g d (omega arith))) (known.2 j below));
    }

-- where a group has no place
pub no-place : (groups : List Group) (id : List ℕ) → position (λ (group : Group). bytes_eq group.id id) groups ≡ None → NoneIs (is_group id) (map shown groups)
no-place [] id is = record { any = refl; found = refl }
no-place (g ∷ gs) id is = by (nat_lt (position_or_len (has_id id) (g ∷ gs)) (length (g ∷ gs))) refl where
  by : (b : Bool) → nat_lt (position_or_len (has_id id) (g ∷ gs)) (length (g ∷ gs)) ≡ b → NoneIs (is_group id) (map shown (g ∷ gs))
  by true lt = absurd (let e : Some (position_or_len (has_id id) (g ∷ gs)) ≡ None = rw lt at is in cc)
  by false lt =
      let past = ltb-false (position_or_len (has_id id) (g ∷ gs)) (length (g ∷ gs)) lt in
      let long : length (map shown (g ∷ gs)) ≡ length (g ∷ gs) = length-shown (g ∷ gs) in
      let Q : TaskGroup → Type 0 = λ t. is_group id t ≡ false in
      none-is (is_group id) (map shown (g ∷ gs)) (λ j d below. subst Q (sym (get_or-map shown (g ∷ gs) j g d (omega arith))) (fails_before_first (has_id id) (g ∷ gs) j g (omega arith)))

-- the place of an id, in groups as contracts see them
prefix_len-shown : (test : TaskGroup → Bool) (groups : List Group) → prefix_len test (map shown groups) ≡ prefix_len (λ g. test (shown g)) groups
prefix_len-shown test [] = refl
prefix_len-shown test (g ∷ gs) = ap (λ n. cond (test (shown g)) (1 + n) 0) (prefix_len-shown test gs)

abbrev place_or_none : ℕ → ℕ → Option ℕ
place_or_none place length = cond (nat_lt place length) (Some place) None

position-shown : (groups : List Group) (id : List ℕ) → position (λ (group : Group). bytes_eq group.id id) groups ≡ position (is_group id) (map shown groups)
position-shown groups id =
    let place : prefix_len (λ t. not (is_group id t)) (map shown groups) ≡ prefix_len (λ (g : Group). not (bytes_eq g.id id)) groups = prefix_len-shown (λ t. not (is_group id t)) groups in
    ap (λ n. place_or_none n (length groups)) (sym place) ∙ ap (λ l. place_or_none (prefix_len (λ t. not (is_group id t)) (map shown groups)) l) (sym (length-shown groups))

pub position-same : (groups others : List Group) (id : List ℕ) → map shown groups ≡ map shown others → position (λ (group : Group). bytes_eq group.id id) groups ≡ position (λ (group : Group). bytes_eq group.id id) others
position-same groups others id same = position-shown groups id ∙ (ap (position (is_group id)) same ∙ sym (position-shown others id))

-- the group at a place, as contracts see it
pub at-shown : (groups : List Group) (place : ℕ) (g : Group) (d : TaskGroup) → place < length groups → g ≡ get_or groups place g → get_or (map shown groups) place d ≡ shown g
at-shown groups place g d within is = get_or-map shown groups place g d within ∙ ap shown (sym is)

-- ---- what is kept of the group that a row joins

pub kept-at : (groups : List Group) (id : List ℕ) (place : ℕ) (d : TaskGroup) → position (λ (group : Group). bytes_eq group.id id) groups ≡ Some place → kept_scheduler id (map shown groups) ≡ Some ((get_or (map shown groups) place d).scheduler)
kept-at groups id place d is = let at = at-place groups id place 0 d is in rw at.first.found refl

pub kept-none : (groups : List Group) (id : List ℕ) → position (λ (group : Group). bytes_eq group.id id) groups ≡ None → kept_scheduler id (map shown groups) ≡ None
kept-none groups id is = let none = no-place groups id is in rw none.found refl

pub rows-at : (groups : List Group) (id : List ℕ) (place : ℕ) (g : Group) → position (λ (group : Group). bytes_eq group.id id) groups ≡ Some place → g ≡ get_or groups place g → g.rows.items ≡ rows_of id (map shown groups)
rows-at groups id place g is at =
    let place_is = at-place groups id place 0 (shown g) is in
    let here : get_or (map shown groups) place (shown g) ≡ shown g = at-shown groups place g (shown g) place_is.within at in
    let found : group_with id (map shown groups) ≡ Some (shown g) = place_is.first.found ∙ ap Some here in
    rw found refl

pub rows-none : (groups : List Group) (id : List ℕ) → position (λ (group : Group). bytes_eq group.id id) groups ≡ None → [] ≡ rows_of id (map shown groups)
rows-none groups id is = let none = no-place groups id is in rw none.found refl

pub joined-at : (groups : List Group) (id scheduler : List ℕ) (place row : ℕ) (new : List TaskGroup) → position (λ (group : Group). bytes_eq group.id id) groups ≡ Some place → ((d : TaskGroup) → new ≡ set (map shown groups) place (with_row row (get_or (map shown groups) place d))) → new ≡ joined id scheduler row (map shown groups)
joined-at groups id scheduler place row new is at =
    let d : TaskGroup = record { id = id; scheduler = scheduler; rows = [] } in
    let first = (at-place groups id place row d is).first in
    at d ∙ (first.changed ∙ rw first.any refl)

pub joined-none : (groups : List Group) (id scheduler : List ℕ) (row : ℕ) (new : List TaskGroup) → position (λ (group : Group). bytes_eq group.id id) groups ≡ None → new ≡ map shown groups ++ (record { id = id; scheduler = scheduler; rows = row ∷ [] }) ∷ [] → new ≡ joined id scheduler row (map shown groups)
joined-none groups id scheduler row new is at = let none = no-place groups id is in at ∙ rw none.any refl

-- a group is written again as contracts see it
pub same-shown : (groups : List Group) (place : ℕ) (g y : Group) → g ≡ get_or groups place g → shown y ≡ shown g → map shown (set groups place y) ≡ map shown groups
same-shown groups place g y at is = map-set_same shown groups place y g (is ∙ ap shown at)

-- the room of the group at a place
pub spare-at : (groups : List Group) (place : ℕ) (y : Group) → place < length groups → 0 < vec_capacity y.rows - vec_len y.rows → 0 < slice_index (spares (set groups place y)) place
spare-at groups place y within room =
    let f : Group → ℕ = λ g. vec_capacity g.rows - vec_len g.rows in
    let long : length (set groups place y) ≡ length groups = length-set groups place y in
    let read : get_or (map f (set groups place y)) place 0 ≡ f y = get_or-map f (set groups place y) place y 0 (omega arith) ∙ ap f (get_or-set_same groups place y y within) in
    let P : ℕ → Type 0 = λ n. 0 < n in
    subst P (sym read) room

-- what is told of the group at a place holds of the scheduler that is kept
pub served-at : (groups : List Group) (id scheduler : List ℕ) (place : ℕ) → position (λ (group : Group). bytes_eq group.id id) groups ≡ Some place → ((d : TaskGroup) → (get_or (map shown groups) place d).scheduler ≡ scheduler) → IfSome (kept_scheduler id (map shown groups)) (λ kept. kept ≡ scheduler)
served-at groups id scheduler place is told =
    let d : TaskGroup = record { id = id; scheduler = scheduler; rows = [] } in
    let P : Option (List ℕ) → Type 0 = λ o. IfSome o (λ kept. kept ≡ scheduler) in
    subst P (sym (kept-at groups id place d is)) (told d)

pub refused-at : (groups : List Group) (id scheduler : List ℕ) (place : ℕ) (fault : ReserveFault) → position (λ (group : Group). bytes_eq group.id id) groups ≡ Some place → ((d : TaskGroup) → IsCauseOf fault (Some ((get_or (map shown groups) place d).scheduler)) scheduler) → IsCauseOf fault (kept_scheduler id (map shown groups)) scheduler
refused-at groups id scheduler place fault is told =
    let d : TaskGroup = record { id = id; scheduler = scheduler; rows = [] } in
    let P : Option (List ℕ) → Type 0 = λ o. IsCauseOf fault o scheduler in
    subst P (sym (kept-at groups id place d is)) (told d)

pub served-none : (groups : List Group) (id scheduler : List ℕ) → position (λ (group : Group). bytes_eq group.id id) groups ≡ None → IfSome (kept_scheduler id (map shown groups)) (λ kept. kept ≡ scheduler)
served-none groups id scheduler is =
    let P : Option (List ℕ) → Type 0 = λ o. IfSome o (λ kept. kept ≡ scheduler) in
    subst P (sym (kept-none groups id is)) tt

-- a row is pushed
pub pushed-shown : (groups : List Group) (place row : ℕ) (g y : Group) (d : TaskGroup) → place < length groups → g ≡ get_or groups place g → shown y ≡ with_row row (shown g) → map shown (set groups place y) ≡ set (map shown groups) place (with_row row (get_or (map shown groups) place d))
pushed-shown groups place row g y d within at is =
    map-set shown groups place y ∙ (ap (set (map shown groups) place) is ∙ ap (λ (t : TaskGroup). set (map shown groups) place (with_row row t)) (sym (at-shown groups place g d within at)))

-- ---- the rows of each group rise

AllPairs-one : (row : ℕ) → AllPairs (λ x y. x < y) (row ∷ [])
AllPairs-one row i j d lt within = absurd (omega arith)

rising-change : (id : List ℕ) (row : ℕ) (groups : List TaskGroup) → HaveRisingRows groups → All (λ held. held < row) (rows_of id groups) → HaveRisingRows (change_first (is_group id) (with_row row) groups)
rising-change id row [] rise last = tt
rising-change id row (g ∷ gs) rise last = by (rising-change id row gs rise.1) (is_group id g) refl where
  by : (All (λ held. held < row) (rows_of id gs) → HaveRisingRows (change_first (is_group id) (with_row row) gs)) → (b : Bool) → is_group id g ≡ b → HaveRisingRows (change_first (is_group id) (with_row row) (g ∷ gs))
  by rest true is =
      let here : All (λ held. held < row) g.rows = rw is at last in
      rw is (all_pairs_push (λ x y. x < y) g.rows row rise.0 here, rise.1)
  by rest false is =
      let there : All (λ held. held < row) (rows_of id gs) = rw is at last in
      rw is (rise.0, rest there)

rising-push : (groups : List TaskGroup) (g : TaskGroup) → HaveRisingRows groups → AllPairs (λ x y. x < y) g.rows → HaveRisingRows (groups ++ g ∷ [])
rising-push [] g rise last = (last, tt)
rising-push (x ∷ xs) g rise last = (rise.0, rising-push xs g rise.1 last)

pub rising-joined : (id scheduler : List ℕ) (row : ℕ) (groups : List TaskGroup) → HaveRisingRows groups → All (λ held. held < row) (rows_of id groups) → HaveRisingRows (joined id scheduler row groups)
rising-joined id scheduler row groups rise last = by (list_any (is_group id) groups) refl where
  by : (b : Bool) → list_any (is_group id) groups ≡ b → HaveRisingRows (joined id scheduler row groups)
  by true is = rw is (rising-change id row groups rise last)
  by false is = rw is (rising-push groups (record { id = id; scheduler = scheduler; rows = row ∷ [] }) rise (AllPairs-one row))

pub rising-of : (id : List ℕ) (groups : List TaskGroup) → HaveRisingRows groups → AllPairs (λ x y. x < y) (rows_of id groups)
rising-of id [] rise = λ i j d lt within. absurd (omega arith)
rising-of id (g ∷ gs) rise = by (rising-of id gs rise.1) (is_group id g) refl where
  by : AllPairs (λ x y. x < y) (rows_of id gs) → (b : Bool) → is_group id g ≡ b → AllPairs (λ x y. x < y) (rows_of id (g ∷ gs))
  by rest true is = rw is rise.0
  by rest false is = rw is rest
