-- What a task that joins a group leaves of it, and of the others.
use Rattle.std.proofs.Common.{◌≡◌, ◌≢◌, ℕ, Bool, true, false, List, [], ◌∷◌, ◌++◌, Some, None, refl, sym, ◌∙◌, bytes_eq}
use Rattle.std.specs.List.{list_any}
use Rattle.std.proofs.lemmas.Slice.Eq.{bytes_eq-Decides}
use Rattle.task_groups.specs.Members.{TaskGroup, is_group, group_with, rows_of, kept_scheduler, with_row, change_first, joined}

bytes_eq-refl : (bs : List ℕ) → bytes_eq bs bs ≡ true
bytes_eq-refl bs = (bytes_eq-Decides bs bs).1 refl

abbrev first_of_group : List ℕ → List ℕ → ℕ → TaskGroup
first_of_group id scheduler row = record { id = id; scheduler = scheduler; rows = row ∷ [] }

rows-change : (id : List ℕ) (row : ℕ) (groups : List TaskGroup) → list_any (is_group id) groups ≡ true → rows_of id (change_first (is_group id) (with_row row) groups) ≡ rows_of id groups ++ row ∷ []
rows-change id row [] any = absurd (let e : false ≡ true = any in cc)
rows-change id row (g ∷ gs) any = by (rows-change id row gs) (is_group id g) refl where
  by : (list_any (is_group id) gs ≡ true → rows_of id (change_first (is_group id) (with_row row) gs) ≡ rows_of id gs ++ row ∷ []) → (b : Bool) → is_group id g ≡ b → rows_of id (change_first (is_group id) (with_row row) (g ∷ gs)) ≡ rows_of id (g ∷ gs) ++ row ∷ []
  by rest true is = rw is (rw is refl)
  by rest false is = let some : list_any (is_group id) gs ≡ true = rw is at any in rw is (rw is (rest some))

rows-push : (id scheduler : List ℕ) (row : ℕ) (groups : List TaskGroup) → list_any (is_group id) groups ≡ false → rows_of id (groups ++ first_of_group id scheduler row ∷ []) ≡ rows_of id groups ++ row ∷ []
rows-push id scheduler row [] any = rw (bytes_eq-refl id) refl
rows-push id scheduler row (g ∷ gs) any = by (rows-push id scheduler row gs) (is_group id g) refl where
  by : (list_any (is_group id) gs ≡ false → rows_of id (gs ++ first_of_group id scheduler row ∷ []) ≡ rows_of id gs ++ row ∷ []) → (b : Bool) → is_group id g ≡ b → rows_of id ((g ∷ gs) ++ first_of_group id scheduler row ∷ []) ≡ rows_of id (g ∷ gs) ++ row ∷ []
  by rest true is = absurd (let e : true ≡ false = rw is at any in cc)
  by rest false is = let none : list_any (is_group id) gs ≡ false = rw is at any in rw is (rest none)

pub rows-joined : (id scheduler : List ℕ) (row : ℕ) (groups : List TaskGroup) → rows_of id (joined id scheduler row groups) ≡ rows_of id groups ++ row ∷ []
rows-joined id scheduler row groups = by (list_any (is_group id) groups) refl where
  by : (b : Bool) → list_any (is_group id) groups ≡ b → rows_of id (joined id scheduler row groups) ≡ rows_of id groups ++ row ∷ []
  by true is = rw is (rows-change id row groups is)
  by false is = rw is (rows-push id scheduler row groups is)

scheduler-change : (id : List ℕ) (row : ℕ) (groups : List TaskGroup) → kept_scheduler id (change_first (is_group id) (with_row row) groups) ≡ kept_scheduler id groups
scheduler-change id row [] = refl
scheduler-change id row (g ∷ gs) = by (scheduler-change id row gs) (is_group id g) refl where
  by : kept_scheduler id (change_first (is_group id) (with_row row) gs) ≡ kept_scheduler id gs → (b : Bool) → is_group id g ≡ b → kept_scheduler id (change_first (is_group id) (with_row row) (g ∷ gs)) ≡ kept_scheduler id (g ∷ gs)
  by rest true is = rw is (rw is refl)
  by rest false is = rw is (rw is rest)

scheduler-push : (id scheduler : List ℕ) (row : ℕ) (groups : List TaskGroup) → list_any (is_group id) groups ≡ false → kept_scheduler id (groups ++ first_of_group id scheduler row ∷ []) ≡ Some scheduler
scheduler-push id scheduler row [] any = rw (bytes_eq-refl id) refl
scheduler-push id scheduler row (g ∷ gs) any = by (scheduler-push id scheduler row gs) (is_group id g) refl where
  by : (list_any (is_group id) gs ≡ false → kept_scheduler id (gs ++ first_of_group id scheduler row ∷ []) ≡ Some scheduler) → (b : Bool) → is_group id g ≡ b → kept_scheduler id ((g ∷ gs) ++ first_of_group id scheduler row ∷ []) ≡ Some scheduler
  by rest true is = absurd (let e : true ≡ false = rw is at any in cc)
  by rest false is = let none : list_any (is_group id) gs ≡ false = rw is at any in rw is (rest none)

no-scheduler : (id : List ℕ) (groups : List TaskGroup) → list_any (is_group id) groups ≡ false → kept_scheduler id groups ≡ None
no-scheduler id [] any = refl
no-scheduler id (g ∷ gs) any = by (no-scheduler id gs) (is_group id g) refl where
  by : (list_any (is_group id) gs ≡ false → kept_scheduler id gs ≡ None) → (b : Bool) → is_group id g ≡ b → kept_scheduler id (g ∷ gs) ≡ None
  by rest true is = absurd (let e : true ≡ false = rw is at any in cc)
  by rest false is = let none : list_any (is_group id) gs ≡ false = rw is at any in rw is (rest none)

some-scheduler : (id : List ℕ) (groups : List TaskGroup) → list_any (is_group id) groups ≡ true → kept_scheduler id groups ≡ None → ⊥
some-scheduler id [] any none = let e : false ≡ true = any in cc
some-scheduler id (g ∷ gs) any none = by (some-scheduler id gs) (is_group id g) refl where
  by : (list_any (is_group id) gs ≡ true → kept_scheduler id gs ≡ None → ⊥) → (b : Bool) → is_group id g ≡ b → ⊥
  by rest true is = let e : Some g.scheduler ≡ None = rw is at none in cc
  by rest false is = let some : list_any (is_group id) gs ≡ true = rw is at any in let no_ : kept_scheduler id gs ≡ None = rw is at none in rest some no_

pub scheduler-stays : (id scheduler : List ℕ) (row : ℕ) (groups : List TaskGroup) (kept : List ℕ) → kept_scheduler id groups ≡ Some kept → kept_scheduler id (joined id scheduler row groups) ≡ Some kept
scheduler-stays id scheduler row groups kept has = by (list_any (is_group id) groups) refl where
  by : (b : Bool) → list_any (is_group id) groups ≡ b → kept_scheduler id (joined id scheduler row groups) ≡ Some kept
  by true is = rw is (scheduler-change id row groups ∙ has)
  by false is = absurd (let e : None ≡ Some kept = sym (no-scheduler id groups is) ∙ has in cc)

pub scheduler-first : (id scheduler : List ℕ) (row : ℕ) (groups : List TaskGroup) → kept_scheduler id groups ≡ None → kept_scheduler id (joined id scheduler row groups) ≡ Some scheduler
scheduler-first id scheduler row groups none = by (list_any (is_group id) groups) refl where
  by : (b : Bool) → list_any (is_group id) groups ≡ b → kept_scheduler id (joined id scheduler row groups) ≡ Some scheduler
  by true is = absurd (some-scheduler id groups is none)
  by false is = rw is (scheduler-push id scheduler row groups is)

-- a group of one id has no other
one-id : (group id other : List ℕ) → other ≢ id → bytes_eq group id ≡ true → bytes_eq group other ≡ false
one-id group id other differs is = by (bytes_eq group other) refl where
  by : (b : Bool) → bytes_eq group other ≡ b → bytes_eq group other ≡ false
  by true also = absurd (differs (sym ((bytes_eq-Decides group other).0 also) ∙ (bytes_eq-Decides group id).0 is))
  by false also = also

other-change : (id other : List ℕ) (row : ℕ) (groups : List TaskGroup) → other ≢ id → group_with other (change_first (is_group id) (with_row row) groups) ≡ group_with other groups
other-change id other row [] differs = refl
other-change id other row (g ∷ gs) differs = by (other-change id other row gs differs) (is_group id g) (is_group other g) refl refl where
  by : group_with other (change_first (is_group id) (with_row row) gs) ≡ group_with other gs → (a b : Bool) → is_group id g ≡ a → is_group other g ≡ b → group_with other (change_first (is_group id) (with_row row) (g ∷ gs)) ≡ group_with other (g ∷ gs)
  by rest true b is also = let no_ : bytes_eq g.id other ≡ false = one-id g.id id other differs is in rw is (rw no_ refl)
  by rest false true is also = rw is (rw also refl)
  by rest false false is also = rw is (rw also rest)

other-push : (id other scheduler : List ℕ) (row : ℕ) (groups : List TaskGroup) → other ≢ id → group_with other (groups ++ first_of_group id scheduler row ∷ []) ≡ group_with other groups
other-push id other scheduler row [] differs = rw (one-id id id other differs (bytes_eq-refl id)) refl
other-push id other scheduler row (g ∷ gs) differs = by (other-push id other scheduler row gs differs) (is_group other g) refl where
  by : group_with other (gs ++ first_of_group id scheduler row ∷ []) ≡ group_with other gs → (b : Bool) → is_group other g ≡ b → group_with other ((g ∷ gs) ++ first_of_group id scheduler row ∷ []) ≡ group_with other (g ∷ gs)
  by rest true is = rw is refl
  by rest false is = rw is rest

pub group-joined_other : (id other scheduler : List ℕ) (row : ℕ) (groups : List TaskGroup) → other ≢ id → group_with other (joined id scheduler row groups) ≡ group_with other groups
group-joined_other id other scheduler row groups differs = by (list_any (is_group id) groups) refl where
  by : (b : Bool) → list_any (is_group id) groups ≡ b → group_with other (joined id scheduler row groups) ≡ group_with other groups
  by true is = rw is (other-change id other row groups differs)
  by false is = rw is (other-push id other scheduler row groups differs)
