-- The tasks of each group, by their places: what is told of them, and what comes with a task more.
use Rattle.std.proofs.Common.{◌≡◌, ◌≢◌, ℕ, zero, suc, ◌+◌, ◌<◌, Bool, true, false, cond, List, [], ◌∷◌, ◌++◌, find, length, take, nat_lt, nat_le, slice_get, bytes_eq, Option, Some, None, refl, sym, ◌∙◌, ap, subst, arith}
use Rattle.std.specs.Prelude.{All, MatchOption}
use Rattle.std.specs.List.{last_or}
use Rattle.std.specs.Option.{ForSome, option_map_or}
use Rattle.std.proofs.lemmas.Bool.{le-leb, ltb-true, ltb-false}
use Rattle.std.proofs.lemmas.List.Elements.{All-head, All-tail}
use Rattle.std.proofs.lemmas.Slice.Eq.{bytes_eq-Decides}
use Rattle.task_types.specs.declared.task_def.TaskDef.{TaskDef}
use Rattle.run_states.specs.Rows.{Row}
use Rattle.run_states.specs.Later.{RowsLater}
use Rattle.task_groups.specs.Members.{TaskGroup, TaskGroups, rows_of, last_row, joined}
use Rattle.task_groups.specs.Pages.{rows_after}
use Rattle.task_groups.proofs.JoinLemmas.{rows-joined, group-joined_other}
use Rattle.task_index.specs.declared.lists.TaskList.TheVariants.{Group}
use Rattle.task_index.specs.Lists.{is_listed}
use Rattle.task_index.specs.Listing.{places_from, places_of, starting_at}
use Rattle.task_index.specs.Members.{in_group, AreMembers, MayBeMembers}
use Rattle.task_index.proofs.ListingLemmas.{not-below, whole-from, places-within}

-- ---- the places from one on

same-test : (place start row : ℕ) → place + 1 ≡ start → nat_lt place row ≡ nat_le start row
same-test place start row at = by (nat_lt place row) refl where
  by : (b : Bool) → nat_lt place row ≡ b → nat_lt place row ≡ nat_le start row
  by true is = let less = ltb-true place row is in is ∙ sym (le-leb start row (omega arith))
  by false is = let past = ltb-false place row is in is ∙ sym (not-below start row (omega arith))

-- those behind the place before it
pub after-before : (token : Option ℕ) (start : ℕ) (rows : List ℕ) → MatchOption token (start ≡ 0) (λ place. place + 1 ≡ start) → rows_after token rows ≡ starting_at start rows
after-before None start rows at = sym (whole-from start rows (λ k d inside. omega arith))
after-before (Some place) start [] at = refl
after-before (Some place) start (row ∷ rows) at = by (after-before (Some place) start rows at) (nat_le start row) refl where
  by : rows_after (Some place) rows ≡ starting_at start rows → (b : Bool) → nat_le start row ≡ b → rows_after (Some place) (row ∷ rows) ≡ starting_at start (row ∷ rows)
  by rest true is = rw (same-test place start row at, is) (ap (λ (rs : List ℕ). row ∷ rs) rest)
  by rest false is = rw (same-test place start row at, is) rest

-- ---- the first task of a group

pub first-taken : (rows : List ℕ) → slice_get (take 1 rows) 0 ≡ slice_get rows 0
first-taken [] = refl
first-taken (row ∷ rows) = refl

first-at : (test : Row → Bool) (all : List Row) (from : ℕ) (rows : List Row) (place : ℕ) → ((k n : ℕ) → n ≡ from + k → slice_get all n ≡ slice_get rows k) → slice_get (places_from test from rows) 0 ≡ Some place → slice_get all place ≡ find test rows
first-at test all from [] place same is = cc
first-at test all from (row ∷ rows) place same is = by (first-at test all (from + 1) rows place (λ k n at. same (suc k) n (omega arith))) (test row) refl where
  by : (slice_get (places_from test (from + 1) rows) 0 ≡ Some place → slice_get all place ≡ find test rows) → (b : Bool) → test row ≡ b → slice_get all place ≡ find test (row ∷ rows)
  by rest true here =
      let first : Some from ≡ Some place = rw here at is in
      let at : from ≡ place = cc in
      rw here (ap (slice_get all) (sym at) ∙ same zero from (omega arith))
  by rest false here = rw here (rest (rw here at is))

none-first : (test : Row → Bool) (from : ℕ) (rows : List Row) → slice_get (places_from test from rows) 0 ≡ None → None ≡ find test rows
none-first test from [] is = refl
none-first test from (row ∷ rows) is = by (none-first test (from + 1) rows) (test row) refl where
  by : (slice_get (places_from test (from + 1) rows) 0 ≡ None → None ≡ find test rows) → (b : Bool) → test row ≡ b → None ≡ find test (row ∷ rows)
  by rest true here = let no_ : Some from ≡ None = rw here at is in absurd (cc)
  by rest false here = rw here (rest (rw here at is))

-- it stands at the first place of the group
pub member-first : (groups : List TaskGroup) (rows : List Row) (group : List ℕ) (place : ℕ) → AreMembers groups rows → slice_get (rows_of group groups) 0 ≡ Some place → slice_get rows place ≡ find (in_group group) rows
member-first groups rows group place are is =
    first-at (in_group group) rows 0 rows place (λ k n at. let same : n ≡ k = omega arith in ap (slice_get rows) same) (ap (λ (ps : List ℕ). slice_get ps 0) (sym (are.places group)) ∙ is)

pub member-none : (groups : List TaskGroup) (rows : List Row) (group : List ℕ) → AreMembers groups rows → slice_get (rows_of group groups) 0 ≡ None → None ≡ find (in_group group) rows
member-none groups rows group are is = none-first (in_group group) 0 rows (ap (λ (ps : List ℕ). slice_get ps 0) (sym (are.places group)) ∙ is)

-- ---- a task that comes

last-below : (end : ℕ) (o : Option ℕ) (xs : List ℕ) → ForSome o (λ held. held < end) → All (λ x. x < end) xs → ForSome (last_or o xs) (λ held. held < end)
last-below end o [] before all = before
last-below end o (x ∷ xs) before all =
    last-below end (Some x) xs (λ y is. let first = All-head (λ z. z < end) x xs all in let same : x ≡ y = cc in omega arith) (All-tail (λ z. z < end) x xs all)

-- the places of a group are before it
pub member-last : (groups : List TaskGroup) (rows : List Row) (group : List ℕ) → AreMembers groups rows → ForSome (last_row group groups) (λ held. held < length rows)
member-last groups rows group are =
    subst (λ (ps : List ℕ). ForSome (last_or None ps) (λ held. held < length rows)) (sym (are.places group)) (last-below (length rows) None (places_of (Group group) rows) (λ x is. cc) (places-within (Group group) rows))

pub places-push : (test : Row → Bool) (from place : ℕ) (rows : List Row) (row : Row) → place ≡ from + length rows → places_from test from (rows ++ row ∷ []) ≡ places_from test from rows ++ cond (test row) (place ∷ []) []
places-push test from place [] row at = let same : from ≡ place = omega arith in ap (λ n. cond (test row) (n ∷ []) []) same
places-push test from place (r ∷ rows) row at = by (places-push test (from + 1) place rows row (omega arith)) (test r) refl where
  by : places_from test (from + 1) (rows ++ row ∷ []) ≡ places_from test (from + 1) rows ++ cond (test row) (place ∷ []) [] → (b : Bool) → test r ≡ b
      → places_from test from ((r ∷ rows) ++ row ∷ []) ≡ places_from test from (r ∷ rows) ++ cond (test row) (place ∷ []) []
  by rest true is = rw is (ap (λ (ps : List ℕ). from ∷ ps) rest)
  by rest false is = rw is rest

pub append-none : (xs : List ℕ) → xs ++ [] ≡ xs
append-none [] = refl
append-none (x ∷ xs) = ap (λ (ys : List ℕ). x ∷ ys) (append-none xs)

-- it is the last of its group, and the others stay
pub member-joined : (groups : List TaskGroup) (rows : List Row) (row : Row) (scheduler : List ℕ) → AreMembers groups rows → AreMembers (joined row.definition.task_group_id scheduler (length rows) groups) (rows ++ row ∷ [])
member-joined groups rows row scheduler are = record { places = at } where
  own : List ℕ
  own = row.definition.task_group_id

  pushed : (group : List ℕ) → places_of (Group group) (rows ++ row ∷ []) ≡ places_of (Group group) rows ++ cond (bytes_eq own group) (length rows ∷ []) []
  pushed group = places-push (is_listed (Group group)) 0 (length rows) rows row (omega arith)

  at : (group : List ℕ) → rows_of group (joined own scheduler (length rows) groups) ≡ places_of (Group group) (rows ++ row ∷ [])
  at group = by (bytes_eq own group) refl where
    by : (b : Bool) → bytes_eq own group ≡ b → rows_of group (joined own scheduler (length rows) groups) ≡ places_of (Group group) (rows ++ row ∷ [])
    by true is =
        let same : own ≡ group = (bytes_eq-Decides own group).0 is in
        ap (λ (g : List ℕ). rows_of g (joined own scheduler (length rows) groups)) (sym same)
        ∙ (rows-joined own scheduler (length rows) groups
        ∙ (ap (λ (g : List ℕ). rows_of g groups ++ length rows ∷ []) same
        ∙ (ap (λ (ps : List ℕ). ps ++ length rows ∷ []) (are.places group)
        ∙ sym (pushed group ∙ ap (λ b. places_of (Group group) rows ++ cond b (length rows ∷ []) []) is))))
    by false is =
        let differs : group ≢ own = λ same. apart (sym same) is in
        ap (λ (o : Option TaskGroup). option_map_or (λ g. g.rows) o []) (group-joined_other own group scheduler (length rows) groups differs)
        ∙ (are.places group
        ∙ sym (pushed group ∙ (ap (λ b. places_of (Group group) rows ++ cond b (length rows ∷ []) []) is ∙ append-none (places_of (Group group) rows))))
      where
        apart : own ≡ group → bytes_eq own group ≡ false → ⊥
        apart same no_ = let yes_ : bytes_eq own group ≡ true = (bytes_eq-Decides own group).1 same in let e : true ≡ false = sym yes_ ∙ no_ in cc

-- ---- tasks that change

places-later : (group : List ℕ) (from : ℕ) (before rows : List Row) → RowsLater before rows → length rows ≡ length before → places_from (is_listed (Group group)) from rows ≡ places_from (is_listed (Group group)) from before
places-later group from [] [] stay long = refl
places-later group from [] (r ∷ rows) stay long = absurd (omega arith)
places-later group from (b ∷ before) [] stay long = absurd stay
places-later group from (b ∷ before) (r ∷ rows) stay long =
    let rest : List ℕ = places_from (is_listed (Group group)) (from + 1) rows in
    ap (λ (d : TaskDef). cond (bytes_eq d.task_group_id group) (from ∷ rest) rest) stay.0.definition
    ∙ ap (λ (ps : List ℕ). cond (bytes_eq b.definition.task_group_id group) (from ∷ ps) ps) (places-later group (from + 1) before rows stay.1 (omega arith))

-- a task keeps its group
pub members-later : (members : Option TaskGroups) (before rows : List Row) → RowsLater before rows → length rows ≡ length before → MayBeMembers members before → MayBeMembers members rows
members-later None before rows stay long are = tt
members-later (Some kept) before rows stay long are = record { places = λ group. are.places group ∙ sym (places-later group 0 before rows stay long) }
