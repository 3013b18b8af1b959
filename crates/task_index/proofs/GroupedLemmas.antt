-- A task that comes behind the others joins its group; and tasks that change stay on their lists.
use Rattle.std.proofs.Common.{◌≡◌, ℕ, zero, suc, ◌≤◌, ◌<◌, Bool, true, false, cond, List, [], ◌∷◌, ◌++◌, length, slice_get, get_or, bytes_eq, Option, Some, None, refl, sym, ◌∙◌, ap, subst, arith}
use Rattle.std.specs.Prelude.{MatchOption}
use Rattle.std.specs.List.{list_all, position}
use Rattle.std.proofs.lemmas.List.Quantifiers.{position-Some}
use Rattle.std.proofs.lemmas.List.{length_push}
use Rattle.std.proofs.lemmas.Option.{slice_get_within}
use Rattle.std.proofs.lemmas.Slice.Eq.{bytes_eq-Decides}
use Rattle.run_states.specs.Rows.{Row}
use Rattle.run_states.specs.Later.{RowsLater}
use Rattle.task_index.specs.declared.lists.TaskList.TheVariants.{Group, Dependants}
use Rattle.task_index.specs.Lists.{is_listed}
use Rattle.task_index.specs.Listing.{places_of}
use Rattle.task_index.specs.Members.{in_group}
use Rattle.task_index.specs.Dependencies.{ids_of, depends_on_these}
use Rattle.task_index.specs.Plans.{HasRoom, HasRoomOn}
use Rattle.task_index.specs.PlaceLists.{KeptPlaces, no_places, members_at, kept_at, AreNowAt, IsFirst, AreGrouped, AreListed}
use Rattle.task_index.proofs.BehindLemmas.{place-some}
use Rattle.task_index.proofs.ComingLemmas.{kept-push, kept-last}
use Rattle.task_index.proofs.DependencyLemmas.{equal, unequal, later-ids, later-stand}
use Rattle.task_index.proofs.MemberLemmas.{places-push, append-none}
use Rattle.task_index.proofs.PlaceLemmas.{place-no}
use Rattle.task_index.proofs.PlaceListLemmas.{count-listed, few-places, first-place, no-places, places-later}

-- ---- the list of a group

-- what was kept with the first of its group: the places of the group
pub members-before : (lists : List KeptPlaces) (rows : List Row) (group : List ℕ) (first : ℕ) → AreGrouped lists rows → length lists ≡ length rows → IsFirst group rows first
    → members_at first (lists ++ no_places ∷ []) ≡ places_of (Group group) rows
members-before lists rows group first are long is = by (position (in_group group) rows) refl is where
  by : (o : Option ℕ) → position (in_group group) rows ≡ o → MatchOption o (first ≡ length rows) (λ place. first ≡ place) → members_at first (lists ++ no_places ∷ []) ≡ places_of (Group group) rows
  by None at end =
      (kept-last lists first (end ∙ sym long)).1 ∙ sym (no-places (in_group group) 0 rows (place-no (in_group group) rows at))
  by (Some place) at here =
      let less = (place-some (in_group group) rows place at).1 in
      (kept-push lists first (omega arith)).1 ∙ (ap (λ n. members_at n lists) here ∙ are group place at)

-- one task is not the first of two groups
one-group : (rows : List Row) (row : Row) (a b : List ℕ) (place : ℕ) → position (in_group a) rows ≡ Some place → position (in_group b) rows ≡ Some place → a ≡ b
one-group rows row a b place left right =
    let one : bytes_eq (get_or rows place row).definition.task_group_id a ≡ true = (position-Some (in_group a) rows place row left).1 in
    let other : bytes_eq (get_or rows place row).definition.task_group_id b ≡ true = (position-Some (in_group b) rows place row right).1 in
    sym ((bytes_eq-Decides (get_or rows place row).definition.task_group_id a).0 one) ∙ (bytes_eq-Decides (get_or rows place row).definition.task_group_id b).0 other

first-push : (group : List ℕ) (rows : List Row) (row : Row) → position (in_group group) (rows ++ row ∷ []) ≡ slice_get (places_of (Group group) rows ++ cond (in_group group row) (length rows ∷ []) []) 0
first-push group rows row = sym (first-place (in_group group) (rows ++ row ∷ [])) ∙ ap (λ (ps : List ℕ). slice_get ps 0) (places-push (in_group group) 0 (length rows) rows row (omega arith))

-- it is the last of its group, and the others stay
pub joined-grouped : (lists new : List KeptPlaces) (rows : List Row) (row : Row) (first : ℕ) → AreGrouped lists rows → length lists ≡ length rows → IsFirst row.definition.task_group_id rows first
    → AreNowAt first (record (kept_at first (lists ++ no_places ∷ [])) { members = members_at first (lists ++ no_places ∷ []) ++ length rows ∷ [] }) (lists ++ no_places ∷ []) new
    → AreGrouped new (rows ++ row ∷ [])
joined-grouped lists new rows row first are long is now group place at = by (places_of (Group group) rows) refl (bytes_eq own group) refl where
  own : List ℕ
  own = row.definition.task_group_id

  n : ℕ
  n = length rows

  pushed : List KeptPlaces
  pushed = lists ++ no_places ∷ []

  came : places_of (Group group) (rows ++ row ∷ []) ≡ places_of (Group group) rows ++ cond (bytes_eq own group) (n ∷ []) []
  came = places-push (is_listed (Group group)) 0 n rows row (omega arith)

  here : slice_get (places_of (Group group) rows ++ cond (bytes_eq own group) (n ∷ []) []) 0 ≡ Some place
  here = sym (first-push group rows row) ∙ at

  -- the first of the group of the task that comes
  joined : own ≡ group → place ≡ first → members_at place new ≡ places_of (Group group) rows ++ n ∷ []
  joined same there =
      now.members place
      ∙ (ap (λ b. cond b (members_at first pushed ++ n ∷ []) (members_at place pushed)) (equal place first there)
      ∙ (ap (λ (ps : List ℕ). ps ++ n ∷ []) (members-before lists rows own first are long is) ∙ ap (λ (g : List ℕ). places_of (Group g) rows ++ n ∷ []) same))

  end : bytes_eq own group ≡ true → places_of (Group group) rows ++ n ∷ [] ≡ places_of (Group group) (rows ++ row ∷ [])
  end same = sym (came ∙ ap (λ b. places_of (Group group) rows ++ cond b (n ∷ []) []) same)

  known : (q : ℕ) (qs : List ℕ) → places_of (Group group) rows ≡ q ∷ qs → position (in_group group) rows ≡ Some q
  known q qs are_ = sym (first-place (in_group group) rows) ∙ ap (λ (ps : List ℕ). slice_get ps 0) are_

  first_is : (o : Option ℕ) → position (in_group own) rows ≡ o → MatchOption o (first ≡ n) (λ p. first ≡ p) → (p : ℕ) → position (in_group own) rows ≡ Some p → first ≡ p
  first_is None none end_ p some_ = let e : None ≡ Some p = sym none ∙ some_ in cc
  first_is (Some q) some_ here_ p other = let e : Some q ≡ Some p = sym some_ ∙ other in let same : q ≡ p = cc in here_ ∙ same

  first_end : (o : Option ℕ) → position (in_group own) rows ≡ o → MatchOption o (first ≡ n) (λ p. first ≡ p) → position (in_group own) rows ≡ None → first ≡ n
  first_end None none end_ lost = end_
  first_end (Some q) some_ here_ lost = let e : Some q ≡ None = sym some_ ∙ lost in cc

  by : (ps : List ℕ) → places_of (Group group) rows ≡ ps → (b : Bool) → bytes_eq own group ≡ b → members_at place new ≡ places_of (Group group) (rows ++ row ∷ [])
  by [] none true same =
      let group_is : own ≡ group = (bytes_eq-Decides own group).0 same in
      let e : Some n ≡ Some place = sym (ap (λ (ps : List ℕ). slice_get (ps ++ cond (bytes_eq own group) (n ∷ []) []) 0) none ∙ ap (λ b. slice_get (cond b (n ∷ []) []) 0) same) ∙ here in
      let place_is : n ≡ place = cc in
      let lost : position (in_group own) rows ≡ None =
      ap (λ (g : List ℕ). position (in_group g) rows) group_is ∙ (sym (first-place (in_group group) rows) ∙ ap (λ (ps : List ℕ). slice_get ps 0) none) in
      joined group_is (sym place_is ∙ sym (first_end (position (in_group own) rows) refl is lost)) ∙ end same
  by [] none false same =
      let e : None ≡ Some place = sym (ap (λ (ps : List ℕ). slice_get (ps ++ cond (bytes_eq own group) (n ∷ []) []) 0) none ∙ ap (λ b. slice_get (cond b (n ∷ []) []) 0) same) ∙ here in
      cc
  by (q ∷ qs) some_ true same =
      let group_is : own ≡ group = (bytes_eq-Decides own group).0 same in
      let e : Some q ≡ Some place = sym (ap (λ (ps : List ℕ). slice_get (ps ++ cond (bytes_eq own group) (n ∷ []) []) 0) some_) ∙ here in
      let place_is : q ≡ place = cc in
      let found : position (in_group own) rows ≡ Some q = ap (λ (g : List ℕ). position (in_group g) rows) group_is ∙ known q qs some_ in
      joined group_is (sym place_is ∙ sym (first_is (position (in_group own) rows) refl is q found)) ∙ end same
  by (q ∷ qs) some_ false other =
      let e : Some q ≡ Some place = sym (ap (λ (ps : List ℕ). slice_get (ps ++ cond (bytes_eq own group) (n ∷ []) []) 0) some_) ∙ here in
      let place_is : q ≡ place = cc in
      let found : position (in_group group) rows ≡ Some place = known q qs some_ ∙ ap (λ p. Some p) place_is in
      let less = (place-some (in_group group) rows place found).1 in
      now.members place
      ∙ (ap (λ b. cond b (members_at first pushed ++ n ∷ []) (members_at place pushed)) (unequal place first (λ there. apart found there (position (in_group own) rows) refl is))
      ∙ ((kept-push lists place (omega arith)).1
      ∙ (are group place found
      ∙ sym (came ∙ (ap (λ b. places_of (Group group) rows ++ cond b (n ∷ []) []) other ∙ append-none (places_of (Group group) rows))))))
    where
      apart : position (in_group group) rows ≡ Some place → place ≡ first → (o : Option ℕ) → position (in_group own) rows ≡ o → MatchOption o (first ≡ n) (λ p. first ≡ p) → ⊥
      apart found there None none end_ = let less = (place-some (in_group group) rows place found).1 in absurd (omega arith)
      apart found there (Some p) own_found here_ =
          let same : position (in_group own) rows ≡ Some place = own_found ∙ ap (λ q. Some q) (sym here_ ∙ sym there) in
          let group_is : own ≡ group = one-group rows row own group place same found in
          let yes_ : bytes_eq own group ≡ true = (bytes_eq-Decides own group).1 group_is in
          let no_ : true ≡ false = sym yes_ ∙ other in cc

-- the room
pub record CanJoin (lists : List KeptPlaces) (first spare : ℕ) : Type 0 where
  pub within : first < length (lists ++ no_places ∷ [])
  pub few : length (members_at first (lists ++ no_places ∷ [])) ≤ 1_000_000
  pub room : HasRoom (length (members_at first (lists ++ no_places ∷ []))) spare

pub can-join : (lists : List KeptPlaces) (rows : List Row) (group : List ℕ) (first spare : ℕ) → AreGrouped lists rows → length lists ≡ length rows → length rows < 1_000_000 → IsFirst group rows first → HasRoomOn rows (Group group) spare → CanJoin lists first spare
can-join lists rows group first spare are long fewer is has =
    let members = members-before lists rows group first are long is in
    let most = few-places (Group group) rows in
    let count : length (members_at first (lists ++ no_places ∷ [])) ≡ length (places_of (Group group) rows) = ap length members in
    let more = length_push lists no_places in
    record {
      within = (let less = least (position (in_group group) rows) refl is in omega arith);
      few = omega arith;
      room = subst (λ n. HasRoom n spare) (sym (count ∙ count-listed (Group group) rows)) has;
    }
  where
    least : (o : Option ℕ) → position (in_group group) rows ≡ o → MatchOption o (first ≡ length rows) (λ place. first ≡ place) → first ≤ length rows
    least None none end = omega arith
    least (Some place) at here = let less = (place-some (in_group group) rows place at).1 in omega arith

-- ---- tasks that change

later-first : (group : List ℕ) (before rows : List Row) → RowsLater before rows → length rows ≡ length before → position (in_group group) rows ≡ position (in_group group) before
later-first group before rows stay long =
    sym (first-place (in_group group) rows) ∙ (ap (λ (ps : List ℕ). slice_get ps 0) (places-later (Group group) 0 before rows stay long) ∙ first-place (in_group group) before)

abbrev WasHere : List Row → ℕ → List ℕ → Type 0
WasHere before place id = (b : Row) × (slice_get before place ≡ Some b) × (b.id ≡ id)

later-id : (before rows : List Row) (place : ℕ) (row : Row) → RowsLater before rows → length rows ≡ length before → slice_get rows place ≡ Some row → WasHere before place row.id
later-id [] rows place row stay long at = absurd (let within = slice_get_within rows place row at in omega arith)
later-id (b ∷ before) [] place row stay long at = absurd stay
later-id (b ∷ before) (r ∷ rows) zero row stay long at =
    let e : Some r ≡ Some row = at in
    let same : r ≡ row = cc in
    (b, refl, sym (ap (λ (x : Row). x.id) (sym same) ∙ stay.0.id))
later-id (b ∷ before) (r ∷ rows) (suc place) row stay long at = later-id before rows place row stay.1 (omega arith) at

-- they stay on their lists
pub listed-later : (lists : List KeptPlaces) (before rows : List Row) → RowsLater before rows → length rows ≡ length before → AreListed lists before → AreListed lists rows
listed-later lists before rows stay long are = record {
  waited = record {
    long = are.waited.long ∙ sym long;
    stand =
        ap (λ (is : List (List ℕ)). list_all (depends_on_these is) rows) (later-ids before rows stay long)
        ∙ (later-stand (ids_of before) before rows stay long ∙ are.waited.stand);
    places = λ place row at.
        let was = later-id before rows place row stay long at in
        are.waited.places place was.0 was.1
        ∙ (ap (λ (id : List ℕ). places_of (Dependants id) before) was.2 ∙ sym (places-later (Dependants row.id) 0 before rows stay long));
  };
  grouped = λ group place at. are.grouped group place (sym (later-first group before rows stay long) ∙ at) ∙ sym (places-later (Group group) 0 before rows stay long);
}
