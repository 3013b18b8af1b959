-- Ids and their places, and tasks that name an id.
use Rattle.std.proofs.Common.{◌≡◌, ℕ, ◌+◌, ◌<◌, Bool, true, false, not, ◌||◌, cond, List, [], ◌∷◌, length, bytes_eq, refl, ap, sym, ◌∙◌, arith, ◌==◌}
use Rattle.std.specs.List.{list_any, list_all}
use Rattle.std.proofs.lemmas.Bool.{and_parts}
use Rattle.std.proofs.lemmas.Slice.Eq.{bytes_eq-Decides}
use Rattle.run_states.specs.Rows.{Row}
use Rattle.task_index.specs.declared.lists.TaskList.TheVariants.{Dependants}
use Rattle.task_index.specs.Changes.{has_id}
use Rattle.task_index.specs.Lists.{is_listed}
use Rattle.task_index.specs.Listing.{places_from}
use Rattle.task_index.specs.Dependencies.{ids_of, place_in, depends_on_these}
use Rattle.task_index.proofs.DependencyLemmas.{equal, unequal}

-- ---- ids at one place are one

pub first-id : (x id : List ℕ) (ids : List (List ℕ)) (b : Bool) → bytes_eq x id ≡ b → place_in (x ∷ ids) id ≡ cond (not b) (1 + place_in ids id) 0
first-id x id ids b is = ap (λ t. cond (not t) (1 + place_in ids id) 0) is

one-id : (ids : List (List ℕ)) (a b : List ℕ) → place_in ids a < length ids → place_in ids a ≡ place_in ids b → a ≡ b
one-id [] a b within same = absurd (omega arith)
one-id (x ∷ ids) a b within same = by (one-id ids a b) (bytes_eq x a) (bytes_eq x b) refl refl where
  by : (place_in ids a < length ids → place_in ids a ≡ place_in ids b → a ≡ b) → (s t : Bool) → bytes_eq x a ≡ s → bytes_eq x b ≡ t → a ≡ b
  by rest true true is also = sym ((bytes_eq-Decides x a).0 is) ∙ (bytes_eq-Decides x b).0 also
  by rest true false is also =
      let one = first-id x a ids true is in
      let other = first-id x b ids false also in
      absurd (omega arith)
  by rest false true is also =
      let one = first-id x a ids false is in
      let other = first-id x b ids true also in
      absurd (omega arith)
  by rest false false is also =
      let one = first-id x a ids false is in
      let other = first-id x b ids false also in
      rest (omega arith) (omega arith)

-- a named id has the place of an id where it is that id
pub same-place : (ids : List (List ℕ)) (id name : List ℕ) (place : ℕ) → place_in ids id ≡ place → place < length ids → (place_in ids name == place) ≡ bytes_eq name id
same-place ids id name place at within = by (bytes_eq name id) refl where
  apart : name ≡ id → bytes_eq name id ≡ false → ⊥
  apart same is = let yes_ : bytes_eq name id ≡ true = (bytes_eq-Decides name id).1 same in let no_ : true ≡ false = sym yes_ ∙ is in cc

  by : (b : Bool) → bytes_eq name id ≡ b → (place_in ids name == place) ≡ bytes_eq name id
  by true is =
      let same : name ≡ id = (bytes_eq-Decides name id).0 is in
      equal (place_in ids name) place (ap (place_in ids) same ∙ at) ∙ sym is
  by false is = unequal (place_in ids name) place (λ there. apart (one-id ids name id (let e : place_in ids name ≡ place = there in omega arith) (there ∙ sym at)) is) ∙ sym is

-- ---- a task that does not

pub any-ids : (id : List ℕ) (rows : List Row) → list_any (λ other. bytes_eq other id) (ids_of rows) ≡ list_any (has_id id) rows
any-ids id [] = refl
any-ids id (row ∷ rows) = ap (λ b. bytes_eq row.id id || b) (any-ids id rows)

unnamed : (ids : List (List ℕ)) (id : List ℕ) (named : List (List ℕ)) → list_any (λ other. bytes_eq other id) ids ≡ false → list_all (λ name. list_any (λ other. bytes_eq other name) ids) named ≡ true → list_any (λ dependency. bytes_eq dependency id) named ≡ false
unnamed ids id [] none all_ = refl
unnamed ids id (name ∷ named) none all_ =
    let parts = and_parts (list_any (λ other. bytes_eq other name) ids) (list_all (λ n. list_any (λ other. bytes_eq other n) ids) named) all_ in
    by (unnamed ids id named none parts.1) parts.0 (bytes_eq name id) refl
  where
    by : list_any (λ dependency. bytes_eq dependency id) named ≡ false → list_any (λ other. bytes_eq other name) ids ≡ true → (b : Bool) → bytes_eq name id ≡ b → list_any (λ dependency. bytes_eq dependency id) (name ∷ named) ≡ false
    by rest there true is =
        let same : name ≡ id = (bytes_eq-Decides name id).0 is in
        let found : list_any (λ other. bytes_eq other id) ids ≡ true = ap (λ (n : List ℕ). list_any (λ other. bytes_eq other n) ids) (sym same) ∙ there in
        let no_ : true ≡ false = sym found ∙ none in
        absurd (cc)
    by rest there false is = rw is rest

pub none-from : (ids : List (List ℕ)) (id : List ℕ) (from : ℕ) (rows : List Row) → list_any (λ other. bytes_eq other id) ids ≡ false → list_all (depends_on_these ids) rows ≡ true → places_from (is_listed (Dependants id)) from rows ≡ []
none-from ids id from [] none all_ = refl
none-from ids id from (row ∷ rows) none all_ =
    let parts = and_parts (depends_on_these ids row) (list_all (depends_on_these ids) rows) all_ in
    rw (unnamed ids id row.definition.dependencies none parts.0) (none-from ids id (from + 1) rows none parts.1)
