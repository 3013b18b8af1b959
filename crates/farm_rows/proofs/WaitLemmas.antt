-- A task waits well where none of the tasks that it waits for is missing, and none expires too early.
use Rattle.std.proofs.Common.{◌≡◌, ℕ, Bool, true, false, not, ◌&&◌, ◌||◌, List, [], ◌∷◌, find, bytes_eq, is_none, Option, Some, None, nat_le, nat_lt, refl, ap, ◌∙◌, arith}
use Rattle.std.specs.List.{list_all}
use Rattle.std.specs.Option.{option_map_or}
use Rattle.std.proofs.lemmas.Bool.{ltb-true, ltb-false, leb-true, leb-false}
use Rattle.run_states.specs.Rows.{Row}
use Rattle.task_types.specs.declared.change.Creation.{Creation}
use Rattle.task_index.specs.Contents.{row_with}
use Rattle.task_index.specs.Changes.{waits_well}
use Rattle.farm_rows.specs.Waits.{is_missing, is_early, missing_dependency, early_dependency}

-- all pass where the first of neither kind is found
all-none : (f g h : List ℕ → Bool) → ((id : List ℕ) → f id ≡ (not (g id) && not (h id))) → (ids : List (List ℕ)) → list_all f ids ≡ (is_none (find g ids) && is_none (find h ids))
all-none f g h same [] = refl
all-none f g h same (id ∷ ids) = by (all-none f g h same ids) (g id) refl (h id) refl where
  also : (a b : Bool) → g id ≡ a → h id ≡ b → f id ≡ (not a && not b)
  also a b left right = same id ∙ (ap (λ x. not x && not (h id)) left ∙ ap (λ x. not a && not x) right)

  nothing : (b : Bool) → false ≡ (b && false)
  nothing true = refl
  nothing false = refl

  by : list_all f ids ≡ (is_none (find g ids) && is_none (find h ids)) → (a : Bool) → g id ≡ a → (b : Bool) → h id ≡ b → list_all f (id ∷ ids) ≡ (is_none (find g (id ∷ ids)) && is_none (find h (id ∷ ids)))
  by rest true left true right = rw (also true true left right, left) refl
  by rest true left false right = rw (also true false left right, left) refl
  by rest false left true right = rw (also false true left right, left, right) (nothing (is_none (find g ids)))
  by rest false left false right = rw (also false false left right, left, right) rest

later-not : (deadline expires : ℕ) → nat_le deadline expires ≡ not (nat_lt expires deadline)
later-not deadline expires = by (nat_lt expires deadline) refl (nat_le deadline expires) refl where
  by : (a : Bool) → nat_lt expires deadline ≡ a → (b : Bool) → nat_le deadline expires ≡ b → nat_le deadline expires ≡ not (nat_lt expires deadline)
  by true early true late = absurd (let less = ltb-true expires deadline early in let more = leb-true deadline expires late in omega arith)
  by true early false late = rw (early, late) refl
  by false early true late = rw (early, late) refl
  by false early false late = absurd (let less = ltb-false expires deadline early in let more = leb-false deadline expires late in omega arith)

one : (own : Bool) (deadline : ℕ) (o : Option Row) → (own || option_map_or (λ row. nat_le deadline row.definition.expires) o false) ≡ (not (not own && is_none o) && not (not own && option_map_or (λ row. nat_lt row.definition.expires deadline) o false))
one true deadline o = refl
one false deadline None = refl
one false deadline (Some row) = later-not deadline row.definition.expires

pub waits-well : (creation : Creation) (rows : List Row) → waits_well creation rows ≡ (is_none (missing_dependency creation rows) && is_none (early_dependency creation rows))
waits-well creation rows =
    all-none (λ id. bytes_eq id creation.id || option_map_or (λ row. nat_le creation.definition.deadline row.definition.expires) (row_with id rows) false) (is_missing creation rows) (is_early creation rows)
    (λ id. one (bytes_eq id creation.id) creation.definition.deadline (row_with id rows)) creation.definition.dependencies
