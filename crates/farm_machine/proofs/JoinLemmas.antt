-- The rules of what a new task waits for, and of its group; and that a task may be made which they do not refuse.
use Rattle.std.proofs.Common.{◌≡◌, ℕ, min, Bool, true, false, List, ◌∷◌, ◌++◌, length, Option, Some, None, is_none, option_and_then, bytes_eq, nat_le, nat_lt, if◌then◌else◌, refl, sym, ap, ◌∙◌, inl, inr, arith}
use Rattle.std.specs.Option.{option_map_or}
use Rattle.std.proofs.lemmas.Bool.{and_from, leb-false, lt-ltb}
use Rattle.task_types.specs.declared.change.Creation.{Creation}
use Rattle.task_types.specs.declared.change.Kind.TheVariants.{Create}
use Rattle.run_states.specs.Rows.{Row}
use Rattle.task_index.specs.Changes.{kept_scheduler, waits_well, may_join}
use Rattle.task_index.specs.Contents.{row_with}
use Rattle.farm_rows.specs.Waits.{missing_dependency, early_dependency}
use Rattle.farm_rows.proofs.WaitLemmas.{waits-well}
use Rattle.farm_machine.specs.declared.case.Done.TheVariants.{Changes}
use Rattle.farm_asks.specs.declared.reply.Answer.{Answer}
use Rattle.farm_machine.specs.Calls.CreateTask.{standing, scheduler_besides, where_found, joining, create_task}
use Rattle.farm_machine.specs.Case.{Setting, Rule, when, IsFirstRule}
use Rattle.farm_machine.specs.Deeds.{IsReady, IsDeed}
use Rattle.farm_machine.specs.Order.{full}
use Rattle.farm_asks.specs.Replies.{too_late, bad_dependency, other_scheduler}
use Rattle.farm_asks.specs.Works.{at_moment}
use Rattle.farm_machine.proofs.MayLemmas.{no_truth, passed, may-all}

-- ---- a rule of what is found

found-first : (tell : List ℕ → Answer) (found : Option (List ℕ)) (id : List ℕ) (rules : List Rule) → found ≡ Some id → IsFirstRule (where_found tell found ++ rules) (Some (tell id))
found-first tell None id rules is = cc
found-first tell (Some other) id rules is = let one : other ≡ id = cc in inl (refl, ap (λ (i : List ℕ). Some (tell i)) (sym one))

found-not : (tell : List ℕ → Answer) (found : Option (List ℕ)) (rules : List Rule) (a : Option Answer) → found ≡ None → IsFirstRule rules a → IsFirstRule (where_found tell found ++ rules) a
found-not tell None rules a is first = first
found-not tell (Some other) rules a is first = cc

last-first : (tell : List ℕ → Answer) (found : Option (List ℕ)) (id : List ℕ) → found ≡ Some id → IsFirstRule (where_found tell found) (Some (tell id))
last-first tell None id is = cc
last-first tell (Some other) id is = let one : other ≡ id = cc in inl (refl, ap (λ (i : List ℕ). Some (tell i)) (sym one))

last-not : (tell : List ℕ → Answer) (found : Option (List ℕ)) → found ≡ None → IsFirstRule (where_found tell found) None
last-not tell None is = refl
last-not tell (Some other) is = cc

-- where none ends the call, nothing is found
found-none : (tell : List ℕ → Answer) (found : Option (List ℕ)) (rules : List Rule) → IsFirstRule (where_found tell found ++ rules) None → (found ≡ None) × IsFirstRule rules None
found-none tell None rules first = (refl, first)
found-none tell (Some id) rules (inl p) = let no_ = p.1 in cc
found-none tell (Some id) rules (inr (goes_on, rest)) = absurd (goes_on refl)

last-none : (tell : List ℕ → Answer) (found : Option (List ℕ)) → IsFirstRule (where_found tell found) None → found ≡ None
last-none tell None first = refl
last-none tell (Some id) (inl p) = let no_ = p.1 in cc
last-none tell (Some id) (inr (goes_on, rest)) = absurd (goes_on refl)

-- ---- which rule of a new task ends its making

pub joining-missing : (creation : Creation) (rows : List Row) (id : List ℕ) → missing_dependency creation rows ≡ Some id → IsFirstRule (joining creation rows) (Some (bad_dependency 16 id))
joining-missing creation rows id is = found-first (bad_dependency 16) (missing_dependency creation rows) id _ is

pub joining-early : (creation : Creation) (rows : List Row) (id : List ℕ) → missing_dependency creation rows ≡ None → early_dependency creation rows ≡ Some id → IsFirstRule (joining creation rows) (Some (bad_dependency 17 id))
joining-early creation rows id there is =
    found-not (bad_dependency 16) (missing_dependency creation rows) _ _ there (found-first (bad_dependency 17) (early_dependency creation rows) id _ is)

pub joining-besides : (creation : Creation) (rows : List Row) (kept : List ℕ) → missing_dependency creation rows ≡ None → early_dependency creation rows ≡ None → scheduler_besides creation rows ≡ Some kept → IsFirstRule (joining creation rows) (Some (other_scheduler kept))
joining-besides creation rows kept there late is =
    found-not (bad_dependency 16) (missing_dependency creation rows) _ _ there
    (found-not (bad_dependency 17) (early_dependency creation rows) _ _ late (last-first other_scheduler (scheduler_besides creation rows) kept is))

pub joining-none : (creation : Creation) (rows : List Row) → missing_dependency creation rows ≡ None → early_dependency creation rows ≡ None → scheduler_besides creation rows ≡ None → IsFirstRule (joining creation rows) None
joining-none creation rows there late is =
    found-not (bad_dependency 16) (missing_dependency creation rows) _ None there
    (found-not (bad_dependency 17) (early_dependency creation rows) _ None late (last-not other_scheduler (scheduler_besides creation rows) is))

-- a task of a new id, whose deadline is still to come, is judged by these
pub new-ruled : (creation : Creation) (at : Setting) (a : Option Answer) → row_with creation.id at.state.contents.rows ≡ None → nat_le creation.definition.deadline at.moment ≡ false → IsFirstRule (joining creation at.state.contents.rows) a → IsFirstRule (create_task creation at).rules a
new-ruled creation at a unknown before first = by (row_with creation.id at.state.contents.rows) unknown where
  by : (o : Option Row) → o ≡ None → IsFirstRule (standing creation.definition o ++ when (nat_le creation.definition.deadline at.moment) too_late ∷ joining creation at.state.contents.rows) a
  by None is = inr ((λ ends. let no_ : false ≡ true = sym before ∙ ends in cc), first)
  by (Some row) is = cc

-- ---- a task may be made that none refuses

-- its group has no tasks, or its scheduler
joins : (own : List ℕ) (kept : Option (List ℕ)) → option_and_then (λ k. if bytes_eq k own then None else Some k) kept ≡ None → option_map_or (λ k. bytes_eq k own) kept true ≡ true
joins own None none = refl
joins own (Some k) none = by (bytes_eq k own) refl where
  by : (b : Bool) → bytes_eq k own ≡ b → bytes_eq k own ≡ true
  by true e = e
  by false e = let no_ = rw e at none in cc

-- where the farm is not full, there is room for one more
free-few : (at : Setting) (creation : Creation) → full at.state (Some (at_moment at.moment (Create creation))) ≡ None → nat_lt (length at.state.contents.rows) 1_000_000 ≡ true
free-few at creation free = by (nat_le (min at.state.config.max_tasks 1_000_000) (length at.state.contents.rows)) refl where
  by : (b : Bool) → nat_le (min at.state.config.max_tasks 1_000_000) (length at.state.contents.rows) ≡ b → nat_lt (length at.state.contents.rows) 1_000_000 ≡ true
  by true e = let no_ = rw e at free in cc
  by false e =
      let less = leb-false (min at.state.config.max_tasks 1_000_000) (length at.state.contents.rows) e in
      lt-ltb (length at.state.contents.rows) 1_000_000 (omega (arith, less))

pub create-deed : (creation : Creation) (at : Setting) → IsReady at → IsFirstRule (create_task creation at).rules None → IsDeed at (create_task creation at).deed (Changes (Create creation))
create-deed creation at ready unruled = by (row_with creation.id at.state.contents.rows) refl unruled where
  by : (o : Option Row) → row_with creation.id at.state.contents.rows ≡ o → IsFirstRule (standing creation.definition o ++ when (nat_le creation.definition.deadline at.moment) too_late ∷ joining creation at.state.contents.rows) None
      → IsDeed at (create_task creation at).deed (Changes (Create creation))
  by (Some row) is (inl p) = let no_ = p.1 in cc
  by (Some row) is (inr (a, inl p)) = let no_ = p.1 in cc
  by (Some row) is (inr (a, inr (goes_on, rest))) = absurd (goes_on tt)
  by None is first =
      let rows = at.state.contents.rows in
      let late = passed (nat_le creation.definition.deadline at.moment) too_late (joining creation rows) first in
      let there = found-none (bad_dependency 16) (missing_dependency creation rows) _ late.1 in
      let lasts = found-none (bad_dependency 17) (early_dependency creation rows) _ there.1 in
      let kept = last-none other_scheduler (scheduler_besides creation rows) lasts.1 in
      let unknown : is_none (row_with creation.id rows) ≡ true = ap is_none is in
      let before : nat_lt at.moment creation.definition.deadline ≡ true =
      lt-ltb at.moment creation.definition.deadline (leb-false creation.definition.deadline at.moment (no_truth (nat_le creation.definition.deadline at.moment) late.0)) in
      let waits : waits_well creation rows ≡ true = waits-well creation rows ∙ and_from _ _ (ap is_none there.0) (ap is_none lasts.0) in
      let joined : may_join creation rows ≡ true = joins creation.definition.scheduler_id (kept_scheduler creation.definition.task_group_id rows) kept in
      (refl, λ free. may-all at (Create creation) ready (and_from _ _ unknown (and_from _ _ before (and_from _ _ waits (and_from _ _ joined (free-few at creation free))))))
