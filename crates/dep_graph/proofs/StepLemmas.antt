-- What is counted, task by task of those that depend on one.
use Rattle.std.proofs.Common.{◌≡◌, ◌≢◌, ℕ, ◌+◌, ◌^◌, ◌<◌, ◌≤◌, ◌⊎◌, inl, inr, Bool, true, false, List, [], ◌∷◌, ◌++◌, length, take, get_or, Option, Some, None, refl, sym, ◌∙◌, ap, subst, ◌==◌}
use Rattle.std.specs.Prelude.{slice_get, slice_index, slice_set}
use Rattle.std.specs.List.{IsDistinct}
use Rattle.std.proofs.lemmas.List.{get_or-set_same, get_or-set_other, length-set, take_all}
use Rattle.std.proofs.lemmas.Option.{slice_get_read}
use Rattle.dep_graph.specs.declared.node.Progress.{Progress}
use Rattle.dep_graph.specs.Nodes.{Task, rows_of, is_in}
use Rattle.dep_graph.specs.Kept.{HaveOwnRows}
use Rattle.dep_graph.specs.Trees.{node_at}
use Rattle.dep_graph.specs.Tables.{IsMoved, CountsAgain, shown, shown_at, ShowReady}
use Rattle.dep_graph.proofs.TaskLemmas.{same_row}
use Rattle.dep_graph.proofs.EdgeLemmas.{one-place, not-named, last-named, at-in, take-more, not-before}
use Rattle.dep_graph.proofs.CountLemmas.{some-task, row-of}
use Rattle.dep_graph.proofs.TreeLemmas.{same?}

-- it was counted again for the first so many of these
abbrev pub CountsSo : List Task → List ℕ → Progress → Progress → ℕ → List ℕ → List ℕ → List (Option ℕ) → List (Option ℕ) → Type 0
CountsSo tasks names before now i old lacking first ready = CountsAgain tasks (take i names) before now old lacking first ready

pub counts-first : (tasks : List Task) (names : List ℕ) (before now : Progress) (old : List ℕ) (first : List (Option ℕ)) → ShowReady tasks old first → CountsSo tasks names before now 0 old old first first
counts-first tasks names before now old first shown_ = record { counted = λ place task at. refl; showing = shown_; long = refl; fit = refl }

pub counts-whole : (tasks : List Task) (names : List ℕ) (before now : Progress) (i : ℕ) (old lacking : List ℕ) (first ready : List (Option ℕ)) → length names ≤ i → CountsSo tasks names before now i old lacking first ready
    → CountsAgain tasks names before now old lacking first ready
counts-whole tasks names before now i old lacking first ready past so = subst (λ (l : List ℕ). CountsAgain tasks l before now old lacking first ready) (take_all i names past) so

unlike : (a b : ℕ) → (a ≡ b → ⊥) → (a == b) ≡ false
unlike a b ne = by (a == b) refl where
  by : (t : Bool) → (a == b) ≡ t → (a == b) ≡ false
  by true is = absurd (ne (same_row a b is))
  by false is = is

-- no task has the name
pub counts-nowhere : (tasks : List Task) (names : List ℕ) (before now : Progress) (i name : ℕ) (old lacking : List ℕ) (first ready : List (Option ℕ)) → i < length names → name ≡ get_or names i name → is_in (rows_of tasks) name ≡ false
    → CountsSo tasks names before now i old lacking first ready → CountsSo tasks names before now (i + 1) old lacking first ready
counts-nowhere tasks names before now i name old lacking first ready within at none so = record {
  counted = λ place task there.
      let other : (name == task.row) ≡ false = unlike name task.row (λ is. let e : is_in (rows_of tasks) name ≡ true = at-in (rows_of tasks) place name (row-of tasks place task there ∙ ap Some (sym is)) in cc) in
      let same : is_in (take (i + 1) names) task.row ≡ is_in (take i names) task.row = ap (λ l. is_in l task.row) (take-more names i name within at) ∙ not-named (take i names) name task.row other in
      subst (λ (b : Bool). IsMoved b task.needs before now (slice_index old place) (slice_index lacking place)) (sym same) (so.counted place task there);
  showing = so.showing;
  long = so.long;
  fit = so.fit;
}

module _ (tasks : List Task) (names : List ℕ) (before now : Progress) (i name place : ℕ) (task : Task) (old lacking : List ℕ) (first ready : List (Option ℕ)) (own : HaveOwnRows tasks) (distinct : IsDistinct ◌==◌ names) (within : i < length names) (at : name ≡ get_or names i name)
    (here : slice_get (rows_of tasks) place ≡ Some name) (there : slice_get tasks place ≡ Some task) (so : CountsSo tasks names before now i old lacking first ready) where
  row_is : task.row ≡ name
  row_is = let e : Some task.row ≡ Some name = sym (row-of tasks place task there) ∙ here in cc

  -- it was not counted yet
  still : slice_index lacking place ≡ slice_index old place
  still =
      let none : is_in (take i names) task.row ≡ false = ap (is_in (take i names)) row_is ∙ not-before names i name distinct within at in
      subst (λ (b : Bool). IsMoved b task.needs before now (slice_index old place) (slice_index lacking place)) none (so.counted place task there)

  pub counts-fit : ((p : ℕ) (t : Task) → slice_get tasks p ≡ Some t → is_in names t.row ≡ true → (n : ℕ) × (n < 2 ^ 63) × IsMoved true t.needs before now (slice_index old p) n)
      → (n : ℕ) × (n < 2 ^ 63) × IsMoved true task.needs before now (slice_index lacking place) n
  counts-fit fits =
      let held : slice_get names i ≡ Some name = slice_get-of names i name within at in
      let found = fits place task there (ap (is_in names) row_is ∙ at-in names i name held) in
      (found.0, found.1, subst (λ n. IsMoved true task.needs before now n found.0) (sym still) found.2)
    where
      slice_get-of : (xs : List ℕ) (k x : ℕ) → k < length xs → x ≡ get_or xs k x → slice_get xs k ≡ Some x
      slice_get-of xs k x lt is = slice_get_read xs (length xs) k x refl lt is

  pub counts-at : (after : List ℕ) (later : List (Option ℕ)) (n : ℕ) → place < length lacking → place < length ready → IsMoved true task.needs before now (slice_index lacking place) n → after ≡ slice_set lacking place n → later ≡ slice_set ready place (shown task n)
      → CountsSo tasks names before now (i + 1) old after first later
  counts-at after later n fits room moved after_is later_is = record {
    counted = λ p t stands. counted p t stands (same? p place);
    showing = λ p. shows p (same? p place);
    long = ap length after_is ∙ (length-set lacking place n ∙ so.long);
    fit = ap length later_is ∙ (length-set ready place (shown task n) ∙ so.fit);
  } where
    more : take (i + 1) names ≡ take i names ++ name ∷ []
    more = take-more names i name within at

    new : slice_index after place ≡ n
    new = ap (λ l. slice_index l place) after_is ∙ get_or-set_same lacking place n 0 fits

    kept : (p : ℕ) → p ≢ place → slice_index after p ≡ slice_index lacking p
    kept p ne = ap (λ l. slice_index l p) after_is ∙ get_or-set_other lacking place p n 0 ne

    at-place : IsMoved (is_in (take (i + 1) names) task.row) task.needs before now (slice_index old place) (slice_index after place)
    at-place =
        let named : is_in (take (i + 1) names) task.row ≡ true = ap (λ l. is_in l task.row) more ∙ (ap (is_in (take i names ++ name ∷ [])) row_is ∙ last-named (take i names) name) in
        subst (λ (b : Bool). IsMoved b task.needs before now (slice_index old place) (slice_index after place)) (sym named)
        (subst (λ m. IsMoved true task.needs before now (slice_index old place) m) (sym new) (subst (λ m. IsMoved true task.needs before now m n) still moved))

    counted : (p : ℕ) (t : Task) → slice_get tasks p ≡ Some t → (p ≡ place) ⊎ (p ≢ place) → IsMoved (is_in (take (i + 1) names) t.row) t.needs before now (slice_index old p) (slice_index after p)
    counted p t stands (inl is) =
        let one : t ≡ task = some-task t task (sym stands ∙ (ap (slice_get tasks) is ∙ there)) in
        subst (λ k. IsMoved (is_in (take (i + 1) names) t.row) t.needs before now (slice_index old k) (slice_index after k)) (sym is)
        (subst (λ (x : Task). IsMoved (is_in (take (i + 1) names) x.row) x.needs before now (slice_index old place) (slice_index after place)) (sym one) at-place)
    counted p t stands (inr ne) =
        let other : (name == t.row) ≡ false = unlike name t.row (λ is. ne (one-place (rows_of tasks) name p place own (row-of tasks p t stands ∙ ap Some (sym is)) here)) in
        let same : is_in (take (i + 1) names) t.row ≡ is_in (take i names) t.row = ap (λ l. is_in l t.row) more ∙ not-named (take i names) name t.row other in
        subst (λ (b : Bool). IsMoved b t.needs before now (slice_index old p) (slice_index after p)) (sym same)
        (subst (λ m. IsMoved (is_in (take i names) t.row) t.needs before now (slice_index old p) m) (sym (kept p ne)) (so.counted p t stands))

    shows : (p : ℕ) → (p ≡ place) ⊎ (p ≢ place) → node_at later p ≡ shown_at (slice_get tasks p) (slice_index after p)
    shows p (inl is) =
        let one : node_at later place ≡ shown task n = ap (λ l. node_at l place) later_is ∙ get_or-set_same ready place (shown task n) None room in
        subst (λ k. node_at later k ≡ shown_at (slice_get tasks k) (slice_index after k)) (sym is) (one ∙ (ap (shown task) (sym new) ∙ ap (λ o. shown_at o (slice_index after place)) (sym there)))
    shows p (inr ne) =
        ap (λ l. node_at l p) later_is ∙ (get_or-set_other ready place p (shown task n) None ne ∙ (so.showing p ∙ ap (shown_at (slice_get tasks p)) (sym (kept p ne))))
