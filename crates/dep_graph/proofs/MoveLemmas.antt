-- What is counted, as a task comes further and as one is added.
use Rattle.std.proofs.Common.{◌≡◌, ◌≢◌, ℕ, zero, suc, ◌^◌, ◌<◌, ◌≤◌, ◌⊎◌, inl, inr, Bool, true, false, ◌&&◌, ◌||◌, List, [], ◌∷◌, ◌++◌, length, Option, Some, None, refl, sym, ◌∙◌, ap, subst, arith, ◌==◌}
use Rattle.std.specs.Prelude.{slice_get, slice_index, slice_set, option_map, if◌then◌else◌}
use Rattle.std.specs.List.{IsDistinct}
use Rattle.std.proofs.lemmas.Bool.{cases_order}
use Rattle.std.proofs.lemmas.List.{get_or-set_same, get_or-set_other, get_or_past, length-map, length-set, length-append, get_or_append_left, get_or_at}
use Rattle.std.proofs.lemmas.Option.{slice_get-map, slice_get_past, slice_get_within, get_or_from_slice_get}
use Rattle.dep_graph.specs.declared.node.Progress.{Progress}
use Rattle.dep_graph.specs.declared.node.Requires.{Requires}
use Rattle.dep_graph.specs.declared.node.Requires.TheVariants.{AllCompleted, AllResolved}
use Rattle.dep_graph.specs.Nodes.{Task, rows_of, is_in, dependants_of, moved, just_created}
use Rattle.dep_graph.specs.Ready.{serves, row_serves}
use Rattle.dep_graph.specs.Kept.{HaveOwnRows}
use Rattle.dep_graph.specs.Trees.{node_at}
use Rattle.dep_graph.specs.Tables.{lacks, IsMoved, MayCount, CountsAgain, shown, shown_at, ShowReady, AreCounted}
use Rattle.dep_graph.proofs.TaskLemmas.{same_row, row_same, one-serves, moved-rows, dependants-moved}
use Rattle.dep_graph.proofs.EdgeLemmas.{one-place}
use Rattle.dep_graph.proofs.PlaceLemmas.{get-push, get-last}
use Rattle.dep_graph.proofs.CountLemmas.{some-task, lacks-few, lacks-alike, lacks-moved, moved-one, serves-other, named-at, row-of, distinct-filter}
use Rattle.dep_graph.proofs.TreeLemmas.{same?}

-- ---- one task comes further

abbrev further : ℕ → Progress → Task → Task
further row now task = if task.row == row then record task { progress = now } else task

far-long : (row : ℕ) (now : Progress) (tasks : List Task) → length (moved row now tasks) ≡ length tasks
far-long row now tasks = length-map tasks (further row now)

further-row : (row : ℕ) (now : Progress) (t : Task) → ((further row now t).row ≡ t.row) × ((further row now t).needs ≡ t.needs) × ((further row now t).dependencies ≡ t.dependencies)
further-row row now t = by (t.row == row) refl where
  by : (b : Bool) → (t.row == row) ≡ b → ((further row now t).row ≡ t.row) × ((further row now t).needs ≡ t.needs) × ((further row now t).dependencies ≡ t.dependencies)
  by true is = rw is (refl, refl, refl)
  by false is = rw is (refl, refl, refl)

-- the task that was at a place
record WasAt (tasks : List Task) (row : ℕ) (now : Progress) (place : ℕ) (later : Task) : Type 0 where
  pub task : Task
  pub at : slice_get tasks place ≡ Some task
  pub is : later ≡ further row now task
  pub row_is : later.row ≡ task.row
  pub needs_is : later.needs ≡ task.needs
  pub named_is : later.dependencies ≡ task.dependencies

was-at : (tasks : List Task) (row : ℕ) (now : Progress) (place : ℕ) (later : Task) → slice_get (moved row now tasks) place ≡ Some later → WasAt tasks row now place later
was-at tasks row now place later at = by (slice_get tasks place) refl where
  by : (o : Option Task) → slice_get tasks place ≡ o → WasAt tasks row now place later
  by None none = absurd (let e : None ≡ Some later = sym (slice_get-map (further row now) tasks place ∙ ap (option_map (further row now)) none) ∙ at in cc)
  by (Some t) there =
      let same : later ≡ further row now t = some-task later (further row now t) (sym at ∙ (slice_get-map (further row now) tasks place ∙ ap (option_map (further row now)) there)) in
      let parts = further-row row now t in
      record {
        task = t;
        at = there;
        is = same;
        row_is = ap (λ (x : Task). x.row) same ∙ parts.0;
        needs_is = ap (λ (x : Task). x.needs) same ∙ parts.1;
        named_is = ap (λ (x : Task). x.dependencies) same ∙ parts.2;
      }

module _ (tasks : List Task) (lacking : List ℕ) (ready : List (Option ℕ)) (row place : ℕ) (t : Task) (now : Progress) (own : HaveOwnRows tasks) (at : slice_get tasks place ≡ Some t) (row_is : t.row ≡ row) (are : AreCounted tasks lacking ready) where
  at-row : slice_get (rows_of tasks) place ≡ Some row
  at-row = row-of tasks place t at ∙ ap Some row_is

  here-moved : slice_get (moved row now tasks) place ≡ Some (record t { progress = now })
  here-moved =
      let same : (t.row == row) ≡ true = ap (λ y. t.row == y) (sym row_is) ∙ row_same t.row in
      slice_get-map (further row now) tasks place ∙ (ap (option_map (further row now)) at ∙ rw same refl)

  own-moved : HaveOwnRows (moved row now tasks)
  own-moved = subst (IsDistinct ◌==◌) (sym (moved-rows row now tasks)) own

  within : place < length tasks
  within = slice_get_within tasks place t at

  serves-before : (needs : Requires) → row_serves tasks needs row ≡ serves needs t.progress
  serves-before needs = sym (one-serves tasks needs row place t own at-row) ∙ ap (λ (x : Task). serves needs x.progress) (get_or_from_slice_get tasks place t t at)

  serves-now : (needs : Requires) → row_serves (moved row now tasks) needs row ≡ serves needs now
  serves-now needs =
      let there : slice_get (rows_of (moved row now tasks)) place ≡ Some row = ap (λ l. slice_get l place) (moved-rows row now tasks) ∙ at-row in
      sym (one-serves (moved row now tasks) needs row place t own-moved there) ∙ ap (λ (x : Task). serves needs x.progress) (get_or_from_slice_get (moved row now tasks) place (record t { progress = now }) t here-moved)

  -- what each waits for, before and after
  lacks-step : (needs : Requires) (ds : List ℕ) → IsDistinct ◌==◌ ds → IsMoved (is_in ds row) needs t.progress now (lacks tasks needs ds) (lacks (moved row now tasks) needs ds)
  lacks-step needs ds distinct = lacks-moved tasks (moved row now tasks) needs row t.progress now (λ d other. serves-other tasks row now needs d other) (serves-before needs) (serves-now needs) ds distinct

  -- the task's own place is looked at
  pub shown-moved : (later : List (Option ℕ)) (task : Task) → slice_get (moved row now tasks) place ≡ Some task → later ≡ slice_set ready place (shown task (slice_index lacking place)) → ShowReady (moved row now tasks) lacking later
  shown-moved later task there put_ p = by (same? p place) where
    by : (p ≡ place) ⊎ (p ≢ place) → node_at later p ≡ shown_at (slice_get (moved row now tasks) p) (slice_index lacking p)
    by (inl is) =
        let fit = are.fit in
        let one : node_at later place ≡ shown task (slice_index lacking place) = ap (λ l. node_at l place) put_ ∙ get_or-set_same ready place (shown task (slice_index lacking place)) None (omega (arith, within)) in
        let P : ℕ → Type 0 = λ k. node_at later k ≡ shown_at (slice_get (moved row now tasks) k) (slice_index lacking k) in
        subst P (sym is) (one ∙ ap (λ o. shown_at o (slice_index lacking place)) (sym there))
    by (inr ne) =
        let one : node_at later p ≡ node_at ready p = ap (λ l. node_at l p) put_ ∙ get_or-set_other ready place p (shown task (slice_index lacking place)) None ne in
        one ∙ (are.showing p ∙ ap (λ o. shown_at o (slice_index lacking p)) (sym (stays (slice_get tasks p) refl)))
      where
        stays : (o : Option Task) → slice_get tasks p ≡ o → slice_get (moved row now tasks) p ≡ slice_get tasks p
        stays None none = slice_get-map (further row now) tasks p ∙ (ap (option_map (further row now)) none ∙ sym none)
        stays (Some u) is = slice_get-map (further row now) tasks p ∙ (ap (option_map (further row now)) is ∙ (ap Some (same (u.row == row) refl) ∙ sym is)) where
          same : (b : Bool) → (u.row == row) ≡ b → further row now u ≡ u
          same true it = absurd (ne (one-place (rows_of tasks) row p place own (row-of tasks p u is ∙ ap Some (same_row u.row row it)) at-row))
          same false it = rw it refl

  -- what is counted for those that depend on the task
  pub fits-moved : (names : List ℕ) → names ≡ dependants_of (moved row now tasks) row → (p : ℕ) (task : Task) → slice_get (moved row now tasks) p ≡ Some task → is_in names task.row ≡ true
      → (n : ℕ) × (n < 2 ^ 63) × IsMoved true task.needs t.progress now (slice_index lacking p) n
  fits-moved names names_are p task there named =
      let was = was-at tasks row now p task there in
      let u = was.task in
      let is : is_in u.dependencies row ≡ true = ap (λ l. is_in l row) (sym was.named_is) ∙ (sym (named-at (λ (x : Task). is_in x.dependencies row) (moved row now tasks) p task own-moved there) ∙ (ap (λ l. is_in l task.row) (sym names_are) ∙ named)) in
      let step = lacks-step u.needs u.dependencies (are.distinct p u was.at) in
      let few = lacks-few (moved row now tasks) u.needs u.dependencies in
      let small = are.few p u was.at in
      let S : Bool → Type 0 = λ b. IsMoved b u.needs t.progress now (lacks tasks u.needs u.dependencies) (lacks (moved row now tasks) u.needs u.dependencies) in
      let one = subst S is step in
      let P : ℕ → Type 0 = λ n. IsMoved true u.needs t.progress now n (lacks (moved row now tasks) u.needs u.dependencies) in
      let two = subst P (sym (are.counted p u was.at)) one in
      let Q : Requires → Type 0 = λ needs. IsMoved true needs t.progress now (slice_index lacking p) (lacks (moved row now tasks) u.needs u.dependencies) in
      (lacks (moved row now tasks) u.needs u.dependencies, omega (arith, few, small), subst Q (sym was.needs_is) two)

  pub counted-moved : (names after : List ℕ) (later : List (Option ℕ)) → names ≡ dependants_of (moved row now tasks) row → length after ≡ length lacking → length later ≡ length ready
      → ((p : ℕ) (task : Task) → slice_get (moved row now tasks) p ≡ Some task → IsMoved (is_in names task.row) task.needs t.progress now (slice_index lacking p) (slice_index after p))
      → ShowReady (moved row now tasks) after later → AreCounted (moved row now tasks) after later
  counted-moved names after later names_are long fit counted shown_ = record {
    long = let a = are.long in let b = far-long row now tasks in long ∙ (a ∙ sym b);
    fit = let a = are.fit in let b = far-long row now tasks in omega (arith, a, b, fit);
    counted = λ p task there.
        let was = was-at tasks row now p task there in
        let u = was.task in
        let same : is_in names task.row ≡ is_in u.dependencies row = ap (λ l. is_in l task.row) names_are ∙ (named-at (λ (x : Task). is_in x.dependencies row) (moved row now tasks) p task own-moved there ∙ ap (λ l. is_in l row) was.named_is) in
        let S : Bool → Type 0 = λ b. IsMoved b task.needs t.progress now (slice_index lacking p) (slice_index after p) in
        let one = subst S same (counted p task there) in
        let P : ℕ → Type 0 = λ n. IsMoved (is_in u.dependencies row) task.needs t.progress now n (slice_index after p) in
        let two = subst P (are.counted p u was.at) one in
        let Q : Requires → Type 0 = λ needs. IsMoved (is_in u.dependencies row) needs t.progress now (lacks tasks u.needs u.dependencies) (slice_index after p) in
        let three = subst Q was.needs_is two in
        let step = lacks-step u.needs u.dependencies (are.distinct p u was.at) in
        moved-one (is_in u.dependencies row) u.needs t.progress now (lacks tasks u.needs u.dependencies) (slice_index after p) (lacks (moved row now tasks) u.needs u.dependencies) three step
        ∙ (ap (λ n. lacks (moved row now tasks) n u.dependencies) (sym was.needs_is) ∙ ap (lacks (moved row now tasks) task.needs) (sym was.named_is));
    showing = shown_;
    few = λ p task there. let was = was-at tasks row now p task there in subst (λ (l : List ℕ). length l < 2 ^ 63) (sym was.named_is) (are.few p was.task was.at);
    distinct = λ p task there. let was = was-at tasks row now p task there in subst (IsDistinct ◌==◌) (sym was.named_is) (are.distinct p was.task was.at);
  }

-- ---- a task is added

created-serves-none : (needs : Requires) → serves needs just_created ≡ false
created-serves-none AllCompleted = refl
created-serves-none AllResolved = refl

serves-added : (tasks : List Task) (t : Task) (needs : Requires) (d : ℕ) → t.progress ≡ just_created → row_serves (tasks ++ t ∷ []) needs d ≡ row_serves tasks needs d
serves-added [] t needs d created = let none : serves needs t.progress ≡ false = ap (serves needs) created ∙ created-serves-none needs in rw none (by (t.row == d)) where
  by : (b : Bool) → ((b && false) || false) ≡ false
  by true = refl
  by false = refl
serves-added (u ∷ us) t needs d created = ap (λ b. ((u.row == d) && serves needs u.progress) || b) (serves-added us t needs d created)

-- a task is at a place of them, or it is the one behind them
at-push : (tasks : List Task) (t : Task) (place : ℕ) (task : Task) → slice_get (tasks ++ t ∷ []) place ≡ Some task → (slice_get tasks place ≡ Some task) ⊎ ((place ≡ length tasks) × (task ≡ t))
at-push [] t zero task at = inr (refl, sym (some-task t task at))
at-push [] t (suc place) task at = absurd (let e : None ≡ Some task = at in cc)
at-push (u ∷ us) t zero task at = inl at
at-push (u ∷ us) t (suc place) task at = elim (at-push us t place task at) [
  | inl there ↦ inl there
  | inr last ↦ inr (ap suc last.0, last.1)
]

pub counted-none : (tasks : List Task) (lacking : List ℕ) (ready : List (Option ℕ)) → tasks ≡ [] → lacking ≡ [] → ready ≡ [] → AreCounted tasks lacking ready
counted-none tasks lacking ready a b c = rw (a, b, c) (record {
  long = refl;
  fit = omega arith;
  counted = λ p task there. absurd (let e : None ≡ Some task = there in cc);
  showing = λ p. get_or_past [] p None (omega arith);
  few = λ p task there. absurd (let e : None ≡ Some task = there in cc);
  distinct = λ p task there. absurd (let e : None ≡ Some task = there in cc);
})

-- the same, with more places
pub counted-same : (tasks now : List Task) (lacking after : List ℕ) (ready later : List (Option ℕ)) → AreCounted tasks lacking ready → now ≡ tasks → after ≡ lacking → length ready ≤ length later → ((place : ℕ) → node_at later place ≡ node_at ready place) → AreCounted now after later
counted-same tasks now lacking after ready later are same_tasks same_counts more same = rw (same_tasks, same_counts) (record {
  long = are.long;
  fit = let fit = are.fit in omega (arith, fit, more);
  counted = are.counted;
  showing = λ p. same p ∙ are.showing p;
  few = are.few;
  distinct = are.distinct;
})

pub counted-added : (tasks : List Task) (lacking : List ℕ) (ready later : List (Option ℕ)) (t : Task) (n : ℕ) → AreCounted tasks lacking ready → t.progress ≡ just_created → IsDistinct ◌==◌ t.dependencies → length t.dependencies < 2 ^ 63
    → n ≡ lacks tasks t.needs t.dependencies → length tasks < length ready → later ≡ slice_set ready (length lacking) (shown t n) → AreCounted (tasks ++ t ∷ []) (lacking ++ n ∷ []) later
counted-added tasks lacking ready later t n are created distinct few is fit put_ = record {
  long = let a = are.long in let b = length-append lacking (n ∷ []) in let c = length-append tasks (t ∷ []) in omega (arith, a, b, c);
  fit = let a = length-append tasks (t ∷ []) in let b = length-set ready (length lacking) (shown t n) in let c = ap length put_ in omega (arith, a, b, c, fit);
  counted = λ p task there. elim (at-push tasks t p task there) [
    | inl before ↦ at-first p (lt p task before) ∙ (are.counted p task before ∙ sym (same task.needs task.dependencies))
    | inr last ↦ at-last p last.0 ∙ (is ∙ (sym (same t.needs t.dependencies) ∙ ap (λ (x : Task). lacks (tasks ++ t ∷ []) x.needs x.dependencies) (sym last.1)))
  ];
  showing = λ p. each p (cases_order p (length tasks));
  few = λ p task there. elim (at-push tasks t p task there) [
    | inl before ↦ are.few p task before
    | inr last ↦ subst (λ (x : Task). length x.dependencies < 2 ^ 63) (sym last.1) few
  ];
  distinct = λ p task there. elim (at-push tasks t p task there) [
    | inl before ↦ are.distinct p task before
    | inr last ↦ subst (λ (x : Task). IsDistinct ◌==◌ x.dependencies) (sym last.1) distinct
  ];
} where
  same : (needs : Requires) (ds : List ℕ) → lacks (tasks ++ t ∷ []) needs ds ≡ lacks tasks needs ds
  same needs ds = lacks-alike tasks (tasks ++ t ∷ []) needs (λ d. serves-added tasks t needs d created) ds

  lt : (p : ℕ) (task : Task) → slice_get tasks p ≡ Some task → p < length tasks
  lt p task before = slice_get_within tasks p task before

  at-first : (p : ℕ) → p < length tasks → slice_index (lacking ++ n ∷ []) p ≡ slice_index lacking p
  at-first p below = get_or_append_left lacking (n ∷ []) 0 p (omega (arith, are.long, below))

  at-last : (p : ℕ) → p ≡ length tasks → slice_index (lacking ++ n ∷ []) p ≡ n
  at-last p here = get_or_at lacking n [] 0 p (are.long ∙ sym here)

  each : (p : ℕ) → (p ≡ length tasks) ⊎ ((p < length tasks) ⊎ (length tasks < p)) → node_at later p ≡ shown_at (slice_get (tasks ++ t ∷ []) p) (slice_index (lacking ++ n ∷ []) p)
  each p (inl here) =
      let long = are.long in
      let place : p ≡ length lacking = here ∙ sym long in
      let one : node_at later p ≡ (shown t n) = ap (λ l. node_at l p) put_ ∙ (ap (node_at (slice_set ready (length lacking) (shown t n))) place ∙ get_or-set_same ready (length lacking) (shown t n) None (omega (arith, fit, long))) in
      let there : slice_get (tasks ++ t ∷ []) p ≡ Some t = ap (slice_get (tasks ++ t ∷ [])) here ∙ get-last tasks t in
      one ∙ (ap (shown t) (sym (at-last p here)) ∙ ap (λ o. shown_at o (slice_index (lacking ++ n ∷ []) p)) (sym there))
  each p (inr (inl below)) = first (slice_get tasks p) refl where
    other : p ≢ length lacking
    other = omega (arith, are.long, below)

    one : node_at later p ≡ node_at ready p
    one = ap (λ l. node_at l p) put_ ∙ get_or-set_other ready (length lacking) p (shown t n) None other

    none-within : (ts : List Task) (k : ℕ) → k < length ts → slice_get ts k ≡ None → ⊥
    none-within [] k lt_ no_ = omega arith
    none-within (x ∷ xs) zero lt_ no_ = cc
    none-within (x ∷ xs) (suc k) lt_ no_ = none-within xs k (omega arith) no_

    first : (o : Option Task) → slice_get tasks p ≡ o → node_at later p ≡ shown_at (slice_get (tasks ++ t ∷ []) p) (slice_index (lacking ++ n ∷ []) p)
    first None none = absurd (none-within tasks p below none)
    first (Some u) is_ = one ∙ (are.showing p ∙ (ap (λ o. shown_at o (slice_index lacking p)) (is_ ∙ sym (get-push tasks u t p is_)) ∙ ap (shown_at (slice_get (tasks ++ t ∷ []) p)) (sym (at-first p below))))
  each p (inr (inr above)) =
      let other : p ≢ length lacking = omega (arith, are.long, above) in
      let one : node_at later p ≡ node_at ready p = ap (λ l. node_at l p) put_ ∙ get_or-set_other ready (length lacking) p (shown t n) None other in
      let old : slice_get tasks p ≡ None = slice_get_past tasks p (omega (arith, above)) in
      let long = length-append tasks (t ∷ []) in
      let new : slice_get (tasks ++ t ∷ []) p ≡ None = slice_get_past (tasks ++ t ∷ []) p (omega (arith, above, long)) in
      one ∙ (are.showing p ∙ (ap (λ o. shown_at o (slice_index lacking p)) old ∙ sym (ap (λ o. shown_at o (slice_index (lacking ++ n ∷ []) p)) new)))

-- ---- what is asked and told as each dependant is counted again

row-is : (tasks : List Task) (row place : ℕ) (t : Task) → slice_get (rows_of tasks) place ≡ Some row → slice_get tasks place ≡ Some t → t.row ≡ row
row-is tasks row place t at there = let e : Some t.row ≡ Some row = sym (row-of tasks place t there) ∙ at in cc

pub steps-well : (tasks new : List Task) (lacking names : List ℕ) (ready later : List (Option ℕ)) (row place : ℕ) (t task : Task) (before now : Progress) → HaveOwnRows tasks → slice_get (rows_of tasks) place ≡ Some row → slice_get tasks place ≡ Some t → before ≡ t.progress → AreCounted tasks lacking ready
    → names ≡ dependants_of tasks row → new ≡ moved row now tasks → slice_get new place ≡ Some task → later ≡ slice_set ready place (shown task (slice_index lacking place)) → MayCount new names before now lacking later
steps-well tasks new lacking names ready later row place t task before now own at there was are names_are is now_there put_ =
    let t_row = row-is tasks row place t at there in
    let far = far-long row now tasks in
    let named : names ≡ dependants_of (moved row now tasks) row = names_are ∙ sym (dependants-moved row now tasks row) in
    let moved_there : slice_get (moved row now tasks) place ≡ Some task = subst (λ l. slice_get l place ≡ Some task) is now_there in
    let well : MayCount (moved row now tasks) names t.progress now lacking later = record {
      own = subst (IsDistinct ◌==◌) (sym (moved-rows row now tasks)) own;
      long = are.long ∙ sym far;
      fit = let a = ap length put_ in let b = length-set ready place (shown task (slice_index lacking place)) in let c = are.fit in omega (arith, a, b, c, far);
      distinct = subst (IsDistinct ◌==◌) (sym names_are) (distinct-filter (λ (x : Task). is_in x.dependencies row) tasks own);
      fits = fits-moved tasks lacking ready row place t now own there t_row are names named;
      showing = shown-moved tasks lacking ready row place t now own there t_row are later task moved_there put_;
    } in
    subst (λ (l : List Task). MayCount l names before now lacking later) (sym is) (subst (λ (g : Progress). MayCount (moved row now tasks) names g now lacking later) (sym was) well)

pub steps-done : (tasks new : List Task) (lacking names after : List ℕ) (ready later last : List (Option ℕ)) (row place : ℕ) (t task : Task) (before now : Progress) → HaveOwnRows tasks → slice_get (rows_of tasks) place ≡ Some row → slice_get tasks place ≡ Some t → before ≡ t.progress → AreCounted tasks lacking ready
    → names ≡ dependants_of tasks row → new ≡ moved row now tasks → later ≡ slice_set ready place (shown task (slice_index lacking place)) → CountsAgain new names before now lacking after later last → AreCounted new after last
steps-done tasks new lacking names after ready later last row place t task before now own at there was are names_are is put_ again =
    let t_row = row-is tasks row place t at there in
    let named : names ≡ dependants_of (moved row now tasks) row = names_are ∙ sym (dependants-moved row now tasks row) in
    let counts = subst (λ (l : List Task). (p : ℕ) (u : Task) → slice_get l p ≡ Some u → IsMoved (is_in names u.row) u.needs before now (slice_index lacking p) (slice_index after p)) is again.counted in
    let counts_ = subst (λ (g : Progress). (p : ℕ) (u : Task) → slice_get (moved row now tasks) p ≡ Some u → IsMoved (is_in names u.row) u.needs g now (slice_index lacking p) (slice_index after p)) was counts in
    let shows = subst (λ (l : List Task). ShowReady l after last) is again.showing in
    let wide : length last ≡ length ready = again.fit ∙ (ap length put_ ∙ length-set ready place (shown task (slice_index lacking place))) in
    subst (λ (l : List Task). AreCounted l after last) (sym is) (counted-moved tasks lacking ready row place t now own there t_row are names after last named again.long wide counts_ shows)

pub moved-long : (tasks new : List Task) (row : ℕ) (now : Progress) → new ≡ moved row now tasks → length new ≡ length tasks
moved-long tasks new row now is = ap length is ∙ far-long row now tasks
