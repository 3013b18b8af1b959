-- Picks of a queue, as a walk over its first tasks gives them.
use Rattle.std.proofs.Common.{◌≡◌, ℕ, ◌+◌, ◌-◌, ◌<◌, Bool, true, false, ◌&&◌, List, [], ◌∷◌, ◌++◌, length, take, drop, get_or, Option, Some, None, option_and_then, refl, sym, ap, ◌∙◌, subst, slice_get, bytes_eq}
use Rattle.std.specs.Option.{option_map_or}
use Rattle.std.proofs.lemmas.List.{take_more}
use Rattle.std.proofs.lemmas.Slice.Eq.{bytes_eq-Decides}
use Rattle.task_types.specs.declared.names.TaskQueue.{TaskQueue}
use Rattle.run_states.specs.Rows.{Row}
use Rattle.task_types.specs.declared.change.RunName.{RunName}
use Rattle.claim_queue.specs.Waits.{Waits, best_of}
use Rattle.claim_queue.specs.Walks.{Walk, without}
use Rattle.task_index.specs.Contents.{HaveOwnIds}
use Rattle.task_index.specs.Picks.{last_name, names_last, pick, picks, are_picks}
use Rattle.task_index.specs.Left.{left}
use Rattle.task_index.specs.Queues.{name_of, HasOneSlash, AreLeft}
use Rattle.task_index.proofs.PickLemmas.{are-init, are-step, are-not, picks-init, picks-step, picks-none}
use Rattle.task_index.proofs.QueueLemmas.{best-is-pick}
use Rattle.task_index.proofs.QueueWalkLemmas.{left-next}

-- the walk, once it gave the next task
abbrev pub given : Walk → Walk
given walk = record { name = walk.name; all = walk.all; left = without (best_of walk.name walk.left) walk.left }

-- the task that it gives next
abbrev pub next_of : Walk → List Row → Option Row
next_of walk rows = option_and_then (slice_get rows) (best_of walk.name walk.left)

next-is : (queue : TaskQueue) → HasOneSlash (name_of queue) → (taken : List RunName) (walk : Walk) (rows : List Row) → walk.name ≡ name_of queue → AreLeft taken walk.left rows → next_of walk rows ≡ pick queue (left taken rows)
next-is queue one taken walk rows named all = ap (λ (n : List ℕ). option_and_then (slice_get rows) (best_of n walk.left)) named ∙ best-is-pick queue one taken walk.left rows all

same-id : (id : List ℕ) → bytes_eq id id ≡ true
same-id id = (bytes_eq-Decides id id).1 refl

-- ---- names that are picks

record Named (name : RunName) (found : Option Row) : Type 0 where
  row : Row
  is : found ≡ Some row
  here : bytes_eq row.id name.id ≡ true

first-of : (a b : Bool) → (a && b) ≡ true → a ≡ true
first-of true b is = refl
first-of false b is = is

found-row : (name : RunName) (found : Option Row) → option_map_or (names_last name) found false ≡ true → Named name found
found-row name None is = absurd (cc)
found-row name (Some row) is = record { row = row; is = refl; here = first-of (bytes_eq row.id name.id) _ is }

module _ (queue : List ℕ) (one : HasOneSlash queue) (names : List RunName) (rows : List Row) (own : HaveOwnIds rows) where
  -- those that were named are given, and the others are still to be picks
  abbrev pub AreSoFar : ℕ → Walk → Type 0
  AreSoFar i walk =
      (walk.name ≡ queue) × AreLeft (take i names) walk.left rows
      × ((named : TaskQueue) → queue ≡ name_of named → are_picks named names rows ≡ are_picks named (drop i names) (left (take i names) rows))

  pub are-first : (walk : Walk) (waits : Waits) → AreLeft [] waits rows → walk ≡ record { name = queue; all = waits; left = waits }
      → (walk.name ≡ queue) × AreLeft [] walk.left rows × ((named : TaskQueue) → queue ≡ name_of named → are_picks named names rows ≡ are_picks named names (left [] rows))
  are-first walk waits all is = (ap (λ (w : Walk). w.name) is, subst (λ (w : Walk). AreLeft [] w.left rows) (sym is) all, λ named same. are-init named names rows)

  module _ (i : ℕ) (name : RunName) (walk : Walk) (lt : i < length names) (here : name ≡ get_or names i name) (so_far : AreSoFar i walk) where
    abbrev found : Option Row
    found = next_of walk rows

    picked-is : (named : TaskQueue) → queue ≡ name_of named → found ≡ pick named (left (take i names) rows)
    picked-is named same = next-is named (subst HasOneSlash same one) (take i names) walk rows (so_far.0 ∙ same) so_far.1

    pub are-next : (later : Walk) → option_map_or (names_last name) found false ≡ true → later ≡ given walk → AreSoFar (i + 1) later
    are-next later yes_ is =
        let seen = found-row name found yes_ in
        let more : take (i + 1) names ≡ take i names ++ name ∷ [] = take_more names i name lt ∙ ap (λ (n : RunName). take i names ++ n ∷ []) (sym here) in
        let next : AreLeft (take i names ++ name ∷ []) (given walk).left rows = left-next (take i names) name walk.left rows seen.row own so_far.1 seen.here walk.name seen.is in (
          ap (λ (w : Walk). w.name) is ∙ so_far.0,
          subst (λ (w : Walk). AreLeft (take (i + 1) names) w.left rows) (sym is) (subst (λ (ns : List RunName). AreLeft ns (given walk).left rows) (sym more) next),
          λ named same. are-step named names i name rows lt here (ap (λ (o : Option Row). option_map_or (names_last name) o false) (sym (picked-is named same)) ∙ yes_) (so_far.2 named same),
        )

    pub are-no : option_map_or (names_last name) found false ≡ false → (named : TaskQueue) → queue ≡ name_of named → false ≡ are_picks named names rows
    are-no no_ named same = are-not named names i name rows lt here (ap (λ (o : Option Row). option_map_or (names_last name) o false) (sym (picked-is named same)) ∙ no_) (so_far.2 named same)

-- ---- picks

module _ (queue : TaskQueue) (one : HasOneSlash (name_of queue)) (rows : List Row) (own : HaveOwnIds rows) (most : ℕ) where
  -- those that were picked are given, and those that are still to be picked make the whole
  abbrev pub IsSoFar : List RunName → Walk → Type 0
  IsSoFar names walk = (walk.name ≡ name_of queue) × AreLeft names walk.left rows × (names ++ picks (most - length names) queue (left names rows) ≡ picks most queue rows)

  pub is-first : (names : List RunName) (walk : Walk) (name : List ℕ) (waits : Waits) → AreLeft [] waits rows → name ≡ name_of queue → walk ≡ record { name = name; all = waits; left = waits } → names ≡ [] → IsSoFar names walk
  is-first names walk name waits all named is none = (
    ap (λ (w : Walk). w.name) is ∙ named,
    subst (λ (ns : List RunName). AreLeft ns walk.left rows) (sym none) (subst (λ (w : Walk). AreLeft [] w.left rows) (sym is) all),
    picks-init most queue names rows none,
  )

  module _ (names : List RunName) (walk : Walk) (lt : length names < most) (so_far : IsSoFar names walk) where
    picked-so : next_of walk rows ≡ pick queue (left names rows)
    picked-so = next-is queue one names walk rows so_far.0 so_far.1

    pub is-next : (row : Row) (new : List RunName) (name : RunName) (later : Walk) → Some row ≡ next_of walk rows → name ≡ last_name row → new ≡ names ++ name ∷ [] → later ≡ given walk → IsSoFar new later
    is-next row new name later found called pushed is =
        let same : bytes_eq row.id name.id ≡ true = ap (λ (n : RunName). bytes_eq row.id n.id) called ∙ same-id row.id in
        let next : AreLeft (names ++ name ∷ []) (given walk).left rows = left-next names name walk.left rows row own so_far.1 same walk.name (sym found) in (
          ap (λ (w : Walk). w.name) is ∙ so_far.0,
          subst (λ (w : Walk). AreLeft new w.left rows) (sym is) (subst (λ (ns : List RunName). AreLeft ns (given walk).left rows) (sym pushed) next),
          picks-step most queue names new name row rows lt (sym picked-so ∙ sym found) called pushed so_far.2,
        )

    pub is-none : None ≡ next_of walk rows → names ≡ picks most queue rows
    is-none none = picks-none most queue names rows lt (sym picked-so ∙ sym none) so_far.2
