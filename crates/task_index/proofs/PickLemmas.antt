-- Runs that are picked one after the other, and claims that are taken one after the other.
use Rattle.std.proofs.Common.{◌≡◌, ℕ, zero, suc, ◌+◌, ◌-◌, ◌≤◌, ◌<◌, Bool, true, false, not, ◌&&◌, ◌||◌, cond, List, [], ◌∷◌, ◌++◌, length, filter, take, drop, get_or, Option, Some, None, refl, ap, sym, ◌∙◌, arith, append_assoc, append-nil, bytes_eq, replicate}
use Rattle.std.specs.List.{reduce}
use Rattle.std.specs.Option.{option_map_or, option_to_list}
use Rattle.std.proofs.lemmas.List.{take_more}
use Rattle.std.proofs.lemmas.List.Sums.{fold-append}
use Rattle.std.proofs.lemmas.List.Elements.{filter-append}
use Rattle.std.proofs.lemmas.List.Folds.{list_any-append}
use Rattle.std.proofs.Math.Seq.{drop-cons}
use Rattle.std.proofs.Math.ListN.{length-append}
use Rattle.task_types.specs.declared.names.TaskQueue.{TaskQueue}
use Rattle.run_states.specs.declared.run.Claim.{Claim}
use Rattle.run_states.specs.Rows.{Row}
use Rattle.run_states.specs.Moves.{claimed}
use Rattle.task_types.specs.declared.change.RunName.{RunName}
use Rattle.task_index.specs.Changes.{change_row, all_claimed}
use Rattle.task_index.specs.Picks.{waits_in, better, without, last_name, picked, pick, picks, names_last, are_picks}
use Rattle.task_index.specs.Left.{is_taken, left}

-- ---- the tasks that are left

pub left-nil : (rows : List Row) → left [] rows ≡ rows
left-nil [] = refl
left-nil (row ∷ rows) = ap (λ (rs : List Row). row ∷ rs) (left-nil rows)

left-more : (names : List RunName) (name : RunName) (rows : List Row) → left (names ++ name ∷ []) rows ≡ without name.id (left names rows)
left-more names name [] = refl
left-more names name (row ∷ rows) = by (left-more names name rows) (is_taken names row) refl (bytes_eq row.id name.id) refl where
  both : is_taken (names ++ name ∷ []) row ≡ (is_taken names row || (bytes_eq row.id name.id || false))
  both = list_any-append (λ (n : RunName). bytes_eq row.id n.id) names (name ∷ [])

  by : left (names ++ name ∷ []) rows ≡ without name.id (left names rows) → (a : Bool) → is_taken names row ≡ a → (b : Bool) → bytes_eq row.id name.id ≡ b → left (names ++ name ∷ []) (row ∷ rows) ≡ without name.id (left names (row ∷ rows))
  by rest true is b here =
      ap (λ t. cond (not t) (row ∷ left (names ++ name ∷ []) rows) (left (names ++ name ∷ []) rows)) (both ∙ ap (λ t. t || (bytes_eq row.id name.id || false)) is)
      ∙ (rest ∙ sym (ap (λ t. without name.id (cond (not t) (row ∷ left names rows) (left names rows))) is))
  by rest false is true here =
      ap (λ t. cond (not t) (row ∷ left (names ++ name ∷ []) rows) (left (names ++ name ∷ []) rows)) (both ∙ (ap (λ t. t || (bytes_eq row.id name.id || false)) is ∙ ap (λ t. t || false) here))
      ∙ (rest ∙ sym (ap (λ t. without name.id (cond (not t) (row ∷ left names rows) (left names rows))) is ∙ ap (λ t. cond (not t) (row ∷ without name.id (left names rows)) (without name.id (left names rows))) here))
  by rest false is false here =
      ap (λ t. cond (not t) (row ∷ left (names ++ name ∷ []) rows) (left (names ++ name ∷ []) rows)) (both ∙ (ap (λ t. t || (bytes_eq row.id name.id || false)) is ∙ ap (λ t. t || false) here))
      ∙ (ap (λ (rs : List Row). row ∷ rs) rest ∙ sym (ap (λ t. without name.id (cond (not t) (row ∷ left names rows) (left names rows))) is ∙ ap (λ t. cond (not t) (row ∷ without name.id (left names rows)) (without name.id (left names rows))) here))

-- ---- the pick, in a loop

reduce-join : {A : Type 0} (f : A → A → A) (xs ys : List A) → reduce f (option_to_list (reduce f xs) ++ ys) ≡ reduce f (xs ++ ys)
reduce-join f [] ys = refl
reduce-join f (x ∷ xs) ys = ap Some (sym (fold-append f x xs ys))

pub pick-step : (queue : TaskQueue) (taken : List RunName) (rows : List Row) (i : ℕ) (item : Row) (so_far then : Option Row) → i < length rows → item ≡ get_or rows i item → so_far ≡ pick queue (left taken (take i rows))
    → then ≡ reduce better (option_to_list so_far ++ filter (waits_in queue) (left taken (item ∷ []))) → then ≡ pick queue (left taken (take (i + 1) rows))
pick-step queue taken rows i item so_far then lt here is picked_ =
    let before : List Row = filter (waits_in queue) (left taken (take i rows)) in
    let last : List Row = filter (waits_in queue) (left taken (item ∷ [])) in
    let more : take (i + 1) rows ≡ take i rows ++ item ∷ [] = take_more rows i item lt ∙ ap (λ (r : Row). take i rows ++ r ∷ []) (sym here) in
    let parts : filter (waits_in queue) (left taken (take (i + 1) rows)) ≡ before ++ last =
    ap (λ (rs : List Row). filter (waits_in queue) (left taken rs)) more
    ∙ (ap (filter (waits_in queue)) (filter-append (λ (r : Row). not (is_taken taken r)) (take i rows) (item ∷ [])) ∙ filter-append (waits_in queue) (left taken (take i rows)) (left taken (item ∷ []))) in
    picked_ ∙ (ap (λ (o : Option Row). reduce better (option_to_list o ++ last)) is ∙ (reduce-join better before last ∙ sym (ap (reduce better) parts)))

-- ---- names that are picks, in a loop

pub are-init : (queue : TaskQueue) (names : List RunName) (rows : List Row) → are_picks queue names rows ≡ are_picks queue names (left [] rows)
are-init queue names rows = ap (are_picks queue names) (sym (left-nil rows))

-- the name at a place, and those behind it
are-cons : (queue : TaskQueue) (names : List RunName) (i : ℕ) (name : RunName) (rows : List Row) → i < length names → name ≡ get_or names i name
    → are_picks queue (drop i names) (left (take i names) rows) ≡ (option_map_or (names_last name) (pick queue (left (take i names) rows)) false && are_picks queue (drop (i + 1) names) (left (take (i + 1) names) rows))
are-cons queue names i name rows lt is =
    let e : drop i names ≡ name ∷ drop (i + 1) names = drop-cons names i name lt ∙ (ap (λ (n : RunName). n ∷ drop (suc i) names) (sym is) ∙ ap (λ k. name ∷ drop k names) (sym (plus i))) in
    let more : left (take (i + 1) names) rows ≡ without name.id (left (take i names) rows) =
    ap (λ (ns : List RunName). left ns rows) (take_more names i name lt ∙ ap (λ (n : RunName). take i names ++ n ∷ []) (sym is)) ∙ left-more (take i names) name rows in
    ap (λ (ns : List RunName). are_picks queue ns (left (take i names) rows)) e
    ∙ ap (λ (rs : List Row). option_map_or (names_last name) (pick queue (left (take i names) rows)) false && are_picks queue (drop (i + 1) names) rs) (sym more)
  where
    plus : (n : ℕ) → n + 1 ≡ suc n
    plus n = omega arith

pub are-step : (queue : TaskQueue) (names : List RunName) (i : ℕ) (name : RunName) (rows : List Row) → i < length names → name ≡ get_or names i name
    → option_map_or (names_last name) (pick queue (left (take i names) rows)) false ≡ true → are_picks queue names rows ≡ are_picks queue (drop i names) (left (take i names) rows)
    → are_picks queue names rows ≡ are_picks queue (drop (i + 1) names) (left (take (i + 1) names) rows)
are-step queue names i name rows lt is here so_far =
    so_far ∙ (are-cons queue names i name rows lt is ∙ ap (λ b. b && are_picks queue (drop (i + 1) names) (left (take (i + 1) names) rows)) here)

pub are-not : (queue : TaskQueue) (names : List RunName) (i : ℕ) (name : RunName) (rows : List Row) → i < length names → name ≡ get_or names i name
    → option_map_or (names_last name) (pick queue (left (take i names) rows)) false ≡ false → are_picks queue names rows ≡ are_picks queue (drop i names) (left (take i names) rows) → false ≡ are_picks queue names rows
are-not queue names i name rows lt is here so_far =
    sym (so_far ∙ (are-cons queue names i name rows lt is ∙ ap (λ b. b && are_picks queue (drop (i + 1) names) (left (take (i + 1) names) rows)) here))

pub are-end : (queue : TaskQueue) (names : List RunName) (i : ℕ) (rows : List Row) → drop i names ≡ [] → are_picks queue names rows ≡ are_picks queue (drop i names) (left (take i names) rows) → true ≡ are_picks queue names rows
are-end queue names i rows none so_far = sym (so_far ∙ ap (λ (ns : List RunName). are_picks queue ns (left (take i names) rows)) none)

-- ---- picks, in a loop

pub picks-init : (most : ℕ) (queue : TaskQueue) (names : List RunName) (rows : List Row) → names ≡ [] → names ++ picks (most - length names) queue (left names rows) ≡ picks most queue rows
picks-init most queue names rows none =
    ap (λ (ns : List RunName). ns ++ picks (most - length ns) queue (left ns rows)) none ∙ (ap (λ k. picks k queue (left [] rows)) (less most) ∙ ap (picks most queue) (left-nil rows))
  where
    less : (n : ℕ) → n - 0 ≡ n
    less n = omega arith

left_over : (most n : ℕ) → n < most → most - n ≡ suc (most - (n + 1))
left_over most n lt = omega arith

pub picks-step : (most : ℕ) (queue : TaskQueue) (names new : List RunName) (name : RunName) (row : Row) (rows : List Row) → length names < most → pick queue (left names rows) ≡ Some row → name ≡ last_name row → new ≡ names ++ name ∷ []
    → names ++ picks (most - length names) queue (left names rows) ≡ picks most queue rows → new ++ picks (most - length new) queue (left new rows) ≡ picks most queue rows
picks-step most queue names new name row rows lt here called pushed so_far =
    let added : new ≡ names ++ last_name row ∷ [] = pushed ∙ ap (λ (n : RunName). names ++ n ∷ []) called in
    let len : length (names ++ last_name row ∷ []) ≡ length names + 1 = length-append names (last_name row ∷ []) in
    let rest : picks (most - length names) queue (left names rows) ≡ last_name row ∷ picks (most - (length names + 1)) queue (without row.id (left names rows)) =
    ap (λ k. picks k queue (left names rows)) (left_over most (length names) lt) ∙ ap (picked (λ r. picks (most - (length names + 1)) queue (without r.id (left names rows)))) here in
    ap (λ (ns : List RunName). ns ++ picks (most - length ns) queue (left ns rows)) added
    ∙ (ap (λ n. (names ++ last_name row ∷ []) ++ picks (most - n) queue (left (names ++ last_name row ∷ []) rows)) len
    ∙ (ap (λ (rs : List Row). (names ++ last_name row ∷ []) ++ picks (most - (length names + 1)) queue rs) (left-more names (last_name row) rows)
    ∙ (append_assoc names (last_name row ∷ []) (picks (most - (length names + 1)) queue (without row.id (left names rows)))
    ∙ (ap (λ (ns : List RunName). names ++ ns) (sym rest) ∙ so_far))))

pub picks-none : (most : ℕ) (queue : TaskQueue) (names : List RunName) (rows : List Row) → length names < most → pick queue (left names rows) ≡ None → names ++ picks (most - length names) queue (left names rows) ≡ picks most queue rows → names ≡ picks most queue rows
picks-none most queue names rows lt here so_far =
    let rest : picks (most - length names) queue (left names rows) ≡ [] =
    ap (λ k. picks k queue (left names rows)) (left_over most (length names) lt) ∙ ap (picked (λ r. picks (most - (length names + 1)) queue (without r.id (left names rows)))) here in
    sym (append-nil names) ∙ (ap (λ (ns : List RunName). names ++ ns) (sym rest) ∙ so_far)

pub picks-end : (most : ℕ) (queue : TaskQueue) (names : List RunName) (rows : List Row) → most ≤ length names → names ++ picks (most - length names) queue (left names rows) ≡ picks most queue rows → names ≡ picks most queue rows
picks-end most queue names rows le so_far =
    let none : most - length names ≡ 0 = omega arith in
    sym (append-nil names) ∙ (ap (λ k. names ++ picks k queue (left names rows)) (sym none) ∙ so_far)

-- ---- claims that are taken one after the other

pub record Popped {A : Type 0} (n : ℕ) (xs : List A) (x c : A) : Type 0 where
  pub items : xs ≡ replicate n c
  pub one : x ≡ c

pub popped : {A : Type 0} (n : ℕ) (xs : List A) (x c : A) → xs ++ x ∷ [] ≡ replicate (suc n) c → Popped n xs x c
popped zero [] x c e = record { items = refl; one = cc }
popped (suc n) [] x c e = cc
popped zero (y ∷ []) x c e = cc
popped zero (y ∷ z ∷ ys) x c e = cc
popped (suc n) (y ∷ ys) x c e =
    let tail : ys ++ x ∷ [] ≡ replicate (suc n) c = cc in
    let head : y ≡ c = cc in
    let rest = popped n ys x c tail in
    record { items = ap (λ z. z ∷ ys) head ∙ ap (λ zs. c ∷ zs) rest.items; one = rest.one }

pub claims-step : (claim one : Claim) (names : List RunName) (i : ℕ) (name : RunName) (rows new all : List Row) → i < length names → name ≡ get_or names i name → one ≡ claim → new ≡ change_row name.id (claimed one) rows
    → all_claimed claim (drop i names) rows ≡ all → all_claimed claim (drop (i + 1) names) new ≡ all
claims-step claim one names i name rows new all lt is same made so_far =
    let e : drop i names ≡ name ∷ drop (i + 1) names = drop-cons names i name lt ∙ (ap (λ (n : RunName). n ∷ drop (suc i) names) (sym is) ∙ ap (λ k. name ∷ drop k names) (sym (plus i))) in
    ap (all_claimed claim (drop (i + 1) names)) (made ∙ ap (λ (c : Claim). change_row name.id (claimed c) rows) same)
    ∙ (sym (ap (λ (ns : List RunName). all_claimed claim ns rows) e) ∙ so_far)
  where
    plus : (n : ℕ) → n + 1 ≡ suc n
    plus n = omega arith
