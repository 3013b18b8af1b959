-- For how many tasks each waits, as one of them comes further.
use Rattle.std.proofs.Common.{◌≡◌, ℕ, zero, suc, ◌+◌, ◌<◌, ◌≤◌, Bool, true, false, not, ◌&&◌, ◌||◌, List, [], ◌∷◌, ◌++◌, length, take, get_or, Some, None, refl, sym, ◌∙◌, ap, subst, arith, ◌==◌}
use Rattle.std.specs.Prelude.{slice_get, filter, option_map}
use Rattle.std.specs.Int.{from_bool}
use Rattle.std.specs.List.{IsDistinct, AllByRecursion}
use Rattle.std.proofs.lemmas.Option.{slice_get-map}
use Rattle.dep_graph.specs.declared.node.Progress.{Progress}
use Rattle.dep_graph.specs.declared.node.Requires.{Requires}
use Rattle.dep_graph.specs.Nodes.{Task, rows_of, is_in, moved}
use Rattle.dep_graph.specs.Ready.{serves, row_serves, all_serve}
use Rattle.dep_graph.specs.Kept.{HaveOwnRows}
use Rattle.dep_graph.specs.Tables.{lacks, IsMoved}
use Rattle.dep_graph.proofs.TaskLemmas.{same_row, row_same, none-in, differs-at}
use Rattle.dep_graph.proofs.EdgeLemmas.{other-way, take-more}

pub some-task : (x y : Task) → Some x ≡ Some y → x ≡ y
some-task x y is = cc

-- ---- what one of those that are counted adds

pub lacks-cons : (tasks : List Task) (needs : Requires) (d : ℕ) (ds : List ℕ) → lacks tasks needs (d ∷ ds) ≡ from_bool (not (row_serves tasks needs d)) + lacks tasks needs ds
lacks-cons tasks needs d ds = by (row_serves tasks needs d) refl where
  by : (b : Bool) → row_serves tasks needs d ≡ b → lacks tasks needs (d ∷ ds) ≡ from_bool (not (row_serves tasks needs d)) + lacks tasks needs ds
  by true is = rw is (omega arith)
  by false is = rw is (omega arith)

pub lacks-alike : (old new : List Task) (needs : Requires) → ((d : ℕ) → row_serves new needs d ≡ row_serves old needs d) → (ds : List ℕ) → lacks new needs ds ≡ lacks old needs ds
lacks-alike old new needs same [] = refl
lacks-alike old new needs same (d ∷ ds) =
    let one = lacks-cons new needs d ds in
    let other = lacks-cons old needs d ds in
    let rest = lacks-alike old new needs same ds in
    let here : from_bool (not (row_serves new needs d)) ≡ from_bool (not (row_serves old needs d)) = ap (λ b. from_bool (not b)) (same d) in
    omega (arith, one, other, rest, here)

pub one-most : (b : Bool) → from_bool b ≤ 1
one-most true = omega arith
one-most false = omega arith

pub lacks-few : (tasks : List Task) (needs : Requires) (ds : List ℕ) → lacks tasks needs ds ≤ length ds
lacks-few tasks needs [] = omega arith
lacks-few tasks needs (d ∷ ds) =
    let one = lacks-cons tasks needs d ds in
    let rest = lacks-few tasks needs ds in
    let most = one-most (not (row_serves tasks needs d)) in
    omega (arith, one, rest, most)

lacks-last : (tasks : List Task) (needs : Requires) (ds : List ℕ) (d : ℕ) → lacks tasks needs (ds ++ d ∷ []) ≡ lacks tasks needs ds + from_bool (not (row_serves tasks needs d))
lacks-last tasks needs [] d = let one = lacks-cons tasks needs d [] in omega (arith, one)
lacks-last tasks needs (x ∷ xs) d =
    let one = lacks-cons tasks needs x xs in
    let two = lacks-cons tasks needs x (xs ++ d ∷ []) in
    let rest = lacks-last tasks needs xs d in
    omega (arith, one, two, rest)

-- one row more is looked at
pub lacks-more : (tasks : List Task) (needs : Requires) (names : List ℕ) (i name : ℕ) → i < length names → name ≡ get_or names i name → lacks tasks needs (take (i + 1) names) ≡ lacks tasks needs (take i names) + from_bool (not (row_serves tasks needs name))
lacks-more tasks needs names i name within at = ap (lacks tasks needs) (take-more names i name within at) ∙ lacks-last tasks needs (take i names) name

never : (n : ℕ) → (suc n == 0) ≡ false
never n = search arith

-- a task is ready where it waits for none
pub ready-lacks : (tasks : List Task) (needs : Requires) (ds : List ℕ) → (lacks tasks needs ds == 0) ≡ all_serve tasks needs ds
ready-lacks tasks needs [] = refl
ready-lacks tasks needs (d ∷ ds) = by (ready-lacks tasks needs ds) (row_serves tasks needs d) refl where
  by : (lacks tasks needs ds == 0) ≡ all_serve tasks needs ds → (b : Bool) → row_serves tasks needs d ≡ b → (lacks tasks needs (d ∷ ds) == 0) ≡ all_serve tasks needs (d ∷ ds)
  by rest true is = rw is rest
  by rest false is = rw is (never _)

-- ---- a task comes further

-- the others serve as they did
pub serves-other : (tasks : List Task) (row : ℕ) (now : Progress) (needs : Requires) (d : ℕ) → (d == row) ≡ false → row_serves (moved row now tasks) needs d ≡ row_serves tasks needs d
serves-other [] row now needs d other = refl
serves-other (t ∷ ts) row now needs d other = by (serves-other ts row now needs d other) (t.row == row) refl where
  by : row_serves (moved row now ts) needs d ≡ row_serves ts needs d → (b : Bool) → (t.row == row) ≡ b → row_serves (moved row now (t ∷ ts)) needs d ≡ row_serves (t ∷ ts) needs d
  by rest true is =
      let same : t.row ≡ row = same_row t.row row is in
      let not_ : (t.row == d) ≡ false = ap (λ y. y == d) same ∙ other-way row d other in
      rw is (rw not_ rest)
  by rest false is = rw is (ap (λ b. ((t.row == d) && serves needs t.progress) || b) rest)

moved-more : (b : Bool) (needs : Requires) (before now : Progress) (o m n : ℕ) → IsMoved b needs before now m n → IsMoved b needs before now (o + m) (o + n)
moved-more true needs before now o m n is = omega (arith, is)
moved-more false needs before now o m n is = ap (λ k. o + k) is

moved-here : (a b : Bool) (n m : ℕ) → m ≡ n → (from_bool (not b) + m) + from_bool b ≡ (from_bool (not a) + n) + from_bool a
moved-here true true n m is = omega (arith, is)
moved-here true false n m is = omega (arith, is)
moved-here false true n m is = omega (arith, is)
moved-here false false n m is = omega (arith, is)

pub moved-one : (b : Bool) (needs : Requires) (before now : Progress) (old new other : ℕ) → IsMoved b needs before now old new → IsMoved b needs before now old other → new ≡ other
moved-one true needs before now old new other is too = omega (arith, is, too)
moved-one false needs before now old new other is too = is ∙ sym too

pub lacks-moved : (old new : List Task) (needs : Requires) (row : ℕ) (before now : Progress) → ((d : ℕ) → (d == row) ≡ false → row_serves new needs d ≡ row_serves old needs d) → row_serves old needs row ≡ serves needs before → row_serves new needs row ≡ serves needs now
    → (ds : List ℕ) → IsDistinct ◌==◌ ds → IsMoved (is_in ds row) needs before now (lacks old needs ds) (lacks new needs ds)
unfolding IsDistinct
lacks-moved old new needs row before now others was is [] distinct = refl
lacks-moved old new needs row before now others was is (d ∷ ds) distinct = by (lacks-moved old new needs row before now others was is ds distinct.1) (d == row) refl where
  by : IsMoved (is_in ds row) needs before now (lacks old needs ds) (lacks new needs ds) → (b : Bool) → (d == row) ≡ b → IsMoved (is_in (d ∷ ds) row) needs before now (lacks old needs (d ∷ ds)) (lacks new needs (d ∷ ds))
  by rest true here =
      let same : d ≡ row = same_row d row here in
      let none : is_in ds row ≡ false = ap (is_in ds) (sym same) ∙ none-in d ds distinct.0 in
      let stays : lacks new needs ds ≡ lacks old needs ds = (let P : Bool → Type 0 = λ b. IsMoved b needs before now (lacks old needs ds) (lacks new needs ds) in subst P none rest) in
      let one : lacks new needs (d ∷ ds) ≡ from_bool (not (serves needs now)) + lacks new needs ds = lacks-cons new needs d ds ∙ ap (λ b. from_bool (not b) + lacks new needs ds) (ap (row_serves new needs) same ∙ is) in
      let two : lacks old needs (d ∷ ds) ≡ from_bool (not (serves needs before)) + lacks old needs ds = lacks-cons old needs d ds ∙ ap (λ b. from_bool (not b) + lacks old needs ds) (ap (row_serves old needs) same ∙ was) in
      let all_ : (from_bool (not (serves needs now)) + lacks new needs ds) + from_bool (serves needs now) ≡ (from_bool (not (serves needs before)) + lacks old needs ds) + from_bool (serves needs before) = moved-here (serves needs before) (serves needs now) (lacks old needs ds) (lacks new needs ds) stays in
      let goal : IsMoved true needs before now (lacks old needs (d ∷ ds)) (lacks new needs (d ∷ ds)) = ap (λ n. n + from_bool (serves needs now)) one ∙ (all_ ∙ ap (λ n. n + from_bool (serves needs before)) (sym two)) in
      rw here goal
  by rest false here =
      let o : ℕ = from_bool (not (row_serves old needs d)) in
      let one : lacks new needs (d ∷ ds) ≡ o + lacks new needs ds = lacks-cons new needs d ds ∙ ap (λ b. from_bool (not b) + lacks new needs ds) (others d here) in
      let two : lacks old needs (d ∷ ds) ≡ o + lacks old needs ds = lacks-cons old needs d ds in
      let more : IsMoved (is_in ds row) needs before now (o + lacks old needs ds) (o + lacks new needs ds) = moved-more (is_in ds row) needs before now o (lacks old needs ds) (lacks new needs ds) rest in
      let P : ℕ → Type 0 = λ n. IsMoved (is_in ds row) needs before now n (lacks new needs (d ∷ ds)) in
      let Q : ℕ → Type 0 = λ n. IsMoved (is_in ds row) needs before now (o + lacks old needs ds) n in
      rw here (subst P (sym two) (subst Q (sym one) more))

-- ---- the tasks that depend on one

differs-filter : (p : Task → Bool) (held : ℕ) (tasks : List Task) → AllByRecursion (λ y. (held == y) ≡ false) (rows_of tasks) → AllByRecursion (λ y. (held == y) ≡ false) (rows_of (filter p tasks))
differs-filter p held [] differ = tt
differs-filter p held (t ∷ ts) differ = by (differs-filter p held ts differ.1) (p t) refl where
  by : AllByRecursion (λ y. (held == y) ≡ false) (rows_of (filter p ts)) → (b : Bool) → p t ≡ b → AllByRecursion (λ y. (held == y) ≡ false) (rows_of (filter p (t ∷ ts)))
  by rest true is = rw is (differ.0, rest)
  by rest false is = rw is rest

pub distinct-filter : (p : Task → Bool) (tasks : List Task) → HaveOwnRows tasks → IsDistinct ◌==◌ (rows_of (filter p tasks))
unfolding IsDistinct
distinct-filter p [] own = tt
distinct-filter p (t ∷ ts) own = by (distinct-filter p ts own.1) (p t) refl where
  by : IsDistinct ◌==◌ (rows_of (filter p ts)) → (b : Bool) → p t ≡ b → IsDistinct ◌==◌ (rows_of (filter p (t ∷ ts)))
  by rest true is = rw is (differs-filter p t.row ts own.0, rest)
  by rest false is = rw is rest

-- the row at the place of a task
pub row-of : (tasks : List Task) (place : ℕ) (t : Task) → slice_get tasks place ≡ Some t → slice_get (rows_of tasks) place ≡ Some t.row
row-of tasks place t at = slice_get-map (λ (task : Task). task.row) tasks place ∙ ap (option_map (λ (task : Task). task.row)) at

-- a task is among those that pass a test exactly where it does
pub named-at : (p : Task → Bool) (tasks : List Task) (place : ℕ) (t : Task) → HaveOwnRows tasks → slice_get tasks place ≡ Some t → is_in (rows_of (filter p tasks)) t.row ≡ p t
unfolding IsDistinct
named-at p [] place t own at = absurd (let e : None ≡ Some t = at in cc)
named-at p (u ∷ us) zero t own at = let same : u ≡ t = some-task u t at in subst (λ (x : Task). is_in (rows_of (filter p (u ∷ us))) x.row ≡ p x) same (by (p u) refl) where
  by : (b : Bool) → p u ≡ b → is_in (rows_of (filter p (u ∷ us))) u.row ≡ p u
  by true is = rw is (rw (row_same u.row) refl)
  by false is = rw is (none-in u.row (rows_of (filter p us)) (differs-filter p u.row us own.0))
named-at p (u ∷ us) (suc place) t own at = by (named-at p us place t own.1 at) (p u) refl where
  other : (u.row == t.row) ≡ false
  other = differs-at t.row u.row (rows_of us) place own.0 (row-of us place t at)

  by : is_in (rows_of (filter p us)) t.row ≡ p t → (b : Bool) → p u ≡ b → is_in (rows_of (filter p (u ∷ us))) t.row ≡ p t
  by rest true is = rw is (rw other rest)
  by rest false is = rw is rest
