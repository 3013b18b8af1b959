-- The least of what stands at the places is the least ready row.
use Rattle.std.proofs.Common.{◌≡◌, ◌≢◌, ℕ, zero, suc, ◌≤◌, ◌⊎◌, inl, inr, min, Bool, true, false, ◌&&◌, List, [], ◌∷◌, Option, Some, None, refl, sym, ◌∙◌, ap, subst, arith, ◌==◌}
use Rattle.std.specs.Prelude.{slice_get, slice_index, filter, IfSome, if◌then◌else◌}
use Rattle.std.specs.List.{fold, reduce}
use Rattle.dep_graph.specs.Nodes.{Task, rows_of}
use Rattle.dep_graph.specs.Ready.{is_ready, ready_row}
use Rattle.dep_graph.specs.Trees.{node_at}
use Rattle.dep_graph.specs.Tables.{lacks, shown, shown_at, AreCounted}
use Rattle.dep_graph.proofs.CountLemmas.{ready-lacks}
use Rattle.dep_graph.proofs.TreeLemmas.{same?}

some-is : (x y : ℕ) → Some x ≡ Some y → x ≡ y
some-is x y is = cc

-- the number stands in the list
abbrev Among : List ℕ → ℕ → Type 0
Among [] r = ⊥
Among (x ∷ xs) r = (x ≡ r) ⊎ Among xs r

fold-in : (x : ℕ) (xs : List ℕ) → Among (x ∷ xs) (fold min x xs)
fold-in x [] = inl refl
fold-in x (y ∷ ys) = by (fold-in (min x y) ys) (same? (min x y) x) where
  by : Among (min x y ∷ ys) (fold min (min x y) ys) → (min x y ≡ x) ⊎ (min x y ≢ x) → Among (x ∷ y ∷ ys) (fold min x (y ∷ ys))
  by (inl e) (inl p) = inl (sym p ∙ e)
  by (inl e) (inr ne) = let p : y ≡ min x y = omega arith in inr (inl (p ∙ e))
  by (inr i) _ = inr (inr i)

fold-below : (x : ℕ) (xs : List ℕ) → fold min x xs ≤ x
fold-below x [] = omega arith
fold-below x (y ∷ ys) = let rest : fold min (min x y) ys ≤ min x y = fold-below (min x y) ys in omega (arith, rest)

fold-least : (x : ℕ) (xs : List ℕ) (r : ℕ) → Among (x ∷ xs) r → fold min x xs ≤ r
fold-least x xs r (inl e) = subst (λ n. fold min x xs ≤ n) e (fold-below x xs)
fold-least x [] r (inr i) = absurd i
fold-least x (y ∷ ys) r (inr (inl e)) = let rest : fold min (min x y) ys ≤ min x y = fold-below (min x y) ys in omega (arith, rest, e)
fold-least x (y ∷ ys) r (inr (inr i)) = fold-least (min x y) ys r (inr i)

least-is : (xs : List ℕ) (found : Option ℕ) → ((m : ℕ) → found ≡ Some m → Among xs m) → ((r : ℕ) → Among xs r → (m : ℕ) × (found ≡ Some m) × (m ≤ r)) → found ≡ reduce min xs
least-is [] None in_ least = refl
least-is [] (Some m) in_ least = absurd (in_ m refl)
least-is (x ∷ xs) found in_ least =
    let low = least (fold min x xs) (fold-in x xs) in
    let back : fold min x xs ≤ low.0 = fold-least x xs low.0 (in_ low.0 low.1) in
    let same : low.0 ≡ fold min x xs = omega (arith, back, low.2) in
    low.1 ∙ ap Some same

-- a task that passes a test is among those that do
passes-in : (p : Task → Bool) (tasks : List Task) (place : ℕ) (t : Task) → slice_get tasks place ≡ Some t → p t ≡ true → Among (rows_of (filter p tasks)) t.row
passes-in p [] place t at is = absurd (let e : None ≡ Some t = at in cc)
passes-in p (u ∷ us) zero t at is = let same : u ≡ t = (let e : Some u ≡ Some t = at in cc) in let here : p u ≡ true = ap p same ∙ is in rw here (inl (ap (λ (x : Task). x.row) same))
passes-in p (u ∷ us) (suc place) t at is = by (passes-in p us place t at is) (p u) refl where
  by : Among (rows_of (filter p us)) t.row → (b : Bool) → p u ≡ b → Among (rows_of (filter p (u ∷ us))) t.row
  by rest true it = rw it (inr rest)
  by rest false it = rw it rest

in-passes : (p : Task → Bool) (tasks : List Task) (row : ℕ) → Among (rows_of (filter p tasks)) row → (place : ℕ) × (t : Task) × (slice_get tasks place ≡ Some t) × (p t ≡ true) × (t.row ≡ row)
in-passes p [] row i = absurd i
in-passes p (u ∷ us) row i = by (in-passes p us row) (p u) refl where
  behind : (place : ℕ) × (t : Task) × (slice_get us place ≡ Some t) × (p t ≡ true) × (t.row ≡ row) → (place : ℕ) × (t : Task) × (slice_get (u ∷ us) place ≡ Some t) × (p t ≡ true) × (t.row ≡ row)
  behind found = (suc found.0, found.1, found.2, found.3, found.4)

  by : (Among (rows_of (filter p us)) row → (place : ℕ) × (t : Task) × (slice_get us place ≡ Some t) × (p t ≡ true) × (t.row ≡ row)) → (b : Bool) → p u ≡ b → (place : ℕ) × (t : Task) × (slice_get (u ∷ us) place ≡ Some t) × (p t ≡ true) × (t.row ≡ row)
  by rest true it =
      let there : (u.row ≡ row) ⊎ Among (rows_of (filter p us)) row = rw it at i in
      elim there [
        | inl e ↦ (0, u, refl, it, e)
        | inr r ↦ behind (rest r)
      ]
  by rest false it = let there : Among (rows_of (filter p us)) row = rw it at i in behind (rest there)

-- what is shown of a task is its row where it is ready
shown-ready : (all : List Task) (t : Task) (n : ℕ) → n ≡ lacks all t.needs t.dependencies → shown t n ≡ (if is_ready all t then Some t.row else None)
shown-ready all t n is =
    let same : (n == 0) ≡ (lacks all t.needs t.dependencies == 0) = ap (λ m. m == 0) is in
    ap (λ b. if t.progress.unscheduled && b then Some t.row else None) (same ∙ ready-lacks all t.needs t.dependencies)

if-some : (b : Bool) (x r : ℕ) → (if b then Some x else None) ≡ Some r → (b ≡ true) × (x ≡ r)
if-some true x r is = (refl, some-is x r is)
if-some false x r is = absurd (let e : None ≡ Some r = is in cc)

pub least-ready : (tasks : List Task) (lacking : List ℕ) (ready : List (Option ℕ)) (found : Option ℕ) → AreCounted tasks lacking ready → IfSome found (λ m. (place : ℕ) × (node_at ready place ≡ Some m))
    → ((place row : ℕ) → node_at ready place ≡ Some row → (m : ℕ) × (found ≡ Some m) × (m ≤ row)) → found ≡ ready_row tasks
least-ready tasks lacking ready found counted some_ least = least-is (rows_of (filter (is_ready tasks) tasks)) found is-in is-least where
  at : (place : ℕ) (t : Task) → slice_get tasks place ≡ Some t → node_at ready place ≡ (if is_ready tasks t then Some t.row else None)
  at place t there =
      counted.showing place ∙ (ap (λ o. shown_at o (slice_index lacking place)) there ∙ shown-ready tasks t (slice_index lacking place) (counted.counted place t there))

  from-place : (m place : ℕ) → node_at ready place ≡ Some m → Among (rows_of (filter (is_ready tasks) tasks)) m
  from-place m place there = by (slice_get tasks place) refl where
    by : (o : Option Task) → slice_get tasks place ≡ o → Among (rows_of (filter (is_ready tasks) tasks)) m
    by None none = absurd (let e : None ≡ Some m = sym (counted.showing place ∙ ap (λ o. shown_at o (slice_index lacking place)) none) ∙ there in cc)
    by (Some t) is =
        let both = if-some (is_ready tasks t) t.row m (sym (at place t is) ∙ there) in
        subst (Among (rows_of (filter (is_ready tasks) tasks))) both.1 (passes-in (is_ready tasks) tasks place t is both.0)

  is-in : (m : ℕ) → found ≡ Some m → Among (rows_of (filter (is_ready tasks) tasks)) m
  is-in m is =
      let there : (place : ℕ) × (node_at ready place ≡ Some m) = (let P : Option ℕ → Type 0 = λ o. IfSome o (λ m. (place : ℕ) × (node_at ready place ≡ Some m)) in subst P is some_) in
      from-place m there.0 there.1

  is-least : (r : ℕ) → Among (rows_of (filter (is_ready tasks) tasks)) r → (m : ℕ) × (found ≡ Some m) × (m ≤ r)
  is-least r i =
      let from = in-passes (is_ready tasks) tasks r i in
      let ready_ : (if is_ready tasks from.1 then Some from.1.row else None) ≡ Some r = ap (λ b. if b then Some from.1.row else None) from.3 ∙ ap Some from.4 in
      least from.0 r (at from.0 from.1 from.2 ∙ ready_)
