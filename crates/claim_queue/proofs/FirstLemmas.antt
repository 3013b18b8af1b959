-- The first by an order is before all others.
use Rattle.std.proofs.Common.{◌≡◌, ℕ, zero, suc, ◌+◌, ◌≤◌, Bool, true, false, if◌then◌else◌, List, [], ◌∷◌, Option, Some, None, refl, sym, ap, ◌∙◌, subst, slice_get, arith}
use Rattle.std.specs.Cmp.{IsStrictWeakOrder}
use Rattle.std.specs.List.{fold, filter, reduce}
use Rattle.claim_queue.specs.Held.{held_from}
use Rattle.claim_queue.specs.Firsts.{IsHeld}

-- of two the one that is before the other, and else the first
abbrev pub choice : {A : Type 0} → (A × ℕ → A × ℕ → Bool) → A × ℕ → A × ℕ → A × ℕ
choice before first e = if before e first then e else first

-- each of a list
abbrev pub Each : {A : Type 0} → (A → Type 0) → List A → Type 0
Each P [] = Unit {0}
Each P (x ∷ xs) = P x × Each P xs

-- nothing is before one, and what is its equal has no lesser row
abbrev pub Follows : {A : Type 0} → (A × ℕ → A × ℕ → Bool) → A × ℕ → A × ℕ → Type 0
Follows before e other = (before other e ≡ false) × (before e other ≡ false → e.1 ≤ other.1)

-- the rows of a list rise from one on
abbrev pub Rises : {A : Type 0} → ℕ → List (A × ℕ) → Type 0
Rises row [] = Unit {0}
Rises row (e ∷ es) = (row ≤ e.1) × Rises e.1 es

lower : {A : Type 0} (low row : ℕ) (es : List (A × ℕ)) → low ≤ row → Rises row es → Rises low es
lower low row [] le rises = tt
lower low row (e ∷ es) le rises = (let h = rises.0 in omega arith, rises.1)

no-before : {A : Type 0} (before : A × ℕ → A × ℕ → Bool) (order : IsStrictWeakOrder before) (e : A × ℕ) → before e e ≡ false
no-before before order e = by (before e e) refl where
  by : (t : Bool) → before e e ≡ t → before e e ≡ false
  by true is = order.one_way e e is
  by false is = is

-- ---- what is chosen is before all others

chosen-first : {A : Type 0} (before : A × ℕ → A × ℕ → Bool) (order : IsStrictWeakOrder before) (a : A × ℕ) (es : List (A × ℕ)) → Rises a.1 es → Each (Follows before (fold (choice before) a es)) (a ∷ es)
chosen-first before order a [] rises = ((no-before before order a, λ is. omega arith), tt)
chosen-first {A = A} before order a (o ∷ es) rises = by (before o a) refl (chosen-first before order o es rises.1) (chosen-first before order a es (lower a.1 o.1 es rises.0 rises.1)) where
  by : (t : Bool) → before o a ≡ t → Each (Follows before (fold (choice before) o es)) (o ∷ es) → Each (Follows before (fold (choice before) a es)) (a ∷ es) → Each (Follows before (fold (choice before) a (o ∷ es))) (a ∷ o ∷ es)
  by true is later stays =
      let e = fold (choice before) o es in
      let not_a : before a e ≡ false = order.chain a o e (order.one_way o a is) later.0.0 in
      let equal : before e a ≡ false → e.1 ≤ a.1 = λ same_. let no_ : before o a ≡ false = order.chain o e a later.0.0 same_ in cc in
      let same : choice before a o ≡ o = rw is refl in
      subst (λ (z : A × ℕ). Each (Follows before (fold (choice before) z es)) (a ∷ o ∷ es)) (sym same) ((not_a, equal), later)
  by false is later stays =
      let e = fold (choice before) a es in
      let not_o : before o e ≡ false = order.chain o a e is stays.0.0 in
      let equal : before e o ≡ false → e.1 ≤ o.1 = λ same_. let le = stays.0.1 (order.chain e o a same_ is) in let up = rises.0 in omega arith in
      let same : choice before a o ≡ a = rw is refl in
      subst (λ (z : A × ℕ). Each (Follows before (fold (choice before) z es)) (a ∷ o ∷ es)) (sym same) (stays.0, ((not_o, equal), stays.1))

-- what is chosen is one of the list
chosen-keeps : {A : Type 0} (before : A × ℕ → A × ℕ → Bool) (P : A × ℕ → Type 0) (a : A × ℕ) (es : List (A × ℕ)) → P a → Each P es → P (fold (choice before) a es)
chosen-keeps before P a [] here each = here
chosen-keeps before P a (o ∷ es) here each = by (before o a) refl (chosen-keeps before P o es each.0 each.1) (chosen-keeps before P a es here each.1) where
  by : (t : Bool) → before o a ≡ t → P (fold (choice before) o es) → P (fold (choice before) a es) → P (fold (choice before) a (o ∷ es))
  by true is later stays = rw is later
  by false is later stays = rw is stays

-- ---- what is held

-- each entry is held, at its row less the first
held-each : {A : Type 0} (row : ℕ) (xs : List (Option A)) (P : A × ℕ → Type 0) → ((k : ℕ) (x : A) → slice_get xs k ≡ Some (Some x) → P (x, row + k)) → Each P (held_from row xs)
held-each row [] P each = tt
held-each row (None ∷ xs) P each = held-each (row + 1) xs P (λ k x is. subst (λ n. P (x, n)) (omega arith) (each (suc k) x is))
held-each row (Some y ∷ xs) P each = (subst (λ n. P (y, n)) (omega arith) (each 0 y refl), held-each (row + 1) xs P (λ k x is. subst (λ n. P (x, n)) (omega arith) (each (suc k) x is)))

-- what holds of each entry holds of what is held
each-held : {A : Type 0} (row : ℕ) (xs : List (Option A)) (P : A × ℕ → Type 0) → Each P (held_from row xs) → (k : ℕ) (x : A) → slice_get xs k ≡ Some (Some x) → P (x, row + k)
each-held row [] P each k x is = cc
each-held row (None ∷ xs) P each zero x is = cc
each-held row (None ∷ xs) P each (suc k) x is = subst (λ n. P (x, n)) (omega arith) (each-held (row + 1) xs P each k x is)
each-held {A = A} row (Some y ∷ xs) P each zero x is =
    let e : y ≡ x = cc in
    subst (λ n. P (x, n)) (omega arith) (subst (λ (z : A). P (z, row)) e each.0)
each-held row (Some y ∷ xs) P each (suc k) x is = subst (λ n. P (x, n)) (omega arith) (each-held (row + 1) xs P each.1 k x is)

held-rises : {A : Type 0} (low row : ℕ) (xs : List (Option A)) → low ≤ row → Rises low (held_from row xs)
held-rises low row [] le = tt
held-rises low row (None ∷ xs) le = held-rises low (row + 1) xs (omega arith)
held-rises low row (Some x ∷ xs) le = (le, held-rises row (row + 1) xs (omega arith))

-- ---- what passes a test

each-filter : {A : Type 0} (test : A → Bool) (P : A → Type 0) (xs : List A) → Each P xs → Each (λ x. (test x ≡ true) × P x) (filter test xs)
each-filter test P [] each = tt
each-filter test P (x ∷ xs) each = by (test x) refl (each-filter test P xs each.1) where
  by : (t : Bool) → test x ≡ t → Each (λ y. (test y ≡ true) × P y) (filter test xs) → Each (λ y. (test y ≡ true) × P y) (filter test (x ∷ xs))
  by true is more = rw is ((is, each.0), more)
  by false is more = rw is more

filter-each : {A : Type 0} (test : A → Bool) (P : A → Type 0) (xs : List A) → Each P (filter test xs) → Each (λ x. test x ≡ true → P x) xs
filter-each test P [] each = tt
filter-each {A = A} test P (x ∷ xs) each = by (test x) refl each (filter-each test P xs) where
  by : (t : Bool) → test x ≡ t → Each P (filter test (x ∷ xs)) → (Each P (filter test xs) → Each (λ y. test y ≡ true → P y) xs) → Each (λ y. test y ≡ true → P y) (x ∷ xs)
  by true is here more = let h = rw is at here in (λ yes_. h.0, more h.1)
  by false is here more = let h = rw is at here in (λ yes_. cc, more h)

filter-rises : {A : Type 0} (test : A × ℕ → Bool) (row : ℕ) (es : List (A × ℕ)) → Rises row es → Rises row (filter test es)
filter-rises test row [] rises = tt
filter-rises test row (e ∷ es) rises = by (test e) refl (filter-rises test e.1 es rises.1) where
  by : (t : Bool) → test e ≡ t → Rises e.1 (filter test es) → Rises row (filter test (e ∷ es))
  by true is more = rw is (rises.0, more)
  by false is more = rw is (lower row e.1 (filter test es) rises.0 more)

-- ---- the first of what is held and passes a test

-- there is none where nothing held passes; else it is held, passes, and is before all others that are held and pass
abbrev pub IsFirst : {A : Type 0} → (A × ℕ → A × ℕ → Bool) → (A × ℕ → Bool) → List (Option A) → Option (A × ℕ) → Type 0
IsFirst {A = A} before test rows None = (row : ℕ) (x : A) → IsHeld rows row x → test (x, row) ≡ true → ⊥
IsFirst {A = A} before test rows (Some e) = (IsHeld rows e.1 e.0) × (test e ≡ true) × ((row : ℕ) (x : A) → IsHeld rows row x → test (x, row) ≡ true → Follows before e (x, row))

pub first-is : {A : Type 0} (before : A × ℕ → A × ℕ → Bool) (order : IsStrictWeakOrder before) (test : A × ℕ → Bool) (rows : List (Option A)) → IsFirst before test rows (reduce (choice before) (filter test (held_from 0 rows)))
first-is {A = A} before order test rows = by (filter test (held_from 0 rows)) refl where
  Held : A × ℕ → Type 0
  Held = λ e. IsHeld rows e.1 e.0

  all_held : Each (λ (e : A × ℕ). IsHeld rows e.1 e.0) (held_from 0 rows)
  all_held = held-each 0 rows (λ (e : A × ℕ). IsHeld rows e.1 e.0) (λ k x is. subst (λ n. IsHeld rows n x) (omega arith) is)

  rising : Rises 0 (filter test (held_from 0 rows))
  rising = filter-rises test 0 (held_from 0 rows) (held-rises 0 0 rows (omega arith))

  by : (es : List (A × ℕ)) → filter test (held_from 0 rows) ≡ es → IsFirst before test rows (reduce (choice before) es)
  by [] is = λ row x held passes.
      let none : Each (λ (e : A × ℕ). ⊥) (filter test (held_from 0 rows)) = subst (λ (l : List (A × ℕ)). Each (λ (e : A × ℕ). ⊥) l) (sym is) tt in
      each-held 0 rows (λ (e : A × ℕ). test e ≡ true → ⊥) (filter-each test (λ (e : A × ℕ). ⊥) (held_from 0 rows) none) row x held (subst (λ n. test (x, n) ≡ true) (omega arith) passes)
  by (a ∷ es) is =
      let e = fold (choice before) a es in
      let kept : Each (λ (o : A × ℕ). (test o ≡ true) × IsHeld rows o.1 o.0) (a ∷ es) =
      subst (λ (l : List (A × ℕ)). Each (λ (o : A × ℕ). (test o ≡ true) × IsHeld rows o.1 o.0) l) is (each-filter test (λ (o : A × ℕ). IsHeld rows o.1 o.0) (held_from 0 rows) all_held) in
      let here : (test e ≡ true) × IsHeld rows e.1 e.0 = chosen-keeps before (λ (o : A × ℕ). (test o ≡ true) × IsHeld rows o.1 o.0) a es kept.0 kept.1 in
      let rises : Rises 0 (a ∷ es) = subst (λ (l : List (A × ℕ)). Rises 0 l) is rising in
      let follows : Each (Follows before e) (filter test (held_from 0 rows)) = subst (λ (l : List (A × ℕ)). Each (Follows before e) l) (sym is) (chosen-first before order a es rises.1) in (
        here.1,
        here.0,
        λ row x held passes.
            subst (λ n. Follows before e (x, n)) (omega arith) (each-held 0 rows (λ (o : A × ℕ). test o ≡ true → Follows before e o) (filter-each test (Follows before e) (held_from 0 rows) follows) row x held (subst (λ n. test (x, n) ≡ true) (omega arith) passes)),
      )

pub first-one : {A : Type 0} (before : A × ℕ → A × ℕ → Bool) (test : A × ℕ → Bool) (rows : List (Option A)) (a b : Option (A × ℕ)) → IsFirst before test rows a → IsFirst before test rows b → a ≡ b
first-one before test rows None None p q = refl
first-one before test rows None (Some e) p q = absurd (p e.1 e.0 q.0 q.1)
first-one before test rows (Some e) None p q = absurd (q e.1 e.0 p.0 p.1)
first-one {A = A} before test rows (Some e) (Some o) p q =
    let there = p.2 o.1 o.0 q.0 q.1 in
    let back = q.2 e.1 e.0 p.0 p.1 in
    let row : e.1 ≡ o.1 = let le = there.1 back.0 in let ge = back.1 there.0 in omega arith in
    let same : slice_get rows e.1 ≡ slice_get rows o.1 = ap (slice_get rows) row in
    let held : Some (Some e.0) ≡ Some (Some o.0) = sym p.0 ∙ (same ∙ q.0) in
    let x : e.0 ≡ o.0 = cc in
    ap (λ (z : A). let r : Option (A × ℕ) = Some (z, e.1) in r) x ∙ ap (λ n. let r : Option (A × ℕ) = Some (o.0, n) in r) row
