-- The least of some numbers: the first up to a moment, and which are none less.
use Rattle.std.proofs.Common.{◌≡◌, ℕ, ◌≤◌, ◌<◌, min, Bool, true, false, ◌||◌, cond, List, [], ◌∷◌, Option, Some, None, is_some, refl, ap, sym, ◌∙◌, arith, filter, nat_le}
use Rattle.std.specs.List.{list_any, list_all, fold, reduce}
use Rattle.std.proofs.lemmas.Bool.{leb-true, leb-false, le-leb, lt-leb, and_parts}

-- ---- whether some number is at most another

-- the lesser of two is at most a number exactly where one of them is
min-le : (a b m : ℕ) → nat_le (min a b) m ≡ (nat_le a m || nat_le b m)
min-le a b m = by (nat_le a m) refl (nat_le b m) refl where
  by : (p : Bool) → nat_le a m ≡ p → (q : Bool) → nat_le b m ≡ q → nat_le (min a b) m ≡ (nat_le a m || nat_le b m)
  by true is q then = rw is (le-leb (min a b) m (let h : a ≤ m = leb-true a m is in omega arith))
  by false is true then = rw (is, then) (le-leb (min a b) m (let h : b ≤ m = leb-true b m then in omega arith))
  by false is false then = rw (is, then) (lt-leb (min a b) m (let h : m < a = leb-false a m is in let k : m < b = leb-false b m then in omega arith))

or-assoc : (a b c : Bool) → ((a || b) || c) ≡ (a || (b || c))
or-assoc true b c = refl
or-assoc false b c = refl

-- some number is at most this one exactly where the least is
least-le : (x m : ℕ) (xs : List ℕ) → list_any (λ d. nat_le d m) (x ∷ xs) ≡ nat_le (fold min x xs) m
least-le x m [] = or_none (nat_le x m) where
  or_none : (b : Bool) → (b || false) ≡ b
  or_none true = refl
  or_none false = refl
least-le x m (y ∷ ys) =
    sym (or-assoc (nat_le x m) (nat_le y m) (list_any (λ d. nat_le d m) ys))
    ∙ (ap (λ b. b || list_any (λ d. nat_le d m) ys) (sym (min-le x y m)) ∙ least-le (min x y) m ys)

-- whether a least number, if there is one, is at most this one
abbrev pub is_reached : Option ℕ → ℕ → Bool
is_reached None m = false
is_reached (Some at) m = nat_le at m

pub reached_is : (m : ℕ) (xs : List ℕ) → list_any (λ d. nat_le d m) xs ≡ is_reached (reduce min xs) m
reached_is m [] = refl
reached_is m (x ∷ xs) = least-le x m xs

-- ---- the least up to a number is the least, where that is so great at most

min-assoc : (x y z : ℕ) → min (min x y) z ≡ min x (min y z)
min-assoc x y z = omega arith

fold-min : (x y : ℕ) (xs : List ℕ) → fold min (min x y) xs ≡ min x (fold min y xs)
fold-min x y [] = refl
fold-min x y (z ∷ xs) = ap (λ w. fold min w xs) (min-assoc x y z) ∙ fold-min x (min y z) xs

abbrev with_least : ℕ → Option ℕ → ℕ
with_least x None = x
with_least x (Some y) = min x y

reduce-cons : (x : ℕ) (xs : List ℕ) → reduce min (x ∷ xs) ≡ Some (with_least x (reduce min xs))
reduce-cons x [] = refl
reduce-cons x (y ∷ ys) = ap Some (fold-min x y ys)

abbrev pub within : ℕ → Option ℕ → Option ℕ
within m None = None
within m (Some a) = cond (nat_le a m) (Some a) None

keep-in : (m x : ℕ) (o : Option ℕ) → nat_le x m ≡ true → Some (with_least x (within m o)) ≡ within m (Some (with_least x o))
keep-in m x None in_ = rw in_ refl
keep-in m x (Some y) in_ = by (nat_le y m) refl where
  by : (b : Bool) → nat_le y m ≡ b → Some (with_least x (within m (Some y))) ≡ within m (Some (min x y))
  by true is =
      let h : x ≤ m = leb-true x m in_ in
      let le : nat_le (min x y) m ≡ true = le-leb (min x y) m (omega arith) in rw (is, le) refl
  by false is =
      let h : x ≤ m = leb-true x m in_ in
      let k : m < y = leb-false y m is in
      let e : min x y ≡ x = omega arith in rw (is, e, in_) refl

keep-out : (m x : ℕ) (o : Option ℕ) → nat_le x m ≡ false → within m o ≡ within m (Some (with_least x o))
keep-out m x None out = rw out refl
keep-out m x (Some y) out = by (nat_le y m) refl where
  by : (b : Bool) → nat_le y m ≡ b → within m (Some y) ≡ within m (Some (min x y))
  by true is =
      let h : m < x = leb-false x m out in
      let k : y ≤ m = leb-true y m is in
      let e : y ≡ min x y = omega arith in ap (λ a. within m (Some a)) e
  by false is =
      let h : m < x = leb-false x m out in
      let k : m < y = leb-false y m is in
      let gt : nat_le (min x y) m ≡ false = lt-leb (min x y) m (omega arith) in rw (is, gt) refl

pub first-within : (m : ℕ) (xs : List ℕ) → reduce min (filter (λ d. nat_le d m) xs) ≡ within m (reduce min xs)
first-within m [] = refl
first-within m (x ∷ xs) = by (first-within m xs) (nat_le x m) refl where
  by : reduce min (filter (λ d. nat_le d m) xs) ≡ within m (reduce min xs) → (b : Bool) → nat_le x m ≡ b → reduce min (filter (λ d. nat_le d m) (x ∷ xs)) ≡ within m (reduce min (x ∷ xs))
  by rest true is =
      ap (λ b. reduce min (cond b (x ∷ filter (λ d. nat_le d m) xs) (filter (λ d. nat_le d m) xs))) is
      ∙ (reduce-cons x (filter (λ d. nat_le d m) xs) ∙ (ap (λ (o : Option ℕ). Some (with_least x o)) rest ∙ (keep-in m x (reduce min xs) is ∙ ap (within m) (sym (reduce-cons x xs)))))
  by rest false is =
      ap (λ b. reduce min (cond b (x ∷ filter (λ d. nat_le d m) xs) (filter (λ d. nat_le d m) xs))) is
      ∙ (rest ∙ (keep-out m x (reduce min xs) is ∙ ap (within m) (sym (reduce-cons x xs))))

within-some : (m at : ℕ) (o : Option ℕ) → within m o ≡ Some at → (o ≡ Some at) × (nat_le at m ≡ true)
within-some m at None is = cc
within-some m at (Some a) is = by (nat_le a m) refl where
  by : (b : Bool) → nat_le a m ≡ b → (Some a ≡ Some at) × (nat_le at m ≡ true)
  by true le =
      let e : Some a ≡ Some at = rw le at is in
      let same : a ≡ at = cc in (e, sym (ap (λ d. nat_le d m) same) ∙ le)
  by false le = let no_ : None ≡ Some at = rw le at is in cc

within-none : (m : ℕ) (o : Option ℕ) → within m o ≡ None → is_reached o m ≡ false
within-none m None is = refl
within-none m (Some a) is = by (nat_le a m) refl where
  by : (b : Bool) → nat_le a m ≡ b → nat_le a m ≡ false
  by true le = let no_ : Some a ≡ None = rw le at is in cc
  by false le = le

none-within : (m : ℕ) (o : Option ℕ) → is_reached o m ≡ false → within m o ≡ None
none-within m None is = refl
none-within m (Some a) is = rw is refl

-- the first up to a number is the least of all, and so great at most
pub first-some : (m at : ℕ) (xs : List ℕ) → reduce min (filter (λ d. nat_le d m) xs) ≡ Some at → (reduce min xs ≡ Some at) × (nat_le at m ≡ true)
first-some m at xs is = within-some m at (reduce min xs) (sym (first-within m xs) ∙ is)

pub first-is : (m at : ℕ) (xs : List ℕ) → reduce min xs ≡ Some at → nat_le at m ≡ true → reduce min (filter (λ d. nat_le d m) xs) ≡ Some at
first-is m at xs is le = first-within m xs ∙ (ap (within m) is ∙ rw le refl)

-- there is none exactly where no number is so great at most
pub first-none : (m : ℕ) (xs : List ℕ) → reduce min (filter (λ d. nat_le d m) xs) ≡ None → list_any (λ d. nat_le d m) xs ≡ false
first-none m xs is = reached_is m xs ∙ within-none m (reduce min xs) (sym (first-within m xs) ∙ is)

pub none-first : (m : ℕ) (xs : List ℕ) → list_any (λ d. nat_le d m) xs ≡ false → reduce min (filter (λ d. nat_le d m) xs) ≡ None
none-first m xs is = first-within m xs ∙ none-within m (reduce min xs) (sym (reached_is m xs) ∙ is)

-- and there is one where some number is
pub some-reached : (m : ℕ) (xs : List ℕ) → is_some (reduce min (filter (λ d. nat_le d m) xs)) ≡ list_any (λ d. nat_le d m) xs
some-reached m xs = ap is_some (first-within m xs) ∙ (by (reduce min xs) ∙ sym (reached_is m xs)) where
  by : (o : Option ℕ) → is_some (within m o) ≡ is_reached o m
  by None = refl
  by (Some a) = at (nat_le a m) where
    at : (b : Bool) → is_some (cond b (Some a) None) ≡ b
    at true = refl
    at false = refl

-- ---- all are as great as the least

least-all : (a x : ℕ) (xs : List ℕ) → a ≤ fold min x xs → list_all (nat_le a) (x ∷ xs) ≡ true
least-all a x [] le = rw (le-leb a x le) refl
least-all a x (y ∷ ys) le =
    let parts = and_parts (nat_le a (min x y)) (list_all (nat_le a) ys) (least-all a (min x y) ys le) in
    let h : a ≤ min x y = leb-true a (min x y) parts.0 in
    rw (le-leb a x (omega arith), le-leb a y (omega arith), parts.1) refl

pub reduce-all : (at : ℕ) (xs : List ℕ) → reduce min xs ≡ Some at → list_all (nat_le at) xs ≡ true
reduce-all at [] is = refl
reduce-all at (x ∷ xs) is = let same : fold min x xs ≡ at = cc in least-all at x xs (omega arith)

-- the least of all is reached at itself
pub reduce-any : (at : ℕ) (xs : List ℕ) → reduce min xs ≡ Some at → list_any (λ d. nat_le d at) xs ≡ true
reduce-any at xs is = reached_is at xs ∙ (ap (λ (o : Option ℕ). is_reached o at) is ∙ le-leb at at (omega arith))

all-fold : (a x : ℕ) (xs : List ℕ) → list_all (nat_le a) (x ∷ xs) ≡ true → a ≤ fold min x xs
all-fold a x [] all = leb-true a x (and_parts (nat_le a x) true all).0
all-fold a x (y ∷ ys) all =
    let first = and_parts (nat_le a x) (list_all (nat_le a) (y ∷ ys)) all in
    let second = and_parts (nat_le a y) (list_all (nat_le a) ys) first.1 in
    let h : a ≤ x = leb-true a x first.0 in
    let k : a ≤ y = leb-true a y second.0 in
    all-fold a (min x y) ys (rw (le-leb a (min x y) (omega arith), second.1) refl)

-- what is at most each, and some number is at most it, is the least
pub least-is : (at : ℕ) (xs : List ℕ) → list_all (nat_le at) xs ≡ true → list_any (λ d. nat_le d at) xs ≡ true → reduce min xs ≡ Some at
least-is at [] all some_ = cc
least-is at (x ∷ xs) all some_ =
    let h : fold min x xs ≤ at = leb-true (fold min x xs) at (sym (reached_is at (x ∷ xs)) ∙ some_) in
    let k : at ≤ fold min x xs = all-fold at x xs all in
    let e : fold min x xs ≡ at = omega arith in ap Some e
