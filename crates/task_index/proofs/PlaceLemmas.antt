-- The first of a list that passes a test, by its place.
use Rattle.std.proofs.Common.{◌≡◌, ℕ, zero, suc, ◌+◌, ◌≤◌, ◌<◌, Bool, true, false, not, cond, List, [], ◌∷◌, length, find, Some, None, refl, ap, sym, ◌∙◌, arith, nat_lt, slice_set, get_or}
use Rattle.std.specs.List.{list_any, position, position_or_len, prefix_len}
use Rattle.std.proofs.lemmas.Bool.{ltb-false}
use Rattle.std.proofs.lemmas.List.Quantifiers.{position-Some}
use Rattle.task_index.specs.Due.{change_first}

record AtPlace {A : Type 0} (test : A → Bool) (f : A → A) (xs : List A) (i : ℕ) (d : A) : Type 0 where
  changed : change_first test f xs ≡ slice_set xs i (f (get_or xs i d))
  found : find test xs ≡ Some (get_or xs i d)

at-place : {A : Type 0} (test : A → Bool) (f : A → A) (xs : List A) (i : ℕ) (d : A) → i < length xs → test (get_or xs i d) ≡ true → ((k : ℕ) → k < i → test (get_or xs k d) ≡ false) → AtPlace test f xs i d
at-place test f [] i d lt is below = absurd (omega arith)
at-place test f (x ∷ xs) zero d lt is below =
    record { changed = ap (λ b. cond b (f x ∷ xs) (x ∷ change_first test f xs)) is; found = ap (λ b. cond b (Some x) (find test xs)) is }
at-place test f (x ∷ xs) (suc i) d lt is below =
    let not_here : test x ≡ false = below zero (omega arith) in
    let rest = at-place test f xs i d (omega arith) is (λ k less. below (suc k) (omega arith)) in
    record {
      changed = ap (λ b. cond b (f x ∷ xs) (x ∷ change_first test f xs)) not_here ∙ ap (λ ys. x ∷ ys) rest.changed;
      found = ap (λ b. cond b (Some x) (find test xs)) not_here ∙ rest.found;
    }

pub place-changed : {A : Type 0} (test : A → Bool) (f : A → A) (xs : List A) (i : ℕ) (d : A) → position test xs ≡ Some i → slice_set xs i (f (get_or xs i d)) ≡ change_first test f xs
place-changed test f xs i d is =
    let at = position-Some test xs i d is in sym (at-place test f xs i d at.0 at.1 at.2).changed

pub place-found : {A : Type 0} (test : A → Bool) (xs : List A) (i : ℕ) (d : A) → position test xs ≡ Some i → find test xs ≡ Some (get_or xs i d)
place-found test xs i d is =
    let at = position-Some test xs i d is in (at-place test (λ x. x) xs i d at.0 at.1 at.2).found

pub place-within : {A : Type 0} (test : A → Bool) (xs : List A) (i : ℕ) (d : A) → position test xs ≡ Some i → (i < length xs) × (test (get_or xs i d) ≡ true)
place-within test xs i d is = let at = position-Some test xs i d is in (at.0, at.1)

record NoPlace {A : Type 0} (test : A → Bool) (f : A → A) (xs : List A) : Type 0 where
  changed : change_first test f xs ≡ xs
  found : find test xs ≡ None

no-place : {A : Type 0} (test : A → Bool) (f : A → A) (xs : List A) → length xs ≤ prefix_len (λ x. not (test x)) xs → NoPlace test f xs
no-place test f [] far = record { changed = refl; found = refl }
no-place test f (x ∷ xs) far = by (no-place test f xs) (test x) refl where
  by : (length xs ≤ prefix_len (λ x. not (test x)) xs → NoPlace test f xs) → (b : Bool) → test x ≡ b → NoPlace test f (x ∷ xs)
  by rest true is =
      let e : prefix_len (λ x. not (test x)) (x ∷ xs) ≡ 0 = ap (λ b. cond (not b) (1 + prefix_len (λ x. not (test x)) xs) 0) is in absurd (omega arith)
  by rest false is =
      let e : prefix_len (λ x. not (test x)) (x ∷ xs) ≡ 1 + prefix_len (λ x. not (test x)) xs = ap (λ b. cond (not b) (1 + prefix_len (λ x. not (test x)) xs) 0) is in
      let r = rest (omega arith) in
      record {
        changed = ap (λ b. cond b (f x ∷ xs) (x ∷ change_first test f xs)) is ∙ ap (λ ys. x ∷ ys) r.changed;
        found = ap (λ b. cond b (Some x) (find test xs)) is ∙ r.found;
      }

far : {A : Type 0} (test : A → Bool) (xs : List A) → position test xs ≡ None → length xs ≤ prefix_len (λ x. not (test x)) xs
far test xs is = by (nat_lt (position_or_len test xs) (length xs)) refl where
  by : (b : Bool) → nat_lt (position_or_len test xs) (length xs) ≡ b → length xs ≤ prefix_len (λ x. not (test x)) xs
  by true less = let no_ : Some (position_or_len test xs) ≡ None = sym (ap (λ b. cond b (Some (position_or_len test xs)) None) less) ∙ is in absurd (cc)
  by false le = ltb-false (position_or_len test xs) (length xs) le

pub place-none : {A : Type 0} (test : A → Bool) (f : A → A) (xs : List A) → position test xs ≡ None → xs ≡ change_first test f xs
place-none test f xs is = sym (no-place test f xs (far test xs is)).changed

pub place-lost : {A : Type 0} (test : A → Bool) (xs : List A) → position test xs ≡ None → find test xs ≡ None
place-lost test xs is = (no-place test (λ x. x) xs (far test xs is)).found

-- ---- whether some item passes

pub any-found : {A : Type 0} (test : A → Bool) (xs : List A) (x : A) → find test xs ≡ Some x → list_any test xs ≡ true
any-found test [] x is = cc
any-found test (y ∷ ys) x is = by (any-found test ys x) (test y) refl where
  by : (find test ys ≡ Some x → list_any test ys ≡ true) → (b : Bool) → test y ≡ b → list_any test (y ∷ ys) ≡ true
  by rest true here = rw here refl
  by rest false here = rw here (rest (rw here at is))

pub any-lost : {A : Type 0} (test : A → Bool) (xs : List A) → find test xs ≡ None → list_any test xs ≡ false
any-lost test [] is = refl
any-lost test (y ∷ ys) is = by (any-lost test ys) (test y) refl where
  by : (find test ys ≡ None → list_any test ys ≡ false) → (b : Bool) → test y ≡ b → list_any test (y ∷ ys) ≡ false
  by rest true here = let no_ : Some y ≡ None = rw here at is in cc
  by rest false here = rw here (rest (rw here at is))

pub place-any : {A : Type 0} (test : A → Bool) (xs : List A) (i : ℕ) (d : A) → position test xs ≡ Some i → list_any test xs ≡ true
place-any test xs i d is = any-found test xs (get_or xs i d) (place-found test xs i d is)

pub place-no : {A : Type 0} (test : A → Bool) (xs : List A) → position test xs ≡ None → list_any test xs ≡ false
place-no test xs is = any-lost test xs (place-lost test xs is)
