-- That each list of roles is accepted or refused.
use Rattle.std.proofs.Common.{◌≡◌, ◌≢◌, ℕ, zero, suc, ◌+◌, ◌<◌, ◌≤◌, inl, inr, false, List, [], ◌∷◌, length, take, get_or, refl, sym, ap, ◌∙◌, subst, arith, nat_cmp, length-take-le}
use Rattle.std.proofs.lemmas.Bool.{cases_lt}
use Rattle.std.proofs.lemmas.List.{get_or-take, take_all, take_more}
use Rattle.std.proofs.lemmas.List.Elements.{All-more}
use Rattle.std.proofs.lemmas.List.Quantifiers.{all_pairs_push}
use Rattle.std.proofs.lemmas.Option.{slice_get-get_or}
use Rattle.std.specs.Cmp.Lexicographic.{slice_cmp}
use Rattle.std.specs.List.{All, AllPairs}
use Rattle.std.specs.Ordering.{is_gt}
use Rattle.role_expand.specs.Roles.{RoleData, HasRoleForm}
use Rattle.role_expand.specs.Cycles.{IsCycle, IsFirstCycle, IsAccepted}
use Rattle.role_expand.specs.Refusals.{IsFirstBadRole, IsFirstRepeat}
use Rattle.role_expand.proofs.LevelLemmas.{order_first}

-- what holds of a number where it holds of all less ones holds of each
module _ (P : ℕ → Type 0) (step : (n : ℕ) → ((k : ℕ) → k < n → P k) → P n) where
  below : (n k : ℕ) → k < n → P k
  below zero k lt = absurd (omega arith)
  below (suc n) k lt = step k (λ j low. below n j (omega arith))

  from_less : (n : ℕ) → P n
  from_less n = step n (below n)

-- of the lists of this length with Q none is the first
abbrev HasNoFirst : ℕ → (List ℕ → Type 0) → Type 0
HasNoFirst m Q = (xs : List ℕ) → length xs ≡ m → Q xs → ((ys : List ℕ) → Q ys → length ys ≡ m → is_gt (slice_cmp nat_cmp xs ys) ≡ false) → ⊥

-- the lists that begin with a number, where none begins with a less one
module _ (m : ℕ) (Q : List ℕ → Type 0) (none : HasNoFirst (suc m) Q) (a : ℕ) (before : (b : ℕ) → b < a → (t : List ℕ) → length t ≡ m → Q (b ∷ t) → ⊥) where
  is_first : (s : List ℕ) → ((ys : List ℕ) → Q (a ∷ ys) → length ys ≡ m → is_gt (slice_cmp nat_cmp s ys) ≡ false)
      → (ys : List ℕ) → Q ys → length ys ≡ suc m → is_gt (slice_cmp nat_cmp (a ∷ s) ys) ≡ false
  is_first s first [] q len = absurd (omega (arith, len))
  is_first s first (b ∷ ys) q len =
      elim (cases_lt b a) [
        | inl low ↦ absurd (before b low ys (omega arith) q)
        | inr high ↦ order_first a b s ys (omega arith) (λ e. first ys (subst (λ (x : ℕ). Q (x ∷ ys)) (sym e) q) (omega arith))
      ]

  has_no_first : HasNoFirst m (λ t. Q (a ∷ t))
  has_no_first s len q first = none (a ∷ s) (omega arith) q (is_first s first)

-- there is no list where none is the first
no_list : (m : ℕ) (Q : List ℕ → Type 0) → HasNoFirst m Q → (xs : List ℕ) → length xs ≡ m → Q xs → ⊥
no_list zero Q none [] len q = none [] refl q (λ ys r same. by_length ys same)
  where
    by_length : (ys : List ℕ) → length ys ≡ 0 → is_gt (slice_cmp nat_cmp [] ys) ≡ false
    by_length [] len = refl
    by_length (y ∷ ys) len = absurd (omega arith)
no_list zero Q none (x ∷ xs) len q = absurd (omega arith)
no_list (suc m) Q none [] len q = absurd (omega arith)
no_list (suc m) Q none (x ∷ xs) len q =
    from_less (λ a. (t : List ℕ) → length t ≡ m → Q (a ∷ t) → ⊥)
    (λ a before t is r. no_list m (λ s. Q (a ∷ s)) (has_no_first m Q none a before) t is r)
    x xs (omega arith) q

module _ (roles : List RoleData) (none : (i : ℕ) (rest : List ℕ) → ¬ IsFirstCycle roles i rest) where
  -- no cycle from a place, where none goes from one before it
  no_cycle_from : (i : ℕ) → ((j : ℕ) → j < i → (others : List ℕ) → ¬ IsCycle roles (j ∷ others)) → (rest : List ℕ) → ¬ IsCycle roles (i ∷ rest)
  no_cycle_from i before rest h =
      from_less (λ m. (xs : List ℕ) → length xs ≡ m → ¬ IsCycle roles (i ∷ xs)) of_length (length rest) rest refl h
    where
      of_length : (m : ℕ) → ((k : ℕ) → k < m → (xs : List ℕ) → length xs ≡ k → ¬ IsCycle roles (i ∷ xs)) → (xs : List ℕ) → length xs ≡ m → ¬ IsCycle roles (i ∷ xs)
      of_length m shorter xs len cycle = no_list m (λ t. IsCycle roles (i ∷ t)) (λ ys is c first.
          none i ys (record {
            cycle = c;
            first = λ j others low. before j low others;
            shortest = λ others d. (elim (cases_lt (length others) m) [
              | inl low ↦ absurd (shorter (length others) low others refl d)
              | inr high ↦ omega (arith, is)
            ]);
            least = λ others d same. first others d (same ∙ is);
          })) xs len cycle

  no_cycle : (cycle : List ℕ) → ¬ IsCycle roles cycle
  no_cycle [] h = h
  no_cycle (i ∷ rest) h = from_less (λ n. (others : List ℕ) → ¬ IsCycle roles (n ∷ others)) no_cycle_from i rest h

abbrev Apart : List RoleData → Type 0
Apart roles = AllPairs (λ p q. p.id ≢ q.id) roles

one_more : (n : ℕ) → n + 1 ≡ suc n
one_more n = omega arith

nobody : RoleData
nobody = record { id = []; scopes = [] }

module _ (roles : List RoleData) where
  forms_in_front : (longest : ℕ) → ((i : ℕ) → ¬ IsFirstBadRole longest roles i) → (n : ℕ) → n ≤ length roles → ¬ (¬ All (HasRoleForm longest) (take n roles))
  forms_in_front longest none zero le k = k (λ i d lt. absurd (omega arith))
  forms_in_front longest none (suc n) le k = forms_in_front longest none n (omega arith) (λ front. none n (record {
    role = get_or roles n nobody;
    at = slice_get-get_or roles n nobody (omega arith);
    bad = λ form. k (subst (λ (i : ℕ). All (HasRoleForm longest) (take i roles)) (one_more n) (All-more (HasRoleForm longest) roles n nobody (omega arith) front form));
    before = front;
  }))

  apart_in_front : ((i j : ℕ) → ¬ IsFirstRepeat roles i j) → (n : ℕ) → n ≤ length roles → Apart (take n roles)
  apart_in_front none zero le = λ i j d lt in_range. absurd (omega arith)
  apart_in_front none (suc n) le =
      let front : Apart (take n roles) = apart_in_front none n (omega arith) in
      let others : All (λ y. y.id ≢ (get_or roles n nobody).id) (take n roles) = λ i d lt same.
      let low : i < n = omega (arith, length-take-le n roles (omega arith)) in
      none i n (record {
        earlier = low;
        first = get_or roles i d;
        second = get_or roles n nobody;
        at_i = slice_get-get_or roles i d (omega arith);
        at_j = slice_get-get_or roles n nobody (omega arith);
        same = ap (λ (r : RoleData). r.id) (sym (get_or-take n roles i d low)) ∙ same;
        before = front;
      }) in
      subst (λ (i : ℕ). Apart (take i roles)) (one_more n) (subst (λ (t : List RoleData). Apart t) (sym (take_more roles n nobody (omega arith)))
      (all_pairs_push (λ p q. p.id ≢ q.id) (take n roles) (get_or roles n nobody) front others))

  pub accepted_or_refused : (longest : ℕ) → ¬ IsAccepted longest roles → ((i : ℕ) → ¬ IsFirstBadRole longest roles i)
      → (All (HasRoleForm longest) roles → (i j : ℕ) → ¬ IsFirstRepeat roles i j)
      → (All (HasRoleForm longest) roles → Apart roles → (i : ℕ) (rest : List ℕ) → ¬ IsFirstCycle roles i rest) → ⊥
  accepted_or_refused longest unaccepted forms apart acyclic =
      let whole : take (length roles) roles ≡ roles = take_all (length roles) roles (omega arith) in
      forms_in_front longest forms (length roles) (omega arith) (λ front.
      let all : All (HasRoleForm longest) roles = subst (λ (t : List RoleData). All (HasRoleForm longest) t) whole front in
      let distinct : Apart roles = subst (λ (t : List RoleData). Apart t) whole (apart_in_front (apart all) (length roles) (omega arith)) in
      unaccepted (record { forms = all; apart = distinct; acyclic = no_cycle roles (acyclic all distinct) }))
