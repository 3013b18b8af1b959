-- A refusal is one, and no accepted list is refused.
use Rattle.std.proofs.Common.{◌≡◌, ◌≢◌, ℕ, ◌<◌, ◌≤◌, inl, inr, false, List, ◌∷◌, length, take, Some, refl, sym, ap, ◌∙◌, subst, arith, length-take-le, Ordering, Less, Equal, Greater, nat_cmp}
use Rattle.std.proofs.lemmas.Bool.{cases_order, true≢false}
use Rattle.std.proofs.lemmas.Cmp.{nat_list_cmp_total}
use Rattle.std.proofs.lemmas.List.{get_or-take}
use Rattle.std.proofs.lemmas.Option.{slice_get_within, get_or_from_slice_get}
use Rattle.std.specs.Cmp.Lexicographic.{slice_cmp}
use Rattle.std.specs.List.{All, AllPairs, slice_get}
use Rattle.std.specs.Ordering.{is_gt, ordering_reverse}
use Rattle.scope_sets.proofs.OrderLemmas.{same_from_Equal}
use Rattle.role_expand.specs.Roles.{RoleData, HasRoleForm}
use Rattle.role_expand.specs.Cycles.{IsAccepted, IsFirstCycle}
use Rattle.role_expand.specs.Refusals.{IsFirstBadRole, IsFirstRepeat, Refuses, IsSameRefusal}
use Rattle.role_expand.specs.declared.refusals.BuildFault.{BuildFault}
use Rattle.role_expand.specs.declared.refusals.BuildFault.TheVariants.{BadRole, DuplicateRole, ParameterCycle, NoMemory}

-- what holds of each role holds of the one at a place
at_place : (P : RoleData → Type 0) (roles : List RoleData) (i : ℕ) (role : RoleData) → All P roles → slice_get roles i ≡ Some role → P role
at_place P roles i role all at = subst P (get_or_from_slice_get roles i role role at) (all i role (slice_get_within roles i role at))

in_front : (P : RoleData → Type 0) (roles : List RoleData) (n i : ℕ) (role : RoleData) → All P (take n roles) → i < n → n ≤ length roles → slice_get roles i ≡ Some role → P role
in_front P roles n i role all low fits at =
    subst P (get_or-take n roles i role low ∙ get_or_from_slice_get roles i role role at) (all i role (omega (arith, length-take-le n roles fits)))

abbrev Apart : List RoleData → Type 0
Apart roles = AllPairs (λ p q. p.id ≢ q.id) roles

pair_apart : (roles : List RoleData) (i j : ℕ) (p q : RoleData) → Apart roles → i < j → slice_get roles i ≡ Some p → slice_get roles j ≡ Some q → p.id ≡ q.id → ⊥
pair_apart roles i j p q apart lt at at' same =
    apart i j p lt (slice_get_within roles j q at')
    (ap (λ (r : RoleData). r.id) (get_or_from_slice_get roles i p p at) ∙ same ∙ sym (ap (λ (r : RoleData). r.id) (get_or_from_slice_get roles j q p at')))

front_apart : (roles : List RoleData) (n i j : ℕ) (p q : RoleData) → Apart (take n roles) → i < j → j < n → n ≤ length roles → slice_get roles i ≡ Some p → slice_get roles j ≡ Some q → p.id ≡ q.id → ⊥
front_apart roles n i j p q apart lt low fits at at' same =
    apart i j p lt (omega (arith, length-take-le n roles fits))
    (ap (λ (r : RoleData). r.id) (get_or-take n roles i p (omega arith) ∙ get_or_from_slice_get roles i p p at) ∙ same
    ∙ sym (ap (λ (r : RoleData). r.id) (get_or-take n roles j p low ∙ get_or_from_slice_get roles j q p at')))

pub accepted_not_refused : (longest : ℕ) (roles : List RoleData) (fault : BuildFault) → IsAccepted longest roles → Refuses longest roles fault → fault ≡ NoMemory
accepted_not_refused longest roles (BadRole i) a h = absurd (h.bad (at_place (HasRoleForm longest) roles i h.role a.forms h.at))
accepted_not_refused longest roles (DuplicateRole i j) a h = absurd (pair_apart roles i j h.1.first h.1.second a.apart h.1.earlier h.1.at_i h.1.at_j h.1.same)
accepted_not_refused longest roles (ParameterCycle places) a h = absurd (a.acyclic (h.2.0 ∷ h.2.1) h.2.3.cycle)
accepted_not_refused longest roles NoMemory a h = refl

module _ (longest : ℕ) (roles : List RoleData) where
  bad_not_good : (i : ℕ) → IsFirstBadRole longest roles i → All (HasRoleForm longest) roles → ⊥
  bad_not_good i h all = h.bad (at_place (HasRoleForm longest) roles i h.role all h.at)

  bad_once : (i k : ℕ) → IsFirstBadRole longest roles i → IsFirstBadRole longest roles k → i ≡ k
  bad_once i k h g =
      elim (cases_order i k) [
        | inl e ↦ e
        | inr (inl low) ↦ absurd (h.bad (in_front (HasRoleForm longest) roles k i h.role g.before low (omega (arith, slice_get_within roles k g.role g.at)) h.at))
        | inr (inr high) ↦ absurd (g.bad (in_front (HasRoleForm longest) roles i k g.role h.before high (omega (arith, slice_get_within roles i h.role h.at)) g.at))
      ]

  repeat_not_apart : (i j : ℕ) → IsFirstRepeat roles i j → Apart roles → ⊥
  repeat_not_apart i j h apart = pair_apart roles i j h.first h.second apart h.earlier h.at_i h.at_j h.same

  repeat_low : (i j k l : ℕ) → IsFirstRepeat roles i j → IsFirstRepeat roles k l → j < l → ⊥
  repeat_low i j k l h g low = front_apart roles l i j h.first h.second g.before h.earlier low (omega (arith, slice_get_within roles l g.second g.at_j)) h.at_i h.at_j h.same

  second_same : (i j k l : ℕ) → IsFirstRepeat roles i j → IsFirstRepeat roles k l → j ≡ l
  second_same i j k l h g =
      elim (cases_order j l) [
        | inl e ↦ e
        | inr (inl low) ↦ absurd (repeat_low i j k l h g low)
        | inr (inr high) ↦ absurd (repeat_low k l i j g h high)
      ]

  -- two earlier roles with the id of one role
  first_low : (i j k l : ℕ) → IsFirstRepeat roles i j → IsFirstRepeat roles k l → j ≡ l → i < k → ⊥
  first_low i j k l h g e low =
      let same_role : h.second ≡ g.second = same_some (sym h.at_j ∙ ap (λ (n : ℕ). slice_get roles n) e ∙ g.at_j) in
      front_apart roles l i k h.first g.first g.before low g.earlier (omega (arith, slice_get_within roles l g.second g.at_j)) h.at_i g.at_i
      (h.same ∙ ap (λ (r : RoleData). r.id) same_role ∙ sym g.same)
    where
      same_some : {r s : RoleData} → Some r ≡ Some s → r ≡ s
      same_some e = cc

  first_same : (i j k l : ℕ) → IsFirstRepeat roles i j → IsFirstRepeat roles k l → i ≡ k
  first_same i j k l h g =
      let e = second_same i j k l h g in
      elim (cases_order i k) [
        | inl same ↦ same
        | inr (inl low) ↦ absurd (first_low i j k l h g e low)
        | inr (inr high) ↦ absurd (first_low k l i j g h (sym e) high)
      ]

  by_order : (xs ys : List ℕ) (o : Ordering) → slice_cmp nat_cmp xs ys ≡ o → is_gt (slice_cmp nat_cmp xs ys) ≡ false → is_gt (slice_cmp nat_cmp ys xs) ≡ false → xs ≡ ys
  by_order xs ys Less e a b = absurd (true≢false (sym (ap is_gt (nat_list_cmp_total.antisymm ys xs) ∙ ap (λ (o : Ordering). is_gt (ordering_reverse o)) e) ∙ b))
  by_order xs ys Equal e a b = same_from_Equal xs ys e
  by_order xs ys Greater e a b = absurd (true≢false (sym (ap is_gt e) ∙ a))

  cycle_once : (i k : ℕ) (rest others : List ℕ) → IsFirstCycle roles i rest → IsFirstCycle roles k others → i ∷ rest ≡ k ∷ others
  cycle_once i k rest others h g =
      elim (cases_order i k) [
        | inl e ↦ by_start k rest others (subst (λ (n : ℕ). IsFirstCycle roles n rest) e h) g (ap (λ (n : ℕ). n ∷ rest) e)
        | inr (inl low) ↦ absurd (g.first i rest low h.cycle)
        | inr (inr high) ↦ absurd (h.first k others high g.cycle)
      ]
    where
      by_start : (n : ℕ) (rest others : List ℕ) → IsFirstCycle roles n rest → IsFirstCycle roles n others → {xs : List ℕ} → xs ≡ n ∷ rest → xs ≡ n ∷ others
      by_start n rest others h g start =
          let short = h.shortest others g.cycle in
          let long = g.shortest rest h.cycle in
          let same : rest ≡ others = by_order rest others (slice_cmp nat_cmp rest others) refl (h.least others g.cycle (omega arith)) (g.least rest h.cycle (omega arith)) in
          start ∙ ap (λ (t : List ℕ). n ∷ t) same

  pub refusal_is_one : (fault other : BuildFault) → Refuses longest roles fault → Refuses longest roles other → IsSameRefusal fault other
  refusal_is_one (BadRole i) (BadRole k) h g = bad_once i k h g
  refusal_is_one (BadRole i) (DuplicateRole k l) h g = bad_not_good i h g.0
  refusal_is_one (BadRole i) (ParameterCycle others) h g = bad_not_good i h g.0
  refusal_is_one (BadRole i) NoMemory h g = tt
  refusal_is_one (DuplicateRole i j) (BadRole k) h g = bad_not_good k g h.0
  refusal_is_one (DuplicateRole i j) (DuplicateRole k l) h g = (first_same i j k l h.1 g.1, second_same i j k l h.1 g.1)
  refusal_is_one (DuplicateRole i j) (ParameterCycle others) h g = repeat_not_apart i j h.1 g.1
  refusal_is_one (DuplicateRole i j) NoMemory h g = tt
  refusal_is_one (ParameterCycle places) (BadRole k) h g = bad_not_good k g h.0
  refusal_is_one (ParameterCycle places) (DuplicateRole k l) h g = repeat_not_apart k l g.1 h.1
  refusal_is_one (ParameterCycle places) (ParameterCycle others) h g = h.2.2 ∙ cycle_once h.2.0 g.2.0 h.2.1 g.2.1 h.2.3 g.2.3 ∙ sym g.2.2
  refusal_is_one (ParameterCycle places) NoMemory h g = tt
  refusal_is_one NoMemory other h g = tt
