-- No derivable scope of a set without cycles is longer than its bound.
use Rattle.std.proofs.Common.{◌≡◌, ◌≢◌, ℕ, zero, suc, ◌+◌, ◌<◌, ◌≤◌, ◌⊎◌, inl, inr, max, true, nat_eq, sum, sum_by, List, [], ◌∷◌, ◌++◌, length, map, set, get_or, Some, refl, sym, ap, ◌∙◌, subst, Contains, arith, length-append, length-set, get_or-set_other}
use Rattle.std.proofs.lemmas.Bool.Decides.{Decides-eqb}
use Rattle.std.proofs.lemmas.List.{append_assoc, length-map, get_or-map}
use Rattle.std.proofs.lemmas.List.Sums.{sum_by-cons, sum_by-set, sum-map}
use Rattle.std.proofs.lemmas.Option.{slice_get_read, slice_get_within, get_or_from_slice_get}
use Rattle.std.proofs.lemmas.Slice.Eq.{ends_is}
use Rattle.std.specs.List.{slice_get, ends_with}
use Rattle.scope_sets.specs.Scopes.{star}
use Rattle.role_expand.specs.Roles.{RoleData, assume, hole, EndsWithStar, SplitsAtHole, GivesFilled}
use Rattle.role_expand.specs.Closures.{GivenBy, Derivable, IsEachOnce}
use Rattle.role_expand.specs.Cycles.{StartAlike, EdgeAt, IsWalk, IsCycle}
use Rattle.role_expand.specs.Lengths.{longest_of, longest_listed, starred_length, length_bound}
use Rattle.role_expand.proofs.ClosureLemmas.{Derivable-within}
use Rattle.role_expand.proofs.EdgeLemmas.{fronts_alike}

-- ---- sums and longest lengths

length_le_longest : (ss : List (List ℕ)) (s : List ℕ) → Contains ss s → length s ≤ longest_of ss
length_le_longest [] s h = absurd (omega (arith, h.1))
length_le_longest (x ∷ ss) s (zero, lt, is) = omega (arith, ap length is)
length_le_longest (x ∷ ss) s (suc k, lt, is) = omega (arith, length_le_longest ss s (k, omega (arith, lt), is))

listed_le : (roles : List RoleData) (role : RoleData) (s : List ℕ) → Contains roles role → Contains role.scopes s → length s ≤ longest_listed roles
listed_le [] role s h listed = absurd (omega (arith, h.1))
listed_le (x ∷ roles) role s (zero, lt, is) listed = omega (arith, length_le_longest role.scopes s listed, ap (λ (r : RoleData). longest_of r.scopes) is)
listed_le (x ∷ roles) role s (suc k, lt, is) listed = omega (arith, listed_le roles role s (k, omega (arith, lt), is) listed)

length_le_sum : (ss : List (List ℕ)) (s : List ℕ) → Contains ss s → length s ≤ sum_by length ss
length_le_sum [] s h = absurd (omega (arith, h.1))
length_le_sum (x ∷ ss) s (zero, lt, is) = omega (arith, ap length is, sum_by-cons length x ss)
length_le_sum (x ∷ ss) s (suc k, lt, is) = omega (arith, length_le_sum ss s (k, omega (arith, lt), is), sum_by-cons length x ss)

starred_le : (role : RoleData) (s : List ℕ) → EndsWithStar role.id → Contains role.scopes s → length s ≤ starred_length role
starred_le role s ends listed =
    let test : ends_with nat_eq role.id (star ∷ []) ≡ true = (ends_is Decides-eqb role.id (star ∷ []) (ends_with nat_eq role.id (star ∷ [])) refl).1 ends.0 ends.1 in
    rw test (length_le_sum role.scopes s listed)

sum-set : (fs : List ℕ) (k : ℕ) → k < length fs → sum (set fs k 0) + get_or fs k 0 ≡ sum fs
sum-set fs k lt = omega (arith, sum_by-set (λ (n : ℕ). n) fs k 0 0 lt)

-- the sum of the numbers at these places
sum_at : List ℕ → List ℕ → ℕ
sum_at fs [] = 0
sum_at fs (k ∷ ks) = get_or fs k 0 + sum_at fs ks

sum_at-set : (fs ks : List ℕ) (i : ℕ) → (Contains ks i → ⊥) → sum_at (set fs i 0) ks ≡ sum_at fs ks
unfolding sum_at
sum_at-set fs [] i other = refl
sum_at-set fs (k ∷ ks) i other =
    let apart : k ≢ i = λ e. other (0, omega arith, e) in
    omega (arith, get_or-set_other fs i k 0 0 apart, sum_at-set fs ks i (λ h. other (suc h.0, omega (arith, h.1), h.2)))

sum_at_le : (fs ks : List ℕ) → IsEachOnce ks → ((k : ℕ) → Contains ks k → k < length fs) → sum_at fs ks ≤ sum fs
unfolding sum_at
sum_at_le fs [] once within = omega arith
sum_at_le fs (k ∷ ks) once within =
    let lt : k < length fs = within k (0, omega arith, refl) in
    let apart : Contains ks k → ⊥ = λ h. once 0 (suc h.0) k (omega arith) (omega (arith, h.1)) (sym h.2) in
    let rest = sum_at_le (set fs k 0) ks (λ i j d less in_range. once (suc i) (suc j) d (omega arith) (omega arith)) (λ i h. omega (arith, within i (suc h.0, omega (arith, h.1), h.2), length-set fs k 0)) in
    omega (arith, rest, sum_at-set fs ks k apart, sum-set fs k lt)

-- ---- walks

walk_more : (roles : List RoleData) (a : ℕ) (walk : List ℕ) (b c : ℕ) → IsWalk roles a walk b → EdgeAt roles b c → IsWalk roles a (walk ++ b ∷ []) c
walk_more roles a [] b c w e = (w, e)
walk_more roles a (d ∷ walk) b c w e = (w.0, walk_more roles d walk b c w.1 e)

once_cons : (k : ℕ) (ks : List ℕ) → (Contains ks k → ⊥) → IsEachOnce ks → IsEachOnce (k ∷ ks)
once_cons k ks apart once zero zero d lt in_range = absurd (omega arith)
once_cons k ks apart once zero (suc j) d lt in_range = λ e. apart (j, omega arith, Rattle.std.proofs.lemmas.List.get_or_default ks j k d (omega arith) ∙ sym e)
once_cons k ks apart once (suc i) zero d lt in_range = absurd (omega arith)
once_cons k ks apart once (suc i) (suc j) d lt in_range = once i j d (omega arith) (omega arith)

module _ (roles : List RoleData) (start : List (List ℕ)) (acyclic : (cycle : List ℕ) → ¬ IsCycle roles cycle) where
  longest : ℕ
  longest = max (longest_of start) (longest_listed roles)

  weights : List ℕ
  weights = map starred_length roles

  -- a scope that roles with parameters gave, one after another along edges: no role twice
  record IsChained (s : List ℕ) : Type 0 where
    head : ℕ
    places : List ℕ
    role : RoleData
    at : slice_get roles head ≡ Some role
    starred : EndsWithStar role.id
    once : IsEachOnce places
    within : (k : ℕ) → Contains places k → k < length roles
    reach : (k : ℕ) → Contains places k → (k ≡ head) ⊎ ((walk : List ℕ) × IsWalk roles k walk head)
    scope : List ℕ
    listed : Contains role.scopes scope
    before : List ℕ
    after : List ℕ
    cut : SplitsAtHole scope before after
    rest : List ℕ
    is : s ≡ before ++ rest
    short : length s ≤ longest + 1 + sum_at weights places

  weight_at : (j : ℕ) (role : RoleData) → slice_get roles j ≡ Some role → get_or weights j 0 ≡ starred_length role
  unfolding weights
  weight_at j role at =
      let lt : j < length roles = slice_get_within roles j role at in
      get_or-map starred_length roles j role 0 lt ∙ ap starred_length (get_or_from_slice_get roles j role role at)

  -- what a role with a parameter gives, where the parameter is at most so long
  module _ (j : ℕ) (role : RoleData) (at : slice_get roles j ≡ Some role) (starred : EndsWithStar role.id) (scope : List ℕ) (listed : Contains role.scopes scope)
      (before after rest s : List ℕ) (cut : SplitsAtHole scope before after) (is : s ≡ before ++ rest) where
    first_link : (room : ℕ) → room ≤ longest + 1 → length s ≤ starred_length role + room → IsChained s
    unfolding sum_at
    first_link room fits short = record {
      head = j;
      places = j ∷ [];
      role = role;
      at = at;
      starred = starred;
      once = λ a b d lt in_range. absurd (omega arith);
      within = λ k h. subst (λ (i : ℕ). i < length roles) (Rattle.role_expand.proofs.GrowthLemmas.Contains-one j k h) (slice_get_within roles j role at);
      reach = λ k h. inl (sym (Rattle.role_expand.proofs.GrowthLemmas.Contains-one j k h));
      scope = scope;
      listed = listed;
      before = before;
      after = after;
      cut = cut;
      rest = rest;
      is = is;
      short = omega (arith, short, fits, weight_at j role at);
    }

    next_link : (held : List ℕ) → IsChained held → (front parameter : List ℕ) → role.id ≡ front ++ star ∷ [] → held ≡ assume ++ (front ++ parameter) → length s ≤ starred_length role + length held → IsChained s
    unfolding sum_at
    next_link held c front parameter id_is held_is short =
        let alike : StartAlike c.before (assume ++ front) = fronts_alike c.before (assume ++ front) c.rest parameter (sym c.is ∙ held_is ∙ sym (append_assoc assume front parameter)) in
        let edge : EdgeAt roles c.head j = (c.role, role, c.at, at, record { starred = c.starred; front = front; to_is = id_is; scope = c.scope; listed = c.listed; reaches = (c.before, c.after, c.cut, alike) }) in
        let apart : Contains c.places j → ⊥ = λ h. (elim (c.reach j h) [
          | inl same ↦ acyclic (j ∷ []) (subst (λ (i : ℕ). EdgeAt roles i j) (sym same) edge)
          | inr w ↦ acyclic (j ∷ (w.0 ++ c.head ∷ [])) (walk_more roles j w.0 c.head j w.1 edge)
        ]) in
        record {
          head = j;
          places = j ∷ c.places;
          role = role;
          at = at;
          starred = starred;
          once = once_cons j c.places apart c.once;
          within = λ k h. (elim (split j k c.places h) [ inl e ↦ subst (λ (i : ℕ). i < length roles) e (slice_get_within roles j role at) | inr there ↦ c.within k there ]);
          reach = λ k h. (elim (split j k c.places h) [
            | inl e ↦ inl (sym e)
            | inr there ↦ (elim (c.reach k there) [
              | inl same ↦ inr ([], subst (λ (i : ℕ). EdgeAt roles i j) (sym same) edge)
              | inr w ↦ inr (w.0 ++ c.head ∷ [], walk_more roles k w.0 c.head j w.1 edge)
            ])
          ]);
          scope = scope;
          listed = listed;
          before = before;
          after = after;
          cut = cut;
          rest = rest;
          is = is;
          short = omega (arith, short, c.short, weight_at j role at);
        }
      where
        split : (x y : ℕ) (xs : List ℕ) → Contains (x ∷ xs) y → (x ≡ y) ⊎ Contains xs y
        split x y xs (zero, lt, e) = inl e
        split x y xs (suc k, lt, e) = inr (k, omega (arith, lt), e)

  IsBounded : List ℕ → Type 0
  IsBounded s = (length s ≤ longest) ⊎ IsChained s

  -- the rest of what a filled scope has after its front, and how long it is
  rest_of : (parameter scope s before after : List ℕ) → SplitsAtHole scope before after
      → (EndsWithStar parameter × (s ≡ before ++ parameter)) ⊎ ((¬ EndsWithStar parameter) × (s ≡ before ++ (parameter ++ after)))
      → (rest : List ℕ) × (s ≡ before ++ rest) × (length s ≤ length scope + length parameter)
  rest_of parameter scope s before after cut (inl k) = (parameter, k.1, omega (arith, ap length k.1, ap length cut, length-append before parameter, length-append before (hole ++ after)))
  rest_of parameter scope s before after cut (inr k) = (
    parameter ++ after,
    k.1,
    omega (arith, ap length k.1, ap length cut, length-append before (parameter ++ after), length-append parameter after, length-append before (hole ++ after), length-append hole after),
  )

  bounded_by : (held s : List ℕ) (j : ℕ) (role : RoleData) → IsBounded held → slice_get roles j ≡ Some role → Contains roles role → GivesFilled role held s → IsBounded s
  unfolding IsBounded longest
  bounded_by held s j role b at member g =
      elim g.filled [
        | inr whole ↦ inl (omega (arith, ap length whole.1, listed_le roles role g.scope member g.listed))
        | inl cut ↦
            let starred : EndsWithStar role.id = (g.front, g.id_is) in
            let r = rest_of g.parameter g.scope s cut.0 cut.1 cut.2 cut.3 in
            let weight = starred_le role g.scope starred g.listed in
            (elim g.granted [
              | inr k ↦ inr (first_link j role at starred g.scope g.listed cut.0 cut.1 r.0 s cut.2 r.1 1 (omega arith) (omega (arith, r.2, weight, ap length k.1)))
              | inl e ↦
                  let within : length g.parameter ≤ length held = omega (arith, ap length e, length-append assume (g.front ++ g.parameter), length-append g.front g.parameter) in
                  (elim b [
                    | inl base ↦ inr (first_link j role at starred g.scope g.listed cut.0 cut.1 r.0 s cut.2 r.1 (length held) (omega (arith, base)) (omega (arith, r.2, weight, within)))
                    | inr chain ↦ inr (next_link j role at starred g.scope g.listed cut.0 cut.1 r.0 s cut.2 r.1 held chain g.front g.parameter g.id_is e (omega (arith, r.2, weight, within)))
                  ])
            ])
      ]

  bounded_given : (held s : List ℕ) → IsBounded held → GivenBy roles held s → IsBounded s
  unfolding IsBounded longest
  bounded_given held s b (role, member, inl g) = inl (omega (arith, listed_le roles role s member g.listed))
  bounded_given held s b (role, member, inr g) =
      bounded_by held s member.0 role b (slice_get_read roles (length roles) member.0 role refl member.1 (sym member.2)) member g

  pub Derivable-short : (s : List ℕ) → Derivable roles start s → length s ≤ length_bound roles start
  unfolding IsBounded longest weights
  Derivable-short s d =
      elim (Derivable-within roles start IsBounded (λ t h. inl (omega (arith, length_le_longest start t h))) bounded_given s d) [
        | inl base ↦ omega (arith, base)
        | inr c ↦ omega (arith, c.short, sum_at_le (map starred_length roles) c.places c.once (λ k h. omega (arith, c.within k h, length-map roles starred_length)), sum-map starred_length roles)
      ]
