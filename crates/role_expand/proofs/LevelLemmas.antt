-- The search by levels: the numbers that it gives are the least numbers of edges.
use Rattle.std.proofs.Common.{◌≡◌, ◌≢◌, ℕ, zero, suc, ◌+◌, ◌<◌, ◌≤◌, ◌⊎◌, inl, inr, false, List, [], ◌∷◌, ◌++◌, length, set, get_or, replicate, refl, sym, ap, ◌∙◌, subst, Contains, arith, length-append, length-set, get_or-set_same, get_or-set_other, nat_cmp}
use Rattle.std.proofs.lemmas.Bool.{cases_lt, cases_eq, cases_order, eq-eqb, lt-ltb, le-ltb}
use Rattle.std.proofs.lemmas.Option.{slice_get_within}
use Rattle.std.proofs.lemmas.List.{get_or_past}
use Rattle.std.proofs.lemmas.List.Elements.{Contains-append_left, Contains-append_cases, Contains-push}
use Rattle.std.specs.Cmp.Lexicographic.{slice_cmp}
use Rattle.std.specs.Ordering.{is_gt}
use Rattle.role_expand.specs.Roles.{RoleData}
use Rattle.role_expand.specs.Cycles.{EdgeAt, IsWalk, IsCycle}
use Rattle.role_expand.specs.Levels.{zeros, LeadsInto, IsNextLevel, AreSteps, IsLeastWalk}
use Rattle.role_expand.proofs.GrowthLemmas.{Contains-one}

pub EdgeAt-within : (roles : List RoleData) (i j : ℕ) → EdgeAt roles i j → (i < length roles) × (j < length roles)
EdgeAt-within roles i j e = (slice_get_within roles i e.0 e.2, slice_get_within roles j e.1 e.3)

pub IsWalk-within : (roles : List RoleData) (a : ℕ) (walk : List ℕ) (b : ℕ) → IsWalk roles a walk b → a < length roles
IsWalk-within roles a [] b w = (EdgeAt-within roles a b w).0
IsWalk-within roles a (c ∷ walk) b w = (EdgeAt-within roles a c w.0).0

pub zeros-set : (xs : List ℕ) (i v : ℕ) → i < length xs → get_or xs i 0 ≡ 0 → 0 < v → zeros (set xs i v) + 1 ≡ zeros xs
zeros-set [] i v lt is pos = absurd (omega arith)
zeros-set (zero ∷ xs) zero zero lt is pos = absurd (omega arith)
zeros-set (zero ∷ xs) zero (suc v) lt is pos = refl
zeros-set (suc n ∷ xs) zero v lt is pos = absurd (omega arith)
zeros-set (zero ∷ xs) (suc i) v lt is pos = ap (λ n. n + 1) (zeros-set xs i v (omega arith) is pos)
zeros-set (suc n ∷ xs) (suc i) v lt is pos = zeros-set xs i v (omega arith) is pos

module _ (roles : List RoleData) (level : List ℕ) (count : ℕ) (pos : 0 < count) where
  pub next_begin : (old : List ℕ) → IsNextLevel roles level count 0 old old []
  next_begin old = record {
    len = refl;
    kept = λ k h. refl;
    later = λ k h. refl;
    met = λ k lt h l. absurd (omega arith);
    found = λ k h some. absurd (some h);
    next_is = λ k h. absurd (omega (arith, h.1));
    next_all = λ k lt h e. absurd (omega arith);
    left = omega arith;
  }

  -- the place has a number already, or leads nowhere
  pub next_pass : (old now next : List ℕ) (n : ℕ) → n < length old → IsNextLevel roles level count n old now next → (get_or now n 0 ≡ 0 → ¬ LeadsInto roles level n) → IsNextLevel roles level count (n + 1) old now next
  next_pass old now next n lt p idle = record {
    len = p.len;
    kept = p.kept;
    later = λ k h. p.later k (omega arith);
    met = λ k low h l. (elim (cases_lt k n) [
      | inl before ↦ p.met k before h l
      | inr high ↦ let at : k ≡ n = omega arith in
          absurd (idle (p.later n (omega arith) ∙ ap (λ (i : ℕ). get_or old i 0) (sym at) ∙ h) (subst (λ (i : ℕ). LeadsInto roles level i) at l))
    ]);
    found = p.found;
    next_is = λ k h. let r = p.next_is k h in (omega arith, r.1, r.2);
    next_all = λ k low h e. (elim (cases_lt k n) [
      | inl before ↦ p.next_all k before h e
      | inr high ↦ absurd (omega (arith, p.later k high))
    ]);
    left = p.left;
  }

  -- the place gets its number
  pub next_take : (old now next : List ℕ) (n : ℕ) → n < length old → IsNextLevel roles level count n old now next → get_or now n 0 ≡ 0 → LeadsInto roles level n
      → IsNextLevel roles level count (n + 1) old (set now n count) (next ++ n ∷ [])
  next_take old now next n lt p none leads =
      let within : n < length now = omega (arith, p.len) in
      let old_none : get_or old n 0 ≡ 0 = sym (p.later n (omega arith)) ∙ none in
      record {
        len = length-set now n count ∙ p.len;
        kept = λ k h. (elim (cases_eq k n) [
          | inl at ↦ absurd (h (ap (λ (i : ℕ). get_or old i 0) at ∙ old_none))
          | inr other ↦ get_or-set_other now n k count 0 other ∙ p.kept k h
        ]);
        later = λ k h. get_or-set_other now n k count 0 (λ e. omega arith) ∙ p.later k (omega arith);
        met = λ k low h l. (elim (cases_eq k n) [
          | inl at ↦ ap (λ (i : ℕ). get_or (set now n count) i 0) at ∙ get_or-set_same now n count 0 within
          | inr other ↦ get_or-set_other now n k count 0 other ∙ p.met k (omega arith) h l
        ]);
        found = λ k h some. (elim (cases_eq k n) [
          | inl at ↦ (
            subst (λ (i : ℕ). LeadsInto roles level i) (sym at) leads,
            ap (λ (i : ℕ). get_or (set now n count) i 0) at ∙ get_or-set_same now n count 0 within,
          )
          | inr other ↦
              let same : get_or (set now n count) k 0 ≡ get_or now k 0 = get_or-set_other now n k count 0 other in
              let r = p.found k h (λ e. some (same ∙ e)) in
              (r.0, same ∙ r.1)
        ]);
        next_is = λ k h. (elim (Contains-append_cases next (n ∷ []) k h) [
          | inl there ↦ let r = p.next_is k there in (omega arith, r.1, get_or-set_other now n k count 0 (λ e. omega arith) ∙ r.2)
          | inr last ↦ let at : k ≡ n = sym (Contains-one n k last) in
              (omega arith, ap (λ (i : ℕ). get_or old i 0) at ∙ old_none, ap (λ (i : ℕ). get_or (set now n count) i 0) at ∙ get_or-set_same now n count 0 within)
        ]);
        next_all = λ k low h e. (elim (cases_eq k n) [
          | inl at ↦ subst (λ (i : ℕ). Contains (next ++ n ∷ []) i) (sym at) (Contains-push next n)
          | inr other ↦ Contains-append_left next (n ∷ []) k (p.next_all k (omega arith) h (sym (get_or-set_other now n k count 0 other) ∙ e))
        ]);
        left = omega (arith, zeros-set now n count within none pos, length-append next (n ∷ []), p.left);
      }

module _ (roles : List RoleData) (target : ℕ) where
  -- the places of the level at a count: the target itself, or those whose least number of edges is one less
  pub IsAtLevel : ℕ → List ℕ → ℕ → Type 0
  IsAtLevel count steps k = ((count ≡ 1) × (k ≡ target)) ⊎ ((1 < count) × (suc (get_or steps k 0) ≡ count))

  -- the numbers so far, which are those of all walks of fewer edges than the count
  pub record AreStepsBelow (count : ℕ) (steps level : List ℕ) : Type 0 where
    pub pos : 0 < count
    pub len : length steps ≡ length roles
    pub small : (k : ℕ) → get_or steps k 0 < count
    pub some : (k : ℕ) → get_or steps k 0 ≢ 0 → (walk : List ℕ) × IsWalk roles k walk target × (suc (length walk) ≡ get_or steps k 0)
    pub near : (k : ℕ) (walk : List ℕ) → IsWalk roles k walk target → suc (length walk) < count → (get_or steps k 0 ≢ 0) × (get_or steps k 0 ≤ suc (length walk))
    pub level_is : (k : ℕ) → Contains level k → IsAtLevel count steps k
    pub level_all : (k : ℕ) → IsAtLevel count steps k → Contains level k

  pub below_begin : (steps : List ℕ) → length steps ≡ length roles → ((k : ℕ) → get_or steps k 0 ≡ 0) → AreStepsBelow 1 steps (target ∷ [])
  unfolding IsAtLevel
  below_begin steps len none = record {
    pos = omega arith;
    len = len;
    small = λ k. omega (arith, none k);
    some = λ k h. absurd (h (none k));
    near = λ k walk w lt. absurd (omega arith);
    level_is = λ k h. inl (refl, sym (Contains-one target k h));
    level_all = λ k h. (elim h [
      | inl a ↦ subst (λ (i : ℕ). Contains (target ∷ []) i) (sym a.1) (0, omega arith, refl)
      | inr b ↦ absurd (omega (arith, b.0))
    ]);
  }

  module _ (count : ℕ) (old new level next : List ℕ) (b : AreStepsBelow count old level) (p : IsNextLevel roles level count (length roles) old new next) where
    -- a walk of as many edges as the count begins with an edge into the level, or its place has a number
    leads_from_walk : (k : ℕ) (walk : List ℕ) → IsWalk roles k walk target → suc (length walk) ≡ count → get_or old k 0 ≡ 0 → LeadsInto roles level k
    unfolding IsAtLevel
    leads_from_walk k [] w is none = (target, b.level_all target (inl (sym is, refl)), w)
    leads_from_walk k (to ∷ walk) w is none =
        let tail = b.near to walk w.1 (omega arith) in
        elim (cases_eq (suc (get_or old to 0)) count) [
          | inl at ↦ (to, b.level_all to (inr (omega arith, at)), w.0)
          | inr other ↦
              let short = b.some to tail.0 in
              let lower : suc (suc (length short.0)) < count = omega (arith, short.2, tail.1, other) in
              let early = b.near k (to ∷ short.0) (w.0, short.1) lower in
              absurd (early.0 none)
        ]

    -- a place that leads into the level is the start of a walk of as many edges as the count
    walk_from_leads : (k : ℕ) → LeadsInto roles level k → (walk : List ℕ) × IsWalk roles k walk target × (suc (length walk) ≡ count)
    unfolding IsAtLevel
    walk_from_leads k l =
        elim (b.level_is l.0 l.1) [
          | inl a ↦ ([], subst (λ (i : ℕ). EdgeAt roles k i) a.1 l.2, sym a.0)
          | inr c ↦
              let tail = b.some l.0 (λ e. omega (arith, c.0, c.1)) in
              (l.0 ∷ tail.0, (l.2, tail.1), omega (arith, tail.2, c.1))
        ]

    pub below_next : AreStepsBelow (count + 1) new next
    unfolding IsAtLevel
    below_next = record {
      pos = omega arith;
      len = p.len ∙ b.len;
      small = λ k. (elim (cases_eq (get_or old k 0) 0) [
        | inl none ↦ (elim (cases_eq (get_or new k 0) 0) [
          | inl still ↦ omega arith
          | inr some ↦ omega (arith, (p.found k none some).1)
        ])
        | inr had ↦ omega (arith, p.kept k had, b.small k)
      ]);
      some = λ k h. (elim (cases_eq (get_or old k 0) 0) [
        | inl none ↦
            let r = p.found k none h in
            let w = walk_from_leads k r.0 in
            (w.0, w.1, w.2 ∙ sym r.1)
        | inr had ↦ let w = b.some k had in (w.0, w.1, w.2 ∙ sym (p.kept k had))
      ]);
      near = λ k walk w lt. (elim (cases_eq (get_or old k 0) 0) [
        | inl none ↦ (elim (cases_eq (suc (length walk)) count) [
          | inl at ↦
              let number : get_or new k 0 ≡ count = p.met k (IsWalk-within roles k walk target w) none (leads_from_walk k walk w at none) in
              (λ e. omega (arith, b.pos), omega (arith, number, at))
          | inr less ↦ absurd ((b.near k walk w (omega arith)).0 none)
        ])
        | inr had ↦ (
          λ e. had (sym (p.kept k had) ∙ e),
          (elim (cases_eq (suc (length walk)) count) [
            | inl at ↦ omega (arith, p.kept k had, b.small k)
            | inr less ↦ omega (arith, p.kept k had, (b.near k walk w (omega arith)).1)
          ]),
        )
      ]);
      level_is = λ k h. let r = p.next_is k h in inr (omega (arith, b.pos), omega (arith, r.2));
      level_all = λ k h. (elim h [
        | inl a ↦ absurd (omega (arith, b.pos, a.0))
        | inr c ↦
            let number : get_or new k 0 ≡ count = omega (arith, c.1) in
            (elim (cases_eq (get_or old k 0) 0) [
              | inl none ↦ (elim (cases_lt k (length roles)) [
                | inl low ↦ p.next_all k low none number
                | inr high ↦ absurd (omega (arith, p.later k high, b.pos))
              ])
              | inr had ↦ absurd (omega (arith, p.kept k had, b.small k))
            ])
      ]);
    }

  -- where no place is at the level, the numbers are those of all walks
  pub steps_end : (count : ℕ) (steps : List ℕ) → AreStepsBelow count steps [] → AreSteps roles target steps
  unfolding IsAtLevel
  steps_end count steps b =
      let past : 1 < count = (elim (cases_eq count 1) [ inl one ↦ absurd (omega (arith, (b.level_all target (inl (one, refl))).1)) | inr other ↦ omega (arith, b.pos) ]) in
      record { len = b.len; some = b.some; least = far past }
    where
      far : 1 < count → (k : ℕ) (walk : List ℕ) → IsWalk roles k walk target → (get_or steps k 0 ≢ 0) × (get_or steps k 0 ≤ suc (length walk))
      far past k [] w = b.near k [] w past
      far past k (to ∷ walk) w =
          let tail = far past to walk w.1 in
          let apart : suc (get_or steps to 0) ≢ count = λ e. omega (arith, (b.level_all to (inr (past, e))).1) in
          let short = b.some to tail.0 in
          let early = b.near k (to ∷ short.0) (w.0, short.1) (omega (arith, short.2, b.small to, apart)) in
          (early.0, omega (arith, early.1, short.2, tail.1))

  pub level_within : (count : ℕ) (steps level : List ℕ) → AreStepsBelow count steps level → target < length roles → (k : ℕ) → Contains level k → k < length roles
  unfolding IsAtLevel
  level_within count steps level b target_in k h =
      elim (b.level_is k h) [
        | inl a ↦ subst (λ (i : ℕ). i < length roles) (sym a.1) target_in
        | inr c ↦ (elim (cases_lt k (length roles)) [
          | inl low ↦ low
          | inr high ↦ absurd (omega (arith, get_or_past steps k 0 (omega (arith, b.len)), c.0, c.1))
        ])
      ]

pub zeros-replicate : (n : ℕ) → let xs : List ℕ = replicate n 0 in zeros xs ≡ n
zeros-replicate zero = refl
zeros-replicate (suc n) = omega (arith, zeros-replicate n)

pub replicate_zero : (n k : ℕ) → let xs : List ℕ = replicate n 0 in get_or xs k 0 ≡ 0
replicate_zero zero k = refl
replicate_zero (suc n) zero = refl
replicate_zero (suc n) (suc k) = replicate_zero n k

-- an order of lists by their first numbers, and where these are the same by the rest
pub order_first : (a b : ℕ) (xs ys : List ℕ) → a ≤ b → (a ≡ b → is_gt (slice_cmp nat_cmp xs ys) ≡ false) → is_gt (slice_cmp nat_cmp (a ∷ xs) (b ∷ ys)) ≡ false
order_first a b xs ys le rest =
    elim (cases_order a b) [
      | inl same ↦ rw (le-ltb a b (omega arith), eq-eqb a b same) (rest same)
      | inr (inl less) ↦ rw (lt-ltb a b less)
      | inr (inr more) ↦ absurd (omega arith)
    ]

-- what a walk to a place with a least number says
module _ (roles : List RoleData) (target : ℕ) (steps : List ℕ) (s : AreSteps roles target steps) where
  -- a next place on a shortest walk
  pub next_there : (at left : ℕ) → get_or steps at 0 ≡ suc left → 0 < left → (to : ℕ) × (get_or steps to 0 ≡ left) × EdgeAt roles at to
  next_there at left is pos =
      let w = s.some at (λ e. omega arith) in
      by_walk at left is pos w.0 w.1 (omega (arith, w.2))
    where
      by_walk : (at left : ℕ) → get_or steps at 0 ≡ suc left → 0 < left → (walk : List ℕ) → IsWalk roles at walk target → length walk ≡ left → (to : ℕ) × (get_or steps to 0 ≡ left) × EdgeAt roles at to
      by_walk at left is pos [] w len = absurd (omega arith)
      by_walk at left is pos (to ∷ walk) w len =
          let tail = s.least to walk w.1 in
          let u = s.some to tail.0 in
          let back = s.least at (to ∷ u.0) (w.0, u.1) in
          (to, omega (arith, tail.1, u.2, back.1), w.0)

  -- the last step, back to the target
  pub least_end : (at : ℕ) → get_or steps at 0 ≡ 1 → IsLeastWalk roles target at []
  least_end at is =
      let w = s.some at (λ e. omega arith) in
      record {
        walk = by_walk at w.0 w.1 (omega (arith, w.2));
        shortest = λ others v. omega arith;
        least = λ others v len. by_length others (omega arith);
      }
    where
      by_walk : (at : ℕ) (walk : List ℕ) → IsWalk roles at walk target → length walk ≡ 0 → IsWalk roles at [] target
      by_walk at [] w len = w
      by_walk at (to ∷ walk) w len = absurd (omega arith)

      by_length : (others : List ℕ) → length others ≡ 0 → is_gt (slice_cmp nat_cmp [] others) ≡ false
      by_length [] len = refl
      by_length (to ∷ others) len = absurd (omega arith)

  -- one step more: the first place from which the least number of edges is left
  pub least_more : (at to left : ℕ) (rest : List ℕ) → get_or steps at 0 ≡ suc left → get_or steps to 0 ≡ left → EdgeAt roles at to → ((m : ℕ) → get_or steps m 0 ≡ left → EdgeAt roles at m → to ≤ m)
      → suc (length rest) ≡ left → IsLeastWalk roles target to rest → IsLeastWalk roles target at (to ∷ rest)
  least_more at to left rest is number edge first len r = record {
    walk = (edge, r.walk);
    shortest = λ others v. omega (arith, (s.least at others v).1, len, is);
    least = λ others v same. by_others others v same;
  }
    where
      by_others : (others : List ℕ) → IsWalk roles at others target → length others ≡ suc (length rest) → is_gt (slice_cmp nat_cmp (to ∷ rest) others) ≡ false
      by_others [] v same = absurd (omega arith)
      by_others (m ∷ others) v same =
          let tail = s.least m others v.1 in
          let u = s.some m tail.0 in
          let back = s.least at (m ∷ u.0) (v.0, u.1) in
          let number_m : get_or steps m 0 ≡ left = omega (arith, tail.1, u.2, back.1, is, len, same) in
          order_first to m rest others (first m number_m v.0)
          (λ e. r.least others (subst (λ (i : ℕ). IsWalk roles i others target) (sym e) v.1) (omega arith))

  pub steps_at : (at : ℕ) (rest : List ℕ) → IsLeastWalk roles target at rest → get_or steps at 0 ≡ suc (length rest)
  steps_at at rest r =
      let l = s.least at rest r.walk in
      let u = s.some at l.0 in
      omega (arith, l.1, u.2, r.shortest u.0 u.1)

pub acyclic_from : (roles : List RoleData) (n : ℕ) → length roles ≤ n → ((j : ℕ) (others : List ℕ) → j < n → ¬ IsCycle roles (j ∷ others)) → (cycle : List ℕ) → ¬ IsCycle roles cycle
acyclic_from roles n all none [] h = h
acyclic_from roles n all none (i ∷ rest) h = none i rest (omega (arith, IsWalk-within roles i rest i h)) h
