-- How a list of found scopes comes to be all that is derivable.
use Rattle.std.proofs.Common.{◌≡◌, ℕ, zero, suc, ◌+◌, ◌<◌, ◌≤◌, ◌⊎◌, inl, inr, List, [], ◌∷◌, ◌++◌, length, take, map, get_or, refl, sym, ap, ◌∙◌, subst, Contains, arith, length-append}
use Rattle.std.proofs.lemmas.List.{get_or_append_left, get_or_default, map_more, take_more, get_or-map, length-map}
use Rattle.std.proofs.lemmas.List.Elements.{Contains-append_left, Contains-append_cases, All-head, All-tail}
use Rattle.std.proofs.lemmas.Bool.{cases_lt}
use Rattle.role_expand.specs.Roles.{RoleData, Gives}
use Rattle.role_expand.specs.Closures.{GivenBy, IsDerivation, Derivable, IsEachOnce, IsAllDerivable, FailsToExpand}
use Rattle.role_expand.specs.Growth.{Gains, FailsToGain}
use Rattle.role_expand.specs.declared.expansion.ExpandFault.{ExpandFault}
use Rattle.role_expand.specs.declared.expansion.ExpandFault.TheVariants.{TooMany, NoMemory}
use Rattle.role_expand.proofs.GrowthLemmas.{gains_more, fails_after, Contains-take, Contains-take_more, Contains-take_step, Contains-take_last, Contains-at}

abbrev Scopes : Type 0
Scopes = List (List ℕ)

module _ (roles : List RoleData) (start : Scopes) where
  pub Derivable-start : (s : List ℕ) → Contains start s → Derivable roles start s
  Derivable-start s h = ([], (inl h, tt))

  pub Derivable-given : (held s : List ℕ) → Derivable roles start held → GivenBy roles held s → Derivable roles start s
  Derivable-given held s d given = (held ∷ d.0, (inr (held, (0, omega arith, refl), given), d.1))

  -- what is closed under giving, and has the start list, has each scope of a derivation
  pub derivation_within : (P : List ℕ → Type 0) → ((s : List ℕ) → Contains start s → P s) → ((held s : List ℕ) → P held → GivenBy roles held s → P s)
      → (derivation : Scopes) → IsDerivation roles start derivation → (s : List ℕ) → Contains derivation s → P s
  derivation_within P begins step [] d s at = absurd (omega (arith, at.1))
  derivation_within P begins step (x ∷ earlier) d s (suc k, lt, is) = derivation_within P begins step earlier d.1 s (k, omega (arith, lt), is)
  derivation_within P begins step (x ∷ earlier) d s (zero, lt, is) = subst P is (by_cause d.0 (derivation_within P begins step earlier d.1))
    where
      by_cause : Contains start x ⊎ ((held : List ℕ) × Contains earlier held × GivenBy roles held x) → ((t : List ℕ) → Contains earlier t → P t) → P x
      by_cause (inl h) before = begins x h
      by_cause (inr h) before = step h.0 x (before h.0 h.1) h.2

  pub Derivable-within : (P : List ℕ → Type 0) → ((s : List ℕ) → Contains start s → P s) → ((held s : List ℕ) → P held → GivenBy roles held s → P s)
      → (s : List ℕ) → Derivable roles start s → P s
  Derivable-within P begins step s d = derivation_within P begins step (s ∷ d.0) d.1 s (0, omega arith, refl)

  -- the scopes found so far, of which the first n have been followed
  pub record IsPartly (most : ℕ) (found : Scopes) (n : ℕ) : Type 0 where
    pub once : IsEachOnce found
    pub derived : (s : List ℕ) → Contains found s → Derivable roles start s
    pub begins : (s : List ℕ) → Contains start s → Contains found s
    pub closed : (k : ℕ) (d s : List ℕ) → k < n → GivenBy roles (get_or found k d) s → Contains found s
    pub few : length found ≤ most
    pub within : n ≤ length found

  pub partly_begin : (most : ℕ) (found : Scopes) → Gains most (Contains start) [] found → IsPartly most found 0
  partly_begin most found g = record {
    once = g.once (λ i j d lt in_range. absurd (omega arith));
    derived = λ s h. Derivable-start s (g.only s (subst (λ (t : Scopes). Contains t s) g.is h));
    begins = g.all;
    closed = λ k d s lt given. absurd (omega arith);
    few = g.few (omega arith);
    within = omega arith;
  }

  pub partly_more : (most : ℕ) (old new : Scopes) (n : ℕ) (held : List ℕ) → IsPartly most old n → n < length old → held ≡ get_or old n held → Gains most (GivenBy roles held) old new → IsPartly most new (n + 1)
  partly_more most old new n held p lt is g = record {
    once = g.once p.once;
    derived = λ s h. (elim (Contains-append_cases old g.since s (subst (λ (t : Scopes). Contains t s) g.is h)) [
      | inl there ↦ p.derived s there
      | inr new' ↦ Derivable-given held s (p.derived held (Contains-at n old held lt is)) (g.only s new')
    ]);
    begins = λ s h. subst (λ (t : Scopes). Contains t s) (sym g.is) (Contains-append_left old g.since s (p.begins s h));
    closed = λ k d s below given. (elim (cases_lt k n) [
      | inl low ↦
          let same : get_or new k d ≡ get_or old k d = ap (λ (t : Scopes). get_or t k d) g.is ∙ get_or_append_left old g.since d k (omega arith) in
          subst (λ (t : Scopes). Contains t s) (sym g.is) (Contains-append_left old g.since s (p.closed k d s low (subst (λ (t : List ℕ). GivenBy roles t s) same given)))
      | inr high ↦
          let at : k ≡ n = omega arith in
          let same : get_or new k d ≡ held =
          ap (λ (t : Scopes). get_or t k d) g.is ∙ get_or_append_left old g.since d k (omega arith) ∙ ap (λ (i : ℕ). get_or old i d) at ∙ get_or_default old n d held lt ∙ sym is in
          g.all s (subst (λ (t : List ℕ). GivenBy roles t s) same given)
    ]);
    few = g.few p.few;
    within = omega (arith, ap length g.is, length-append old g.since);
  }

  pub partly_end : (most : ℕ) (found : Scopes) (n : ℕ) → IsPartly most found n → length found ≤ n → IsAllDerivable most roles start found
  partly_end most found n p high = record {
    once = p.once;
    derived = p.derived;
    whole = Derivable-within (Contains found) p.begins (λ held s h given. p.closed h.0 held s (omega (arith, h.1)) (subst (λ (t : List ℕ). GivenBy roles t s) (sym h.2) given));
    few = p.few;
  }

  pub fails_at_start : (most : ℕ) (fault : ExpandFault) → FailsToGain most (Contains start) [] fault → FailsToExpand most roles start fault
  fails_at_start most TooMany h = record {
    some = h.some;
    once = h.once (λ i j d lt in_range. absurd (omega arith));
    derived = λ s k. (elim (h.only s k) [ inl none ↦ absurd (omega (arith, none.1)) | inr there ↦ Derivable-start s there ]);
    many = h.many;
  }
  fails_at_start most NoMemory h = tt

  pub fails_at_scope : (most : ℕ) (old : Scopes) (n : ℕ) (held : List ℕ) (fault : ExpandFault) → IsPartly most old n → n < length old → held ≡ get_or old n held → FailsToGain most (GivenBy roles held) old fault
      → FailsToExpand most roles start fault
  fails_at_scope most old n held TooMany p lt is h = record {
    some = h.some;
    once = h.once p.once;
    derived = λ s k. (elim (h.only s k) [
      | inl there ↦ p.derived s there
      | inr given ↦ Derivable-given held s (p.derived held (Contains-at n old held lt is)) given
    ]);
    many = h.many;
  }
  fails_at_scope most old n held NoMemory p lt is h = tt

-- one more role of the list
module _ {K : Type 0} (data_of : K → RoleData) (most : ℕ) (xs : List K) (i : ℕ) (x : K) (held : List ℕ) (lt : i < length xs) (is : x ≡ get_or xs i x) where
  roles_at : List K → List RoleData
  roles_at ys = map data_of ys

  Contains-mapped : (role : RoleData) → Contains (map data_of (take (i + 1) xs)) role → Contains (map data_of (take i xs)) role ⊎ (data_of x ≡ role)
  Contains-mapped role h =
      let split : map data_of (take (i + 1) xs) ≡ map data_of (take i xs) ++ data_of x ∷ [] = map_more data_of xs i x lt ∙ ap (λ (y : K). map data_of (take i xs) ++ data_of y ∷ []) (sym is) in
      elim (Contains-append_cases (map data_of (take i xs)) (data_of x ∷ []) role (subst (λ (t : List RoleData). Contains t role) split h)) [
        | inl a ↦ inl a
        | inr b ↦ inr (Rattle.role_expand.proofs.GrowthLemmas.Contains-one (data_of x) role b)
      ]

  mapped_step : (role : RoleData) → Contains (map data_of (take i xs)) role → Contains (map data_of (take (i + 1) xs)) role
  mapped_step role h = subst (λ (t : List RoleData). Contains t role) (sym (map_more data_of xs i x lt)) (Contains-append_left (map data_of (take i xs)) _ role h)

  mapped_last : Contains (map data_of (take (i + 1) xs)) (data_of x)
  mapped_last =
      let split : map data_of (take (i + 1) xs) ≡ map data_of (take i xs) ++ data_of x ∷ [] = map_more data_of xs i x lt ∙ ap (λ (y : K). map data_of (take i xs) ++ data_of y ∷ []) (sym is) in
      subst (λ (t : List RoleData). Contains t (data_of x)) (sym split) (Rattle.std.proofs.lemmas.List.Elements.Contains-push (map data_of (take i xs)) (data_of x))

  pub mapped_at : Contains (map data_of xs) (data_of x)
  mapped_at = (i, omega (arith, length-map xs data_of), get_or-map data_of xs i x (data_of x) lt ∙ ap data_of (sym is))

  mapped_take : (role : RoleData) → Contains (map data_of (take i xs)) role → Contains (map data_of xs) role
  mapped_take role h = Contains-take i (map data_of xs) role (subst (λ (t : List RoleData). Contains t role) (sym (Rattle.std.proofs.lemmas.List.take-map data_of i xs)) h)

  pub gains_role : (old mid new : Scopes) → Gains most (GivenBy (map data_of (take i xs)) held) old mid → Gains most (Gives (data_of x) held) mid new → Gains most (GivenBy (map data_of (take (i + 1) xs)) held) old new
  gains_role old mid new g h = gains_more most (GivenBy (map data_of (take i xs)) held) (Gives (data_of x) held) (GivenBy (map data_of (take (i + 1) xs)) held) old mid new g h
      (λ s k. (k.0, mapped_step k.0 k.1, k.2))
      (λ s k. (data_of x, mapped_last, k))
      (λ s k. (elim (Contains-mapped k.0 k.1) [ inl a ↦ inl (k.0, a, k.2) | inr e ↦ inr (subst (λ (r : RoleData). Gives r held s) (sym e) k.2) ]))

  pub fails_role : (old mid : Scopes) (fault : ExpandFault) → Gains most (GivenBy (map data_of (take i xs)) held) old mid → FailsToGain most (Gives (data_of x) held) mid fault → FailsToGain most (GivenBy (map data_of xs) held) old fault
  fails_role old mid fault g h = fails_after most (GivenBy (map data_of (take i xs)) held) (Gives (data_of x) held) (GivenBy (map data_of xs) held) old mid fault g h
      (λ s k. (k.0, mapped_take k.0 k.1, k.2)) (λ s k. (data_of x, mapped_at, k))
