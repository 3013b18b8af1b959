-- A role's scopes in two parts: plain ones, which are given as written, and those that may depend on the parameter.
use Rattle.std.proofs.Common.{◌≡◌, ℕ, ◌+◌, ◌<◌, ◌↔◌, ◌⊎◌, inl, inr, Bool, true, false, List, [], ◌∷◌, ◌++◌, length, take, get_or, set, replicate, refl, sym, ap, ◌∙◌, subst, Contains, arith}
use Rattle.std.proofs.lemmas.Bool.{false≢true, cases_eq, cases_lt}
use Rattle.std.proofs.lemmas.List.{append_assoc, get_or-set_same, get_or-set_other, get_or_past, get_or_default, get_or-replicate, length-replicate, set_past, append_cancel_right}
use Rattle.std.proofs.lemmas.List.Elements.{All-contains, Contains-append_left, Contains-append_right, Contains-append_cases, Contains-push, Contains-push_cases}
use Rattle.std.specs.List.{All, list_any}
use Rattle.std.specs.Str.{bytes_eq}
use Rattle.std.specs.Str.Iter.{HasSubslice}
use Rattle.scope_sets.specs.Scopes.{star, Satisfies}
use Rattle.role_expand.specs.Roles.{RoleData, assume, hole, AreFree, EndsWithStar, SplitsAtHole, FillsHole, GrantsWith, GivesAsWritten, GivesFilled, Gives}
use Rattle.role_expand.specs.Known.{IsGranted, IsGivenPlain, AllFound, AreGiven}
use Rattle.role_expand.specs.declared.roles.KnownRole.{KnownRole}
use Rattle.role_expand.proofs.GivesLemmas.{same_tests, listed_any}
use Rattle.role_expand.proofs.GrowthLemmas.{Contains-take_more, Contains-take_step, Contains-take_last}

module _ (id : List ℕ) (all plain filled : List (List ℕ)) (listed : (s : List ℕ) → Contains (plain ++ filled) s ↔ Contains all s)
    (free : (s before after : List ℕ) → EndsWithStar id → Contains plain s → SplitsAtHole s before after → ⊥) (held : List ℕ) where
  abbrev whole : RoleData
  whole = record { id = id; scopes = all }

  abbrev part : RoleData
  part = record { id = id; scopes = filled }

  pub Gives-from_plain : (s : List ℕ) → IsGivenPlain id plain held s → Gives whole held s
  Gives-from_plain s (inl g, h) = inl record { plain = g.0; granted = g.1; listed = (listed s).0 (Contains-append_left plain filled s h) }
  Gives-from_plain s (inr g, h) = inr record {
    front = g.0;
    id_is = g.2;
    parameter = g.1;
    granted = g.3;
    scope = s;
    listed = (listed s).0 (Contains-append_left plain filled s h);
    filled = inr (λ before after. free s before after (g.0, g.2) h, refl);
  }

  pub Gives-from_part : (s : List ℕ) → Gives part held s → Gives whole held s
  Gives-from_part s (inl g) = inl record { plain = g.plain; granted = g.granted; listed = (listed s).0 (Contains-append_right plain filled s g.listed) }
  Gives-from_part s (inr g) = inr record {
    front = g.front;
    id_is = g.id_is;
    parameter = g.parameter;
    granted = g.granted;
    scope = g.scope;
    listed = (listed g.scope).0 (Contains-append_right plain filled g.scope g.listed);
    filled = g.filled;
  }

  as_written : (scope s : List ℕ) (parameter : List ℕ) → EndsWithStar id → Contains plain scope → FillsHole parameter scope s → s ≡ scope
  as_written scope s parameter starred h (inl k) = absurd (free scope k.0 k.1 starred h k.2)
  as_written scope s parameter starred h (inr k) = k.1

  pub parts_of_Gives : (s : List ℕ) → Gives whole held s → IsGivenPlain id plain held s ⊎ Gives part held s
  parts_of_Gives s (inl g) =
      elim (Contains-append_cases plain filled s ((listed s).1 g.listed)) [
        | inl h ↦ inl (inl (g.plain, g.granted), h)
        | inr h ↦ inr (inl record { plain = g.plain; granted = g.granted; listed = h })
      ]
  parts_of_Gives s (inr g) =
      elim (Contains-append_cases plain filled g.scope ((listed g.scope).1 g.listed)) [
        | inl h ↦
            let same : s ≡ g.scope = as_written g.scope s g.parameter (g.front, g.id_is) h g.filled in
            inl (inr (g.front, g.parameter, g.id_is, g.granted), subst (λ (t : List ℕ). Contains plain t) (sym same) h)
        | inr h ↦ inr (inr record { front = g.front; id_is = g.id_is; parameter = g.parameter; granted = g.granted; scope = g.scope; listed = h; filled = g.filled })
      ]

-- ---- whom a role is granted

module _ (id held grant : List ℕ) (granted_by : grant ≡ assume ++ id) where
  pub granted_plain : ((front : List ℕ) → id ≡ front ++ star ∷ [] → ⊥) → Satisfies held grant ↔ IsGranted id held
  granted_plain plain = (
    λ h. inl (λ k. plain k.0 k.1, subst (λ (t : List ℕ). Satisfies held t) granted_by h),
    λ h. (elim h [
      | inl k ↦ subst (λ (t : List ℕ). Satisfies held t) (sym granted_by) k.1
      | inr k ↦ absurd (plain k.0 k.2)
    ]),
  )

  module _ (front : List ℕ) (id_is : id ≡ front ++ star ∷ []) where
    grant_is : grant ≡ assume ++ (front ++ star ∷ [])
    grant_is = granted_by ∙ ap (λ (t : List ℕ). assume ++ t) id_is

    pub granted_front : (parameter : List ℕ) → held ≡ assume ++ (front ++ parameter) → IsGranted id held
    granted_front parameter e = inr (front, parameter, id_is, inl e)

    pub granted_star : ((parameter : List ℕ) → held ≡ assume ++ (front ++ parameter) → ⊥) → Satisfies held grant ↔ IsGranted id held
    granted_star none = (
      λ h. inr (front, star ∷ [], id_is, inr (subst (λ (t : List ℕ). Satisfies held t) grant_is h, refl)),
      λ h. (elim h [
        | inl k ↦ absurd (k.0 (front, id_is))
        | inr k ↦
            let same : k.0 ≡ front = append_cancel_right k.0 front (star ∷ []) (sym k.2 ∙ id_is) in
            (elim k.3 [
              | inl e ↦ absurd (none k.1 (e ∙ ap (λ (t : List ℕ). assume ++ (t ++ k.1)) same))
              | inr g ↦ subst (λ (t : List ℕ). Satisfies held t) (ap (λ (t : List ℕ). assume ++ (t ++ star ∷ [])) same ∙ sym grant_is) g.0
            ])
      ]),
    )

-- ---- marks

pub AllFound-more : (scopes old new : List (List ℕ)) (since : List (List ℕ)) → new ≡ old ++ since → AllFound scopes old → AllFound scopes new
AllFound-more scopes old new since is all s h = subst (λ (t : List (List ℕ)). Contains t s) (sym is) (Contains-append_left old since s (all s h))

module _ (roles : List KnownRole) (given : List Bool) (old new since : List (List ℕ)) (is : new ≡ old ++ since) (marked : AreGiven roles given old) (place : ℕ) (known : KnownRole) (done : Bool)
    (at : known ≡ get_or roles place known) (now : done ≡ true → AllFound known.plain new) where
  marked_now : (k : ℕ) (d : KnownRole) → k ≡ place → k < length roles → done ≡ true → AllFound (get_or roles k d).plain new
  marked_now k d same lt e =
      let here : get_or roles k d ≡ known = ap (λ (n : ℕ). get_or roles n d) same ∙ get_or_default roles place d known (omega (arith, lt, same)) ∙ sym at in
      subst (λ (r : KnownRole). AllFound r.plain new) (sym here) (now e)

  -- after the role at a place has given, and its mark is set
  pub AreGiven-set : AreGiven roles (set given place done) new
  AreGiven-set k d lt mark =
      elim (cases_eq k place) [
        | inl same ↦ (elim (cases_lt place (length given)) [
          | inl inside ↦ marked_now k d same lt (sym (get_or-set_same given place done false inside) ∙ ap (λ (n : ℕ). get_or (set given place done) n false) (sym same) ∙ mark)
          | inr past ↦ absurd (false≢true (sym (get_or_past given place false past) ∙ ap (λ (xs : List Bool). get_or xs place false) (sym (set_past given place done past)) ∙ ap (λ (n : ℕ). get_or (set given place done) n false) (sym same) ∙ mark))
        ])
        | inr other ↦ AllFound-more (get_or roles k d).plain old new since is (marked k d lt (sym (get_or-set_other given place k done false other) ∙ mark))
      ]

pub get_or_none : (n k : ℕ) → get_or (replicate n false) k false ≡ false
get_or_none n k =
    elim (cases_lt k n) [
      | inl low ↦ get_or-replicate n k false false low
      | inr high ↦ get_or_past (replicate n false) k false (omega (arith, high, length-replicate n false))
    ]

-- ---- a list in two parts

module _ (xs : List (List ℕ)) (i : ℕ) (x y : List ℕ) (lt : i < length xs) (is : x ≡ get_or xs i x) (copy : y ≡ x) (plain filled plain' filled' : List (List ℕ))
    (old : (s : List ℕ) → Contains (plain ++ filled) s ↔ Contains (take i xs) s) where
  more_by : ((s : List ℕ) → Contains (plain' ++ filled') s → Contains (plain ++ filled) s ⊎ (y ≡ s)) → ((s : List ℕ) → Contains (plain ++ filled) s → Contains (plain' ++ filled') s) → Contains (plain' ++ filled') y
      → (s : List ℕ) → Contains (plain' ++ filled') s ↔ Contains (take (i + 1) xs) s
  more_by split kept last s = (
    λ h. (elim (split s h) [
      | inl m ↦ Contains-take_step i xs x s lt is ((old s).0 m)
      | inr e ↦ subst (λ (t : List ℕ). Contains (take (i + 1) xs) t) (sym copy ∙ e) (Contains-take_last i xs x lt is)
    ]),
    λ h. (elim (Contains-take_more i xs x s lt is h) [
      | inl a ↦ kept s ((old s).1 a)
      | inr e ↦ subst (λ (t : List ℕ). Contains (plain' ++ filled') t) (copy ∙ e) last
    ]),
  )

  -- one more scope at the end of either part
  pub listed_filled : plain' ≡ plain → filled' ≡ filled ++ y ∷ [] → (s : List ℕ) → Contains (plain' ++ filled') s ↔ Contains (take (i + 1) xs) s
  listed_filled same pushed =
      let whole : plain' ++ filled' ≡ (plain ++ filled) ++ y ∷ [] = ap (λ (t : List (List ℕ)). t ++ filled') same ∙ ap (λ (t : List (List ℕ)). plain ++ t) pushed ∙ sym (append_assoc plain filled (y ∷ [])) in
      more_by
      (λ s h. Contains-push_cases (plain ++ filled) y s (subst (λ (t : List (List ℕ)). Contains t s) whole h))
      (λ s h. subst (λ (t : List (List ℕ)). Contains t s) (sym whole) (Contains-append_left (plain ++ filled) (y ∷ []) s h))
      (subst (λ (t : List (List ℕ)). Contains t y) (sym whole) (Contains-push (plain ++ filled) y))

  pub listed_plain : plain' ≡ plain ++ y ∷ [] → filled' ≡ filled → (s : List ℕ) → Contains (plain' ++ filled') s ↔ Contains (take (i + 1) xs) s
  listed_plain pushed same =
      let whole : plain' ++ filled' ≡ (plain ++ y ∷ []) ++ filled = ap (λ (t : List (List ℕ)). t ++ filled') pushed ∙ ap (λ (t : List (List ℕ)). (plain ++ y ∷ []) ++ t) same in
      more_by
      (λ s h. (elim (Contains-append_cases (plain ++ y ∷ []) filled s (subst (λ (t : List (List ℕ)). Contains t s) whole h)) [
        | inl front ↦ (elim (Contains-push_cases plain y s front) [ inl a ↦ inl (Contains-append_left plain filled s a) | inr e ↦ inr e ])
        | inr back ↦ inl (Contains-append_right plain filled s back)
      ]))
      (λ s h. subst (λ (t : List (List ℕ)). Contains t s) (sym whole) (elim (Contains-append_cases plain filled s h) [
        | inl front ↦ Contains-append_left (plain ++ y ∷ []) filled s (Contains-append_left plain (y ∷ []) s front)
        | inr back ↦ Contains-append_right (plain ++ y ∷ []) filled s back
      ]))
      (subst (λ (t : List (List ℕ)). Contains t y) (sym whole) (Contains-append_left (plain ++ y ∷ []) filled y (Contains-push plain y)))

-- the parts as sets have the scopes of the list
pub listed_again : (plain filled plain' filled' scopes : List (List ℕ)) → AllFound plain plain' → AllFound plain' plain → AllFound filled filled' → AllFound filled' filled
    → ((s : List ℕ) → Contains (plain ++ filled) s ↔ Contains scopes s) → (s : List ℕ) → list_any (bytes_eq s) (plain' ++ filled') ≡ list_any (bytes_eq s) scopes
listed_again plain filled plain' filled' scopes a b c d listed = same_tests (plain' ++ filled') scopes
    (λ s h. (listed s).0 (elim (Contains-append_cases plain' filled' s h) [ inl k ↦ Contains-append_left plain filled s (b s k) | inr k ↦ Contains-append_right plain filled s (d s k) ]))
    (λ s h. (elim (Contains-append_cases plain filled s ((listed s).1 h)) [ inl k ↦ Contains-append_left plain' filled' s (a s k) | inr k ↦ Contains-append_right plain' filled' s (c s k) ]))

pub AreFree-again : (id : List ℕ) (plain plain' : List (List ℕ)) (starred : Bool) → (EndsWithStar id → starred ≡ true) → (starred ≡ true → All (λ s. ¬ HasSubslice s hole) plain) → AllFound plain' plain → AreFree id plain'
AreFree-again id plain plain' starred stars free within s before after ends t cut =
    All-contains (λ x. ¬ HasSubslice x hole) plain s (free (stars ends)) (within s (listed_any plain' s t)) (before, after, cut)
