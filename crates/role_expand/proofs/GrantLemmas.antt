-- Which keys fit a scope that is granted a role.
use Rattle.std.proofs.Common.{◌≡◌, ◌≢◌, ℕ, ◌+◌, ◌<◌, ◌⊎◌, inl, inr, Bool, true, false, ◌||◌, eqb, List, [], ◌∷◌, ◌++◌, length, take, get_or, refl, sym, ap, ◌∙◌, subst, Some, Contains, arith}
use Rattle.std.proofs.lemmas.Bool.{true≢false}
use Rattle.std.proofs.lemmas.List.{append-nil, append_assoc, append_cancel_left, append_cancel_right}
use Rattle.std.proofs.lemmas.Option.{slice_get_within, get_or_from_slice_get, slice_get-get_or}
use Rattle.std.specs.List.{slice_get}
use Rattle.scope_sets.specs.Scopes.{star, Satisfies}
use Rattle.role_expand.specs.Roles.{RoleData, assume, Gives, GivesAsWritten, GivesFilled}
use Rattle.role_expand.specs.Closures.{GivenBy}
use Rattle.role_expand.specs.Growth.{Gains, FailsToGain, GivenAt, GivenAtSome}
use Rattle.role_expand.specs.Index.{text_of, Begins, HasKey, AreKeysOf}
use Rattle.role_expand.specs.declared.index.RoleKey.{RoleKey}
use Rattle.role_expand.specs.declared.expansion.ExpandFault.{ExpandFault}
use Rattle.role_expand.proofs.EdgeLemmas.{fronts_alike}
use Rattle.role_expand.proofs.GrowthLemmas.{gains_more, fails_after, Contains-take, Contains-take_more, Contains-take_step, Contains-take_last, Contains-at}

has_star : List ℕ → Bool
has_star [] = false
has_star (x ∷ xs) = eqb x star || has_star xs

has_star_at : (front rest : List ℕ) → has_star (front ++ star ∷ rest) ≡ true
unfolding has_star
has_star_at [] rest = refl
has_star_at (x ∷ front) rest = grind (arith, has_star_at front rest)

-- `assume:` has no star
starless : (front rest : List ℕ) → assume ≡ front ++ star ∷ rest → ⊥
unfolding has_star
starless front rest e = true≢false (sym (has_star_at front rest) ∙ sym (ap has_star e))

-- a text after `assume:` that ends with a star
star_after : (text front : List ℕ) → assume ++ text ≡ front ++ star ∷ [] → (f : List ℕ) × (front ≡ assume ++ f) × (text ≡ f ++ star ∷ [])
star_after text front e =
    elim (fronts_alike assume front text (star ∷ []) e) [
      | inl h ↦ (h.0, h.1, append_cancel_left assume text (h.0 ++ star ∷ []) (e ∙ ap (λ (t : List ℕ). t ++ star ∷ []) h.1 ∙ append_assoc assume h.0 (star ∷ [])))
      | inr h ↦ by_rest h.0 h.1 (append_cancel_left front (h.0 ++ text) (star ∷ []) (sym (append_assoc front h.0 text) ∙ ap (λ (t : List ℕ). t ++ text) (sym h.1) ∙ e))
    ]
  where
    by_rest : (r : List ℕ) → assume ≡ front ++ r → r ++ text ≡ star ∷ [] → (f : List ℕ) × (front ≡ assume ++ f) × (text ≡ f ++ star ∷ [])
    by_rest [] is e = ([], sym (is ∙ append-nil front) ∙ sym (append-nil assume), e)
    by_rest (x ∷ r) is e = absurd (starless front r (is ∙ ap (λ (n : ℕ). front ++ n ∷ r) (first e)))
      where
        first : {xs ys : List ℕ} {a b : ℕ} → a ∷ xs ≡ b ∷ ys → a ≡ b
        first e = cc

-- the text begins with the key, or ends with a star and the key begins with what stands before it
abbrev pub Fits : List ℕ → List ℕ → Type 0
Fits text key = Begins text key ⊎ ((front : List ℕ) × (text ≡ front ++ star ∷ []) × Begins key front)

module _ (held text : List ℕ) (after : held ≡ assume ++ text) (role : RoleData) (key s : List ℕ) (has : HasKey role.id key) where
  fits_star : (granted front rest : List ℕ) → held ≡ front ++ star ∷ [] → assume ++ granted ≡ front ++ rest → (f : List ℕ) × (text ≡ f ++ star ∷ []) × (granted ≡ f ++ rest)
  fits_star granted front rest ends same =
      let cut = star_after text front (sym after ∙ ends) in
      (cut.0, cut.2, append_cancel_left assume granted (cut.0 ++ rest) (same ∙ ap (λ (t : List ℕ). t ++ rest) cut.1 ∙ append_assoc assume cut.0 rest))

  fits_written : GivesAsWritten role held s → Fits text key
  fits_written g =
      elim has [
        | inr starred ↦ absurd (g.plain (key, starred))
        | inl plain ↦ (elim g.granted [
          | inl e ↦ inl ([], append_cancel_left assume text role.id (sym after ∙ e) ∙ plain.1 ∙ sym (append-nil key))
          | inr h ↦ let cut = fits_star role.id h.0 h.1 h.2 h.3 in inr (cut.0, cut.1, (h.1, sym plain.1 ∙ cut.2))
        ])
      ]

  fits_filled : GivesFilled role held s → Fits text key
  fits_filled g =
      elim has [
        | inl plain ↦ absurd (plain.0 (g.front, g.id_is))
        | inr starred ↦
            let same : g.front ≡ key = append_cancel_right g.front key (star ∷ []) (sym g.id_is ∙ starred) in
            (elim g.granted [
              | inl e ↦ inl (g.parameter, append_cancel_left assume text (g.front ++ g.parameter) (sym after ∙ e) ∙ ap (λ (t : List ℕ). t ++ g.parameter) same)
              | inr k ↦ (elim k.0 [
                | inl e ↦ inl (star ∷ [], append_cancel_left assume text (g.front ++ star ∷ []) (sym after ∙ e) ∙ ap (λ (t : List ℕ). t ++ star ∷ []) same)
                | inr h ↦
                    let cut = fits_star (g.front ++ star ∷ []) h.0 h.1 h.2 h.3 in
                    (elim (fronts_alike g.front cut.0 (star ∷ []) h.1 cut.2) [
                      | inl longer ↦ inl (longer.0 ++ star ∷ [], cut.1 ∙ ap (λ (t : List ℕ). t ++ star ∷ []) (longer.1 ∙ ap (λ (t : List ℕ). t ++ longer.0) same) ∙ append_assoc key longer.0 (star ∷ []))
                      | inr shorter ↦ inr (cut.0, cut.1, (shorter.0, sym same ∙ shorter.1))
                    ])
              ])
            ])
      ]

  pub fits_from_gives : Gives role held s → Fits text key
  fits_from_gives (inl g) = fits_written g
  fits_from_gives (inr g) = fits_filled g

-- a scope that does not begin with `assume:` is granted a role only where it satisfies each scope that begins so
module _ (held : List ℕ) (none : (rest : List ℕ) → held ≢ assume ++ rest) where
  each_from_satisfies : (id : List ℕ) → Satisfies held (assume ++ id) → (front : List ℕ) × (held ≡ front ++ star ∷ []) × Begins assume front
  each_from_satisfies id (inl e) = absurd (none id e)
  each_from_satisfies id (inr h) =
      elim (fronts_alike assume h.0 id h.1 h.3) [
        | inl longer ↦ absurd (none (longer.0 ++ star ∷ []) (h.2 ∙ ap (λ (t : List ℕ). t ++ star ∷ []) longer.1 ∙ append_assoc assume longer.0 (star ∷ [])))
        | inr shorter ↦ (h.0, h.2, shorter)
      ]

  pub each_from_gives : (role : RoleData) (s : List ℕ) → Gives role held s → (front : List ℕ) × (held ≡ front ++ star ∷ []) × Begins assume front
  each_from_gives role s (inl g) = each_from_satisfies role.id g.granted
  each_from_gives role s (inr g) =
      elim g.granted [
        | inl e ↦ absurd (none (g.front ++ g.parameter) e)
        | inr k ↦ each_from_satisfies (g.front ++ star ∷ []) k.0
      ]

-- one more place
module _ (most : ℕ) (roles : List RoleData) (held : List ℕ) (xs : List ℕ) (i x : ℕ) (lt : i < length xs) (is : x ≡ get_or xs i x) where
  pub gains_place : (old mid new : List (List ℕ)) → Gains most (GivenAtSome roles held (take i xs)) old mid → Gains most (GivenAt roles held x) mid new → Gains most (GivenAtSome roles held (take (i + 1) xs)) old new
  gains_place old mid new g h = gains_more most (GivenAtSome roles held (take i xs)) (GivenAt roles held x) (GivenAtSome roles held (take (i + 1) xs)) old mid new g h
      (λ s k. (k.0, Contains-take_step i xs x k.0 lt is k.1, k.2))
      (λ s k. (x, Contains-take_last i xs x lt is, k))
      (λ s k. (elim (Contains-take_more i xs x k.0 lt is k.1) [ inl a ↦ inl (k.0, a, k.2) | inr e ↦ inr (subst (λ (n : ℕ). GivenAt roles held n s) (sym e) k.2) ]))

  pub fails_place : (old mid : List (List ℕ)) (fault : ExpandFault) → Gains most (GivenAtSome roles held (take i xs)) old mid → FailsToGain most (GivenAt roles held x) mid fault → FailsToGain most (GivenAtSome roles held xs) old fault
  fails_place old mid fault g h = fails_after most (GivenAtSome roles held (take i xs)) (GivenAt roles held x) (GivenAtSome roles held xs) old mid fault g h
      (λ s k. (k.0, Contains-take i xs k.0 k.1, k.2)) (λ s k. (x, Contains-at i xs x lt is, k))

module _ (roles : List RoleData) (held : List ℕ) (places : List ℕ) where
  pub given_from_some : (s : List ℕ) → GivenAtSome roles held places s → GivenBy roles held s
  given_from_some s h = (h.2.0, (h.0, slice_get_within roles h.0 h.2.0 h.2.1, get_or_from_slice_get roles h.0 h.2.0 h.2.0 h.2.1), h.2.2)

  pub some_from_given : (keys : List RoleKey) → AreKeysOf roles keys
      → ((key : RoleKey) (role : RoleData) (s : List ℕ) → Contains keys key → HasKey role.id (text_of key) → Gives role held s → Contains places key.place)
      → (s : List ℕ) → GivenBy roles held s → GivenAtSome roles held places s
  some_from_given keys are all s h =
      let at : slice_get roles h.1.0 ≡ Some h.0 = slice_get-get_or roles h.1.0 h.0 h.1.1 ∙ ap (λ (r : RoleData). Some r) h.1.2 in
      let k = are h.1.0 h.0 at in
      (h.1.0, subst (λ (n : ℕ). Contains places n) k.2 (all k.0 h.0 s k.1 k.3 h.2), (h.0, at, h.2))
