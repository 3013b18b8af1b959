-- That a start list has a closure, or that too many scopes are derivable.
use Rattle.std.proofs.Common.{◌≡◌, ℕ, zero, suc, ◌+◌, ◌≤◌, ◌⊎◌, inl, inr, List, [], ◌∷◌, ◌++◌, length, get_or, refl, sym, ap, ◌∙◌, subst, All, Contains, Ordering, Less, Equal, Greater, nat_cmp, arith}
use Rattle.std.proofs.lemmas.Bool.{cases_lt}
use Rattle.std.proofs.lemmas.Cmp.{nat_list_cmp_total}
use Rattle.std.proofs.lemmas.List.{append_assoc, append_cancel_left, get_or_default}
use Rattle.std.proofs.lemmas.List.Elements.{All-head, All-tail, Contains-get_or}
use Rattle.std.proofs.lemmas.List.Kept.{AllPairs-cons}
use Rattle.std.specs.Cmp.Lexicographic.{slice_cmp}
use Rattle.std.specs.Ordering.{ordering_reverse}
use Rattle.scope_sets.specs.Scopes.{star, IsBefore, IsRising}
use Rattle.scope_sets.proofs.LawLemmas.{Contains-here, Contains-later, Contains-split, Contains-none, rising_head, rising_tail}
use Rattle.scope_sets.proofs.OrderLemmas.{same_from_Equal}
use Rattle.role_expand.specs.Roles.{RoleData, assume, HasHoleForm, HasRoleForm, FillsHole, Gives}
use Rattle.role_expand.specs.Closures.{GivenBy, IsClosure, HasMoreDerivable, IsAllDerivable}
use Rattle.role_expand.specs.Cycles.{IsAccepted}
use Rattle.role_expand.specs.Growth.{Gains, Overflows, IsFilledFrom, IsGrantedAsWritten, IsGrantedByFront, IsGrantedWithStar}
use Rattle.role_expand.specs.declared.expansion.ExpandFault.TheVariants.{TooMany}
use Rattle.role_expand.proofs.FillLemmas.{FillsHole-one}
use Rattle.role_expand.proofs.GrowthLemmas.{gains_none, gains_one, overflows_one, gains_more, overflows_after, overflows_wider, gains_same}
use Rattle.role_expand.proofs.GivesLemmas.{Gives-from_written, written_from_Gives, Gives-from_front, Gives-from_star, parts_from_Gives}
use Rattle.role_expand.proofs.ClosureLemmas.{IsPartly, partly_begin, partly_more, partly_end, fails_at_start, fails_at_scope}
use Rattle.role_expand.proofs.SetLemmas.{closure_from_found}
use Rattle.role_expand.proofs.DecisionLemmas.{listed_or_not, satisfies_or_not, begins_or_not, starred_or_not, filling}

abbrev Scopes : Type 0
Scopes = List (List ℕ)

-- the scopes with P can be added, or are too many
abbrev Adds : ℕ → (List ℕ → Type 0) → Scopes → Type 0
Adds most P old = ((new : Scopes) × Gains most P old new) ⊎ Overflows most P old

-- ---- one step of an expansion

module _ (most : ℕ) where
  adds_nothing : (P : List ℕ → Type 0) (old : Scopes) → ((s : List ℕ) → P s → ⊥) → Adds most P old
  adds_nothing P old none = inl (old, gains_none most P old (λ s h. absurd (none s h)))

  adds_one : (scope : List ℕ) (old : Scopes) → Adds most (λ s. s ≡ scope) old
  adds_one scope old =
      elim (listed_or_not old scope) [
        | inl there ↦ inl (old, gains_none most (λ s. s ≡ scope) old (λ s e. subst (λ (t : List ℕ). Contains old t) (sym e) there))
        | inr absent ↦ (elim (cases_lt (length old) most) [
          | inl room ↦ inl (old ++ scope ∷ [], gains_one most old scope absent room)
          | inr full ↦ inr (overflows_one most old scope absent full)
        ])
      ]

  adds_same : (P R : List ℕ → Type 0) (old : Scopes) → Adds most P old → ((s : List ℕ) → P s → R s) → ((s : List ℕ) → R s → P s) → Adds most R old
  adds_same P R old (inl g) to from = inl (g.0, gains_same most P R old g.0 g.1 to from)
  adds_same P R old (inr h) to from = inr (overflows_wider most P R old h to)

  -- a step after another
  adds_more : (P Q R : List ℕ → Type 0) (old : Scopes) → Adds most P old → ((mid : Scopes) → Adds most Q mid)
      → ((s : List ℕ) → P s → R s) → ((s : List ℕ) → Q s → R s) → ((s : List ℕ) → R s → P s ⊎ Q s) → Adds most R old
  adds_more P Q R old (inl g) second from_p from_q cases =
      elim (second g.0) [
        | inl h ↦ inl (h.0, gains_more most P Q R old g.0 h.0 g.1 h.1 from_p from_q cases)
        | inr h ↦ inr (overflows_after most P Q R old g.0 g.1 h from_p from_q)
      ]
  adds_more P Q R old (inr h) second from_p from_q cases = inr (overflows_wider most P R old h from_p)

  adds_all : (xs old : Scopes) → Adds most (Contains xs) old
  adds_all [] old = adds_nothing (Contains []) old Contains-none
  adds_all (x ∷ xs) old =
      adds_more (λ s. s ≡ x) (Contains xs) (Contains (x ∷ xs)) old (adds_one x old) (adds_all xs)
      (λ s e. subst (λ (t : List ℕ). Contains (x ∷ xs) t) (sym e) (Contains-here x xs))
      (λ s h. Contains-later x s xs h)
      (λ s h. (elim (Contains-split x s xs h) [ inl e ↦ inl (sym e) | inr k ↦ inr k ]))

  adds_filled : (parameter : List ℕ) (xs old : Scopes) → All HasHoleForm xs → Adds most (IsFilledFrom xs parameter) old
  adds_filled parameter [] old forms = adds_nothing (IsFilledFrom [] parameter) old (λ s h. Contains-none h.0 h.1)
  adds_filled parameter (x ∷ xs) old forms =
      let fill = filling parameter x in
      adds_more (λ s. s ≡ fill.0) (IsFilledFrom xs parameter) (IsFilledFrom (x ∷ xs) parameter) old (adds_one fill.0 old)
      (λ mid. adds_filled parameter xs mid (All-tail HasHoleForm x xs forms))
      (λ s e. (x, Contains-here x xs, subst (λ (t : List ℕ). FillsHole parameter x t) (sym e) fill.1))
      (λ s h. (h.0, Contains-later x h.0 xs h.1, h.2))
      (λ s h. (elim (Contains-split x h.0 xs h.1) [
        | inl e ↦ inl (FillsHole-one parameter x s fill.0 (All-head HasHoleForm x xs forms) (subst (λ (t : List ℕ). FillsHole parameter t s) (sym e) h.2) fill.1)
        | inr k ↦ inr (h.0, k, h.2)
      ]))

  adds_as_written : (held grant : List ℕ) (scopes old : Scopes) → Adds most (IsGrantedAsWritten held grant scopes) old
  adds_as_written held grant scopes old =
      elim (satisfies_or_not held grant) [
        | inl granted ↦ adds_same (Contains scopes) (IsGrantedAsWritten held grant scopes) old (adds_all scopes old) (λ s h. (granted, h)) (λ s h. h.1)
        | inr none ↦ adds_nothing (IsGrantedAsWritten held grant scopes) old (λ s h. none h.0)
      ]

  adds_by_front : (held front : List ℕ) (scopes old : Scopes) → All HasHoleForm scopes → Adds most (IsGrantedByFront held front scopes) old
  adds_by_front held front scopes old forms =
      elim (begins_or_not (assume ++ front) held) [
        | inl begins ↦
            let is : held ≡ assume ++ (front ++ begins.0) = begins.1 ∙ append_assoc assume front begins.0 in
            adds_same (IsFilledFrom scopes begins.0) (IsGrantedByFront held front scopes) old (adds_filled begins.0 scopes old forms)
            (λ s h. (begins.0, is, h))
            (λ s h. subst (λ (t : List ℕ). IsFilledFrom scopes t s) (append_cancel_left front h.0 begins.0 (append_cancel_left assume (front ++ h.0) (front ++ begins.0) (sym h.1 ∙ is))) h.2)
        | inr none ↦ adds_nothing (IsGrantedByFront held front scopes) old (λ s h. none h.0 (h.1 ∙ sym (append_assoc assume front h.0)))
      ]

  adds_with_star : (held grant : List ℕ) (scopes old : Scopes) → All HasHoleForm scopes → Adds most (IsGrantedWithStar held grant scopes) old
  adds_with_star held grant scopes old forms =
      elim (satisfies_or_not held grant) [
        | inl granted ↦
            adds_same (IsFilledFrom scopes (star ∷ [])) (IsGrantedWithStar held grant scopes) old (adds_filled (star ∷ []) scopes old forms)
            (λ s h. (granted, h)) (λ s h. h.1)
        | inr none ↦ adds_nothing (IsGrantedWithStar held grant scopes) old (λ s h. none h.0)
      ]

  adds_role : (longest : ℕ) (role : RoleData) (held : List ℕ) (old : Scopes) → HasRoleForm longest role → Adds most (Gives role held) old
  adds_role longest role held old form =
      elim (starred_or_not role.id) [
        | inl starred ↦
            let forms : All HasHoleForm role.scopes = form.holes_form starred in
            adds_more (IsGrantedByFront held starred.0 role.scopes) (IsGrantedWithStar held (assume ++ role.id) role.scopes) (Gives role held) old
            (adds_by_front held starred.0 role.scopes old forms)
            (λ mid. adds_with_star held (assume ++ role.id) role.scopes mid forms)
            (Gives-from_front role role.scopes (λ s. (λ h. h, λ h. h)) held (assume ++ role.id) refl starred.0 starred.1)
            (Gives-from_star role role.scopes (λ s. (λ h. h, λ h. h)) held (assume ++ role.id) refl starred.0 starred.1)
            (parts_from_Gives role role.scopes (λ s. (λ h. h, λ h. h)) held (assume ++ role.id) refl starred.0 starred.1)
        | inr plain ↦
            adds_same (IsGrantedAsWritten held (assume ++ role.id) role.scopes) (Gives role held) old
            (adds_as_written held (assume ++ role.id) role.scopes old)
            (Gives-from_written role role.scopes (λ s. (λ h. h, λ h. h)) held (assume ++ role.id) refl (λ front e. plain (front, e)))
            (written_from_Gives role role.scopes (λ s. (λ h. h, λ h. h)) held (assume ++ role.id) refl (λ front e. plain (front, e)))
      ]

  adds_given : (longest : ℕ) (roles : List RoleData) (held : List ℕ) (old : Scopes) → All (HasRoleForm longest) roles → Adds most (GivenBy roles held) old
  adds_given longest [] held old forms = adds_nothing (GivenBy [] held) old (λ s h. Contains-none h.0 h.1)
  adds_given longest (role ∷ roles) held old forms =
      adds_more (Gives role held) (GivenBy roles held) (GivenBy (role ∷ roles) held) old
      (adds_role longest role held old (All-head (HasRoleForm longest) role roles forms))
      (λ mid. adds_given longest roles held mid (All-tail (HasRoleForm longest) role roles forms))
      (λ s h. (role, Contains-here role roles, h))
      (λ s h. (h.0, Contains-later role h.0 roles h.1, h.2))
      (λ s h. (elim (Contains-split role h.0 roles h.1) [
        | inl e ↦ inl (subst (λ (r : RoleData). Gives r held s) (sym e) h.2)
        | inr k ↦ inr (h.0, k, h.2)
      ]))

-- ---- an expansion

module _ (most longest : ℕ) (roles : List RoleData) (start : Scopes) (forms : All (HasRoleForm longest) roles) where
  -- each round follows one scope more, of `most` at the most
  found_from : (left n : ℕ) (found : Scopes) → IsPartly roles start most found n → most ≤ left + n → ((all : Scopes) × IsAllDerivable most roles start all) ⊎ HasMoreDerivable most roles start
  found_from zero n found p enough = inl (found, partly_end roles start most found n p (omega (arith, p.few)))
  found_from (suc left) n found p enough =
      elim (cases_lt n (length found)) [
        | inl lt ↦
            let is : get_or found n [] ≡ get_or found n (get_or found n []) = get_or_default found n [] (get_or found n []) lt in
            (elim (adds_given most longest roles (get_or found n []) found forms) [
              | inl g ↦ found_from left (n + 1) g.0 (partly_more roles start most found g.0 n (get_or found n []) p lt is g.1) (omega arith)
              | inr h ↦ inr (fails_at_scope roles start most found n (get_or found n []) TooMany p lt is h)
            ])
        | inr high ↦ inl (found, partly_end roles start most found n p high)
      ]

  found_or_more : ((all : Scopes) × IsAllDerivable most roles start all) ⊎ HasMoreDerivable most roles start
  found_or_more =
      elim (adds_all most start []) [
        | inl g ↦ found_from most 0 g.0 (partly_begin roles start most g.0 g.1) (omega arith)
        | inr h ↦ inr (fails_at_start roles start most TooMany h)
      ]

-- ---- the same scopes, rising

-- a rising list with the members of another
record IsRisingOf (xs set : Scopes) : Type 0 where
  rising : IsRising set
  keeps : (s : List ℕ) → Contains xs s → Contains set s
  adds_none : (s : List ℕ) → Contains set s → Contains xs s

cons_rising : (x : List ℕ) (ys : Scopes) → ((s : List ℕ) → Contains ys s → IsBefore x s) → IsRising ys → IsRising (x ∷ ys)
cons_rising x ys first up = AllPairs-cons IsBefore x ys (λ k d lt. first (get_or ys k d) (Contains-get_or ys k d lt)) up

cons_within : (x : List ℕ) (xs ys : Scopes) → ((s : List ℕ) → Contains xs s → Contains ys s) → (s : List ℕ) → Contains (x ∷ xs) s → Contains (x ∷ ys) s
cons_within x xs ys within s h =
    elim (Contains-split x s xs h) [
      | inl e ↦ subst (λ (t : List ℕ). Contains (x ∷ ys) t) e (Contains-here x ys)
      | inr k ↦ Contains-later x s ys (within s k)
    ]

-- the first two change places
swapped : (x y s : List ℕ) (ys : Scopes) → Contains (x ∷ y ∷ ys) s → Contains (y ∷ x ∷ ys) s
swapped x y s ys h =
    elim (Contains-split x s (y ∷ ys) h) [
      | inl e ↦ Contains-later y s (x ∷ ys) (subst (λ (t : List ℕ). Contains (x ∷ ys) t) e (Contains-here x ys))
      | inr k ↦ cons_within y ys (x ∷ ys) (λ t. Contains-later x t ys) s k
    ]

insertion : (x : List ℕ) (ys : Scopes) → IsRising ys → (zs : Scopes) × IsRisingOf (x ∷ ys) zs
insertion x [] up = (x ∷ [], record { rising = cons_rising x [] (λ s h. absurd (Contains-none s h)) up; keeps = λ s h. h; adds_none = λ s h. h })
insertion x (y ∷ ys) up = by_order x y ys (slice_cmp nat_cmp x y) refl up (insertion x ys (rising_tail y ys up))
  where
    by_order : (x y : List ℕ) (ys : Scopes) (o : Ordering) → slice_cmp nat_cmp x y ≡ o → IsRising (y ∷ ys) → (zs : Scopes) × IsRisingOf (x ∷ ys) zs → (zs : Scopes) × IsRisingOf (x ∷ y ∷ ys) zs
    by_order x y ys Less is up rest =
        let before : (s : List ℕ) → Contains (y ∷ ys) s → IsBefore x s = λ s h.
        (elim (Contains-split y s ys h) [
          | inl e ↦ subst (IsBefore x) e is
          | inr k ↦ nat_list_cmp_total.trans x y s is (rising_head y s ys up k)
        ]) in
        (x ∷ y ∷ ys, record { rising = cons_rising x (y ∷ ys) before up; keeps = λ s h. h; adds_none = λ s h. h })
    by_order x y ys Equal is up rest =
        let there : Contains (y ∷ ys) x = subst (λ (t : List ℕ). Contains (y ∷ ys) t) (sym (same_from_Equal x y is)) (Contains-here y ys) in
        let keeps : (s : List ℕ) → Contains (x ∷ y ∷ ys) s → Contains (y ∷ ys) s = λ s h.
        (elim (Contains-split x s (y ∷ ys) h) [
          | inl e ↦ subst (λ (t : List ℕ). Contains (y ∷ ys) t) e there
          | inr k ↦ k
        ]) in
        (y ∷ ys, record { rising = up; keeps = keeps; adds_none = λ s h. Contains-later x s (y ∷ ys) h })
    by_order x y ys Greater is up rest =
        let back : IsBefore y x = nat_list_cmp_total.antisymm y x ∙ ap ordering_reverse is in
        let before : (s : List ℕ) → Contains rest.0 s → IsBefore y s = λ s h.
        (elim (Contains-split x s ys (rest.1.adds_none s h)) [
          | inl e ↦ subst (IsBefore y) e back
          | inr k ↦ rising_head y s ys up k
        ]) in (
          y ∷ rest.0,
          record {
            rising = cons_rising y rest.0 before rest.1.rising;
            keeps = λ s h. cons_within y (x ∷ ys) rest.0 rest.1.keeps s (swapped x y s ys h);
            adds_none = λ s h. swapped y x s ys (cons_within y rest.0 (x ∷ ys) rest.1.adds_none s h);
          },
        )

in_order : (xs : Scopes) → (set : Scopes) × IsRisingOf xs set
in_order [] = ([], record { rising = λ i j d lt in_range. absurd (omega arith); keeps = λ s h. h; adds_none = λ s h. h })
in_order (x ∷ xs) =
    let rest = in_order xs in
    let more = insertion x rest.0 rest.1.rising in (
      more.0,
      record {
        rising = more.1.rising;
        keeps = λ s h. more.1.keeps s (cons_within x xs rest.0 rest.1.keeps s h);
        adds_none = λ s h. cons_within x rest.0 xs rest.1.adds_none s (more.1.adds_none s h);
      },
    )

pub closure_or_too_many : (most longest : ℕ) (roles : List RoleData) (start : Scopes) → IsAccepted longest roles → ((set : Scopes) × IsClosure most roles start set) ⊎ HasMoreDerivable most roles start
closure_or_too_many most longest roles start accepted =
    elim (found_or_more most longest roles start accepted.forms) [
      | inl found ↦
          let set = in_order found.0 in
          inl (set.0, closure_from_found most roles start found.0 set.0 found.1 set.1.rising set.1.keeps set.1.adds_none)
      | inr more ↦ inr more
    ]
