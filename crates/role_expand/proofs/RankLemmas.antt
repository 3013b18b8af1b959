-- The greatest ranks along chains of marks.
use Rattle.std.proofs.Common.{◌≡◌, ◌≢◌, ℕ, ◌+◌, ◌-◌, ◌<◌, ◌≤◌, ◌⊎◌, inl, inr, List, [], ◌∷◌, ◌++◌, length, get_or, sym, ap, ◌∙◌, subst, arith, length-append}
use Rattle.std.proofs.lemmas.Bool.{cases_lt, cases_eq}
use Rattle.std.proofs.lemmas.List.{get_or_append_left, get_or_push, get_or_default, append-nil}
use Rattle.role_expand.specs.Roles.{RoleData}
use Rattle.role_expand.specs.Cycles.{EdgeAt, IsWalk, IsCycle}
use Rattle.role_expand.specs.Index.{text_of, Begins, AreRising, IsUnder, AreLinks}
use Rattle.role_expand.specs.Marks.{rank_of, bound_of, AreMarksOf, AreTopsAbove, AreTopsBelow, Falls}
use Rattle.role_expand.specs.declared.index.RoleKey.{RoleKey}
use Rattle.role_expand.proofs.IndexLemmas.{IsUpTo, between, front_upto}
use Rattle.role_expand.proofs.LevelLemmas.{EdgeAt-within}

module _ (marks : List RoleKey) (ranks : List ℕ) where
  -- the tops of the marks from a place on, with the rest carried to where their links lead
  pub record AreTopsFrom (at : ℕ) (tops : List ℕ) : Type 0 where
    pub len : length tops ≡ length marks
    pub own : (j : ℕ) (d : RoleKey) → j < length marks → rank_of ranks (get_or marks j d) ≤ get_or tops j 0
    pub carried : (j k : ℕ) (d : RoleKey) → at ≤ j → j < length marks → k < j → ((e : RoleKey) → Begins (text_of (get_or marks j e)) (text_of (get_or marks k e)))
        → (rank_of ranks (get_or marks j d) ≤ get_or tops k 0) ⊎ ((m : ℕ) × (m < at) × IsUnder marks (m + 1) k × (rank_of ranks (get_or marks j d) ≤ get_or tops m 0))

module _ (marks : List RoleKey) (links ranks : List ℕ) (linked : AreLinks marks links) where
  -- what stands under a place other than the one right before it stands under the link there
  past : (k j : ℕ) → k < length links → IsUnder marks (k + 1) j → j ≢ k → (m : ℕ) × (m < k) × (get_or links k 0 ≡ m + 1) × IsUnder marks (m + 1) j
  past k j lt u other =
      let same : k + 1 - 1 ≡ k = omega arith in
      let v = linked.whole k j lt (omega (arith, u.below, other)) (λ d. subst (λ (n : ℕ). Begins (text_of (get_or marks n d)) (text_of (get_or marks j d))) same (u.begins d)) in
      let is : get_or links k 0 ≡ get_or links k 0 - 1 + 1 = omega (arith, v.below) in
      (get_or links k 0 - 1, omega (arith, v.below, linked.back k lt), is, subst (λ (n : ℕ). IsUnder marks n j) is v)

  pub tops_push : (tops : List ℕ) (n : ℕ) (mark : RoleKey) (top : ℕ) → length tops ≡ n → n < length marks → n < length links → mark ≡ get_or marks n mark
      → rank_of ranks mark ≤ top → (0 < get_or links n 0 → get_or tops (get_or links n 0 - 1) 0 ≤ top) → AreTopsAbove marks ranks tops → AreTopsAbove marks ranks (tops ++ top ∷ [])
  tops_push tops n mark top len lt fits is own link old k j d in_range u =
      elim (cases_lt k n) [
        | inl before ↦ omega (arith, get_or_append_left tops (top ∷ []) 0 k (omega (arith, len, before)), old k j d (omega (arith, len, before)) u)
        | inr high ↦
            let at : k ≡ n = omega (arith, length-append tops (top ∷ []), len, in_range, high) in
            let new : get_or (tops ++ top ∷ []) k 0 ≡ top = get_or_push tops top 0 k (len ∙ sym at) in
            (elim (cases_eq j n) [
              | inl here ↦
                  let mine : rank_of ranks (get_or marks j d) ≡ rank_of ranks mark = ap (λ (m : RoleKey). rank_of ranks m) (ap (λ (i : ℕ). get_or marks i d) here ∙ get_or_default marks n d mark lt ∙ sym is) in
                  omega (arith, new, mine, own)
              | inr other ↦
                  let p = past n j fits (subst (λ (i : ℕ). IsUnder marks (i + 1) j) at u) other in
                  let low = old p.0 j d (omega (arith, len, p.1)) p.3 in
                  let there : get_or links n 0 - 1 ≡ p.0 = omega (arith, p.2) in
                  omega (arith, new, low, ap (λ (i : ℕ). get_or tops i 0) there, link (omega (arith, p.2)))
            ])
      ]

  module _ (at q : ℕ) (is : at ≡ q + 1) (fits : q < length links) (tops new : List ℕ) (same : length new ≡ length tops) (grows : (k : ℕ) → get_or tops k 0 ≤ get_or new k 0)
      (there : 0 < get_or links q 0 → get_or tops q 0 ≤ get_or new (get_or links q 0 - 1) 0) where
    hand_on : (k r : ℕ) → IsUnder marks (q + 1) k → k ≢ q → r ≤ get_or tops q 0 → (m : ℕ) × (m < q) × IsUnder marks (m + 1) k × (r ≤ get_or new m 0)
    hand_on k r u other low =
        let p = past q k fits u other in
        let link : get_or links q 0 - 1 ≡ p.0 = omega (arith, p.2) in
        (p.0, p.1, p.3, omega (arith, low, there (omega (arith, p.2)), ap (λ (i : ℕ). get_or new i 0) link))

    pub tops_carry : AreTopsFrom marks ranks at tops → AreTopsFrom marks ranks q new
    tops_carry t = record {
      len = same ∙ t.len;
      own = λ j d lt. omega (arith, t.own j d lt, grows j);
      carried = λ j k d low lt less b. (elim (cases_lt q j) [
        | inl behind ↦ (elim (t.carried j k d (omega (arith, is, behind)) lt less b) [
          | inl h ↦ inl (omega (arith, h, grows k))
          | inr h ↦ (elim (cases_eq h.0 q) [
            | inr other ↦ inr (h.0, omega (arith, is, h.1, other), h.2, omega (arith, h.3, grows h.0))
            | inl here ↦
                let r : rank_of ranks (get_or marks j d) ≤ get_or tops q 0 = omega (arith, h.3, ap (λ (i : ℕ). get_or tops i 0) here) in
                (elim (cases_eq k q) [
                  | inl mine ↦ inl (omega (arith, r, grows q, ap (λ (i : ℕ). get_or new i 0) mine))
                  | inr other ↦ inr (hand_on k (rank_of ranks (get_or marks j d)) (subst (λ (i : ℕ). IsUnder marks (i + 1) k) here h.2) other r)
                ])
          ])
        ])
        | inr high ↦
            let here : j ≡ q = omega (arith, low, high) in
            let back : q + 1 - 1 ≡ j = omega (arith, here) in
            let u : IsUnder marks (q + 1) k = record { below = omega (arith, less, here); begins = λ e. subst (λ (i : ℕ). Begins (text_of (get_or marks i e)) (text_of (get_or marks k e))) (sym back) (b e) } in
            inr (hand_on k (rank_of ranks (get_or marks j d)) u (omega (arith, less, here)) (omega (arith, t.own j d lt, ap (λ (i : ℕ). get_or tops i 0) here)))
      ]);
    }

pub tops_from_own : (marks : List RoleKey) (ranks own : List ℕ) (at : ℕ) → length own ≡ length marks → at ≡ length marks
    → ((j : ℕ) (d : RoleKey) → j < length marks → rank_of ranks (get_or marks j d) ≡ get_or own j 0) → AreTopsFrom marks ranks at own
tops_from_own marks ranks own at len is each = record {
  len = len;
  own = λ j d lt. omega (arith, each j d lt);
  carried = λ j k d low lt less b. absurd (omega (arith, low, lt, is));
}

pub tops_done : (marks : List RoleKey) (ranks tops : List ℕ) (at : ℕ) → at ≡ 0 → AreTopsFrom marks ranks at tops → AreTopsBelow marks ranks tops
tops_done marks ranks tops at is t k j d lt less b =
    elim (t.carried j k d (omega (arith, is)) lt less b) [
      | inl h ↦ h
      | inr h ↦ absurd (omega (arith, h.1, is))
    ]

module _ (marks : List RoleKey) (ranks slack above below : List ℕ) (rising : AreRising marks) (above_len : length above ≡ length marks)
    (tops : AreTopsAbove marks ranks above) (bottoms : AreTopsBelow marks ranks below)
    (fall : (k : ℕ) (d : RoleKey) → k < length marks → length ranks ≤ (get_or marks k d).place
    → (get_or above k 0 < bound_of ranks slack (get_or marks k d)) × (get_or below k 0 < bound_of ranks slack (get_or marks k d))) where
  -- of two marks one of which begins with the other, the later one begins with the earlier
  later_begins : (i j : ℕ) (d : RoleKey) → i ≤ j → j < length marks → Begins (text_of (get_or marks i d)) (text_of (get_or marks j d)) ⊎ Begins (text_of (get_or marks j d)) (text_of (get_or marks i d))
      → Begins (text_of (get_or marks j d)) (text_of (get_or marks i d))
  later_begins i j d le lt (inr b) = b
  later_begins i j d le lt (inl b) =
      let one : List ℕ = text_of (get_or marks i d) in
      let two : List ℕ = text_of (get_or marks j d) in
      between one two [] (rising i j d le lt) (subst (λ (t : List ℕ). IsUpTo two t) (sym (append-nil one)) (front_upto one two b))

  pub falls_from_tops : Falls marks ranks slack
  falls_from_tops a b at_a at_b text front alike =
      let k : ℕ = at_a.0 in
      let j : ℕ = at_b.0 in
      let same_a : (d : RoleKey) → get_or marks k d ≡ a = λ d. get_or_default marks k d a at_a.1 ∙ at_a.2 in
      let same_b : (d : RoleKey) → get_or marks j d ≡ b = λ d. get_or_default marks j d b at_b.1 ∙ at_b.2 in
      let at_places : (d : RoleKey) → Begins (text_of (get_or marks k d)) (text_of (get_or marks j d)) ⊎ Begins (text_of (get_or marks j d)) (text_of (get_or marks k d)) =
      λ d. subst (λ (x : RoleKey). Begins (text_of x) (text_of (get_or marks j d)) ⊎ Begins (text_of (get_or marks j d)) (text_of x)) (sym (same_a d))
      (subst (λ (x : RoleKey). Begins (text_of a) (text_of x) ⊎ Begins (text_of x) (text_of a)) (sym (same_b d)) alike) in
      let bound = subst (λ (x : RoleKey). (get_or above k 0 < bound_of ranks slack x) × (get_or below k 0 < bound_of ranks slack x)) at_a.2
      (fall k a at_a.1 (subst (λ (x : RoleKey). length ranks ≤ x.place) (sym at_a.2) text)) in
      let mine : rank_of ranks (get_or marks j b) ≡ rank_of ranks b = ap (λ (x : RoleKey). rank_of ranks x) at_b.2 in
      elim (cases_lt j k) [
        | inl before ↦
            let back : k + 1 - 1 ≡ k = omega arith in
            let u : IsUnder marks (k + 1) j = record {
              below = omega (arith, before);
              begins = λ d. subst (λ (n : ℕ). Begins (text_of (get_or marks n d)) (text_of (get_or marks j d))) (sym back) (later_begins j k d (omega (arith, before)) at_a.1 (swap (at_places d)));
            } in
            omega (arith, tops k j b (omega (arith, above_len, at_a.1)) u, bound.0, mine)
        | inr high ↦ (elim (cases_eq j k) [
          | inl here ↦ absurd (omega (arith, text, front, ap (λ (x : RoleKey). x.place) (sym at_b.2 ∙ ap (λ (n : ℕ). get_or marks n b) here ∙ same_a b)))
          | inr other ↦ omega (arith, bottoms k j b at_b.1 (omega (arith, high, other)) (λ d. later_begins k j d (omega (arith, high)) at_b.1 (at_places d)), bound.1, mine)
        ])
      ]
    where
      swap : {A B : Type 0} → A ⊎ B → B ⊎ A
      swap (inl x) = inr x
      swap (inr x) = inl x

-- where ranks rise along no edge, no cycle goes from a role without slack
module _ (roles : List RoleData) (marks : List RoleKey) (ranks slack : List ℕ) (len : length ranks ≡ length roles) (are : AreMarksOf roles marks)
    (small : (i : ℕ) → get_or slack i 0 ≤ 1) (falls : Falls marks ranks slack) where
  edge_falls : (i j : ℕ) → EdgeAt roles i j → get_or ranks j 0 < get_or ranks i 0 + get_or slack i 0
  edge_falls i j e =
      let h = e.4 in
      let within = EdgeAt-within roles i j e in
      let a = are.texts i e.0 within.0 e.2 h.scope h.front h.starred h.listed h.reaches in
      let b = are.fronts j e.1 within.1 e.3 h.front h.to_is in
      let fell = falls a.0 b.0 a.1 b.1 (omega (arith, a.2.0, len)) (omega (arith, b.2, len, within.1))
      (subst (λ (t : List ℕ). Begins (text_of a.0) t ⊎ Begins t (text_of a.0)) (sym b.3) a.2.1) in
      let from : a.0.place - length ranks ≡ i = omega (arith, a.2.0, len) in
      omega (arith, fell, ap (λ (n : ℕ). get_or ranks n 0) from, ap (λ (n : ℕ). get_or slack n 0) from, ap (λ (n : ℕ). get_or ranks n 0) b.2)

  walk_falls : (a : ℕ) (walk : List ℕ) (b : ℕ) → IsWalk roles a walk b → get_or ranks b 0 < get_or ranks a 0 + get_or slack a 0
  walk_falls a [] b w = edge_falls a b w
  walk_falls a (c ∷ walk) b w = omega (arith, edge_falls a c w.0, walk_falls c walk b w.1, small c)

  pub acyclic_from_falls : (i : ℕ) (rest : List ℕ) → get_or slack i 0 ≡ 0 → ¬ IsCycle roles (i ∷ rest)
  acyclic_from_falls i rest none h = absurd (omega (arith, walk_falls i rest i h, none))
