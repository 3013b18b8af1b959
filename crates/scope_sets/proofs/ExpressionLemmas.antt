-- An expression, level by level, beside what the loops of `holds` and `missing` have done so far.
use Rattle.std.proofs.Common.{◌≡◌, ℕ, ◌+◌, ◌<◌, ◌≤◌, Bool, true, false, ◌&&◌, cond, List, [], ◌∷◌, ◌++◌, length, drop, get_or, map, Some, None, Vec, Global, refl, sym, ap, ◌∙◌, rules}
use Rattle.std.proofs.lemmas.List.{drop_more, drop_all}
use Rattle.scope_sets.specs.Expressions.{Expression, all_of, any_of, Members, no_members, member, members_of, view, holds, all_hold, some_holds, reduced, lacking, each_reduced, missing}
use Rattle.scope_sets.specs.declared.expressions.Expr.{Expr, AllOf, AnyOf, the_lemmas}

-- the members of a list of `Expr`
abbrev pub members_view : List Expr → Members
members_view es = members_of (map view es)

pub view-AllOf : (v : Vec Expr Global) → view (AllOf v) ≡ all_of (members_view v.items)
view-AllOf v = search (rules, the_lemmas)

pub view-AnyOf : (v : Vec Expr Global) → view (AnyOf v) ≡ any_of (members_view v.items)
view-AnyOf v = search (rules, the_lemmas)

-- the members of both, in order
pub join : Members → Members → Members
join no_members fs = fs
join (member e es) fs = member e (join es fs)

pub join-nil : (es : Members) → join es no_members ≡ es
unfolding join
join-nil no_members = refl
join-nil (member e es) = ap (member e) (join-nil es)

pub join-push : (xs : List Expr) (x : Expr) (rest : Members) → join (members_view (xs ++ x ∷ [])) rest ≡ join (members_view xs) (member (view x) rest)
unfolding join
join-push [] x rest = refl
join-push (y ∷ xs) x rest = ap (member (view y)) (join-push xs x rest)

-- what a member's own answer says
answer_none : (b : Bool) (d : Expression) → None ≡ cond b None (Some d) → b ≡ true
answer_none true d e = refl
answer_none false d e = cc

answer_some : (b : Bool) (c d : Expression) → Some c ≡ cond b None (Some d) → (b ≡ false) × (d ≡ c)
answer_some true c d e = absurd (cc)
answer_some false c d e = (refl, cc)

module _ (set : List (List ℕ)) where
  -- the members from a place on, opened at that place
  from_here : {Y : Type 0} (F : Members → Y) (xs : List Expr) (i : ℕ) (x : Expr) → i < length xs → x ≡ get_or xs i x → F (members_view (drop i xs)) ≡ F (member (view x) (members_view (drop (i + 1) xs)))
  from_here F xs i x h is = ap (λ (t : List Expr). F (members_view t)) (drop_more xs i x h) ∙ ap (λ (y : Expr). F (member (view y) (members_view (drop (i + 1) xs)))) (sym is)

  at_end : {Y : Type 0} (F : Members → Y) (xs : List Expr) (i : ℕ) → length xs ≤ i → F (members_view (drop i xs)) ≡ F no_members
  at_end F xs i h = ap (λ (t : List Expr). F (members_view t)) (drop_all i xs h)

  pub all_hold_more : (xs : List Expr) (i : ℕ) (x : Expr) → i < length xs → x ≡ get_or xs i x → holds set (view x) ≡ true → all_hold set (members_view (drop i xs)) ≡ all_hold set (members_view (drop (i + 1) xs))
  all_hold_more xs i x h is e = from_here (all_hold set) xs i x h is ∙ rw e

  pub all_hold_stop : (xs : List Expr) (i : ℕ) (x : Expr) → i < length xs → x ≡ get_or xs i x → holds set (view x) ≡ false → all_hold set (members_view (drop i xs)) ≡ false
  all_hold_stop xs i x h is e = from_here (all_hold set) xs i x h is ∙ rw e

  pub some_holds_more : (xs : List Expr) (i : ℕ) (x : Expr) → i < length xs → x ≡ get_or xs i x → holds set (view x) ≡ false → some_holds set (members_view (drop i xs)) ≡ some_holds set (members_view (drop (i + 1) xs))
  some_holds_more xs i x h is e = from_here (some_holds set) xs i x h is ∙ rw e

  pub some_holds_stop : (xs : List Expr) (i : ℕ) (x : Expr) → i < length xs → x ≡ get_or xs i x → holds set (view x) ≡ true → some_holds set (members_view (drop i xs)) ≡ true
  some_holds_stop xs i x h is e = from_here (some_holds set) xs i x h is ∙ rw e

  pub all_hold_end : (xs : List Expr) (i : ℕ) → length xs ≤ i → all_hold set (members_view (drop i xs)) ≡ true
  all_hold_end xs i h = at_end (all_hold set) xs i h

  pub some_holds_end : (xs : List Expr) (i : ℕ) → length xs ≤ i → some_holds set (members_view (drop i xs)) ≡ false
  some_holds_end xs i h = at_end (some_holds set) xs i h

  -- `AllOf`: what is lacking so far, and of the members to come
  pub lacking_from : List Expr → List Expr → ℕ → Members
  lacking_from done xs i = join (members_view done) (lacking set (members_view (drop i xs)))

  pub lacking_kept : (done xs : List Expr) (i : ℕ) (x y : Expr) → i < length xs → x ≡ get_or xs i x → Some (view y) ≡ missing set (view x) → lacking_from done xs i ≡ lacking_from (done ++ y ∷ []) xs (i + 1)
  unfolding lacking_from
  lacking_kept done xs i x y h is e =
      let parts = answer_some _ _ _ e in
      ap (join (members_view done)) (from_here (lacking set) xs i x h is ∙ rw (parts.0, parts.1)) ∙ sym (join-push done y _)

  pub lacking_skipped : (done xs : List Expr) (i : ℕ) (x : Expr) → i < length xs → x ≡ get_or xs i x → None ≡ missing set (view x) → lacking_from done xs i ≡ lacking_from done xs (i + 1)
  unfolding lacking_from
  lacking_skipped done xs i x h is e = ap (join (members_view done)) (from_here (lacking set) xs i x h is ∙ rw (answer_none _ _ e))

  pub lacking_begin : (xs : List Expr) → lacking set (members_view xs) ≡ lacking_from [] xs 0
  unfolding lacking_from join
  lacking_begin xs = refl

  pub lacking_end : (done xs : List Expr) (i : ℕ) → length xs ≤ i → lacking_from done xs i ≡ members_view done
  unfolding lacking_from
  lacking_end done xs i h = ap (join (members_view done)) (at_end (lacking set) xs i h) ∙ join-nil _

  -- nothing is lacking exactly where all hold
  pub all_hold_none : (es : Members) → lacking set es ≡ no_members → all_hold set es ≡ true
  all_hold_none no_members e = refl
  all_hold_none (member f es) e = all_hold_none_by (holds set f) f es e (all_hold_none es)
    where
      all_hold_none_by : (b : Bool) (f : Expression) (es : Members) → cond b (lacking set es) (member (reduced set f) (lacking set es)) ≡ no_members → (lacking set es ≡ no_members → all_hold set es ≡ true) → (b && all_hold set es) ≡ true
      all_hold_none_by true f es e more = more e
      all_hold_none_by false f es e more = absurd (cc)

  pub all_hold_some : (es : Members) (f : Expression) (fs : Members) → lacking set es ≡ member f fs → all_hold set es ≡ false
  all_hold_some no_members f fs e = absurd (cc)
  all_hold_some (member g es) f fs e = all_hold_some_by (holds set g) g es f fs e (all_hold_some es f fs)
    where
      all_hold_some_by : (b : Bool) (g : Expression) (es : Members) (f : Expression) (fs : Members) → cond b (lacking set es) (member (reduced set g) (lacking set es)) ≡ member f fs → (lacking set es ≡ member f fs → all_hold set es ≡ false) → (b && all_hold set es) ≡ false
      all_hold_some_by true g es f fs e more = more e
      all_hold_some_by false g es f fs e more = refl

  pub missing_all_none : (v : Vec Expr Global) → lacking set (members_view v.items) ≡ no_members → None ≡ missing set (view (AllOf v))
  missing_all_none v e = rw (view-AllOf v, all_hold_none (members_view v.items) e)

  pub missing_all_some : (v w : Vec Expr Global) (x : Expr) (xs : List Expr) → w.items ≡ x ∷ xs → lacking set (members_view v.items) ≡ members_view w.items → Some (view (AllOf w)) ≡ missing set (view (AllOf v))
  missing_all_some v w x xs some e =
      let kept : lacking set (members_view v.items) ≡ member (view x) (members_view xs) = e ∙ ap members_view some in
      rw (view-AllOf v, view-AllOf w, all_hold_some (members_view v.items) _ _ kept, e)

  pub missing_all_kept : (v w : Vec Expr Global) → lacking set (members_view v.items) ≡ members_view w.items → (length w.items ≡ 0 → ⊥) → Some (view (AllOf w)) ≡ missing set (view (AllOf v))
  missing_all_kept v w e some = by_items w.items refl
    where
      by_items : (items : List Expr) → w.items ≡ items → Some (view (AllOf w)) ≡ missing set (view (AllOf v))
      by_items [] is = absurd (some (ap length is))
      by_items (x ∷ xs) is = missing_all_some v w x xs is e

  -- `AnyOf`: each member so far reduced, and those to come
  pub reduced_from : List Expr → List Expr → ℕ → Members
  reduced_from done xs i = join (members_view done) (each_reduced set (members_view (drop i xs)))

  pub reduced_kept : (done xs : List Expr) (i : ℕ) (x y : Expr) → i < length xs → x ≡ get_or xs i x → Some (view y) ≡ missing set (view x) → reduced_from done xs i ≡ reduced_from (done ++ y ∷ []) xs (i + 1)
  unfolding reduced_from
  reduced_kept done xs i x y h is e =
      let parts = answer_some _ _ _ e in
      ap (join (members_view done)) (from_here (each_reduced set) xs i x h is ∙ rw (parts.1)) ∙ sym (join-push done y _)

  pub reduced_begin : (xs : List Expr) → each_reduced set (members_view xs) ≡ reduced_from [] xs 0
  unfolding reduced_from join
  reduced_begin xs = refl

  pub reduced_end : (done xs : List Expr) (i : ℕ) → length xs ≤ i → reduced_from done xs i ≡ members_view done
  unfolding reduced_from
  reduced_end done xs i h = ap (join (members_view done)) (at_end (each_reduced set) xs i h) ∙ join-nil _

  pub some_hold_kept : (xs : List Expr) (i : ℕ) (x y : Expr) → i < length xs → x ≡ get_or xs i x → Some (view y) ≡ missing set (view x) → some_holds set (members_view (drop i xs)) ≡ some_holds set (members_view (drop (i + 1) xs))
  some_hold_kept xs i x y h is e = some_holds_more xs i x h is ((answer_some _ _ _ e).0)

  pub some_hold_met : (xs : List Expr) (i : ℕ) (x : Expr) → i < length xs → x ≡ get_or xs i x → None ≡ missing set (view x) → some_holds set (members_view (drop i xs)) ≡ true
  some_hold_met xs i x h is e = some_holds_stop xs i x h is (answer_none _ _ e)

  pub missing_any_none : (v : Vec Expr Global) → some_holds set (members_view v.items) ≡ true → None ≡ missing set (view (AnyOf v))
  missing_any_none v e = rw (view-AnyOf v, e)

  pub missing_any_some : (v w : Vec Expr Global) → some_holds set (members_view v.items) ≡ false → each_reduced set (members_view v.items) ≡ members_view w.items → Some (view (AnyOf w)) ≡ missing set (view (AnyOf v))
  missing_any_some v w none e = rw (view-AnyOf v, view-AnyOf w, none, e)
