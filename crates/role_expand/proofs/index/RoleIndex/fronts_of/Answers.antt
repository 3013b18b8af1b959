use Rattle.std.proofs.Common.{◌≡◌, ℕ, ◌-◌, ◌≤◌, ◌++◌, ◌∷◌, [], List, arith, sym, ap, ◌∙◌, subst, length, get_or, inl, inr, Contains}
use Rattle.std.proofs.lemmas.Bool.{cases_eq}
use Rattle.role_expand.specs.Index.{text_of, Begins, AreRising, IsUnder, AreLinks}
use Rattle.role_expand.specs.declared.index.RoleKey.{RoleKey}
use Rattle.std.proofs.lemmas.List.{get_or_default}
use Rattle.std.proofs.lemmas.List.Elements.{Contains-append_left, Contains-push}
use Rattle.role_expand.proofs.IndexLemmas.{under_count, under_link}
use Rattle.role_expand.proofs.index.RoleIndex.fronts_of.Goals as goal

pub loop-at-init : goal.loop-at-init
loop-at-init c =
    let keys : List RoleKey = c.args.self.now in
    let list : c.deref.result.now ≡ c.args.self.now = c.deref.ensures.value ∙ c.self.view_is in
    let list-2 : c.deref-2.result.now ≡ c.args.self.now = c.deref-2.ensures.value ∙ c.self.view_is in
    let rising : AreRising keys = rw (← c.self.view_is) c.self.invariant.rising in
    let count = rw list at c.count_up_to-last.ensures in
    let near = rw list-2 at c.nearest-at.ensures in
    record {
      bound = omega (arith, near.bound, count.bound);
      whole = λ j key lt is b.
          let all : (d : RoleKey) → Begins c.args.text.now (text_of (get_or keys j d)) = λ d. subst (λ (k : RoleKey). Begins c.args.text.now (text_of k)) (sym (get_or_default keys j d key lt ∙ is)) b in
          inr (near.whole j (under_count keys rising c.args.text.now c.count_up_to-last.result count.bound count.before count.after j key lt all) all);
    }

pub loop-at-preserved : goal.loop-at-preserved
loop-at-preserved c =
    let keys : List RoleKey = c.args.self.now in
    let links : List ℕ = c.self.inside.links.items in
    let at : ℕ = c.loop-at.at in
    let found : RoleKey = c.index.result.now in
    let is : found ≡ get_or c.self.inside.keys.items (at - 1) found = c.index.ensures in
    let link : c.index-at.result.now ≡ get_or links (at - 1) 0 = c.index-at.ensures ∙ sym (get_or_default links (at - 1) 0 c.index-at.result.now (omega (arith, c.loop-at-test.true, c.loop-at.invariant.bound, c.self.invariant.as_long, ap length c.self.view_is))) in
    let linked : AreLinks keys links = rw (← c.self.view_is) c.self.invariant.linked in
    let len : length links ≡ length keys = c.self.invariant.as_long ∙ ap length c.self.view_is in
    let fits : at ≤ length links = omega (arith, c.loop-at.invariant.bound, len) in
    record {
      bound = omega (arith, link, linked.back (at - 1) (omega (arith, c.loop-at-test.true)), c.loop-at.invariant.bound);
      whole = λ j key lt stands b. rw c.in_ok-push.ensures.items
          (elim (c.loop-at.invariant.whole j key lt stands b) [
            | inl there ↦ inl (Contains-append_left c.loop-at.places.items (found.place ∷ []) key.place there)
            | inr u ↦ (elim (cases_eq j (at - 1)) [
              | inl e ↦
                  let mine : key ≡ found = sym stands ∙ ap (λ (n : ℕ). get_or keys n key) e ∙ get_or_default keys (at - 1) key found (omega (arith, c.loop-at-test.true)) ∙ sym (is ∙ ap (λ (t : List RoleKey). get_or t (at - 1) found) c.self.view_is) in
                  inl (subst (λ (k : RoleKey). Contains (c.loop-at.places.items ++ found.place ∷ []) k.place) (sym mine) (Contains-push c.loop-at.places.items found.place))
              | inr other ↦ inr (subst (λ (n : ℕ). IsUnder keys n j) (sym link) (under_link keys links linked at j (omega (arith, c.loop-at-test.true)) fits u other))
            ])
          ]);
    }

pub returns : goal.returns
returns c = λ key there b.
    elim (c.loop-at.invariant.whole there.0 key there.1 there.2 b) [
      | inl h ↦ h
      | inr u ↦ absurd (omega (arith, u.below, c.loop-at-test.false))
    ]
