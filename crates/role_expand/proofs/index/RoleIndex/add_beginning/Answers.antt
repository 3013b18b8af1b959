use Rattle.std.proofs.Common.{◌≡◌, ℕ, ◌<◌, ◌≤◌, ◌++◌, ◌∷◌, [], List, arith, sym, ap, ◌∙◌, subst, get_or, inl, inr, Contains}
use Rattle.std.proofs.lemmas.Bool.{cases_lt}
use Rattle.role_expand.specs.Index.{text_of, Begins}
use Rattle.role_expand.specs.declared.index.RoleKey.{RoleKey}
use Rattle.std.proofs.lemmas.List.{get_or_default}
use Rattle.std.proofs.lemmas.List.Elements.{Contains-append_left, Contains-push}
use Rattle.role_expand.proofs.index.RoleIndex.add_beginning.Goals as goal

pub loop-at-preserved : goal.loop-at-preserved
loop-at-preserved c =
    let keys : List RoleKey = c.args.self.now in
    let at : ℕ = c.loop-at.at in
    let found : RoleKey = c.index.result.now in
    let is : found ≡ get_or c.self.inside.keys.items at found = c.index.ensures in
    let high = rw (c.deref-2.ensures.value ∙ c.self.view_is) at c.count_with-high.ensures.bound in
    rw c.in_ok-push.ensures.items record {
      kept = λ place h. Contains-append_left c.loop-at.places.items (found.place ∷ []) place (c.loop-at.invariant.kept place h);
      added = λ j key low lt stands. (elim (cases_lt j at) [
        | inl before ↦ Contains-append_left c.loop-at.places.items (found.place ∷ []) key.place (c.loop-at.invariant.added j key low before stands)
        | inr last ↦
            let e : j ≡ at = omega arith in
            let mine : key ≡ found = sym stands ∙ ap (λ (n : ℕ). get_or keys n key) e ∙ get_or_default keys at key found (omega (arith, high, c.loop-at-test.true)) ∙ sym (is ∙ ap (λ (t : List RoleKey). get_or t at found) c.self.view_is) in
            subst (λ (k : RoleKey). Contains (c.loop-at.places.items ++ found.place ∷ []) k.place) (sym mine) (Contains-push c.loop-at.places.items found.place)
      ]);
    }

pub returns-clause-added : goal.returns-clause-added
returns-clause-added c = λ key there b.
    let low = rw (c.deref.ensures.value ∙ c.self.view_is) at c.count_before-low.ensures in
    let high = rw (c.deref-2.ensures.value ∙ c.self.view_is) at c.count_with-high.ensures in
    let at_key : Begins (text_of (get_or c.args.self.now there.0 key)) c.args.text.now = subst (λ (k : RoleKey). Begins (text_of k) c.args.text.now) (sym there.2) b in
    let from : c.count_before-low.result ≤ there.0 = (elim (cases_lt there.0 c.count_before-low.result) [ inl less ↦ absurd (low.before there.0 key less at_key) | inr le ↦ le ]) in
    let to : there.0 < c.count_with-high.result = (elim (cases_lt there.0 c.count_with-high.result) [ inl less ↦ less | inr le ↦ absurd (high.after there.0 key le there.1 at_key) ]) in
    c.loop-at.invariant.added there.0 key from (omega (arith, to, c.loop-at-test.false)) there.2
