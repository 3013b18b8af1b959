use Rattle.std.proofs.Common.{◌≡◌, ℕ, ◌<◌, ◌≤◌, ◌+◌, ◌↔◌, ◌++◌, ◌∷◌, [], List, true, All, Contains, take, length, sym, ap, ◌∙◌, subst, arith}
use Rattle.std.proofs.lemmas.Bool.{both_ways}
use Rattle.std.proofs.lemmas.List.{take_all}
use Rattle.std.proofs.lemmas.List.Elements.{All-push}
use Rattle.std.proofs.lemmas.Str.Pattern.{contains_text}
use Rattle.std.specs.Str.Iter.{HasSubslice}
use Rattle.role_expand.specs.Roles.{hole}
use Rattle.role_expand.proofs.PlainLemmas.{listed_filled, listed_plain}
use Rattle.role_expand.proofs.role_sets.part.Goals.{then-starred+then-contains+in_ok-push, else-starred+in_ok-push-2, else-starred-via-then-starred+else-contains, else-starred-via-else-starred}
use Rattle.role_expand.proofs.role_sets.part.Goals as goal

pub returns-clause-listed : goal.returns-clause-listed
returns-clause-listed c =
    let all : take c.loop-scope.scope-index c.args.scopes.now ≡ c.args.scopes.now = take_all c.loop-scope.scope-index c.args.scopes.now (omega (arith, c.loop-scope-test.false)) in
    subst (λ (t : List (List ℕ)). (s : List ℕ) → Contains (c.loop-scope.plain.items ++ c.loop-scope.filled.items) s ↔ Contains t s) all c.loop-scope.invariant.listed

pub loop-scope-preserved : goal.loop-scope-preserved
loop-scope-preserved c =
    let plain : List (List ℕ) = c.loop-scope.plain.items in
    let filled : List (List ℕ) = c.loop-scope.filled.items in
    let lt : c.loop-scope.scope-index < length c.args.scopes.now = omega (arith, c.loop-scope-test.true) in
    let copy : c.in_ok-copy.copy ≡ c.scope-item.result = c.in_ok-copy.ensures.cases in
    elim c.if-starred.branch [
      | then-starred+then-contains+in_ok-push w ↦
          let plain_is : c.if-starred.plain.items ≡ plain = ap (λ v. v.items) w.plain-is in
          record {
            listed = listed_filled c.args.scopes.now c.loop-scope.scope-index c.scope-item.result c.in_ok-copy.copy lt c.scope-item.is copy plain filled _ _ c.loop-scope.invariant.listed plain_is (ap (λ v. v.items) w.filled-is ∙ w.in_ok-push.ensures.items);
            free = λ e. subst (λ (t : List (List ℕ)). All (λ s. ¬ HasSubslice s hole) t) (sym plain_is) (c.loop-scope.invariant.free e);
          }
      | else-starred+in_ok-push-2 w ↦
          let plain_is : c.if-starred.plain.items ≡ plain ++ c.in_ok-copy.copy ∷ [] = ap (λ v. v.items) w.plain-is ∙ w.in_ok-push-2.ensures.items in
          let none : c.args.starred ≡ true → ¬ HasSubslice c.scope-item.result hole = (elim w.else-starred.branch [
            | else-starred-via-then-starred+else-contains v ↦ λ _ h. both_ways _ v.if-contains.false ((contains_text v.contains.result hole v.as_str.result.now v.contains.ensures.cases).1 (subst (λ (t : List ℕ). HasSubslice t hole) (sym v.as_str.ensures.value) h))
            | else-starred-via-else-starred v ↦ λ e. absurd (both_ways _ v.if-starred.false e)
          ]) in
          record {
            listed = listed_plain c.args.scopes.now c.loop-scope.scope-index c.scope-item.result c.in_ok-copy.copy lt c.scope-item.is copy plain filled _ _ c.loop-scope.invariant.listed plain_is (ap (λ v. v.items) w.filled-is);
            free = λ e. subst (λ (t : List (List ℕ)). All (λ s. ¬ HasSubslice s hole) t) (sym plain_is)
                (All-push (λ s. ¬ HasSubslice s hole) plain c.in_ok-copy.copy (c.loop-scope.invariant.free e) (subst (λ (t : List ℕ). ¬ HasSubslice t hole) (sym copy) (none e)));
          }
    ]
