use Rattle.std.proofs.Common.{◌≡◌, [], List, false, refl, Some, None, option_map, length, ap, sym, ◌∙◌, arith}
use Rattle.std.proofs.lemmas.Bool.{eqb-true, eqb-false}
use Rattle.std.proofs.lemmas.List.{nil_from_length}
use Rattle.scope_sets.specs.Expressions.{view, some_holds, lacking, each_reduced, missing}
use Rattle.scope_sets.specs.declared.expressions.Expr.{Expr}
use Rattle.scope_sets.proofs.ExpressionLemmas.{members_view, lacking_begin, lacking_kept, lacking_skipped, lacking_end, missing_all_none, missing_all_kept, reduced_begin, reduced_kept, reduced_end, some_hold_kept, some_hold_met, some_holds_end, missing_any_none, missing_any_some}
use Rattle.scope_sets.proofs.expressions.+missing.Goals as goal
use Rattle.scope_sets.proofs.expressions.+missing.Goals.{in-Some+in_ok-push-in-AllOf, in_default}

pub loop-member-init : goal.loop-member-init
loop-member-init t c = rw c.new-lacking.ensures.items (lacking_begin c.args.set.now c.deref-member-items.result.now)

pub loop-member-preserved : goal.loop-member-preserved
loop-member-preserved t c =
    elim c.match-branch-3.branch [
      | in-Some+in_ok-push-in-AllOf w ↦
          let answer : Some (view w.in-Some.lack) ≡ missing c.args.set.now (view c.member-item.result) = ap (option_map view) (sym w.in-Some.is) ∙ c.in_ok-lack-in-AllOf.ensures in
          rw (w.lacking-is, w.in_ok-push-in-AllOf.ensures.items)
          (c.loop-member.invariant ∙ lacking_kept c.args.set.now c.loop-member.lacking.items c.deref-member-items.result.now c.loop-member.member-index c.member-item.result w.in-Some.lack (omega arith) c.member-item.is answer)
      | in_default w ↦
          let answer : None ≡ missing c.args.set.now (view c.member-item.result) = ap (option_map view) (sym w.in_default.is) ∙ c.in_ok-lack-in-AllOf.ensures in
          rw w.lacking-is
          (c.loop-member.invariant ∙ lacking_skipped c.args.set.now c.loop-member.lacking.items c.deref-member-items.result.now c.loop-member.member-index c.member-item.result (omega arith) c.member-item.is answer)
    ]

pub returns-then-is_empty : goal.returns-then-is_empty
returns-then-is_empty t c =
    let xs : List Expr = c.deref-member-items.result.now in
    let kept : lacking c.args.set.now (members_view xs) ≡ members_view c.loop-member.lacking.items = c.loop-member.invariant ∙ lacking_end c.args.set.now c.loop-member.lacking.items xs c.loop-member.member-index (omega arith) in
    let count : c.loop-member.lacking.len ≡ 0 = eqb-true _ _ (sym c.is_empty.ensures ∙ c.if-is_empty.true) in
    let none : c.loop-member.lacking.items ≡ [] = nil_from_length _ (omega (arith, c.loop-member.lacking.ok.0)) in
    rw c.in-AllOf.is (missing_all_none c.args.set.now c.in-AllOf.members (rw (c.deref-member-items.ensures.value, none) at kept))

pub returns-else-is_empty : goal.returns-else-is_empty
returns-else-is_empty t c =
    let xs : List Expr = c.deref-member-items.result.now in
    let kept : lacking c.args.set.now (members_view xs) ≡ members_view c.loop-member.lacking.items = c.loop-member.invariant ∙ lacking_end c.args.set.now c.loop-member.lacking.items xs c.loop-member.member-index (omega arith) in
    let count : c.loop-member.lacking.len ≡ 0 → ⊥ = eqb-false _ _ (sym c.is_empty.ensures ∙ c.if-is_empty.false) in
    let some : length c.loop-member.lacking.items ≡ 0 → ⊥ = λ e. count (omega (arith, c.loop-member.lacking.ok.0)) in
    rw c.in-AllOf.is (missing_all_kept c.args.set.now c.in-AllOf.members c.loop-member.lacking (rw c.deref-member-items.ensures.value at kept) some)

pub loop-member-2-init : goal.loop-member-2-init
loop-member-2-init t c = (rw c.new-lacking-in-AnyOf.ensures.items (reduced_begin c.args.set.now c.deref-member-items-in-AnyOf.result.now), refl)

pub returns-in-None : goal.returns-in-None
returns-in-None t c =
    let answer : None ≡ missing c.args.set.now (view c.member-item-in-loop-member-2.result) = ap (option_map view) (sym c.in-None.is) ∙ c.in_ok-missing-in-AnyOf.ensures in
    let met = some_hold_met c.args.set.now c.deref-member-items-in-AnyOf.result.now c.loop-member-2.member-index c.member-item-in-loop-member-2.result (omega arith) c.member-item-in-loop-member-2.is answer in
    rw c.in-AnyOf.is (missing_any_none c.args.set.now c.in-AnyOf.members (rw c.deref-member-items-in-AnyOf.ensures.value at (c.loop-member-2.invariant.1 ∙ met)))

pub loop-member-2-preserved : goal.loop-member-2-preserved
loop-member-2-preserved t c =
    let answer : Some (view c.in-Some-2.lack) ≡ missing c.args.set.now (view c.member-item-in-loop-member-2.result) = ap (option_map view) (sym c.in-Some-2.is) ∙ c.in_ok-missing-in-AnyOf.ensures in
    let xs : List Expr = c.deref-member-items-in-AnyOf.result.now in (
      rw c.in_ok-push-in-Some-2.ensures.items
          (c.loop-member-2.invariant.0 ∙ reduced_kept c.args.set.now c.loop-member-2.lacking.items xs c.loop-member-2.member-index c.member-item-in-loop-member-2.result c.in-Some-2.lack (omega arith) c.member-item-in-loop-member-2.is answer),
      c.loop-member-2.invariant.1 ∙ some_hold_kept c.args.set.now xs c.loop-member-2.member-index c.member-item-in-loop-member-2.result c.in-Some-2.lack (omega arith) c.member-item-in-loop-member-2.is answer,
    )

pub returns-after-loop-member-2 : goal.returns-after-loop-member-2
returns-after-loop-member-2 t c =
    let xs : List Expr = c.deref-member-items-in-AnyOf.result.now in
    let kept : each_reduced c.args.set.now (members_view xs) ≡ members_view c.loop-member-2.lacking.items = c.loop-member-2.invariant.0 ∙ reduced_end c.args.set.now c.loop-member-2.lacking.items xs c.loop-member-2.member-index (omega arith) in
    let none : some_holds c.args.set.now (members_view xs) ≡ false = c.loop-member-2.invariant.1 ∙ some_holds_end c.args.set.now xs c.loop-member-2.member-index (omega arith) in
    rw c.in-AnyOf.is (missing_any_some c.args.set.now c.in-AnyOf.members c.loop-member-2.lacking (rw c.deref-member-items-in-AnyOf.ensures.value at none) (rw c.deref-member-items-in-AnyOf.ensures.value at kept))
