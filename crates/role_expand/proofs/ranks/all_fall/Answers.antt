use Rattle.std.proofs.Common.{◌≡◌, ◌<◌, ◌≤◌, ◌∙◌, ℕ, length, get_or, inl, inr, sym, ap, subst, arith}
use Rattle.std.proofs.lemmas.Bool.{cases_lt}
use Rattle.std.proofs.lemmas.List.{get_or_default}
use Rattle.role_expand.specs.Marks.{bound_of}
use Rattle.role_expand.specs.declared.index.RoleKey.{RoleKey}
use Rattle.role_expand.proofs.ranks.all_fall.Goals as goal

pub loop-at-preserved : goal.loop-at-preserved
loop-at-preserved c = λ k d low text.
    elim (cases_lt k c.loop-at.at) [
      | inl before ↦ c.loop-at.invariant k d before text
      | inr high ↦
          let at : k ≡ c.loop-at.at = omega (arith, low, high) in
          let mark : RoleKey = c.index-marks-at.result in
          let here : get_or c.args.marks.now k d ≡ get_or c.args.marks.now c.loop-at.at mark = ap (λ (n : ℕ). get_or c.args.marks.now n d) at ∙ get_or_default c.args.marks.now c.loop-at.at d mark (omega (arith, c.loop-at-test.true)) in
          let fact = c.is_less_than_text.ensures c.if-not-is_less_than_text.false (subst (λ (m : RoleKey). length c.args.ranks.now ≤ m.place) here text) in
          subst (λ (m : RoleKey). (get_or c.args.above.now k 0 < bound_of c.args.ranks.now c.args.slack.now m) × (get_or c.args.below.now k 0 < bound_of c.args.ranks.now c.args.slack.now m)) (sym here)
          (subst (λ (n : ℕ). (get_or c.args.above.now n 0 < bound_of c.args.ranks.now c.args.slack.now (get_or c.args.marks.now c.loop-at.at mark)) × (get_or c.args.below.now n 0 < bound_of c.args.ranks.now c.args.slack.now (get_or c.args.marks.now c.loop-at.at mark))) (sym at) fact)
    ]

pub returns : goal.returns
returns c = λ t k d lt text. c.loop-at.invariant k d (omega (arith, lt, c.loop-at-test.false)) text
