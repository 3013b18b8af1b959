use Rattle.std.proofs.Common.{◌≡◌, ◌∷◌, [], ◌∙◌, ℕ, List, get_or, inl, inr, sym, ap, arith, length-append}
use Rattle.std.proofs.lemmas.Bool.{cases_lt}
use Rattle.std.proofs.lemmas.List.{get_or_append_left, get_or_push, get_or_default}
use Rattle.role_expand.specs.Marks.{rank_of}
use Rattle.role_expand.specs.declared.index.RoleKey.{RoleKey}
use Rattle.role_expand.proofs.ranks.own_ranks.Goals as goal

pub loop-at-preserved : goal.loop-at-preserved
loop-at-preserved c =
    let own : List ℕ = c.loop-at.own.items in
    let rank : ℕ = c.rank_at.result in
    let mark : RoleKey = c.index-marks-at.result in
    let inv = c.loop-at.invariant in
    rw c.in_ok-push.ensures.items record {
      len = omega (arith, length-append own (rank ∷ []), inv.len);
      own = λ j d low. (elim (cases_lt j c.loop-at.at) [
        | inl before ↦ inv.own j d before ∙ sym (get_or_append_left own (rank ∷ []) 0 j (omega (arith, inv.len, before)))
        | inr high ↦
            let at : j ≡ c.loop-at.at = omega (arith, low, high) in
            let here : get_or c.args.marks.now j d ≡ get_or c.args.marks.now c.loop-at.at mark = ap (λ (n : ℕ). get_or c.args.marks.now n d) at ∙ get_or_default c.args.marks.now c.loop-at.at d mark (omega (arith, c.loop-at-test.true)) in
            ap (λ (m : RoleKey). rank_of c.args.ranks.now m) here ∙ sym c.rank_at.ensures ∙ sym (get_or_push own rank 0 j (inv.len ∙ sym at))
      ]);
    }

pub returns-clause-len : goal.returns-clause-len
returns-clause-len c = omega (arith, c.loop-at.invariant.len, c.loop-at-test.false)

pub returns-clause-own : goal.returns-clause-own
returns-clause-own c = λ j d lt. c.loop-at.invariant.own j d (omega (arith, lt, c.loop-at-test.false))
