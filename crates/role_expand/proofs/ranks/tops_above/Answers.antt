use Rattle.std.proofs.Common.{◌≤◌, ◌∷◌, [], ℕ, List, ap, arith, length-append}
use Rattle.role_expand.specs.Marks.{rank_of}
use Rattle.role_expand.specs.declared.index.RoleKey.{RoleKey}
use Rattle.role_expand.proofs.RankLemmas.{tops_push}
use Rattle.role_expand.proofs.ranks.tops_above.Goals as goal

pub top_of-requires : goal.top_of-requires
top_of-requires c = rw c.deref.ensures.value (omega (arith, c.requires.linked.back c.loop-at.at (omega (arith, c.requires.as_long, c.loop-at-test.true)), c.loop-at.invariant.len))

pub loop-at-preserved : goal.loop-at-preserved
loop-at-preserved c =
    let tops : List ℕ = c.loop-at.tops.items in
    let at : ℕ = c.loop-at.at in
    let top : ℕ = c.top_of.result in
    let mark : RoleKey = c.index-marks-at.result in
    let inv = c.loop-at.invariant in
    let own : rank_of c.args.ranks.now mark ≤ top = omega (arith, c.top_of.ensures.own, c.rank_at-own.ensures, ap (λ (m : RoleKey). rank_of c.args.ranks.now m) c.index-marks-at.is) in
    let k = rw c.deref.ensures.value at c.top_of.ensures in
    rw c.in_ok-push.ensures.items record {
      len = omega (arith, length-append tops (top ∷ []), inv.len);
      tops = tops_push c.args.marks.now c.args.links.now c.args.ranks.now c.requires.linked tops at mark top inv.len (omega (arith, c.loop-at-test.true)) (omega (arith, c.requires.as_long, c.loop-at-test.true)) c.index-marks-at.is own k.linked inv.tops;
    }
