use Rattle.std.proofs.Common.{◌≡◌, ◌-◌, ◌<◌, ℕ, length, get_or, refl, arith}
use Rattle.std.proofs.lemmas.List.{get_or_default}
use Rattle.role_expand.proofs.RankLemmas.{tops_carry, tops_from_own, tops_done}
use Rattle.role_expand.proofs.ranks.tops_below.Goals as goal

pub loop-at-init : goal.loop-at-init
loop-at-init c = (omega arith, tops_from_own c.args.marks.now c.args.ranks.now c.in_ok-tops.tops.items (length c.args.marks.now) c.in_ok-tops.ensures.len refl c.in_ok-tops.ensures.own)

pub loop-at-preserved-then-links-at-gt0 : goal.loop-at-preserved-then-links-at-gt0
loop-at-preserved-then-links-at-gt0 c =
    let inv = c.loop-at.invariant in
    let at : ℕ = c.loop-at.at in
    let fits : at - 1 < length c.args.links.now = omega (arith, inv.0, c.requires.as_long, c.loop-at-test.true) in
    let grown = c.raise.ensures in
    let top : c.index-top.result.now ≡ get_or c.loop-at.tops.items (at - 1) c.index-top.result.now = c.index-top.ensures in
    let same : get_or c.loop-at.tops.items (at - 1) 0 ≡ get_or c.loop-at.tops.items (at - 1) c.index-top.result.now = get_or_default c.loop-at.tops.items (at - 1) 0 c.index-top.result.now (omega (arith, inv.1.len, inv.0, c.loop-at-test.true)) in
    (omega (arith, inv.0), tops_carry c.args.marks.now c.args.links.now c.args.ranks.now c.requires.linked at (at - 1) (omega (arith, c.loop-at-test.true)) fits c.loop-at.tops.items c.raise.new.tops.items grown.len grown.grows (λ pos. omega (arith, grown.there, top, same)) inv.1)

pub loop-at-preserved : goal.loop-at-preserved
loop-at-preserved c =
    let inv = c.loop-at.invariant in
    let at : ℕ = c.loop-at.at in
    let fits : at - 1 < length c.args.links.now = omega (arith, inv.0, c.requires.as_long, c.loop-at-test.true) in
    (omega (arith, inv.0), tops_carry c.args.marks.now c.args.links.now c.args.ranks.now c.requires.linked at (at - 1) (omega (arith, c.loop-at-test.true)) fits c.loop-at.tops.items c.loop-at.tops.items refl (λ k. omega arith) (λ pos. absurd (omega (arith, pos, c.if-links-at-gt0.false))) inv.1)

pub returns-clause-tops : goal.returns-clause-tops
returns-clause-tops c = tops_done c.args.marks.now c.args.ranks.now c.loop-at.tops.items c.loop-at.at (omega (arith, c.loop-at-test.false)) c.loop-at.invariant.1

pub returns-clause-len : goal.returns-clause-len
returns-clause-len c = c.loop-at.invariant.1.len
