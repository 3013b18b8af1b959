use Rattle.std.proofs.Common.{Contains}
use Rattle.std.proofs.lemmas.Bool.{both_ways, false≢true}
use Rattle.std.proofs.lemmas.Result.{err_from_is_err_and}
use Rattle.role_expand.specs.Growth.{Gains}
use Rattle.role_expand.specs.declared.expansion.TheConstants.{MOST_SCOPES}
use Rattle.role_expand.proofs.GrowthLemmas.{gains_none, gains_same, fails_wider}
use Rattle.role_expand.proofs.expansion.add_plain.Goals as goal

pub returns-then-not-is_granted : goal.returns-then-not-is_granted
returns-then-not-is_granted c = (gains_none MOST_SCOPES _ _ (λ s h. absurd (both_ways _ c.if-not-is_granted.true (c.is_granted.ensures.1 h.0))), λ e. absurd (false≢true e))

pub returns-in_err-add_all : goal.returns-in_err-add_all
returns-in_err-add_all c =
    let p = err_from_is_err_and c.from_residual.result c.from_residual.ensures.1 in
    rw (p.1, p.2) (fails_wider MOST_SCOPES _ _ _ _ (rw c.list.ensures.value at c.in_err-add_all.ensures) (λ s k. (c.is_granted.ensures.0 c.if-not-is_granted.false, k)))

pub returns : goal.returns
returns c =
    let g : Gains MOST_SCOPES (Contains c.args.known.now.plain) c.args.found.now c.add_all.new.found = rw c.list.ensures.value at c.in_ok-add_all.ensures in
    (gains_same MOST_SCOPES _ _ _ _ g (λ s k. (c.is_granted.ensures.0 c.if-not-is_granted.false, k)) (λ s h. h.1), λ _. g.all)
