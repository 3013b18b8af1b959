use Rattle.std.proofs.Common.{ℕ, List, Contains, sym, subst, arith}
use Rattle.std.proofs.lemmas.Bool.{both_ways}
use Rattle.std.proofs.lemmas.Result.{err_from_is_err_and}
use Rattle.role_expand.proofs.GrowthLemmas.{gains_none, gains_one, overflows_one}
use Rattle.role_expand.specs.declared.expansion.TheConstants.{MOST_SCOPES}
use Rattle.role_expand.proofs.expansion.add.Goals as goal

pub returns-then-has : goal.returns-then-has
returns-then-has c = gains_none MOST_SCOPES _ _ (λ s e. subst (λ (t : List ℕ). Contains c.args.found.now t) (sym e) (c.has.ensures.0 c.if-has.true))

pub returns-then-len-ge-MOST_SCOPES : goal.returns-then-len-ge-MOST_SCOPES
returns-then-len-ge-MOST_SCOPES c = overflows_one MOST_SCOPES _ _ (λ h. both_ways _ c.if-has.false (c.has.ensures.1 h)) (omega (arith, c.len.ensures, c.if-len-ge-MOST_SCOPES.true))

pub returns-in_err-push : goal.returns-in_err-push
returns-in_err-push c =
    let p = err_from_is_err_and c.from_residual.result c.from_residual.ensures.1 in
    rw (p.1, p.2, c.in_err-push.ensures) tt

pub returns : goal.returns
returns c = rw c.in_ok-push.ensures (gains_one MOST_SCOPES _ _ (λ h. both_ways _ c.if-has.false (c.has.ensures.1 h)) (omega (arith, c.len.ensures, c.if-len-ge-MOST_SCOPES.false)))
