use Rattle.std.proofs.Common.{arith}
use Rattle.std.proofs.lemmas.Result.{err_from_is_err_and}
use Rattle.role_expand.specs.declared.expansion.TheConstants.{MOST_SCOPES}
use Rattle.role_expand.proofs.GrowthLemmas.{gains_listed, fails_listed}
use Rattle.role_expand.proofs.expansion.add_all.Goals as goal

pub returns-in_err-add : goal.returns-in_err-add
returns-in_err-add c =
    let p = err_from_is_err_and c.from_residual-in_err-add.result c.from_residual-in_err-add.ensures.1 in
    rw (p.1, p.2)
    (fails_listed MOST_SCOPES c.args.scopes.now c.loop-scope.scope-index c.scope-item.result c.in_ok-clone.field-0 (omega arith) c.scope-item.is c.in_ok-clone.ensures.cases _ _ _ c.loop-scope.invariant c.in_err-add.ensures)

pub loop-scope-preserved : goal.loop-scope-preserved
loop-scope-preserved c =
    gains_listed MOST_SCOPES c.args.scopes.now c.loop-scope.scope-index c.scope-item.result c.in_ok-clone.field-0 (omega arith) c.scope-item.is c.in_ok-clone.ensures.cases _ _ _ c.loop-scope.invariant c.in_ok-add.ensures
