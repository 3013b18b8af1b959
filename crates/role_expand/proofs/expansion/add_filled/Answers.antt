use Rattle.std.proofs.Common.{◌<◌, length, subst, sym, arith}
use Rattle.std.proofs.lemmas.Result.{err_from_is_err_and}
use Rattle.role_expand.specs.Roles.{HasHoleForm}
use Rattle.role_expand.specs.declared.expansion.TheConstants.{MOST_SCOPES}
use Rattle.role_expand.proofs.GrowthLemmas.{gains_filled, fails_filled}
use Rattle.role_expand.proofs.expansion.add_filled.Goals as goal

pub returns-in_err-add : goal.returns-in_err-add
returns-in_err-add c =
    let p = err_from_is_err_and c.from_residual-in_err-add.result c.from_residual-in_err-add.ensures.1 in
    let lt : c.loop-scope.scope-index < length c.args.scopes.now = omega arith in
    let form : HasHoleForm c.scope-item.result = subst HasHoleForm (sym c.scope-item.is) (c.requires.holes c.loop-scope.scope-index c.scope-item.result lt) in
    rw (p.1, p.2)
    (fails_filled MOST_SCOPES c.args.scopes.now c.args.parameter.now c.loop-scope.scope-index c.scope-item.result c.in_ok-fill.field-0 lt c.scope-item.is form c.in_ok-fill.ensures _ _ _ c.loop-scope.invariant c.in_err-add.ensures)

pub loop-scope-preserved : goal.loop-scope-preserved
loop-scope-preserved c =
    let lt : c.loop-scope.scope-index < length c.args.scopes.now = omega arith in
    let form : HasHoleForm c.scope-item.result = subst HasHoleForm (sym c.scope-item.is) (c.requires.holes c.loop-scope.scope-index c.scope-item.result lt) in
    gains_filled MOST_SCOPES c.args.scopes.now c.args.parameter.now c.loop-scope.scope-index c.scope-item.result c.in_ok-fill.field-0 lt c.scope-item.is form c.in_ok-fill.ensures _ _ _ c.loop-scope.invariant c.in_ok-add.ensures
