use Rattle.farm_laws.proofs.HookLawLemmas.{callers-exact, hooks-exact}
use Rattle.farm_laws.proofs.machine.a_hook_has_its_own_scopes.Goals as goal

pub returns-clause-callers : goal.returns-clause-callers
returns-clause-callers c = callers-exact

pub returns-clause-hooks : goal.returns-clause-hooks
returns-clause-hooks c = λ opening before after asking judgement trigger hook scopes definition granted is holding grants.
    hooks-exact opening before after asking judgement trigger hook scopes is holding definition granted grants
