use Rattle.call_rules.specs.Policy.{create_policy, trigger_policy}
use Rattle.farm_laws.proofs.DenialLemmas.{star-calls}
use Rattle.farm_laws.proofs.HookLawLemmas.{callers-exact, hooks-exact}
use Rattle.farm_laws.proofs.ListedLemmas.{star-holds, create-full}
use Rattle.farm_laws.proofs.machine.the_scope_star_is_never_denied.Goals as goal

pub returns-clause-calls : goal.returns-clause-calls
returns-clause-calls c = star-calls

pub returns-clause-triggers : goal.returns-clause-triggers
returns-clause-triggers c = λ opening before after asking judgement trigger hook scopes is starred.
    (callers-exact opening before after asking judgement trigger hook scopes is).held (star-holds scopes starred (trigger_policy trigger.hook) tt)

pub returns-clause-hooks : goal.returns-clause-hooks
returns-clause-hooks c = λ opening before after asking judgement trigger hook scopes definition granted is holding grants starred.
    (hooks-exact opening before after asking judgement trigger hook scopes is holding definition granted grants).held (star-holds granted starred (create_policy definition) (create-full definition))
