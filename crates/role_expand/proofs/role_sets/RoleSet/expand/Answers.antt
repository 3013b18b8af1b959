use Rattle.std.proofs.Common.{◌≡◌, ◌∙◌, ap}
use Rattle.role_expand.specs.Known.{known_data}
use Rattle.role_expand.specs.declared.expansion.TheConstants.{MOST_SCOPES}
use Rattle.role_expand.proofs.SetLemmas.{closure_from_found}
use Rattle.role_expand.proofs.role_sets.RoleSet.expand.Goals as goal

pub returns-clause-closure : goal.returns-clause-closure
returns-clause-closure c =
    let roles : known_data c.deref.result.now ≡ c.args.self.now = ap known_data c.deref.ensures.value ∙ c.self.view_is in
    closure_from_found MOST_SCOPES c.args.self.now c.args.start.now c.in_ok-found.found.items c.from_list.result (rw roles at c.in_ok-found.ensures) c.from_list.ensures.rising c.from_list.ensures.keeps c.from_list.ensures.adds_none

pub derive_all-requires-clause-keys : goal.derive_all-requires-clause-keys
derive_all-requires-clause-keys c = rw c.deref.ensures.value c.self.invariant.1
