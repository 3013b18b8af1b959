use Rattle.role_expand.proofs.IndexLemmas.{rising_from_sorted, keys_moved}
use Rattle.role_expand.specs.Roles.{roles_data}
use Rattle.role_expand.proofs.index.rising_keys.Goals as goal

pub returns : goal.returns
returns c = (
  keys_moved (roles_data c.args.roles.now) _ _ c.sort_unstable.ensures.permutation c.in_ok-keys.ensures,
  rising_from_sorted c.sort_unstable.new.self.items c.sort_unstable.ensures.sorted,
)
