use Rattle.std.proofs.Common.{All, sym, subst}
use Rattle.scope_sets.specs.Scopes.{IsPrintable}
use Rattle.call_rules.proofs.PolicyLemmas.{group_printable, hook_printable}
use Rattle.call_rules.proofs.hooks.hook_name.Goals as goal

pub joined-requires-clause-front : goal.joined-requires-clause-front
joined-requires-clause-front c = subst (All IsPrintable) (sym c.as_str.ensures.value) (group_printable _ c.as_str.ensures.form)

pub joined-requires-clause-rest : goal.joined-requires-clause-rest
joined-requires-clause-rest c = subst (All IsPrintable) (sym c.as_str-2.ensures.value) (hook_printable _ c.as_str-2.ensures.form)
