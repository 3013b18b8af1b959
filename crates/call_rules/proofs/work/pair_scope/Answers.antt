use Rattle.std.proofs.Common.{All, sym, subst}
use Rattle.scope_sets.specs.Scopes.{IsPrintable}
use Rattle.call_rules.proofs.PolicyLemmas.{identifier_printable}
use Rattle.call_rules.proofs.work.pair_scope.Goals as goal

pub joined-requires-clause-front : goal.joined-requires-clause-front
joined-requires-clause-front c = subst (All IsPrintable) (sym c.as_str.ensures.value) (identifier_printable _ c.as_str.ensures.form)

pub joined-requires-clause-rest : goal.joined-requires-clause-rest
joined-requires-clause-rest c = subst (All IsPrintable) (sym c.as_str-2.ensures.value) (identifier_printable _ c.as_str-2.ensures.form)

pub scope_of-requires-clause-rest : goal.scope_of-requires-clause-rest
scope_of-requires-clause-rest c = subst (All IsPrintable) (sym c.as_str-3.ensures.value) c.in_ok-name.ensures.printable
