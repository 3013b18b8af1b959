use Rattle.std.proofs.Common.{All, sym, ◌∙◌, subst, arith}
use Rattle.farm_text.specs.Slug.{IsUuid4}
use Rattle.scope_sets.specs.Scopes.{IsPrintable}
use Rattle.call_rules.proofs.PolicyLemmas.{slug_printable, decimal_printable}
use Rattle.call_rules.proofs.work.run_name.Goals as goal

pub joined-requires-clause-front : goal.joined-requires-clause-front
joined-requires-clause-front c =
    subst (All IsPrintable) (sym (c.as_str.ensures ∙ c.in_ok-name.ensures))
    (slug_printable c.args.id (subst IsUuid4 c.uuid-uuid.ensures.value c.uuid-uuid.ensures.valid))

pub joined-requires-clause-rest : goal.joined-requires-clause-rest
joined-requires-clause-rest c = subst (All IsPrintable) (sym c.format.ensures.text) (decimal_printable c.args.run (omega arith))
