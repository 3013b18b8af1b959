use Rattle.std.proofs.Common.{All, sym, ◌∙◌, subst}
use Rattle.farm_text.specs.Slug.{IsUuid4}
use Rattle.scope_sets.specs.Scopes.{IsPrintable}
use Rattle.call_rules.proofs.PolicyLemmas.{slug_printable}
use Rattle.call_rules.proofs.manage.task_name.Goals as goal

pub joined-requires-clause-front : goal.joined-requires-clause-front
joined-requires-clause-front c =
    subst (All IsPrintable) (sym (c.as_str.ensures ∙ c.in_ok-group.ensures))
    (slug_printable c.args.def.now.task_group_id (subst IsUuid4 c.uuid-group_uuid.ensures.value c.uuid-group_uuid.ensures.valid))

pub joined-requires-clause-rest : goal.joined-requires-clause-rest
joined-requires-clause-rest c =
    subst (All IsPrintable) (sym (c.as_str-2.ensures ∙ c.in_ok-task.ensures))
    (slug_printable c.args.id (subst IsUuid4 c.uuid-uuid.ensures.value c.uuid-uuid.ensures.valid))
