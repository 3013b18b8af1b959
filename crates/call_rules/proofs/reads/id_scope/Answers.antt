use Rattle.std.proofs.Common.{List, ℕ, All, sym, ap, ◌∙◌, ◌++◌, subst}
use Rattle.farm_text.specs.Slug.{IsUuid4}
use Rattle.scope_sets.specs.Scopes.{IsPrintable}
use Rattle.scope_sets.specs.Expressions.{one}
use Rattle.call_rules.proofs.PolicyLemmas.{slug_printable, view-One}
use Rattle.call_rules.proofs.reads.id_scope.Goals as goal

pub scope_of-requires-clause-rest : goal.scope_of-requires-clause-rest
scope_of-requires-clause-rest c =
    subst (All IsPrintable) (sym (c.as_str.ensures ∙ c.in_ok-name.ensures))
    (slug_printable c.args.id (subst IsUuid4 c.uuid-uuid.ensures.value c.uuid-uuid.ensures.valid))

pub returns : goal.returns
returns c = view-One _ ∙ ap one (c.in_ok-scope_of.ensures ∙ ap (λ (t : List ℕ). c.args.front.now ++ t) (c.as_str.ensures ∙ c.in_ok-name.ensures))
