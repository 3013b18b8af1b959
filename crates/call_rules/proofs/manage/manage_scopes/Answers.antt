use Rattle.std.proofs.Common.{List, ℕ, All, ◌++◌, sym, ap, ◌∙◌, subst}
use Rattle.scope_sets.specs.Scopes.{IsPrintable}
use Rattle.scope_sets.specs.Expressions.{Expression, one, any_of, members_of}
use Rattle.scope_sets.proofs.ExpressionLemmas.{view-AnyOf}
use Rattle.call_rules.proofs.PolicyLemmas.{project_printable, view-One, two_members}
use Rattle.call_rules.proofs.manage.manage_scopes.Goals as goal

pub scope_of-requires-clause-rest : goal.scope_of-requires-clause-rest
scope_of-requires-clause-rest c = subst (All IsPrintable) (sym c.as_str.ensures.value) c.in_ok-name.ensures.printable

pub scope_of-requires-2-clause-rest : goal.scope_of-requires-2-clause-rest
scope_of-requires-2-clause-rest c = subst (All IsPrintable) (sym c.as_str-2.ensures.value) (project_printable _ c.as_str-2.ensures.form)

pub returns : goal.returns
returns c =
    view-AnyOf c.push-2.new.self
    ∙ ap (λ (es : List Expression). any_of (members_of es))
    (two_members _ _ _ _ _ _ _ c.new-members.ensures.items c.in_ok-push.ensures.items c.in_ok-push-2.ensures.items
    (view-One _ ∙ ap one (c.in_ok-task.ensures ∙ ap (λ (t : List ℕ). c.args.task.now ++ t) (c.as_str.ensures.value ∙ c.in_ok-name.ensures.name)))
    (view-One _ ∙ ap one (c.in_ok-project.ensures ∙ ap (λ (t : List ℕ). c.args.project.now ++ t) c.as_str-2.ensures.value)))
