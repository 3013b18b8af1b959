use Rattle.std.proofs.Common.{◌≡◌, List, ℕ, All, ◌++◌, map, codes, sym, ap, ◌∙◌, subst}
use Rattle.std.proofs.lemmas.List.{append_assoc}
use Rattle.scope_sets.specs.Scopes.{IsPrintable}
use Rattle.scope_sets.specs.Expressions.{Expression, view, one, all_of, any_of, members_of}
use Rattle.scope_sets.proofs.ExpressionLemmas.{view-AllOf, view-AnyOf}
use Rattle.scope_sets.specs.declared.expressions.Expr.{Expr}
use Rattle.call_rules.specs.Policy.{create_scope, from_highest}
use Rattle.call_rules.proofs.PolicyLemmas.{project_printable, view-One}
use Rattle.call_rules.proofs.PriorityLemmas.{three_more}
use Rattle.call_rules.proofs.create.create_policy.Goals as goal

pub scope_of-requires-clause-rest : goal.scope_of-requires-clause-rest
scope_of-requires-clause-rest c = subst (All IsPrintable) (sym c.as_str.ensures.value) (project_printable _ c.as_str.ensures.form)

pub returns : goal.returns
returns c =
    let def = c.args.def.now in
    let route : List ℕ → Expression = λ r. one (codes "queue:route:" ++ r) in
    let least : Expression = any_of (members_of (map (λ p. one (create_scope def.queue p)) (from_highest def.priority))) in
    let lists : map view c.add_routes.new.members.items ≡ map one def.scopes ++ map route def.routes =
    c.in_ok-add_routes.ensures ∙ ap (λ (es : List Expression). es ++ map route c.list-2.result.now) (c.in_ok-add_scopes.ensures ∙ ap (λ (es : List Expr). map view es ++ map one c.list.result.now) c.new-members.ensures.items)
    ∙ ap (λ (xs : List (List ℕ)). map one xs ++ map route c.list-2.result.now) c.list.ensures ∙ ap (λ (xs : List (List ℕ)). map one def.scopes ++ map route xs) c.list-2.ensures in
    let project = view-One _ ∙ ap one (c.in_ok-project.ensures ∙ ap (λ (t : List ℕ). codes "queue:create-task:project:" ++ t) c.as_str.ensures.value) in
    let scheduler = view-One _ ∙ ap one (c.in_ok-scheduler.ensures ∙ ap (λ (t : List ℕ). codes "queue:scheduler-id:" ++ t) c.as_str-2.ensures.value) in
    let priority = view-AnyOf _ ∙ ap (λ (es : List Expression). any_of (members_of es)) c.in_ok-create_scopes.ensures in
    view-AllOf c.push-3.new.self
    ∙ ap (λ (es : List Expression). all_of (members_of es))
    (three_more _ _ _ _ _ _ _ (map one def.scopes ++ map route def.routes) _ _ least lists c.in_ok-push.ensures.items c.in_ok-push-2.ensures.items c.in_ok-push-3.ensures.items project scheduler priority
    ∙ append_assoc (map one def.scopes) (map route def.routes) _)
