use Rattle.std.proofs.Common.{Err, ap, sym, subst, ◌∙◌}
use Rattle.farm_text.specs.Doc.{document}
use Rattle.farm_text.proofs.DocLemmas.{members_in}
use Rattle.jsone_eval.specs.Scopes.{scopes_of}
use Rattle.jsone_render.specs.declared.faults.RenderFault.{RenderFault}
use Rattle.jsone_render.specs.Answers.{IsAnswer, found_in}
use Rattle.jsone_render.specs.Templates.{IsRendered}
use Rattle.jsone_render.proofs.ContextLemmas.{only_scope, no_context, bad_names, template_found}
use Rattle.jsone_render.proofs.rendering.render.Goals as goal

pub returns-in_default : goal.returns-in_default
returns-in_default c =
    let template = document c.args.template.now in
    let context = document c.args.context.now in
    subst (λ (f : RenderFault). IsAnswer (IsRendered template context) (Err f)) (sym c.here.ensures) (no_context template context c.in_default.ensures)

pub returns-then-not-are_names : goal.returns-then-not-are_names
returns-then-not-are_names c =
    let template = document c.args.template.now in
    let context = document c.args.context.now in
    subst (λ (f : RenderFault). IsAnswer (IsRendered template context) (Err f)) (sym c.here-then-not-are_names.ensures)
    (bad_names template context (members_in c.in-Some.names.now.entries) c.in-Some.ensures (sym c.are_names.ensures ∙ c.if-not-are_names.true))

pub returns-in-Ok : goal.returns-in-Ok
returns-in-Ok c =
    template_found (document c.args.template.now) (document c.args.context.now) (document c.or_null.result) (members_in c.in-Some.names.now.entries) (scopes_of c.new.result) c.new-2.result.spent c.value.new.self.cost.spent (found_in c.in-Ok.found)
    c.in-Some.ensures (sym c.are_names.ensures ∙ c.if-not-are_names.false) (only_scope c.new.result (document c.args.context.now) (ap document c.new.ensures.outermost) c.new.ensures.bindings) c.new-2.ensures c.in-Ok.ensures.answers c.or_null.ensures
