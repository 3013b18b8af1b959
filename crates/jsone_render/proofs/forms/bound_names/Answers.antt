use Rattle.std.proofs.Common.{sym, ◌∙◌}
use Rattle.jsone_render.specs.Answers.{names_in}
use Rattle.jsone_render.proofs.FormLemmas.{not_bound, bound_so, not_taken}
use Rattle.jsone_render.proofs.forms.bound_names.Goals as goal

pub returns-in-None : goal.returns-in-None
returns-in-None c = not_bound c.args.operator c.binding_word.result.now c.args.key.now c.binding_word.ensures c.in-None.ensures

pub returns-then-takes_names : goal.returns-then-takes_names
returns-then-takes_names c =
    bound_so c.args.operator c.binding_word.result.now c.args.key.now (names_in c.in-Some.names) c.binding_word.ensures c.in-Some.ensures (sym c.takes_names.ensures ∙ c.if-takes_names.true)

pub returns-else-takes_names : goal.returns-else-takes_names
returns-else-takes_names c =
    not_taken c.args.operator c.binding_word.result.now c.args.key.now (names_in c.in-Some.names) c.binding_word.ensures c.in-Some.ensures (sym c.takes_names.ensures ∙ c.if-takes_names.false)
