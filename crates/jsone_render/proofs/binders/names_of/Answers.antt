use Rattle.std.proofs.Common.{sym, ◌∙◌}
use Rattle.jsone_render.specs.Answers.{names_in}
use Rattle.jsone_render.specs.Names.{between_commas}
use Rattle.jsone_render.proofs.BinderLemmas.{binds_so, binds_nothing}
use Rattle.jsone_render.proofs.binders.names_of.Goals as goal

pub returns-in-None : goal.returns-in-None
returns-in-None c = λ names b. c.in-None.ensures (between_commas names) b.spelled

pub returns-then-can_bind : goal.returns-then-can_bind
returns-then-can_bind c =
    binds_so c.args.word.now c.args.key.now c.in-Some.inside.now (names_in c.cut-names.result) c.in-Some.ensures c.cut-names.ensures.spelled (sym c.can_bind.ensures ∙ c.if-can_bind.true)

pub returns-else-can_bind : goal.returns-else-can_bind
returns-else-can_bind c =
    binds_nothing c.args.word.now c.args.key.now c.in-Some.inside.now (names_in c.cut-names.result) c.in-Some.ensures c.cut-names.ensures.only (sym c.can_bind.ensures ∙ c.if-can_bind.false)
