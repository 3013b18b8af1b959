use Rattle.std.proofs.Common.{inr, refl, sym, ◌∙◌}
use Rattle.farm_text.proofs.DocLemmas.{members_in}
use Rattle.jsone_render.specs.Answers.{names_in}
use Rattle.jsone_render.proofs.FormLemmas.{with_words, without_words}
use Rattle.jsone_render.proofs.forms.with_other.Goals as goal

pub returns-in-None : goal.returns-in-None
returns-in-None c = inr (c.in-None.ensures, refl)

pub returns-then-has_words : goal.returns-then-has_words
returns-then-has_words c =
    with_words c.args.operator c.args.key.now (names_in c.in-Some.names) (members_in c.args.members.now.entries) c.in-Some.ensures (sym c.has_words.ensures ∙ c.if-has_words.true)

pub returns-else-has_words : goal.returns-else-has_words
returns-else-has_words c =
    without_words c.args.operator c.args.key.now (names_in c.in-Some.names) (members_in c.args.members.now.entries) c.in-Some.ensures (sym c.has_words.ensures ∙ c.if-has_words.false)
