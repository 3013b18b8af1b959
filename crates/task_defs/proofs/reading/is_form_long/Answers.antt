use Rattle.std.proofs.Common.{ℕ, List, ◌<◌, ◌↔◌, length, ◌∙◌, subst}
use Rattle.std.specs.Prelude.{IsTrue}
use Rattle.task_defs.proofs.DefinitionLemmas.{form_long}
use Rattle.task_defs.proofs.reading.is_form_long.Goals as goal

pub returns : goal.returns
returns c =
    let of = c.in_ok-full.ensures in
    form_long c.args.def.now of.full c.is_long.result of.form
    (subst (λ (t : List ℕ). IsTrue c.is_long.result ↔ (8388608 < length t)) (c.as_str.ensures ∙ of.spelled) c.is_long.ensures)
