use Rattle.std.proofs.Common.{sym, ◌∙◌}
use Rattle.std.proofs.lemmas.Map.Lookups.{exact_bytes, exact_unsigned}
use Rattle.jsone_render.proofs.OrderLemmas.{begins}
use Rattle.jsone_render.proofs.order.order.Goals as goal

pub returns-in-Equal : goal.returns-in-Equal
returns-in-Equal c = λ equal.
    begins c.args.text.now c.args.bytes.now c.split_at.result.0.now c.split_at.result.1.now c.split_at-2.result.0.now c.split_at-2.result.1.now c.min-shared.result
    c.split_at.ensures.by_index.0 c.split_at-2.ensures.by_index.0 c.split_at.ensures.back_len c.min-shared.ensures
    (exact_bytes _ _ (sym c.cmp.ensures ∙ c.in-Equal.is))
    (sym c.first_or_curly.ensures ∙ exact_unsigned _ _ (sym c.cmp-in-Equal.ensures ∙ equal) ∙ c.first_or_curly-in-Equal.ensures)
