use Rattle.std.proofs.Common.{◌≡◌, true, false, sym, ◌∙◌, ap, option_map, is_some, arith}
use Rattle.std.proofs.lemmas.Bool.{leb-true, le-leb}
use Rattle.task_index.proofs.QueueRoomLemmas.{held-free, known-held, held-known}
use Rattle.task_index.proofs.queues.held.may_hold.Goals as goal

pub returns-then-eq : goal.returns-then-eq
returns-then-eq c = (
  λ yes_.
      let spare = leb-true 1 c.spare.result yes_ in
      (held-free c.args.pending.now c.args.row (sym c.holds.ensures ∙ known-held c.holds.result _ (sym c.eq.ensures ∙ c.if-eq.true)), omega (arith, spare, c.spare.ensures)),
  λ may. let spare = may.1 in le-leb 1 c.spare.result (omega (arith, spare, c.spare.ensures)),
)

pub returns-else-eq : goal.returns-else-eq
returns-else-eq c = (
  λ yes_. absurd (cc),
  λ may.
      let known = held-known c.holds.result _ (c.holds.ensures ∙ ap (option_map is_some) may.0) in
      let both : true ≡ false = sym known ∙ (sym c.eq.ensures ∙ c.if-eq.false) in
      absurd (cc),
)
