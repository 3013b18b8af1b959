use Rattle.role_expand.proofs.RankLemmas.{falls_from_tops}
use Rattle.role_expand.proofs.ranks.slack_of.Goals as goal

pub returns-then-all_fall : goal.returns-then-all_fall
returns-then-all_fall c = (
  c.in_ok-slack.ensures,
  falls_from_tops c.args.marks.now c.args.ranks.now c.in_ok-slack.slack.items c.in_ok-above.above.items c.in_ok-below.below.items c.requires.rising c.in_ok-above.ensures.len c.in_ok-above.ensures.tops c.in_ok-below.ensures.tops
      (rw (c.deref-3.ensures.value, c.deref-4.ensures.value, c.deref-5.ensures.value) at c.all_fall.ensures c.if-all_fall.true),
)
