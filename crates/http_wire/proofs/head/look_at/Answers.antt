use Rattle.http_wire.proofs.HeadLemmas.{short_open, large_open}
use Rattle.http_wire.proofs.head.look_at.Goals as goal

pub returns-in-Open : goal.returns-in-Open
returns-in-Open c = (
  c.if-held-lt-HEAD_LIMIT.true,
  short_open c.args.held.now c.min.result c.lines_end-lines.result c.min.ensures c.if-held-lt-HEAD_LIMIT.true
      c.lines_end-lines.ensures.within c.lines_end-lines.ensures.last c.in-Open.ensures,
)

pub returns-in-Open-2 : goal.returns-in-Open-2
returns-in-Open-2 c = (
  c.if-held-lt-HEAD_LIMIT.false,
  large_open c.args.held.now c.min.result c.lines_end-lines.result c.min.ensures c.if-held-lt-HEAD_LIMIT.false
      c.lines_end-lines.ensures.within c.lines_end-lines.ensures.last c.in-Open.ensures,
)
