use Rattle.std.proofs.Common.{arith}
use Rattle.task_defs.proofs.LengthLemmas.{quoted_size}
use Rattle.task_defs.proofs.lengths.text_bytes.Goals as goal

pub returns-clause-text : goal.returns-clause-text
returns-clause-text c within = omega (arith, quoted_size c.args.text.now, c.saturating_mul.ensures, c.saturating_add.ensures)
