use Rattle.std.proofs.Common.{Err, ap}
use Rattle.jsone_render.proofs.EvaluationLemmas.{bad_tree}
use Rattle.jsone_render.proofs.found.find.Goals as goal

pub returns-in-Err-Syntax : goal.returns-in-Err-Syntax
returns-in-Err-Syntax c = bad_tree c.args.source.now c.in-Err-Syntax.field-0-0 (c.in-Err-Syntax.ensures.syntax c.in-Err-Syntax.field-0-0 (ap Err c.in-Err-Syntax.field-0-is))
