use Rattle.jsone_eval.proofs.PieceLemmas.{text_found, no_text}
use Rattle.jsone_eval.proofs.pieces.text_at.Goals as goal

pub returns-in-Ok : goal.returns-in-Ok
returns-in-Ok c = text_found c.args.text.now c.bytes_at.result.now c.in-Ok.found.now c.args.place c.bytes_at.ensures c.in-Ok.ensures.cases.0 c.in-Ok.ensures.cases.1

pub returns-in-Err : goal.returns-in-Err
returns-in-Err c = no_text c.args.text.now c.bytes_at.result.now c.args.place c.bytes_at.ensures c.in-Err.ensures.cases.0
