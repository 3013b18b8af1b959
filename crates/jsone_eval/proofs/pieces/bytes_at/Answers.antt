use Rattle.jsone_eval.proofs.PieceLemmas.{cut_is}
use Rattle.jsone_eval.proofs.pieces.bytes_at.Goals as goal

pub returns : goal.returns
returns c = cut_is c.args.text.now c.args.place.from c.args.place.to c.min-to.result c.min-from.result c.min-to.ensures c.min-from.ensures
