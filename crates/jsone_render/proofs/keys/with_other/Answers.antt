use Rattle.jsone_render.proofs.KeyLemmas.{one_then, more_then}
use Rattle.jsone_render.proofs.keys.with_other.Goals as goal

pub returns-in-One : goal.returns-in-One
returns-in-One c = one_then c.args.others c.in-One.field-0 c.args.key.now c.in-One.is

pub returns-in-More : goal.returns-in-More
returns-in-More c = more_then c.args.others c.args.key.now c.in-More.is
