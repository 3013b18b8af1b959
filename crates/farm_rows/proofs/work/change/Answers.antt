use Rattle.farm_rows.proofs.ChangeLemmas.{change-made-is}
use Rattle.farm_rows.proofs.work.change.Goals as goal

pub returns-clause-settled : goal.returns-clause-settled
returns-clause-settled c =
    change-made-is c.args.rows.now c.make-drawn.new.rows c.settle.new.rows c.args.number c.args.at c.make-drawn.result c.settle.result c.args.deed.now
    c.make-drawn.ensures.rows c.make-drawn.ensures.drawn c.settle.ensures.rows c.settle.ensures.drawn
