use Rattle.task_index.specs.Sweep.{numbered}
use Rattle.farm_rows.proofs.StepLemmas.{turn-is}
use Rattle.farm_rows.proofs.turns.turn.Goals as goal

pub returns-clause-turn : goal.returns-clause-turn
returns-clause-turn c =
    turn-is (numbered c.args.rows.now c.args.number) c.resolve_first-drawn.new.rows c.settle.new.rows c.args.number c.args.at c.resolve_first-drawn.result c.settle.result
    c.resolve_first-drawn.ensures.turn c.settle.ensures.rows c.settle.ensures.drawn
