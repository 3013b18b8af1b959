-- A tick is replayed by itself, and any other change as one of the tasks.
use Rattle.std.proofs.Common.{sym, ◌∙◌}
use Rattle.std.specs.declared.alloc.AllocError.{AllocError}
use Rattle.farm_machine.proofs.ReplayLemmas.{tried-tick, tried-change}
use Rattle.farm_machine.proofs.replay.replay.Goals as goal

pub returns-then-is_tick : goal.returns-then-is_tick
returns-then-is_tick c =
    tried-tick AllocError c.args.tables.now c.args.change c.replay_tick.result c.replay_tick.new.tables (sym c.is_tick.ensures ∙ c.if-is_tick.true) c.replay_tick.ensures

pub returns : goal.returns
returns c =
    tried-change c.args.tables.now c.args.change c.replay_change.result c.replay_change.new.tables (sym c.is_tick.ensures ∙ c.if-is_tick.false) c.replay_change.ensures
