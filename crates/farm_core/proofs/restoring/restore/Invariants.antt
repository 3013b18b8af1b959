-- So many bodies were replayed.
use Rattle.std.proofs.Common.{take}
use Rattle.disk_journal.specs.Opened.{opened_bodies}
use Rattle.farm_core.specs.Opened.{Replays}
use Rattle.farm_core.proofs.restoring.restore.Given as goal

abbrev pub invariant-loop-index : goal.invariant-loop-index
invariant-loop-index l = Replays (take l.index (opened_bodies l.bodies)) l.tables
