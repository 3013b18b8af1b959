-- A record is short enough for a frame.
use Rattle.farm_core.proofs.asking.framed_record.Goals as goal

pub frame-requires : goal.frame-requires
frame-requires c = let some = c.in-Some.ensures in c.records_are_short.ensures some.0 c.in-Some.text.now some.2
