use Rattle.std.proofs.lemmas.Str.{IsUtf8-from_ascii}
use Rattle.farm_text.proofs.MomentLemmas.{IsMomentText-ascii}
use Rattle.farm_text.proofs.moment.Moment.write_to.Goals as goal

pub unreachable-requires : goal.unreachable-requires
unreachable-requires c = c.in_default.ensures.cases.0 (IsUtf8-from_ascii _ (IsMomentText-ascii c.args.self _ c.write_moment-bytes.ensures))
