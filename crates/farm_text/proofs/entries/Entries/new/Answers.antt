use Rattle.std.proofs.Common.{rules}
use Rattle.farm_text.specs.Entries.{held}
use Rattle.farm_text.proofs.entries.Entries.new.Goals as goal

pub returns : goal.returns
unfolding held
returns c = search rules
