use Rattle.disk_journal.proofs.WalkLemmas.{opens_or_damaged}
use Rattle.disk_journal.proofs.laws.each_file_opens_or_is_damaged.Goals as goal

pub returns : goal.returns
returns c = opens_or_damaged
