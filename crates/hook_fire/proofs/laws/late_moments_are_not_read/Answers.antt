use Rattle.hook_fire.proofs.LateLemmas.{late_is_unread}
use Rattle.hook_fire.proofs.laws.late_moments_are_not_read.Goals as goal

pub returns : goal.returns
returns c = λ moment text late written read. late_is_unread moment text late written read.0 read.1
