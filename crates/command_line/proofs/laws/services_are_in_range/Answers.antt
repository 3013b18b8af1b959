use Rattle.command_line.proofs.RangeLemmas.{service_in_range}
use Rattle.command_line.proofs.laws.services_are_in_range.Goals as goal

pub returns : goal.returns
returns c = service_in_range
