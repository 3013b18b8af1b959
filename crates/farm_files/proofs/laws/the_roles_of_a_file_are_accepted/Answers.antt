use Rattle.farm_files.proofs.AcceptLemmas.{accepted}
use Rattle.farm_files.proofs.laws.the_roles_of_a_file_are_accepted.Goals as goal

pub returns : goal.returns
returns c = accepted
