use Rattle.farm_files.proofs.FirstFaultLemmas.{says_or_breaks}
use Rattle.farm_files.proofs.laws.a_file_says_or_breaks.Goals as goal

pub returns : goal.returns
returns c = λ longest bytes neither. says_or_breaks longest bytes neither.0 neither.1
