use Rattle.farm_files.specs.Files.{Breaks}
use Rattle.farm_files.proofs.FarmLemmas.{first_one, says_one}
use Rattle.farm_files.proofs.laws.a_file_says_one_thing.Goals as goal

pub returns-clause-farm : goal.returns-clause-farm
returns-clause-farm c = says_one

pub returns-clause-fault : goal.returns-clause-fault
returns-clause-fault c = λ longest bytes f g p q. first_one (Breaks longest bytes) f g p q

pub returns-clause-either : goal.returns-clause-either
returns-clause-either c = λ longest bytes a f says first. says.sound f first.breaks
