use Rattle.disk_journal.proofs.LawLemmas.{opens_one, opens_whole, damaged_one, behind_one}
use Rattle.disk_journal.proofs.laws.files_open_once.Goals as goal

pub returns : goal.returns
returns c = record { bodies = opens_one; place = damaged_one; before = behind_one; whole = opens_whole }
