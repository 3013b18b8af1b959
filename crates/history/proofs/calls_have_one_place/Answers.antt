use Rattle.history.proofs.HistoriesLemmas.{calls_of-exactly, calls_of-rise}
use Rattle.history.proofs.calls_have_one_place.Goals as goal

pub returns : goal.returns
returns g c = record {
  exact = calls_of-exactly g.M.Machine.rules;
  rising = calls_of-rise g.M.Machine.rules 0;
}
