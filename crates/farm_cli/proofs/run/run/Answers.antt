use Rattle.std.proofs.Common.{refl}
use Rattle.farm_cli.proofs.HomeLemmas.{AllHome-from_run}
use Rattle.farm_cli.proofs.RunLemmas.{Ran-notes}
use Rattle.farm_cli.proofs.RunsLemmas.{Runs-from_run}
use Rattle.farm_cli.proofs.run.run.Goals as goal

-- the run, and then what was told to notes
pub returns-clause-runs : goal.returns-clause-runs
returns-clause-runs g c =
    let others = c.tell.ensures.others in
    Runs-from_run _ _ _ _ _ _ _ c.a_record_is_of_one_change.ensures (rw (c.status.ensures, c.tell.ensures.refusals)
    (Ran-notes _ _ (g.H.House.lends c.perform-ended.new.house) _ _ _ _ _ (rw others refl) (record { disk = rw others refl; console = rw others refl; clock = rw others refl; draws = rw others refl; doors = rw others refl }) c.perform-ended.ensures.ran))

pub returns-clause-home : goal.returns-clause-home
returns-clause-home g c = AllHome-from_run _ _ _ _ _ _ _ (returns-clause-runs g c).ran (rw (← c.status.ensures, c.perform-ended.ensures.notes) at c.tell.ensures.told)
