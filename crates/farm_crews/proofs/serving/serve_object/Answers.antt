use Rattle.farm_crews.proofs.ServesLemmas.{NeverServed-lack, ServesAll-never}
use Rattle.farm_crews.proofs.serving.serve_object.Goals as goal

-- workers are lacking
pub returns-in-Err-clause-serves : goal.returns-in-Err-clause-serves
returns-in-Err-clause-serves g c = ServesAll-never _ _ _ _ _ _ _ _ _ (NeverServed-lack _ _ _ c.in-Err.lack _ c.in-Err.ensures.cause c.in-Err.ensures.spared c.status.ensures)
