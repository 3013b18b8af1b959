use Rattle.farm_bulk.proofs.ReplyLemmas.{IfOk-told}
use Rattle.farm_bulk.proofs.replies.read_claim.Goals as goal

pub returns-in-Ok : goal.returns-in-Ok
returns-in-Ok c = IfOk-told c.args.written.now _ _ c.claimed_in.result c.in-Some.ensures c.in-Ok.ensures.document c.claimed_in.ensures
