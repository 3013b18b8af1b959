use Rattle.farm_bulk.proofs.ReplyLemmas.{IsLastLine-behind}
use Rattle.farm_bulk.proofs.replies.last_line.Goals as goal

pub returns : goal.returns
returns c = IsLastLine-behind c.args.text.now c.in_ok-place.place c.in_ok-place.ensures
