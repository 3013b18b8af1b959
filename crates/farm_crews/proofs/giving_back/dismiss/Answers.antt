use Rattle.std.proofs.Common.{refl}
use Rattle.farm_crews.proofs.giving_back.dismiss.Goals as goal

pub returns-clause-lends : goal.returns-clause-lends
returns-clause-lends g c = (
  c.take_first-door.result,
  c.take_first-door.new.row.items,
  c.take_first-door.ensures,
  rw (c.give_doors_back.ensures.lends, c.back_listen.ensures.lends, c.back_draws.ensures.lends, c.back_clock.ensures.lends) refl,
)
