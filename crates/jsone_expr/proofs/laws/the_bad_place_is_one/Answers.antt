use Rattle.jsone_expr.proofs.Readings.{one_bad_place}
use Rattle.jsone_expr.proofs.laws.the_bad_place_is_one.Goals as goal

pub returns : goal.returns
returns c = one_bad_place
