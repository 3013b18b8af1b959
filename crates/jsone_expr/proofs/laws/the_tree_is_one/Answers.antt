use Rattle.jsone_expr.proofs.Complete.{one_tree}
use Rattle.jsone_expr.proofs.laws.the_tree_is_one.Goals as goal

pub returns : goal.returns
returns c = one_tree
