use Rattle.jsone_expr.proofs.TextLemmas.{one_text_tree}
use Rattle.jsone_expr.proofs.laws.the_tree_of_a_text_is_one.Goals as goal

pub returns : goal.returns
returns c = one_text_tree
