use Rattle.jsone_expr.proofs.TextLemmas.{one_bad_byte, tree_or_bad}
use Rattle.jsone_expr.proofs.laws.the_bad_place_of_a_text_is_one.Goals as goal

pub returns-clause-one : goal.returns-clause-one
returns-clause-one c = one_bad_byte

pub returns-clause-no_tree : goal.returns-clause-no_tree
returns-clause-no_tree c = tree_or_bad
