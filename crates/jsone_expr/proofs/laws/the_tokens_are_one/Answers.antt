use Rattle.jsone_expr.proofs.TextLemmas.{one_list}
use Rattle.jsone_expr.proofs.laws.the_tokens_are_one.Goals as goal

pub returns : goal.returns
returns c text ps qs a b = one_list text 0 ps qs a b
