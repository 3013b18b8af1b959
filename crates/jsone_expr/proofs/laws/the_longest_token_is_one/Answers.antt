use Rattle.jsone_expr.proofs.TextLemmas.{one_longest}
use Rattle.jsone_expr.proofs.laws.the_longest_token_is_one.Goals as goal

pub returns : goal.returns
returns c = one_longest
