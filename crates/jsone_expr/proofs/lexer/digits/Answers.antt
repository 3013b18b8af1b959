use Rattle.std.proofs.Common.{arith}
use Rattle.std.proofs.lemmas.List.Sums.{prefix_len-le-length}
use Rattle.std.specs.Char.{is_ascii_digit}
use Rattle.jsone_expr.proofs.LexLemmas.{digits_longest}
use Rattle.jsone_expr.proofs.lexer.digits.Goals as goal

pub overflow_add-result : goal.overflow_add-result
overflow_add-result c = let short = prefix_len-le-length is_ascii_digit c.args.bytes.now in omega (arith, c.digits_len-len.ensures, c.requires.room)

pub returns : goal.returns
returns c = digits_longest c.args.at c.args.bytes.now c.digits_len-len.result c.requires.begins c.requires.digit c.digits_len-len.ensures
