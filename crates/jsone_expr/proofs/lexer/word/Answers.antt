use Rattle.std.proofs.Common.{sym, subst}
use Rattle.jsone_expr.specs.Tokens.{IsLongest}
use Rattle.jsone_expr.proofs.LexLemmas.{word_longest}
use Rattle.jsone_expr.proofs.lexer.word.Goals as goal

pub returns : goal.returns
returns c =
    let l = word_longest c.args.at c.args.bytes.now c.word_len-len.result c.requires.begins c.requires.no_digit c.requires.no_quote c.requires.letter c.word_len-len.ensures in
    subst (λ t. IsLongest c.args.at c.args.bytes.now t c.word_len-len.result) (sym c.word_token.ensures) l
