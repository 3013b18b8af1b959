use Rattle.std.proofs.Common.{sym, ◌∙◌, arith}
use Rattle.jsone_expr.proofs.LexLemmas.{NoTwo, two_longest, one_longest, symbol_none, none_is}
use Rattle.jsone_expr.proofs.lexer.longest_symbol.Goals as goal
use Rattle.jsone_expr.proofs.lexer.longest_symbol.Goals.{then-bytes-ge2+in_default, else-bytes-ge2}

pub returns-in-Some : goal.returns-in-Some
returns-in-Some c = two_longest c.args.at c.args.bytes.now c.in-Some.token c.if-bytes-ge2.true c.requires.no_digit c.requires.no_quote c.requires.no_letter (sym c.symbol.ensures ∙ c.in-Some.is)

pub returns-in-Some-symbol : goal.returns-in-Some-symbol
returns-in-Some-symbol c =
    let found = sym c.symbol-2.ensures ∙ c.in-Some-symbol.is in
    let none : NoTwo c.args.bytes.now = elim c.if-bytes-ge2.branch [
      | then-bytes-ge2+in_default w ↦ λ long. sym w.symbol.ensures ∙ none_is w.symbol.result w.in_default.not-Some
      | else-bytes-ge2 w ↦ λ long. absurd (omega arith)
    ] in
    one_longest c.args.at c.args.bytes.now c.in-Some-symbol.token c.requires.begins c.requires.no_digit c.requires.no_quote c.requires.no_letter none found

pub returns-in-None : goal.returns-in-None
returns-in-None c =
    let found = sym c.symbol-2.ensures ∙ c.in-None.is in
    let none : NoTwo c.args.bytes.now = elim c.if-bytes-ge2.branch [
      | then-bytes-ge2+in_default w ↦ λ long. sym w.symbol.ensures ∙ none_is w.symbol.result w.in_default.not-Some
      | else-bytes-ge2 w ↦ λ long. absurd (omega arith)
    ] in
    symbol_none c.args.at c.args.bytes.now c.requires.begins c.requires.no_digit c.requires.no_quote c.requires.no_letter none found
