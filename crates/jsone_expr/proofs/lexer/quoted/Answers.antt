use Rattle.std.proofs.Common.{◌==◌, slice_index, sym, ap, ◌∙◌}
use Rattle.std.specs.List.{position}
use Rattle.jsone_expr.proofs.LexLemmas.{quoted_longest, quoted_none, rest_is}
use Rattle.jsone_expr.proofs.lexer.quoted.Goals as goal

pub returns-in-Some : goal.returns-in-Some
returns-in-Some c =
    let place = ap (position (λ b. b == slice_index c.args.bytes.now 0)) (sym (rest_is 1 c.args.bytes.now)) ∙ sym c.place_of.ensures ∙ c.in-Some.is in
    quoted_longest c.args.at c.args.bytes.now c.in-Some.len c.requires.begins c.requires.no_digit c.requires.quote place

pub returns-in-None : goal.returns-in-None
returns-in-None c =
    let place = ap (position (λ b. b == slice_index c.args.bytes.now 0)) (sym (rest_is 1 c.args.bytes.now)) ∙ sym c.place_of.ensures ∙ c.in-None.is in
    quoted_none c.args.at c.args.bytes.now c.requires.begins c.requires.no_digit c.requires.quote place
