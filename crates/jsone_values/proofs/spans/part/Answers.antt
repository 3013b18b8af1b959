use Rattle.std.proofs.Common.{◌≡◌, length, rules, arith, sym, ◌∙◌, ◌==◌}
use Rattle.std.proofs.lemmas.Bool.Decides.{nat_tests}
use Rattle.jsone_values.proofs.SpanLemmas.{no_digits, this_unit, other_unit, no_unit, rest_of_part}
use Rattle.jsone_values.proofs.spans.part.Goals as goal

pub returns-then-is_empty : goal.returns-then-is_empty
returns-then-is_empty c =
    let none : length c.leading_digits.result.0.now ≡ 0 = grind (arith, nat_tests) in
    no_digits c.args.unit c.args.bytes.now c.leading_digits.result.0.now c.leading_digits.ensures.front none

pub returns-then-size-unit : goal.returns-then-size-unit
returns-then-size-unit c =
    let some : length c.leading_digits.result.0.now ≡ 0 → ⊥ = grind (arith, nat_tests) in (
      this_unit c.args.unit c.in-Some.size c.args.bytes.now c.leading_digits.result.0.now c.leading_digits.result.1.now c.unspaced.result.now c.leading_word.result.0.now c.unit_of.result
          c.leading_digits.ensures.front c.leading_digits.ensures.behind c.unspaced.ensures c.leading_word.ensures.front some c.unit_of.ensures c.in-Some.is c.if-size-unit.true,
      search rules,
      rest_of_part c.args.bytes.now c.leading_digits.result.1.now c.unspaced.result.now c.leading_word.result.1.now c.leading_digits.ensures.behind c.unspaced.ensures c.leading_word.ensures.behind,
    )

pub returns-else-size-unit : goal.returns-else-size-unit
returns-else-size-unit c =
    let some : length c.leading_digits.result.0.now ≡ 0 → ⊥ = grind (arith, nat_tests) in
    other_unit c.args.unit c.in-Some.size c.args.bytes.now c.leading_digits.result.0.now c.leading_digits.result.1.now c.unspaced.result.now c.leading_word.result.0.now c.unit_of.result
    c.leading_digits.ensures.front c.leading_digits.ensures.behind c.unspaced.ensures c.leading_word.ensures.front some c.unit_of.ensures c.in-Some.is c.if-size-unit.false

pub returns-in-None : goal.returns-in-None
returns-in-None c =
    let some : length c.leading_digits.result.0.now ≡ 0 → ⊥ = grind (arith, nat_tests) in
    no_unit c.args.unit c.args.bytes.now c.leading_digits.result.0.now c.leading_digits.result.1.now c.unspaced.result.now c.leading_word.result.0.now c.unit_of.result
    c.leading_digits.ensures.front c.leading_digits.ensures.behind c.unspaced.ensures c.leading_word.ensures.front some c.unit_of.ensures c.in-None.is
