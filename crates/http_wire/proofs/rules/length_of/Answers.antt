use Rattle.std.proofs.Common.{◌≡◌, get_or, sym, arith}
use Rattle.std.specs.Char.{is_ascii_digit, digit_value}
use Rattle.std.proofs.lemmas.Bool.Decides.{nat_tests}
use Rattle.std.proofs.lemmas.Int.Digits.{digits_value_more}
use Rattle.http1.proofs.TextLemmas.{list_all_more}
use Rattle.http_wire.proofs.rules.length_of.Goals as goal

pub loop-digit-preserved : goal.loop-digit-preserved
loop-digit-preserved c =
    let digit : digit_value (get_or c.args.value.now c.loop-digit.digit-index 0) ≡ c.from.result = grind (arith, nat_tests) in
    record {
      number = omega (arith, digits_value_more 10 c.args.value.now _ c.loop-digit-test.true, c.loop-digit.invariant.number, c.min-length.ensures);
      digits = list_all_more is_ascii_digit _ _ 0 c.loop-digit-test.true c.loop-digit.invariant.digits (sym c.if-not-is_ascii_digit.ensures.value);
    }
