use Rattle.std.proofs.Common.{sym, arith}
use Rattle.command_line.proofs.ValueLemmas.{no_number}
use Rattle.command_line.proofs.values.workers_of.Goals as goal

pub returns-in_default-3 : goal.returns-in_default-3
returns-in_default-3 c =
    no_number 8 1 64 (omega arith) c.args.text.now c.parse.result _ c.in_default.is (sym c.if-not-has_length.ensures) (sym c.if-not-are_digits.ensures)
    c.parse.ensures.value.0
