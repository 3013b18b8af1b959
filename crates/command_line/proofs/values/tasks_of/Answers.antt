use Rattle.std.proofs.Common.{sym, arith}
use Rattle.command_line.proofs.ValueLemmas.{no_number}
use Rattle.command_line.proofs.values.tasks_of.Goals as goal

pub returns-in_default-2 : goal.returns-in_default-2
returns-in_default-2 c =
    no_number 32 0 100000 (omega arith) c.args.text.now c.parse.result _ c.in_default.is (sym c.if-not-has_length.ensures) (sym c.if-not-are_digits.ensures)
    c.parse.ensures.value.0
