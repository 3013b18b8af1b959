-- The faults by their numbers (this project's own table).
use Rattle.std.specs.Prelude.{ℕ}
use Rattle.jsone_values.specs.declared.faults.Fault.{Fault}
use Rattle.jsone_values.specs.declared.faults.Fault.TheVariants.{Syntax, UnknownName, WrongKind, OutOfRange, NotExact, NoMember, BadOperator, TwoBranches, KeyTwice, TooDeep, BadSpan, BadContext}

abbrev pub rule_of : Fault → ℕ
rule_of Syntax = 1
rule_of UnknownName = 2
rule_of WrongKind = 3
rule_of OutOfRange = 4
rule_of NotExact = 5
rule_of NoMember = 6
rule_of BadOperator = 7
rule_of TwoBranches = 8
rule_of KeyTwice = 9
rule_of TooDeep = 10
rule_of BadSpan = 11
rule_of BadContext = 12
