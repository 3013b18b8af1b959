use Rattle.std.proofs.Common.{◌≡◌, take}
use Rattle.std.specs.String.{string_bytes}
use Rattle.route_table.specs.Tokens.{masked}
use Rattle.route_table.proofs.table.masked.Given as goal

abbrev pub invariant-loop-b : goal.invariant-loop-b
invariant-loop-b l = string_bytes l.text ≡ masked (take l.b-index l.path)
