use Rattle.http_wire.specs.Framing.{body_limit}
use Rattle.std.proofs.Common.{◌≡◌, ◌+◌, min, true, take}
use Rattle.std.specs.List.{list_all}
use Rattle.std.specs.Char.{is_ascii_digit}
use Rattle.std.specs.Str.Parse.{digits_value}
use Rattle.http_wire.proofs.rules.length_of.Given as goal

-- the number so far, where numbers above the limit are one
abbrev pub invariant-loop-digit : goal.invariant-loop-digit
invariant-loop-digit l = record {
  number : l.length ≡ min (digits_value 10 (take l.digit-index l.value)) (body_limit + 1);
  digits : list_all is_ascii_digit (take l.digit-index l.value) ≡ true;
}
