use Rattle.std.proofs.Common.{◌≡◌, ◌+◌, ◌≤◌, drop, min, option_map}
use Rattle.jsone_values.specs.Spans.{parts_of}
use Rattle.jsone_values.proofs.spans.parts_of.Given as goal

-- with the parts that are left it is the whole
abbrev pub invariant-loop-unit : goal.invariant-loop-unit
invariant-loop-unit l = record {
  whole : option_map (λ n. min (l.total + n) 18446744073709551615) (parts_of (drop l.unit-index l.units) l.rest) ≡ option_map (λ n. min n 18446744073709551615) (parts_of l.units l.bytes);
  small : l.total ≤ 18446744073709551615;
}
