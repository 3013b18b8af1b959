use Rattle.std.proofs.Common.{◌≡◌, ◌≤◌, length, map, take}
use Rattle.std.specs.Prelude.{option_copied}
use Rattle.httparse.specs.Spans.{header_bytes}
use Rattle.http1.specs.Fields.{values_named}
use Rattle.http_wire.specs.Message.{first_of}
use Rattle.http_wire.proofs.rules.fields_named.Given as goal

-- what the fields so far say
abbrev pub invariant-loop-field : goal.invariant-loop-field
invariant-loop-field l = record {
  first : option_copied l.first ≡ first_of (values_named l.name (map (header_bytes l.head) (take l.field-index l.fields)));
  count : l.count ≡ length (values_named l.name (map (header_bytes l.head) (take l.field-index l.fields)));
  bound : l.count ≤ l.field-index;
}
