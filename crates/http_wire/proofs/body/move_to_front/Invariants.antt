use Rattle.std.proofs.Common.{◌-◌, ◌≡◌, ◌≤◌, length, take, drop}
use Rattle.http_wire.proofs.body.move_to_front.Given as goal

-- so much has moved, and behind it all is as it was
abbrev pub invariant-loop-at : goal.invariant-loop-at
invariant-loop-at l = record {
  size : length l.bytes ≡ length l.fn.bytes;
  rest : l.rest ≡ length l.fn.bytes - l.by;
  within : l.at ≤ l.rest;
  moved : take l.at l.bytes ≡ take l.at (drop l.by l.fn.bytes);
  behind : drop l.at l.bytes ≡ drop l.at l.fn.bytes;
}

abbrev pub decreases-loop-at : goal.decreases-loop-at
decreases-loop-at l = l.rest - l.at
