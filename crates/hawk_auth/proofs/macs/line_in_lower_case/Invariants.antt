use Rattle.std.proofs.Common.{ℕ, List, ◌++◌, map, take}
use Rattle.std.specs.Char.{to_ascii_lowercase}
use Rattle.hawk_auth.specs.Hashing.{Authenticates}
use Rattle.hawk_auth.proofs.macs.line_in_lower_case.Given as goal

abbrev pub invariant-loop-byte : goal.invariant-loop-byte
invariant-loop-byte l = (key message : List ℕ) → Authenticates key message l.initial.hmac
    → Authenticates key (message ++ map to_ascii_lowercase (take l.byte-index l.byte-items)) l.hmac
