use Rattle.std.proofs.Common.{ℕ, List, ◌++◌, map, take}
use Rattle.std.specs.Char.{to_ascii_uppercase}
use Rattle.hawk_auth.specs.Hashing.{Authenticates}
use Rattle.hawk_auth.proofs.macs.line_in_capitals.Given as goal

abbrev pub invariant-loop-byte : goal.invariant-loop-byte
invariant-loop-byte l = (key message : List ℕ) → Authenticates key message l.initial.hmac
    → Authenticates key (message ++ map to_ascii_uppercase (take l.byte-index l.text)) l.hmac
