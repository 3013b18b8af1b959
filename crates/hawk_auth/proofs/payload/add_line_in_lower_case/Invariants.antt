use Rattle.std.proofs.Common.{ℕ, List, ◌++◌, map, take}
use Rattle.std.specs.Char.{to_ascii_lowercase}
use Rattle.sha2.specs.Hashers.{Holds256}
use Rattle.hawk_auth.proofs.payload.add_line_in_lower_case.Given as goal

abbrev pub invariant-loop-byte : goal.invariant-loop-byte
invariant-loop-byte l = (message : List ℕ) → Holds256 l.initial.hasher message
    → Holds256 l.hasher (message ++ map to_ascii_lowercase (take l.byte-index l.text))
