-- Printable texts as a test, for private clauses.
use Rattle.std.specs.Prelude.{ℕ, Bool, ◌&&◌, nat_le, List}
use Rattle.std.specs.List.{list_all}

-- space to `~` in ASCII
abbrev pub is_printable : ℕ → Bool
is_printable b = nat_le 32 b && nat_le b 126

-- each byte is
abbrev pub are_printable : List ℕ → Bool
are_printable bs = list_all is_printable bs
