-- The numbers that a seed gives: the linear congruence of the example of `rand` in the C standard (ISO C, section 7.24.2), modulo 2^31.
use Rattle.std.specs.Prelude.{ℕ, ◌+◌, ◌*◌, ◌/◌, ◌%◌, ◌^◌}

-- the number that a seed begins from
unfoldable pub begun : ℕ → ℕ
begun seed = seed % 2 ^ 31

-- the number after another
unfoldable pub next : ℕ → ℕ
next x = (x * 1103515245 + 12345) % 2 ^ 31

-- what is drawn with a number: its upper fifteen bits
unfoldable pub drawn : ℕ → ℕ
drawn x = x / 65536
