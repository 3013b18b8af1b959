-- The moment at which a load is run.
use Rattle.std.specs.Prelude.{ℕ}

-- 2024-01-01T00:00:00.000Z
abbrev pub midnight : ℕ
midnight = 1704067200000
