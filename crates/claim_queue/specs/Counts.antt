-- How many steps a call takes: comparisons and exchanges of two entries of a heap (own).
use Rattle.std.specs.Prelude.{ℕ, ◌+◌, ◌*◌, ◌^◌, ◌≤◌}

-- steps were counted, and so many at most
abbrev pub AreAtMost : ℕ → ℕ → ℕ → Type 0
AreAtMost most before after = (before ≤ after) × (after ≤ before + most)

-- at most three steps were counted for each of some levels, which are no more than a heap of so many entries has: two to their power is at
-- most one more than twice the entries
abbrev pub AreFew : ℕ → ℕ → ℕ → Type 0
AreFew entries before after = (levels : ℕ) × (2 ^ levels ≤ 2 * entries + 1) × AreAtMost (3 * levels) before after
