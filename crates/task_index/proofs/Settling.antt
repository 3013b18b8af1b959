-- How many numbers a task draws that settles.
use Rattle.std.specs.Prelude.{ℕ, Bool, if◌then◌else◌}

-- one, where a test passes
abbrev pub one_if : Bool → ℕ
one_if passes = if passes then 1 else 0
