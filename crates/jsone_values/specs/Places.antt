-- Which members an index and a slice mean (JSON-e, "Indexing and Slicing"): a number below 0 counts from the end.
use Rattle.std.specs.Prelude.{ℕ, ℤ, pos, negsuc, ◌+◌, ◌-◌, min, nat_lt, if◌then◌else◌, Option, Some, None}

-- the place that an index means among so many members, if there is one
abbrev pub place_of : ℤ → ℕ → Option ℕ
place_of (pos n) count = if nat_lt n count then Some n else None
place_of (negsuc n) count = if nat_lt n count then Some (count - (n + 1)) else None

-- the place where a side of a slice cuts
abbrev pub cut_of : ℤ → ℕ → ℕ
cut_of (pos n) count = min n count
cut_of (negsuc n) count = count - (n + 1)
