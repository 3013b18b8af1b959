-- The runs of the tasks so far, and of one more.
use Rattle.std.proofs.Common.{◌≡◌, ℕ, ◌*◌, ◌≤◌, List, length, take, sum_by}
use Rattle.run_states.specs.Rows.{Row}

-- the first tasks have so many runs, and each 50 at most
pub record IsMade (rows : List Row) (place made : ℕ) : Type 0 where
  pub sum : made ≡ sum_by (λ (row : Row). length row.runs) (take place rows)
  pub few : made ≤ 50 * place
