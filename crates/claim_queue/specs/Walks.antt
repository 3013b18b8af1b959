-- A walk over the rows of a queue in the order in which they are claimed: each is the best of those that are left.
use Rattle.std.specs.Prelude.{ℕ, ◌-◌, List, Option, Some, None, slice_set}
use Rattle.claim_queue.specs.Waits.{Waits, count_in}

-- which queue is walked over, what waits, and what of it is left without the rows that were given
pub record Walk : Type 0 where
  pub name : List ℕ
  pub all : Waits
  pub left : Waits

-- the rows that wait, without one of them
abbrev pub without : Option ℕ → Waits → Waits
without None waits = waits
without (Some row) waits = record { queues = waits.queues; rows = slice_set waits.rows row None }

-- how many rows of the queue were given
abbrev pub given_of : Walk → ℕ
given_of walk = count_in walk.name walk.all - count_in walk.name walk.left
