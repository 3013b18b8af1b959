-- Rows that fall due, each at its moment (own: of those that fall due at one moment the least row is the first).
use Rattle.std.specs.Prelude.{ℕ, ◌+◌, ◌-◌, max, nat_lt, nat_le, List, [], filter, Option, if◌then◌else◌}
use Rattle.std.specs.List.{reduce}
use Rattle.claim_queue.specs.Held.{held, up_to, held_from}

-- for how many rows room was made, and of each row the moment at which it falls due, if it is held
pub record Dues : Type 0 where
  pub room : ℕ
  pub rows : List (Option ℕ)

-- no room, and no row
abbrev pub no_dues : Dues
no_dues = record { room = 0; rows = [] }

-- for how many more rows there is room
abbrev pub spare_of : Dues → ℕ
spare_of dues = dues.room - held dues.rows

-- there is room for so many more, and for all rows below a number
abbrev pub roomier : ℕ → ℕ → Dues → Dues
roomier more below dues = record { room = max dues.room (held dues.rows + more); rows = up_to below dues.rows }

-- of two moments, each with its row, the earlier one; and the first of the two where they are one moment
abbrev pub sooner : ℕ × ℕ → ℕ × ℕ → ℕ × ℕ
sooner first due = if nat_lt due.0 first.0 then due else first

-- the first that falls due, of those that do so at this moment or before: its moment and its row
abbrev pub first_due_of : ℕ → Dues → Option (ℕ × ℕ)
first_due_of moment dues = reduce sooner (filter (λ due. nat_le due.0 moment) (held_from 0 dues.rows))
