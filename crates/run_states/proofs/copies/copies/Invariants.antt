use Rattle.std.proofs.Common.{◌≡◌, ◌≤◌, take, vec_capacity}
use Rattle.run_states.proofs.copies.copies.Given as goal

-- the runs so far are copied, and there is room
abbrev pub invariant-loop-run : goal.invariant-loop-run
invariant-loop-run l = record { items : l.made.items ≡ take l.run-index l.runs; room : l.room ≤ vec_capacity l.made }
