use Rattle.std.proofs.Common.{◌≤◌, ℕ, slice_index}
use Rattle.role_expand.proofs.ranks.slack_for.Given as goal

abbrev pub invariant-loop-at : goal.invariant-loop-at
invariant-loop-at l = (i : ℕ) → slice_index l.slack.items i ≤ 1
