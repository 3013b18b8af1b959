use Rattle.std.proofs.Common.{◌≡◌, ℕ, ◌<◌, ◌≤◌, false, decimal, bytes_eq}
use Rattle.api_routes.proofs.parts.number_in.Given as goal

-- no lesser number is written so
abbrev pub invariant-loop-number : goal.invariant-loop-number
invariant-loop-number l = (k : ℕ) → l.first ≤ k → k < l.number → bytes_eq (decimal k) l.text ≡ false
