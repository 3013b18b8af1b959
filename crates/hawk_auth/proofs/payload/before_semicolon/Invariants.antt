use Rattle.std.proofs.Common.{◌≡◌, ℕ, ◌<◌, get_or, eqb, false}
use Rattle.hawk_auth.proofs.payload.before_semicolon.Given as goal

abbrev pub invariant-loop-place : goal.invariant-loop-place
invariant-loop-place l = (k : ℕ) → k < l.place → eqb (get_or l.text k 0) 59 ≡ false
