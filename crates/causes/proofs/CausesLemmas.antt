-- How causes of several calls go together.
use Rattle.std.proofs.Common.{ℕ, ◌<◌, ◌≤◌, inl, inr, ⊎_elim, arith}
use Rattle.std.proofs.lemmas.Bool.{cases_lt}
use Rattle.causes.specs.Causes.{Rose}

-- a count that rose has risen later too
pub Rose-later : (a b c : ℕ) → a ≤ b → Rose a b → b ≤ c → Rose a c
Rose-later a b c first (inl lt) le = inl (omega arith)
Rose-later a b c first (inr last) le = ⊎_elim (λ (more : b < c). inl (omega arith)) (λ (no_more : c ≤ b). inr (omega arith)) (cases_lt b c)

-- a count that rose has risen since an earlier moment
pub Rose-earlier : (a b c : ℕ) → a ≤ b → Rose b c → Rose a c
Rose-earlier a b c le (inl lt) = inl (omega arith)
Rose-earlier a b c le (inr last) = inr last
