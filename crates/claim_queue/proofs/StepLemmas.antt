-- How many steps the moves in a heap take.
use Rattle.std.proofs.Common.{◌≡◌, ℕ, ◌+◌, ◌*◌, ◌^◌, ◌≤◌, sym, subst, arith}
use Rattle.std.proofs.Math.Nat.{mul-le-mul_left}
use Rattle.std.proofs.lemmas.Nat.{pow-add}
use Rattle.claim_queue.specs.Heaps.{IsBelow}

pub doubled : (levels : ℕ) → 2 ^ (levels + 1) ≡ 2 * 2 ^ levels
doubled levels = let e : 2 ^ (levels + 1) ≡ 2 ^ levels * 2 = pow-add 2 levels 1 in omega arith

-- one level more on the way up
pub up-more : (levels place parent : ℕ) → IsBelow parent place → 2 ^ levels ≤ parent + 1 → 2 ^ (levels + 1) ≤ place + 1
up-more levels place parent below le = let e = doubled levels in omega arith

twice : (power count place child : ℕ) → 2 * place + 1 ≤ child → power * (child + 1) ≤ count → (2 * power) * (place + 1) ≤ count
twice power count place child below le =
    let h : power * (2 * (place + 1)) ≤ power * (child + 1) = mul-le-mul_left power (omega arith) in
    omega arith

-- one level more on the way down
pub down-more : (levels count place child : ℕ) → IsBelow place child → 2 ^ levels * (child + 1) ≤ count → 2 ^ (levels + 1) * (place + 1) ≤ count
down-more levels count place child below le =
    subst (λ n. n * (place + 1) ≤ count) (sym (doubled levels)) (twice (2 ^ levels) count place child below.0 le)

-- a level leaves room for one place at least
pub at-least : (power count place : ℕ) → power * (place + 1) ≤ count → power ≤ count
at-least power count place le = let h : power * 1 ≤ power * (place + 1) = mul-le-mul_left power (omega arith) in omega arith
