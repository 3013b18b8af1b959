use Rattle.std.proofs.Common.{◌≡◌, ◌<◌, ◌≤◌, ◌+◌, ◌*◌, ◌-◌, ◌^◌, suc, ℕ, List, take, get_or, ap, sym, subst, ◌∙◌, arith}
use Rattle.std.specs.Char.{IsAsciiDigit}
use Rattle.std.specs.List.{All}
use Rattle.hawk_auth.specs.Access.{seconds_of}
use Rattle.std.proofs.Math.Nat.{pow-suc}
use Rattle.hawk_auth.proofs.AccessLemmas.{seconds_more, power}
use Rattle.hawk_auth.proofs.check.seconds.Goals as goal

pub overflow_mul-seconds : goal.overflow_mul-seconds
overflow_mul-seconds c =
    let low : c.loop-digit.digit-index ≤ 11 = omega (arith, c.loop-digit-test.true, c.requires.short, c.as_bytes-digit-items.ensures.len) in
    omega (arith, c.loop-digit.invariant.1, power c.loop-digit.digit-index low)

pub overflow_add-seconds : goal.overflow_add-seconds
overflow_add-seconds c =
    let low : c.loop-digit.digit-index ≤ 11 = omega (arith, c.loop-digit-test.true, c.requires.short, c.as_bytes-digit-items.ensures.len) in
    let small : c.from.result < 256 = omega (arith, c.from.ensures, c.type_inv.digit-items c.loop-digit.digit-index) in
    omega (arith, c.loop-digit.invariant.1, power c.loop-digit.digit-index low, small)

pub loop-digit-preserved : goal.loop-digit-preserved
loop-digit-preserved c =
    let ts : List ℕ = c.as_bytes-digit-items.result.now in
    let i : ℕ = c.loop-digit.digit-index in
    let digits = subst (All IsAsciiDigit) (sym c.as_bytes-digit-items.ensures.value) c.requires.digits in
    let digit : IsAsciiDigit (get_or ts i 0) = digits i 0 c.loop-digit-test.true in
    let step : 10 ^ (i + 1) ≡ 10 ^ suc i = ap (λ (n : ℕ). 10 ^ n) (omega arith) in
    let read : c.from.result ≡ get_or ts i 0 - 48 = c.from.ensures in (
      ap (λ (n : ℕ). n * 10 + c.from.result) c.loop-digit.invariant.0 ∙ ap (λ (n : ℕ). seconds_of (take i ts) * 10 + n) read ∙ sym (seconds_more ts i c.loop-digit-test.true),
      omega (arith, c.loop-digit.invariant.1, step, pow-suc 10 i, read, digit.1, digit.0),
    )
