use Rattle.std.proofs.Common.{◌≡◌, ◌-◌, ◌++◌, ◌+◌, List, ℕ, length, drop, ap, ◌∙◌, arith}
use Rattle.std.specs.Prelude.{replicate}
use Rattle.std.proofs.lemmas.List.{drop-replicate}
use Rattle.std.proofs.lemmas.List.Edits.{paste_all}
use Rattle.hawk_auth.proofs.hmac.with_zeros.Goals as goal

pub returns : goal.returns
returns c =
    let zeros : List ℕ = replicate 64 0 in
    let n : c.loop-i.i ≡ length c.args.key.now = omega arith in
    let from : 0 + c.loop-i.i ≡ length c.args.key.now = omega (arith, n) in
    let left : drop (0 + c.loop-i.i) zeros ≡ replicate (64 - length c.args.key.now) 0 =
    ap (λ (m : ℕ). drop m zeros) from ∙ drop-replicate (length c.args.key.now) 64 0 in
    c.loop-i.invariant ∙ paste_all zeros 0 c.args.key.now c.loop-i.i n ∙ ap (λ (rest : List ℕ). c.args.key.now ++ rest) left
