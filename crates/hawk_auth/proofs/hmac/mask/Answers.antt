use Rattle.std.proofs.Common.{◌≡◌, ◌<◌, ◌++◌, ◌∷◌, [], ℕ, List, length, take, get_or, ap, sym, ◌∙◌, arith, rules}
use Rattle.std.specs.Prelude.{bit_xor}
use Rattle.std.proofs.lemmas.List.{take_more, take_more_set, map_push}
use Rattle.std.proofs.Math.Seq.{take-length}
use Rattle.hawk_auth.specs.Mac.{masked}
use Rattle.hawk_auth.proofs.hmac.mask.Goals as goal

pub loop-i-preserved : goal.loop-i-preserved
loop-i-preserved c =
    let block : List ℕ = c.args.block.now in
    let i : ℕ = c.loop-i.i in
    let within : i < length c.loop-i.out = omega (arith, c.loop-i.invariant.0) in
    let inside : i < length block = omega (arith, c.told-block) in (
      search rules,
      take_more_set c.loop-i.out i _ within
          ∙ ap (λ (front : List ℕ). front ++ bit_xor (get_or block i 0) c.args.byte ∷ []) c.loop-i.invariant.1
          ∙ sym (ap (masked c.args.byte) (take_more block i 0 inside) ∙ map_push (λ (b : ℕ). bit_xor b c.args.byte) (take i block) (get_or block i 0)),
    )

pub returns : goal.returns
returns c =
    let n : c.loop-i.i ≡ 64 = omega (arith, c.loop-i-test.false, c.loop-i.auto.i-end) in
    sym (take-all c.loop-i.i c.loop-i.out (n ∙ sym c.loop-i.invariant.0)) ∙ c.loop-i.invariant.1 ∙ ap (masked c.args.byte) (take-all c.loop-i.i c.args.block.now (n ∙ sym c.told-block))
  where
    take-all : (i : ℕ) (xs : List ℕ) → i ≡ length xs → take i xs ≡ xs
    take-all i xs e = ap (λ (m : ℕ). take m xs) e ∙ take-length xs
