use Rattle.std.proofs.Common.{◌≡◌, ◌<◌, ℕ, List, eqb, true, get_or, length, take, ap, sym, ◌∙◌, arith, rules}
use Rattle.std.proofs.lemmas.List.Sums.{position_or_len_is}
use Rattle.std.proofs.Math.Seq.{take-length}
use Rattle.hawk_auth.proofs.payload.before_semicolon.Goals as goal

pub returns-then-byte-eq59 : goal.returns-then-byte-eq59
returns-then-byte-eq59 c =
    let text : List ℕ = c.args.text.now in
    let here : c.loop-place.place < length text → eqb (get_or text c.loop-place.place 0) 59 ≡ true = λ lt. search rules in
    sym (ap (λ (n : ℕ). take n text) (position_or_len_is (λ (b : ℕ). eqb b 59) text c.loop-place.place 0 (omega arith) c.loop-place.invariant here))

pub returns : goal.returns
returns c =
    let text : List ℕ = c.args.text.now in
    let none : c.loop-place.place < length text → eqb (get_or text c.loop-place.place 0) 59 ≡ true = λ lt. absurd (omega (arith, lt, c.loop-place-test.false)) in
    let all : c.loop-place.place ≡ length text = omega (arith, c.loop-place-test.false, c.loop-place.auto.place-end) in
    sym (ap (λ (n : ℕ). take n text) (position_or_len_is (λ (b : ℕ). eqb b 59) text c.loop-place.place 0 c.loop-place.auto.place-end c.loop-place.invariant none ∙ all) ∙ take-length text)
