-- Three asks are three calls.
use Rattle.std.proofs.Common.{◌≡◌, length, ap, ◌∙◌, arith}
use Rattle.std.proofs.lemmas.List.Sorted.{length_permutation}
use Rattle.desk_tests.proofs.asks.ask_three.Goals as goal

pub returns : goal.returns
returns g c =
    let ends = c.close-object.ensures.ends in
    let token = c.token-token.result in
    let first = ap (λ h. h.asks) c.ask.ensures.home in
    let second = ap (λ h. h.asks) c.ask-2.ensures.home in
    let third = ap (λ h. h.asks) c.ask-3.ensures.home in
    let began = c.pass-pass.ensures.same ∙ c.requires in
    let left = ap (λ s. s.left) began in
    let mine = ap (λ s. length s.mine) began in
    let last = ap (λ s. length s.mine) c.token-token.ensures in
    let own : length token.mine ≡ 3 = omega (arith, c.ask.ensures.left, c.ask-2.ensures.left, c.ask-3.ensures.left) in
    (token.seen, ends.0, ends.2, length_permutation token.mine ends.0 ends.1 ∙ own)
