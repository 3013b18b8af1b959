-- Three asks and one beside them are four calls.
use Rattle.std.proofs.Common.{◌≡◌, length, ap, ◌∙◌, arith, length-append}
use Rattle.std.proofs.lemmas.List.Sorted.{length_permutation}
use Rattle.desk_tests.proofs.asks.ask_four.Goals as goal

pub returns : goal.returns
returns g c =
    let ends = c.close-object.ensures.ends in
    let token = c.token-token.result in
    let first = ap (λ h. h.asks) c.ask-first.ensures.home in
    let beside = ap (λ h. h.asks) c.ask-beside.ensures.home in
    let second = ap (λ h. h.asks) c.ask-second.ensures.home in
    let third = ap (λ h. h.asks) c.ask-third.ensures.home in
    let began = c.pass-pass.ensures.same ∙ c.requires in
    let left = ap (λ s. s.left) began in
    let mine = ap (λ s. length s.mine) began in
    let split = ap (λ s. s.left) c.split-other.ensures.old in
    let split_mine = ap (λ s. length s.mine) c.split-other.ensures.old in
    let new = ap (λ s. s.left) c.split-other.ensures.new in
    let new_mine = ap (λ s. length s.mine) c.split-other.ensures.new in
    let both = ap length c.join.ensures.joined.mine ∙ length-append c.ask-second.new.self.mine c.ask-beside.new.self.mine in
    let both_left = c.join.ensures.joined.left in
    let last = ap (λ s. length s.mine) c.token-token.ensures in
    let own : length token.mine ≡ 4 = omega (arith, c.ask-first.ensures.left, c.ask-beside.ensures.left, c.ask-second.ensures.left, c.ask-third.ensures.left) in
    (token.seen, ends.0, ends.2, length_permutation token.mine ends.0 ends.1 ∙ own)
