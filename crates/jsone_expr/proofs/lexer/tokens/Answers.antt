use Rattle.std.proofs.Common.{◌+◌, ap, arith}
use Rattle.jsone_expr.proofs.LexLemmas.{nothing_read, one_read, all_read, unknown_read, next_within}
use Rattle.jsone_expr.proofs.lexer.tokens.Goals as goal

pub loop-at-init : goal.loop-at-init
loop-at-init c = nothing_read c.args.text.now c.new-pieces.result.items c.spaces_len-at.result c.new-pieces.ensures.items c.spaces_len-at.ensures

pub overflow_add-at : goal.overflow_add-at
overflow_add-at c =
    let within = next_within c.args.text.now c.loop-at.at c.in-Some.len c.in-Some.token c.loop-at.invariant.within c.in-Some.ensures in
    omega (arith, within, c.spaces_len.ensures)

pub loop-at-preserved : goal.loop-at-preserved
loop-at-preserved c =
    let next = ap (λ n. c.loop-at.at + c.in-Some.len + n) c.spaces_len.ensures in
    one_read c.args.text.now c.loop-at.pieces.items _ c.loop-at.at c.in-Some.len _ c.in-Some.token c.loop-at.invariant c.in-Some.ensures next c.in_ok-push-in-Some.ensures.items

pub returns-in-None : goal.returns-in-None
returns-in-None c = unknown_read c.args.text.now c.loop-at.pieces.items _ c.loop-at.at c.loop-at.invariant c.loop-at-test.true c.in-None.ensures c.in_ok-push-in-None.ensures.items

pub returns : goal.returns
returns c = all_read c.args.text.now _ c.loop-at.at c.loop-at.invariant c.loop-at-test.false
