use Rattle.std.proofs.Common.{[], ◌∷◌, ◌++◌, arith, rules}
use Rattle.std.proofs.lemmas.Grind.{common_steps}
use Rattle.jsone_values.proofs.SplitLemmas.{first_cut, one_piece_more, last_piece}
use Rattle.jsone_values.proofs.splits.pieces.Goals as goal

pub loop-piece-init : goal.loop-piece-init
loop-piece-init c = ([], search rules, λ q qs h. h, c.utf8.text)

pub loop-piece-preserved : goal.loop-piece-preserved
loop-piece-preserved c =
    let (front, made, leads, utf8) = c.loop-piece.invariant in
    let found = c.in-Some.ensures.cases in
    let cut = first_cut c.args.separator.now c.loop-piece.rest.now c.in-Some.piece.now c.in-Some.behind.now found.0 found.1 found.2.0 found.2.1 found.3 found.4 found.6 in
    (front ++ c.in-Some.piece.now ∷ [], grind (arith, common_steps, made), one_piece_more c.args.separator.now c.args.text.now c.loop-piece.rest.now c.in-Some.piece.now c.in-Some.behind.now front leads cut, search rules)

pub returns : goal.returns
returns c =
    let (front, made, leads, utf8) = c.loop-piece.invariant in
    (front ++ c.loop-piece.rest.now ∷ [], last_piece c.args.separator.now c.args.text.now c.loop-piece.rest.now front leads c.in_default.ensures.cases, grind (arith, common_steps, made))
