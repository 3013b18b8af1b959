use Rattle.std.proofs.Common.{◌≡◌, ◌∙◌, get_or, option_map, Vec, Global, sym, ap, subst, arith}
use Rattle.jsone_expr.specs.declared.nodes.Node.{Node}
use Rattle.jsone_expr.specs.Texts.{token_list}
use Rattle.jsone_expr.specs.Grammar.{IsBadPlace}
use Rattle.jsone_expr.specs.Moves.{Went, move, flat_of}
use Rattle.jsone_expr.proofs.Readings.{ReadSoFar, begins, went_on, refused_at, ended_is, ended_not, one_more_piece, as_many_tokens, no_piece}
use Rattle.jsone_expr.proofs.parser.read_tokens.Goals as goal

pub loop-at-init : goal.loop-at-init
loop-at-init c = record { within = omega arith; read = subst (ReadSoFar (token_list c.args.pieces.now) 0) (sym c.new-reader.ensures) (begins (token_list c.args.pieces.now)) }

pub loop-at-preserved : goal.loop-at-preserved
loop-at-preserved c =
    let ts = token_list c.args.pieces.now in
    let front = one_more_piece c.args.pieces.now c.loop-at.at no_piece c.loop-at-test.true in
    let x = (get_or c.args.pieces.now c.loop-at.at no_piece).token in
    let went = subst (λ b. Went (move (flat_of c.loop-at.reader) x) b (flat_of c.read.new.self)) c.in-Ok-true.field-0-test c.in-Ok-true.ensures in
    record { within = omega arith; read = went_on ts c.loop-at.at (flat_of c.loop-at.reader) (flat_of c.read.new.self) x front c.loop-at.invariant.read went }

pub returns-in-Ok-false-clause-bad_place : goal.returns-in-Ok-false-clause-bad_place
returns-in-Ok-false-clause-bad_place c i e =
    let ts = token_list c.args.pieces.now in
    let front = one_more_piece c.args.pieces.now c.loop-at.at no_piece c.loop-at-test.true in
    let x = (get_or c.args.pieces.now c.loop-at.at no_piece).token in
    let went = subst (λ b. Went (move (flat_of c.loop-at.reader) x) b (flat_of c.read.new.self)) c.in-Ok-false.field-0-test c.in-Ok-false.ensures in
    let here : c.loop-at.at ≡ i = cc in
    subst (IsBadPlace ts) here (refused_at ts c.loop-at.at (flat_of c.loop-at.reader) (flat_of c.read.new.self) x (omega (arith, as_many_tokens c.args.pieces.now)) front c.loop-at.invariant.read went)

pub returns-in-Ok-Some-clause-tree : goal.returns-in-Ok-Some-clause-tree
returns-in-Ok-Some-clause-tree c =
    let ts = token_list c.args.pieces.now in
    ended_is ts c.loop-at.at (flat_of c.loop-at.reader) c.in-Ok-Some.nodes.items (omega (arith, as_many_tokens c.args.pieces.now, c.loop-at.invariant.within)) c.loop-at.invariant.read (sym c.in-Ok-Some.ensures ∙ ap (option_map (λ (v : Vec Node Global). v.items)) c.in-Ok-Some.field-0-is)

pub returns-in-Ok-None-clause-bad_place : goal.returns-in-Ok-None-clause-bad_place
returns-in-Ok-None-clause-bad_place c i e =
    let ts = token_list c.args.pieces.now in
    let here : c.loop-at.at ≡ i = cc in
    subst (IsBadPlace ts) here (ended_not ts c.loop-at.at (flat_of c.loop-at.reader) (omega (arith, as_many_tokens c.args.pieces.now, c.loop-at.invariant.within)) c.loop-at.invariant.read (sym c.in-Ok-None.ensures ∙ ap (option_map (λ (v : Vec Node Global). v.items)) c.in-Ok-None.field-0-is))
