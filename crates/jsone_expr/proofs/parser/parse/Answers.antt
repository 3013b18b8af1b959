use Rattle.std.proofs.Common.{◌∙◌, subst, arith}
use Rattle.jsone_expr.specs.Grammar.{IsExpression}
use Rattle.jsone_expr.specs.Texts.{token_list}
use Rattle.jsone_expr.proofs.DepthLemmas.{depth_is}
use Rattle.jsone_expr.proofs.parser.parse.Goals as goal

pub returns-then-depth-gt64-clause-too_deep : goal.returns-then-depth-gt64-clause-too_deep
returns-then-depth-gt64-clause-too_deep c e =
    let read = c.in-Ok-read_tokens.ensures.tree in
    let counted = depth_is read.0 c.deref-2.result.now c.in-Ok-deepest.depth (c.deref-2.ensures.value ∙ read.2) c.in-Ok-deepest.ensures in
    record {
      tree = read.0;
      of_text = record { pieces = c.in-Ok.pieces.items; tokens = c.in-Ok.ensures; expression = subst (λ ps. IsExpression (token_list ps) read.0) c.deref.ensures.value read.1 };
      deep = omega (arith, counted);
    }

pub returns-clause-tree : goal.returns-clause-tree
returns-clause-tree c =
    let read = c.in-Ok-read_tokens.ensures.tree in
    let counted = depth_is read.0 c.deref-2.result.now c.in-Ok-deepest.depth (c.deref-2.ensures.value ∙ read.2) c.in-Ok-deepest.ensures in
    record {
      tree = read.0;
      of_text = record { pieces = c.in-Ok.pieces.items; tokens = c.in-Ok.ensures; expression = subst (λ ps. IsExpression (token_list ps) read.0) c.deref.ensures.value read.1 };
      shallow = omega (arith, counted);
      written = read.2;
    }
