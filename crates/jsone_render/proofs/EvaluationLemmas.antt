-- An expression's text, and what it comes to.
use Rattle.std.proofs.Common.{ℕ, List}
use Rattle.jsone_expr.specs.declared.nodes.Node.{Node}
use Rattle.jsone_expr.specs.Texts.{IsParsed, IsTooDeep, IsBadByte}
use Rattle.jsone_expr.proofs.TextLemmas.{tree_or_bad}
use Rattle.jsone_render.specs.Expressions.{HasTree}

pub bad_tree : (source : List ℕ) (i : ℕ) → IsBadByte source i → ¬ HasTree source
bad_tree source i bad = λ has. tree_or_bad source has.0 i has.1 bad

pub parsed_tree : (source : List ℕ) (nodes : List Node) → IsParsed source nodes → HasTree source
parsed_tree source nodes is = (is.tree, is.of_text)

pub deep_tree : (source : List ℕ) → IsTooDeep source → HasTree source
deep_tree source is = (is.tree, is.of_text)
