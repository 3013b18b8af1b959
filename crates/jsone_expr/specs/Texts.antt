-- The expression that a text is (JSON-e, "Language"), and where it goes wrong.
use Rattle.std.specs.Prelude.{◌≡◌, ℕ, ◌<◌, ◌≤◌, List, length, map, unwrap_or}
use Rattle.std.specs.Option.{option_map}
use Rattle.std.specs.List.{slice_get}
use Rattle.jsone_expr.specs.declared.tokens.Token.{Token}
use Rattle.jsone_expr.specs.declared.tokens.Piece.{Piece}
use Rattle.jsone_expr.specs.declared.nodes.Node.{Node}
use Rattle.jsone_expr.specs.Tokens.{AreTokens}
use Rattle.jsone_expr.specs.Trees.{Tree, depth}
use Rattle.jsone_expr.specs.Grammar.{IsExpression, IsBadPlace}
use Rattle.jsone_expr.specs.Postfix.{postfix}

abbrev pub token_list : List Piece → List Token
token_list ps = map (λ p. p.token) ps

-- the tokens of the text are the expression of this tree
pub record IsTree (text : List ℕ) (t : Tree) : Type 0 where
  pub pieces : List Piece
  pub tokens : AreTokens text 0 pieces
  pub expression : IsExpression (token_list pieces) t

-- where a token begins; behind the last one, where the text ends
abbrev pub place_of : List ℕ → List Piece → ℕ → ℕ
place_of text ps k = unwrap_or (option_map (λ p. p.span.from) (slice_get ps k)) (length text)

-- the text is no expression, and here begins the first token with which it can no longer become one
pub record IsBadByte (text : List ℕ) (i : ℕ) : Type 0 where
  pub pieces : List Piece
  pub tokens : AreTokens text 0 pieces
  pub token : ℕ
  pub bad : IsBadPlace (token_list pieces) token
  pub place : i ≡ place_of text pieces token

-- the text has a tree, at most 64 deep, and these are its nodes, each after its children
pub record IsParsed (text : List ℕ) (nodes : List Node) : Type 0 where
  pub tree : Tree
  pub of_text : IsTree text tree
  pub shallow : depth tree ≤ 64
  pub written : nodes ≡ postfix tree

-- the text has a tree that is deeper
pub record IsTooDeep (text : List ℕ) : Type 0 where
  pub tree : Tree
  pub of_text : IsTree text tree
  pub deep : 64 < depth tree
