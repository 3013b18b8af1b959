-- The trees of expressions, and how deep they are.
use Rattle.std.specs.Prelude.{ℕ, ◌+◌, max}
use Rattle.jsone_expr.specs.declared.marks.Operator.{Operator}
use Rattle.jsone_expr.specs.declared.marks.Literal.{Literal}
use Rattle.jsone_expr.specs.declared.marks.Sign.{Sign}
use Rattle.jsone_expr.specs.declared.tokens.Span.{Span}
use Rattle.jsone_expr.specs.declared.tokens.Word.{Word}
use Rattle.jsone_expr.specs.declared.tokens.Key.{Key}

mutual
  -- numbers, texts and names are where they stand in the text
  pub data Tree : Type 0 where
    number : Span → Tree
    text : Span → Tree
    literal : Literal → Tree
    name : Word → Tree
    unary : Sign → Tree → Tree
    binary : Operator → Tree → Tree → Tree
    group : Tree → Tree
    member : Tree → Word → Tree
    index : Tree → Tree → Tree
    slice : Tree → Side → Side → Tree
    call : Word → Trees → Tree
    items : Trees → Tree
    entries : Fields → Tree

  -- a side of a slice, which may be absent
  pub data Side : Type 0 where
    absent : Side
    present : Tree → Side

  pub data Trees : Type 0 where
    no_trees : Trees
    tree : Tree → Trees → Trees

  pub data Fields : Type 0 where
    no_fields : Fields
    field : Key → Tree → Fields → Fields

abbrev mutual
  -- the nodes on the longest way down: a leaf is 1 deep
  pub depth : Tree → ℕ
  depth (number d) = 1
  depth (text s) = 1
  depth (literal l) = 1
  depth (name n) = 1
  depth (unary s a) = 1 + depth a
  depth (binary o a b) = 1 + max (depth a) (depth b)
  depth (group a) = 1 + depth a
  depth (member a n) = 1 + depth a
  depth (index a b) = 1 + max (depth a) (depth b)
  depth (slice a f t) = 1 + max (depth a) (max (side_depth f) (side_depth t))
  depth (call n ts) = 1 + trees_depth ts
  depth (items ts) = 1 + trees_depth ts
  depth (entries fs) = 1 + fields_depth fs

  pub side_depth : Side → ℕ
  side_depth absent = 0
  side_depth (present a) = depth a

  pub trees_depth : Trees → ℕ
  trees_depth no_trees = 0
  trees_depth (tree a ts) = max (depth a) (trees_depth ts)

  pub fields_depth : Fields → ℕ
  fields_depth no_fields = 0
  fields_depth (field k a fs) = max (depth a) (fields_depth fs)
