-- The grammar of expressions (JSON-e, "Language"; the levels are this project's): a tree is written out as tokens, and each part is of the level that its place asks for.
use Rattle.std.specs.Prelude.{◌≡◌, ℕ, ◌+◌, ◌<◌, ◌≤◌, List, [], ◌∷◌, ◌++◌, IsTrue, length, take}
use Rattle.jsone_expr.specs.declared.marks.Operator.{Operator}
use Rattle.jsone_expr.specs.declared.marks.Operator.TheVariants.{Or, And, Within, Equal, NotEqual, Below, AtMost, Above, AtLeast, Plus, Minus, Times, Over, Power}
use Rattle.jsone_expr.specs.declared.marks.Mark.TheVariants.{Bang, Dot, Comma, Colon, OpenRound, CloseRound, OpenSquare, CloseSquare, OpenCurly, CloseCurly}
use Rattle.jsone_expr.specs.declared.marks.Sign.{Sign}
use Rattle.jsone_expr.specs.declared.marks.Sign.TheVariants.{Denied, Negative, Positive}
use Rattle.jsone_expr.specs.declared.tokens.Token.{Token}
use Rattle.jsone_expr.specs.declared.tokens.Token.TheVariants.{Digits as digits, Quoted as quoted, Word as word, Literal as literal_word, Operator as operator, Mark as mark}
use Rattle.jsone_expr.specs.Tokens.{is_function}
use Rattle.jsone_expr.specs.declared.tokens.Key.{Key}
use Rattle.jsone_expr.specs.declared.tokens.Key.TheVariants.{Plain as plain, InQuotes as in_quotes}
use Rattle.jsone_expr.specs.Trees.{Tree, number, text, literal, name, unary, binary, group, member, index, slice, call, items, entries, Side, absent, present, Trees, no_trees, tree, Fields, no_fields, field}

-- how tight an operator binds; a sign is of level 9, and all else of level 10
abbrev pub level : Operator → ℕ
level Or = 1
level And = 2
level Within = 3
level Equal = 4
level NotEqual = 4
level Below = 5
level AtMost = 5
level Above = 5
level AtLeast = 5
level Plus = 6
level Minus = 6
level Times = 7
level Over = 7
level Power = 8

-- the level of what stands on its left: its own, so that equal ones group to the left; but `**` takes a tighter one
abbrev pub left_level : Operator → ℕ
left_level Or = 1
left_level And = 2
left_level Within = 3
left_level Equal = 4
left_level NotEqual = 4
left_level Below = 5
left_level AtMost = 5
left_level Above = 5
left_level AtLeast = 5
left_level Plus = 6
left_level Minus = 6
left_level Times = 7
left_level Over = 7
left_level Power = 9

-- the level of what stands on its right: a tighter one; but `**` takes its own
abbrev pub right_level : Operator → ℕ
right_level Or = 2
right_level And = 3
right_level Within = 4
right_level Equal = 5
right_level NotEqual = 5
right_level Below = 6
right_level AtMost = 6
right_level Above = 6
right_level AtLeast = 6
right_level Plus = 7
right_level Minus = 7
right_level Times = 8
right_level Over = 8
right_level Power = 8

abbrev pub sign_token : Sign → Token
sign_token Denied = mark Bang
sign_token Negative = operator Minus
sign_token Positive = operator Plus

abbrev pub key_token : Key → Token
key_token (plain n) = word n
key_token (in_quotes s) = quoted s

abbrev mutual
  -- the tokens of a tree
  pub spelled : Tree → List Token
  spelled (number d) = digits d ∷ []
  spelled (text s) = quoted s ∷ []
  spelled (literal l) = literal_word l ∷ []
  spelled (name n) = word n ∷ []
  spelled (unary s a) = sign_token s ∷ spelled a
  spelled (binary o a b) = spelled a ++ (operator o ∷ spelled b)
  spelled (group a) = mark OpenRound ∷ (spelled a ++ (mark CloseRound ∷ []))
  spelled (member a n) = spelled a ++ (mark Dot ∷ word n ∷ [])
  spelled (index a b) = spelled a ++ (mark OpenSquare ∷ (spelled b ++ (mark CloseSquare ∷ [])))
  spelled (slice a f t) = spelled a ++ (mark OpenSquare ∷ (side_spelled f ++ (mark Colon ∷ (side_spelled t ++ (mark CloseSquare ∷ [])))))
  spelled (call n ts) = word n ∷ mark OpenRound ∷ (trees_spelled ts ++ (mark CloseRound ∷ []))
  spelled (items ts) = mark OpenSquare ∷ (trees_spelled ts ++ (mark CloseSquare ∷ []))
  spelled (entries fs) = mark OpenCurly ∷ (fields_spelled fs ++ (mark CloseCurly ∷ []))

  pub side_spelled : Side → List Token
  side_spelled absent = []
  side_spelled (present a) = spelled a

  -- with a comma between two
  pub trees_spelled : Trees → List Token
  trees_spelled no_trees = []
  trees_spelled (tree a no_trees) = spelled a
  trees_spelled (tree a (tree b ts)) = spelled a ++ (mark Comma ∷ trees_spelled (tree b ts))

  pub fields_spelled : Fields → List Token
  fields_spelled no_fields = []
  fields_spelled (field k a no_fields) = key_token k ∷ mark Colon ∷ spelled a
  fields_spelled (field k a (field l b fs)) = key_token k ∷ mark Colon ∷ (spelled a ++ (mark Comma ∷ fields_spelled (field l b fs)))

abbrev mutual
  -- the tree may stand where an expression of this level, or a tighter one, is asked for: its own level is that, and its parts may stand in their places
  pub Fits : ℕ → Tree → Type 0
  Fits m (number d) = Unit {0}
  Fits m (text s) = Unit {0}
  Fits m (literal l) = Unit {0}
  Fits m (name n) = Unit {0}
  Fits m (unary s a) = (m ≤ 9) × Fits 9 a
  Fits m (binary o a b) = (m ≤ level o) × Fits (left_level o) a × Fits (right_level o) b
  Fits m (group a) = Fits 1 a
  Fits m (member a n) = Fits 10 a
  Fits m (index a b) = Fits 10 a × Fits 1 b
  Fits m (slice a f t) = Fits 10 a × SideFits f × SideFits t
  Fits m (call n ts) = IsTrue (is_function n) × EachFits ts
  Fits m (items ts) = EachFits ts
  Fits m (entries fs) = FieldsFit fs

  pub SideFits : Side → Type 0
  SideFits absent = Unit {0}
  SideFits (present a) = Fits 1 a

  pub EachFits : Trees → Type 0
  EachFits no_trees = Unit {0}
  EachFits (tree a ts) = Fits 1 a × EachFits ts

  pub FieldsFit : Fields → Type 0
  FieldsFit no_fields = Unit {0}
  FieldsFit (field k a fs) = Fits 1 a × FieldsFit fs

-- the tokens are the expression of this tree
pub record IsExpression (ts : List Token) (t : Tree) : Type 0 where
  pub written : ts ≡ spelled t
  pub fits : Fits 1 t

-- some further tokens make an expression of them
abbrev pub CanGoOn : List Token → Type 0
CanGoOn ts = (more : List Token) × (t : Tree) × IsExpression (ts ++ more) t

-- the tokens are no expression: those before this place can go on to one, and with the token at this place no longer; or all of them end too early
pub record IsBadPlace (ts : List Token) (i : ℕ) : Type 0 where
  pub within : i ≤ length ts
  pub before : CanGoOn (take i ts)
  pub after : i < length ts → CanGoOn (take (i + 1) ts) → ⊥
  pub none : (t : Tree) → IsExpression ts t → ⊥
