-- Behind the tokens of a tree as many brackets are open as before them.
use Rattle.std.proofs.Common.{◌≡◌, ℕ, zero, suc, List, [], ◌∷◌, ◌++◌, Option, Some, None, refl, ap, ◌∙◌}
use Rattle.std.specs.Option.{option_and_then}
use Rattle.jsone_expr.specs.declared.marks.Sign.{Sign}
use Rattle.jsone_expr.specs.declared.marks.Sign.TheVariants.{Denied, Negative, Positive}
use Rattle.jsone_expr.specs.declared.marks.Mark.{Mark}
use Rattle.jsone_expr.specs.declared.marks.Mark.TheVariants.{Dot, Comma, Colon, OpenRound, CloseRound, OpenSquare, CloseSquare, OpenCurly, CloseCurly, Unknown}
use Rattle.jsone_expr.specs.declared.tokens.Token.{Token}
use Rattle.jsone_expr.specs.declared.tokens.Token.TheVariants.{Word as word, Operator as operator, Mark as mark}
use Rattle.jsone_expr.specs.declared.tokens.Key.{Key}
use Rattle.jsone_expr.specs.declared.tokens.Key.TheVariants.{Plain as plain, InQuotes as in_quotes}
use Rattle.jsone_expr.specs.Trees.{Tree, number, text, literal, name, unary, binary, group, member, index, slice, call, items, entries, Side, absent, present, Trees, no_trees, tree, Fields, no_fields, field}
use Rattle.jsone_expr.specs.Grammar.{sign_token, key_token, spelled, side_spelled, trees_spelled, fields_spelled}

abbrev pub fewer : ℕ → Option ℕ
fewer zero = None
fewer (suc d) = Some d

-- how many brackets are open behind a mark
abbrev pub by_mark : Mark → ℕ → Option ℕ
by_mark OpenRound d = Some (suc d)
by_mark OpenSquare d = Some (suc d)
by_mark OpenCurly d = Some (suc d)
by_mark CloseRound d = fewer d
by_mark CloseSquare d = fewer d
by_mark CloseCurly d = fewer d
by_mark Unknown d = None
by_mark _ d = Some d

abbrev pub by_token : Token → ℕ → Option ℕ
by_token (mark m) d = by_mark m d
by_token _ d = Some d

-- behind tokens in turn
abbrev pub over : List Token → Option ℕ → Option ℕ
over [] o = o
over (x ∷ xs) o = over xs (option_and_then (by_token x) o)

over_append : (xs ys : List Token) (o : Option ℕ) → over (xs ++ ys) o ≡ over ys (over xs o)
over_append [] ys o = refl
over_append (x ∷ xs) ys o = over_append xs ys (option_and_then (by_token x) o)

pub over_none : (xs : List Token) → over xs None ≡ None
over_none [] = refl
over_none (x ∷ xs) = over_none xs

-- as many are open behind these tokens as before them
abbrev pub Keeps : List Token → Type 0
Keeps xs = (d : ℕ) → over xs (Some d) ≡ Some d

keeps_both : (xs ys : List Token) → Keeps xs → Keeps ys → Keeps (xs ++ ys)
keeps_both xs ys a b d = over_append xs ys (Some d) ∙ ap (over ys) (a d) ∙ b d

up_to : (xs : List Token) (m : Mark) (d : ℕ) → by_mark m (suc d) ≡ Some d → Keeps xs → over (xs ++ (mark m ∷ [])) (Some (suc d)) ≡ Some d
up_to xs m d e k = over_append xs (mark m ∷ []) (Some (suc d)) ∙ ap (over (mark m ∷ [])) (k (suc d)) ∙ e

in_round : (xs : List Token) → Keeps xs → Keeps (mark OpenRound ∷ (xs ++ (mark CloseRound ∷ [])))
in_round xs k d = up_to xs CloseRound d refl k

in_square : (xs : List Token) → Keeps xs → Keeps (mark OpenSquare ∷ (xs ++ (mark CloseSquare ∷ [])))
in_square xs k d = up_to xs CloseSquare d refl k

in_curly : (xs : List Token) → Keeps xs → Keeps (mark OpenCurly ∷ (xs ++ (mark CloseCurly ∷ [])))
in_curly xs k d = up_to xs CloseCurly d refl k

two_sides : (xs ys : List Token) → Keeps xs → Keeps ys → Keeps (mark OpenSquare ∷ (xs ++ (mark Colon ∷ (ys ++ (mark CloseSquare ∷ [])))))
two_sides xs ys a b d =
    over_append xs (mark Colon ∷ (ys ++ (mark CloseSquare ∷ []))) (Some (suc d))
    ∙ ap (over (mark Colon ∷ (ys ++ (mark CloseSquare ∷ [])))) (a (suc d))
    ∙ up_to ys CloseSquare d refl b

sign_keeps : (s : Sign) (xs : List Token) → Keeps xs → Keeps (sign_token s ∷ xs)
sign_keeps Denied xs k = k
sign_keeps Negative xs k = k
sign_keeps Positive xs k = k

key_keeps : (l : Key) (xs : List Token) → Keeps xs → Keeps (key_token l ∷ mark Colon ∷ xs)
key_keeps (plain n) xs k = k
key_keeps (in_quotes s) xs k = k

mutual
  pub tree_keeps : (t : Tree) → Keeps (spelled t)
  tree_keeps (number n) = λ d. refl
  tree_keeps (text s) = λ d. refl
  tree_keeps (literal l) = λ d. refl
  tree_keeps (name n) = λ d. refl
  tree_keeps (unary s a) = sign_keeps s (spelled a) (tree_keeps a)
  tree_keeps (binary o a b) = keeps_both (spelled a) (operator o ∷ spelled b) (tree_keeps a) (tree_keeps b)
  tree_keeps (group a) = in_round (spelled a) (tree_keeps a)
  tree_keeps (member a n) = keeps_both (spelled a) (mark Dot ∷ word n ∷ []) (tree_keeps a) (λ d. refl)
  tree_keeps (index a b) = keeps_both (spelled a) (mark OpenSquare ∷ (spelled b ++ (mark CloseSquare ∷ []))) (tree_keeps a) (in_square (spelled b) (tree_keeps b))
  tree_keeps (slice a f t) =
      keeps_both (spelled a) (mark OpenSquare ∷ (side_spelled f ++ (mark Colon ∷ (side_spelled t ++ (mark CloseSquare ∷ []))))) (tree_keeps a)
      (two_sides (side_spelled f) (side_spelled t) (side_keeps f) (side_keeps t))
  tree_keeps (call n ts) = in_round (trees_spelled ts) (trees_keep ts)
  tree_keeps (items ts) = in_square (trees_spelled ts) (trees_keep ts)
  tree_keeps (entries fs) = in_curly (fields_spelled fs) (fields_keep fs)

  side_keeps : (s : Side) → Keeps (side_spelled s)
  side_keeps absent = λ d. refl
  side_keeps (present a) = tree_keeps a

  trees_keep : (ts : Trees) → Keeps (trees_spelled ts)
  trees_keep no_trees = λ d. refl
  trees_keep (tree a no_trees) = tree_keeps a
  trees_keep (tree a (tree b ts)) = keeps_both (spelled a) (mark Comma ∷ trees_spelled (tree b ts)) (tree_keeps a) (trees_keep (tree b ts))

  fields_keep : (fs : Fields) → Keeps (fields_spelled fs)
  fields_keep no_fields = λ d. refl
  fields_keep (field k a no_fields) = key_keeps k (spelled a) (tree_keeps a)
  fields_keep (field k a (field l b fs)) =
      key_keeps k (spelled a ++ (mark Comma ∷ fields_spelled (field l b fs)))
      (keeps_both (spelled a) (mark Comma ∷ fields_spelled (field l b fs)) (tree_keeps a) (fields_keep (field l b fs)))
