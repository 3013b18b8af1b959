-- A machine that reads one token after the other. What it has read is a stack of frames, each of which waits for an expression on its right.
use Rattle.std.proofs.Common.{ℕ, cond, ltb, List, [], ◌∷◌, Option, Some, None}
use Rattle.jsone_expr.specs.declared.marks.Operator.{Operator}
use Rattle.jsone_expr.specs.declared.marks.Operator.TheVariants.{Plus, Minus}
use Rattle.jsone_expr.specs.declared.marks.Mark.{Mark}
use Rattle.jsone_expr.specs.declared.marks.Mark.TheVariants.{Bang, Dot, Comma, Colon, OpenRound, CloseRound, OpenSquare, CloseSquare, OpenCurly, CloseCurly}
use Rattle.jsone_expr.specs.declared.marks.Sign.{Sign}
use Rattle.jsone_expr.specs.declared.marks.Sign.TheVariants.{Denied, Negative, Positive}
use Rattle.jsone_expr.specs.declared.tokens.Token.{Token}
use Rattle.jsone_expr.specs.declared.tokens.Token.TheVariants.{Digits as digits, Quoted as quoted, Word as word, Literal as literal_word, Operator as operator, Mark as mark}
use Rattle.jsone_expr.specs.declared.tokens.Word.{Word}
use Rattle.jsone_expr.specs.Tokens.{is_function}
use Rattle.jsone_expr.specs.declared.tokens.Key.{Key}
use Rattle.jsone_expr.specs.declared.tokens.Key.TheVariants.{Plain as plain, InQuotes as in_quotes}
use Rattle.jsone_expr.specs.Trees.{Tree, number, text, literal, name, unary, binary, group, member, index, slice, call, items, entries, Side, absent, present, Trees, no_trees, tree, Fields, no_fields, field}
use Rattle.jsone_expr.specs.Grammar.{level, right_level}

-- what waits for an expression on its right
pub data Frame : Type 0 where
  beside : Operator → Tree → Frame
  signed : Sign → Frame
  in_group : Frame
  in_index : Tree → Frame
  in_slice : Tree → Side → Frame
  in_call : Word → Trees → Frame
  in_items : Trees → Frame
  in_entries : Key → Fields → Frame

-- what comes next, over the frames, the innermost first
pub data State : Type 0 where
  want : List Frame → State
  have : Tree → List Frame → State
  after_dot : Tree → List Frame → State
  want_key : Fields → List Frame → State
  after_key : Key → Fields → List Frame → State

-- one more at the end
abbrev pub push : Trees → Tree → Trees
push no_trees t = tree t no_trees
push (tree a ts) t = tree a (push ts t)

abbrev pub put : Fields → Key → Tree → Fields
put no_fields k t = field k t no_fields
put (field l a fs) k t = field l a (put fs k t)

abbrev pub Part : Type 0
Part = Tree × List Frame

-- the frames that bind tighter than level n close over the tree
abbrev pub close : ℕ → Tree → List Frame → Part
close n t [] = (t, [])
close n t (beside o a ∷ fs) = cond (ltb n (right_level o)) (close n (binary o a t) fs) (t, beside o a ∷ fs)
close n t (signed s ∷ fs) = close n (unary s t) fs
close n t (in_group ∷ fs) = (t, in_group ∷ fs)
close n t (in_index a ∷ fs) = (t, in_index a ∷ fs)
close n t (in_slice a f ∷ fs) = (t, in_slice a f ∷ fs)
close n t (in_call m ts ∷ fs) = (t, in_call m ts ∷ fs)
close n t (in_items ts ∷ fs) = (t, in_items ts ∷ fs)
close n t (in_entries k ts ∷ fs) = (t, in_entries k ts ∷ fs)

-- an expression closed by each mark
abbrev pub beside_it : Operator → Part → Option State
beside_it o p = Some (want (beside o p.0 ∷ p.1))

abbrev pub round_closed : Tree → List Frame → Option State
round_closed t [] = None
round_closed t (beside o a ∷ fs) = None
round_closed t (signed s ∷ fs) = None
round_closed t (in_group ∷ fs) = Some (have (group t) fs)
round_closed t (in_index a ∷ fs) = None
round_closed t (in_slice a f ∷ fs) = None
round_closed t (in_call m ts ∷ fs) = Some (have (call m (push ts t)) fs)
round_closed t (in_items ts ∷ fs) = None
round_closed t (in_entries k ts ∷ fs) = None

abbrev pub square_closed : Tree → List Frame → Option State
square_closed t [] = None
square_closed t (beside o a ∷ fs) = None
square_closed t (signed s ∷ fs) = None
square_closed t (in_group ∷ fs) = None
square_closed t (in_index a ∷ fs) = Some (have (index a t) fs)
square_closed t (in_slice a f ∷ fs) = Some (have (slice a f (present t)) fs)
square_closed t (in_call m ts ∷ fs) = None
square_closed t (in_items ts ∷ fs) = Some (have (items (push ts t)) fs)
square_closed t (in_entries k ts ∷ fs) = None

abbrev pub curly_closed : Tree → List Frame → Option State
curly_closed t [] = None
curly_closed t (beside o a ∷ fs) = None
curly_closed t (signed s ∷ fs) = None
curly_closed t (in_group ∷ fs) = None
curly_closed t (in_index a ∷ fs) = None
curly_closed t (in_slice a f ∷ fs) = None
curly_closed t (in_call m ts ∷ fs) = None
curly_closed t (in_items ts ∷ fs) = None
curly_closed t (in_entries k ts ∷ fs) = Some (have (entries (put ts k t)) fs)

abbrev pub at_colon : Tree → List Frame → Option State
at_colon t [] = None
at_colon t (beside o a ∷ fs) = None
at_colon t (signed s ∷ fs) = None
at_colon t (in_group ∷ fs) = None
at_colon t (in_index a ∷ fs) = Some (want (in_slice a (present t) ∷ fs))
at_colon t (in_slice a f ∷ fs) = None
at_colon t (in_call m ts ∷ fs) = None
at_colon t (in_items ts ∷ fs) = None
at_colon t (in_entries k ts ∷ fs) = None

abbrev pub at_comma : Tree → List Frame → Option State
at_comma t [] = None
at_comma t (beside o a ∷ fs) = None
at_comma t (signed s ∷ fs) = None
at_comma t (in_group ∷ fs) = None
at_comma t (in_index a ∷ fs) = None
at_comma t (in_slice a f ∷ fs) = None
at_comma t (in_call m ts ∷ fs) = Some (want (in_call m (push ts t) ∷ fs))
at_comma t (in_items ts ∷ fs) = Some (want (in_items (push ts t) ∷ fs))
at_comma t (in_entries k ts ∷ fs) = Some (want_key (put ts k t) fs)

-- a bracket behind a name that may be called
abbrev pub at_open : Tree → List Frame → Option State
at_open (number d) fs = None
at_open (text s) fs = None
at_open (literal l) fs = None
at_open (name n) fs = cond (is_function n) (Some (want (in_call n no_trees ∷ fs))) None
at_open (unary s a) fs = None
at_open (binary o a b) fs = None
at_open (group a) fs = None
at_open (member a n) fs = None
at_open (index a b) fs = None
at_open (slice a f t) fs = None
at_open (call n ts) fs = None
at_open (items ts) fs = None
at_open (entries ts) fs = None

abbrev pub have_mark : Tree → List Frame → Mark → Option State
have_mark t fs Dot = Some (after_dot t fs)
have_mark t fs Comma = let p = close 0 t fs in at_comma p.0 p.1
have_mark t fs Colon = let p = close 0 t fs in at_colon p.0 p.1
have_mark t fs OpenRound = at_open t fs
have_mark t fs CloseRound = let p = close 0 t fs in round_closed p.0 p.1
have_mark t fs OpenSquare = Some (want (in_index t ∷ fs))
have_mark t fs CloseSquare = let p = close 0 t fs in square_closed p.0 p.1
have_mark t fs CloseCurly = let p = close 0 t fs in curly_closed p.0 p.1
have_mark t fs _ = None

-- a mark that closes where nothing stands: `f()`, `[]`, `[e:]` and `[:e]`
abbrev pub empty_round : List Frame → Option State
empty_round (in_call m no_trees ∷ fs) = Some (have (call m no_trees) fs)
empty_round _ = None

abbrev pub empty_square : List Frame → Option State
empty_square (in_items no_trees ∷ fs) = Some (have (items no_trees) fs)
empty_square (in_slice a f ∷ fs) = Some (have (slice a f absent) fs)
empty_square _ = None

abbrev pub empty_colon : List Frame → Option State
empty_colon (in_index a ∷ fs) = Some (want (in_slice a absent ∷ fs))
empty_colon _ = None

abbrev pub want_mark : List Frame → Mark → Option State
want_mark fs Bang = Some (want (signed Denied ∷ fs))
want_mark fs OpenRound = Some (want (in_group ∷ fs))
want_mark fs OpenSquare = Some (want (in_items no_trees ∷ fs))
want_mark fs OpenCurly = Some (want_key no_fields fs)
want_mark fs CloseRound = empty_round fs
want_mark fs CloseSquare = empty_square fs
want_mark fs Colon = empty_colon fs
want_mark fs _ = None

abbrev pub want_operator : List Frame → Operator → Option State
want_operator fs Plus = Some (want (signed Positive ∷ fs))
want_operator fs Minus = Some (want (signed Negative ∷ fs))
want_operator fs _ = None

abbrev pub key_mark : Fields → List Frame → Mark → Option State
key_mark no_fields fs CloseCurly = Some (have (entries no_fields) fs)
key_mark _ fs _ = None

abbrev pub colon_after : Key → Fields → List Frame → Mark → Option State
colon_after k ts fs Colon = Some (want (in_entries k ts ∷ fs))
colon_after k ts fs _ = None

-- the state after one more token, if that token may come
abbrev pub step : State → Token → Option State
step (want fs) (digits d) = Some (have (number d) fs)
step (want fs) (quoted s) = Some (have (text s) fs)
step (want fs) (word n) = Some (have (name n) fs)
step (want fs) (literal_word l) = Some (have (literal l) fs)
step (want fs) (operator o) = want_operator fs o
step (want fs) (mark m) = want_mark fs m
step (have t fs) (operator o) = beside_it o (close (level o) t fs)
step (have t fs) (mark m) = have_mark t fs m
step (have t fs) _ = None
step (after_dot t fs) (word n) = Some (have (member t n) fs)
step (after_dot t fs) _ = None
step (want_key ts fs) (word n) = Some (after_key (plain n) ts fs)
step (want_key ts fs) (quoted s) = Some (after_key (in_quotes s) ts fs)
step (want_key ts fs) (mark m) = key_mark ts fs m
step (want_key ts fs) _ = None
step (after_key k ts fs) (mark m) = colon_after k ts fs m
step (after_key k ts fs) _ = None

abbrev pub then_run : Option State → (State → Option State) → Option State
then_run None go = None
then_run (Some s) go = go s

-- the state after these tokens
abbrev pub run : List Token → State → Option State
run [] s = Some s
run (x ∷ xs) s = then_run (step s x) (run xs)

abbrev pub start : State
start = want []

-- the tree, where no frame is left open
abbrev pub ended_part : Tree → List Frame → Option Tree
ended_part t [] = Some t
ended_part t (f ∷ fs) = None

abbrev pub ended : State → Option Tree
ended (want fs) = None
ended (have t fs) = let p = close 0 t fs in ended_part p.0 p.1
ended (after_dot t fs) = None
ended (want_key ts fs) = None
ended (after_key k ts fs) = None
