-- The machine reads each expression: from its tokens it comes to its tree.
use Rattle.std.proofs.Common.{◌≡◌, ℕ, ◌+◌, ◌<◌, ◌≤◌, true, false, cond, ltb, List, [], ◌∷◌, ◌++◌, Option, Some, None, refl, sym, ap, ◌∙◌, ◌⊎◌, inl, inr, ⊎_elim, arith, append_assoc, append-nil, lit≤, IsTrue}
use Rattle.std.proofs.lemmas.Bool.Decides.{nat_tests}
use Rattle.jsone_expr.specs.declared.marks.Operator.{Operator}
use Rattle.jsone_expr.specs.declared.marks.Operator.TheVariants.{Or, And, Within, Equal, NotEqual, Below, AtMost, Above, AtLeast, Plus, Minus, Times, Over, Power}
use Rattle.jsone_expr.specs.declared.marks.Mark.TheVariants.{Dot, Comma, Colon, OpenRound, CloseRound, OpenSquare, CloseSquare, CloseCurly}
use Rattle.jsone_expr.specs.declared.marks.Sign.{Sign}
use Rattle.jsone_expr.specs.declared.marks.Sign.TheVariants.{Denied, Negative, Positive}
use Rattle.jsone_expr.specs.declared.tokens.Token.{Token}
use Rattle.jsone_expr.specs.declared.tokens.Token.TheVariants.{Word as word, Operator as operator, Mark as mark}
use Rattle.jsone_expr.specs.declared.tokens.Word.{Word}
use Rattle.jsone_expr.specs.Tokens.{is_function}
use Rattle.jsone_expr.specs.declared.tokens.Key.{Key}
use Rattle.jsone_expr.specs.declared.tokens.Key.TheVariants.{Plain as plain, InQuotes as in_quotes}
use Rattle.jsone_expr.specs.Trees.{Tree, number, text, literal, name, unary, binary, group, member, index, slice, call, items, entries, Side, absent, present, Trees, no_trees, tree, Fields, no_fields, field}
use Rattle.jsone_expr.specs.Grammar.{level, left_level, right_level, sign_token, key_token, spelled, side_spelled, trees_spelled, fields_spelled, Fits, SideFits, EachFits, FieldsFit, IsExpression, CanGoOn}
use Rattle.jsone_expr.proofs.States.{Frame, beside, signed, in_group, in_index, in_slice, in_call, in_items, in_entries, State, want, have, want_key, after_key, push, put, Part, close, round_closed, square_closed, curly_closed, at_colon, at_comma, step, then_run, run, start, ended_part, ended}

pub run_append : (xs ys : List Token) (s : State) → run (xs ++ ys) s ≡ then_run (run xs s) (run ys)
run_append [] ys s = refl
run_append (x ∷ xs) ys s = by_step (step s x) (λ t. run_append xs ys t)
  where
    by_step : (o : Option State) → ((t : State) → run (xs ++ ys) t ≡ then_run (run xs t) (run ys)) → then_run o (run (xs ++ ys)) ≡ then_run (then_run o (run xs)) (run ys)
    by_step None h = refl
    by_step (Some t) h = h t

-- an operator groups to the left or to the right
abbrev pub Groups : Operator → Type 0
Groups o = ((left_level o ≡ level o) × (right_level o ≡ level o + 1) × (level o ≤ 7)) ⊎ ((level o ≡ 8) × (left_level o ≡ 9) × (right_level o ≡ 8))

pub groups : (o : Operator) → Groups o
groups Or = inl (refl, refl, lit≤ tt)
groups And = inl (refl, refl, lit≤ tt)
groups Within = inl (refl, refl, lit≤ tt)
groups Equal = inl (refl, refl, lit≤ tt)
groups NotEqual = inl (refl, refl, lit≤ tt)
groups Below = inl (refl, refl, lit≤ tt)
groups AtMost = inl (refl, refl, lit≤ tt)
groups Above = inl (refl, refl, lit≤ tt)
groups AtLeast = inl (refl, refl, lit≤ tt)
groups Plus = inl (refl, refl, lit≤ tt)
groups Minus = inl (refl, refl, lit≤ tt)
groups Times = inl (refl, refl, lit≤ tt)
groups Over = inl (refl, refl, lit≤ tt)
groups Power = inr (refl, refl, refl)

pub level_below : (o : Operator) → level o < 9
level_below o = ⊎_elim (λ l. omega (arith, l.2)) (λ r. omega (arith, r.0)) (groups o)

pub level_right : (o : Operator) → level o ≤ right_level o
level_right o = ⊎_elim (λ l. omega (arith, l.1)) (λ r. omega (arith, r.0, r.2)) (groups o)

pub level_left : (o : Operator) → level o ≤ left_level o
level_left o = ⊎_elim (λ l. omega (arith, l.0)) (λ r. omega (arith, r.0, r.1)) (groups o)

pub left_tight : (o p : Operator) → left_level o ≤ level p → level o < right_level p
left_tight o p h =
    ⊎_elim
    (λ l. ⊎_elim (λ a. omega (arith, l.0, l.1, l.2, a.0, a.1, a.2)) (λ a. omega (arith, l.0, l.1, l.2, a.0, a.1, a.2)) (groups p))
    (λ r. ⊎_elim (λ a. omega (arith, r.0, r.1, r.2, a.0, a.1, a.2)) (λ a. omega (arith, r.0, r.1, r.2, a.0, a.1, a.2)) (groups p)) (groups o)

-- the level that the innermost frame asks for
abbrev pub bound : List Frame → ℕ
bound [] = 1
bound (beside o a ∷ fs) = right_level o
bound (signed s ∷ fs) = 9
bound (in_group ∷ fs) = 1
bound (in_index a ∷ fs) = 1
bound (in_slice a f ∷ fs) = 1
bound (in_call n ts ∷ fs) = 1
bound (in_items ts ∷ fs) = 1
bound (in_entries k ts ∷ fs) = 1

right_below : (o : Operator) → right_level o ≤ 9
right_below o = ⊎_elim (λ l. omega (arith, l.1, l.2)) (λ r. omega (arith, r.2)) (groups o)

pub bound_below : (fs : List Frame) → bound fs ≤ 9
bound_below [] = lit≤ tt
bound_below (beside o a ∷ fs) = right_below o
bound_below (signed s ∷ fs) = lit≤ tt
bound_below (in_group ∷ fs) = lit≤ tt
bound_below (in_index a ∷ fs) = lit≤ tt
bound_below (in_slice a f ∷ fs) = lit≤ tt
bound_below (in_call n ts ∷ fs) = lit≤ tt
bound_below (in_items ts ∷ fs) = lit≤ tt
bound_below (in_entries k ts ∷ fs) = lit≤ tt

ltb_holds : (a b : ℕ) → a < b → ltb a b ≡ true
ltb_holds a b h = grind (arith, nat_tests)

ltb_fails : (a b : ℕ) → b ≤ a → ltb a b ≡ false
ltb_fails a b h = grind (arith, nat_tests)

-- where the right end of a tree stays open to what follows: its last part over frames
abbrev pub pending : Tree → List Frame → Part
pending (unary s a) fs = pending a (signed s ∷ fs)
pending (binary o a b) fs = pending b (beside o a ∷ fs)
pending (number d) fs = (number d, fs)
pending (text s) fs = (text s, fs)
pending (literal l) fs = (literal l, fs)
pending (name n) fs = (name n, fs)
pending (group a) fs = (group a, fs)
pending (member a n) fs = (member a n, fs)
pending (index a b) fs = (index a b, fs)
pending (slice a f t) fs = (slice a f t, fs)
pending (call n ts) fs = (call n ts, fs)
pending (items ts) fs = (items ts, fs)
pending (entries ts) fs = (entries ts, fs)

abbrev pub have_part : Part → State
have_part p = have p.0 p.1

abbrev pub close_part : ℕ → Part → Part
close_part n p = close n p.0 p.1

-- what level n closes of a tree whose operators bind tighter
closes : (n m : ℕ) (t : Tree) (fs : List Frame) → Fits m t → ((o : Operator) → m ≤ level o → n < right_level o) → close_part n (pending t fs) ≡ close n t fs
closes n m (unary s a) fs f h = closes n 9 a (signed s ∷ fs) f.1 (λ o le. omega (arith, level_below o))
closes n m (binary o a b) fs f h =
    closes n (right_level o) b (beside o a ∷ fs) f.2 (λ p le. omega (arith, h o f.0, level_right p))
    ∙ ap (λ c. cond c (close n (binary o a b) fs) (b, beside o a ∷ fs)) (ltb_holds n (right_level o) (h o f.0))
closes n m (number d) fs f h = refl
closes n m (text s) fs f h = refl
closes n m (literal l) fs f h = refl
closes n m (name x) fs f h = refl
closes n m (group a) fs f h = refl
closes n m (member a x) fs f h = refl
closes n m (index a b) fs f h = refl
closes n m (slice a g t) fs f h = refl
closes n m (call x ts) fs f h = refl
closes n m (items ts) fs f h = refl
closes n m (entries ts) fs f h = refl

-- a mark closes all
pub closes_all : (t : Tree) (fs : List Frame) → Fits 1 t → close_part 0 (pending t fs) ≡ close 0 t fs
closes_all t fs f = closes 0 1 t fs f (λ o le. omega (arith, level_right o))

-- a frame that asks for no tighter level stays
stays : (n : ℕ) (t : Tree) (fs : List Frame) → bound fs ≤ n → n < 9 → close n t fs ≡ (t, fs)
stays n t [] h k = refl
stays n t (beside o a ∷ fs) h k = ap (λ c. cond c (close n (binary o a t) fs) (t, beside o a ∷ fs)) (ltb_fails n (right_level o) h)
stays n t (signed s ∷ fs) h k = absurd (omega arith)
stays n t (in_group ∷ fs) h k = refl
stays n t (in_index a ∷ fs) h k = refl
stays n t (in_slice a f ∷ fs) h k = refl
stays n t (in_call m ts ∷ fs) h k = refl
stays n t (in_items ts ∷ fs) h k = refl
stays n t (in_entries m ts ∷ fs) h k = refl

-- an operator finds its left side
closes_left : (o : Operator) (t : Tree) (fs : List Frame) → Fits (left_level o) t → bound fs ≤ level o → close_part (level o) (pending t fs) ≡ (t, fs)
closes_left o t fs f h = closes (level o) (left_level o) t fs f (left_tight o) ∙ stays (level o) t fs h (level_below o)

-- what may stand before `.` or `[` is closed
held : (t : Tree) (fs : List Frame) → Fits 10 t → pending t fs ≡ (t, fs)
held (unary s a) fs f = absurd (omega (arith, f.0))
held (binary o a b) fs f = absurd (omega (arith, f.0, level_below o))
held (number d) fs f = refl
held (text s) fs f = refl
held (literal l) fs f = refl
held (name n) fs f = refl
held (group a) fs f = refl
held (member a n) fs f = refl
held (index a b) fs f = refl
held (slice a g t) fs f = refl
held (call n ts) fs f = refl
held (items ts) fs f = refl
held (entries ts) fs f = refl

-- both, in order
abbrev app : Trees → Trees → Trees
app no_trees us = us
app (tree a ts) us = tree a (app ts us)

app_push : (ts : Trees) (a : Tree) (us : Trees) → app (push ts a) us ≡ app ts (tree a us)
app_push no_trees a us = refl
app_push (tree b ts) a us = ap (tree b) (app_push ts a us)

app_one : (ts : Trees) (a : Tree) → push ts a ≡ app ts (tree a no_trees)
app_one no_trees a = refl
app_one (tree b ts) a = ap (tree b) (app_one ts a)

abbrev app_fields : Fields → Fields → Fields
app_fields no_fields us = us
app_fields (field k a ts) us = field k a (app_fields ts us)

app_put : (ts : Fields) (k : Key) (a : Tree) (us : Fields) → app_fields (put ts k a) us ≡ app_fields ts (field k a us)
app_put no_fields k a us = refl
app_put (field l b ts) k a us = ap (field l b) (app_put ts k a us)

app_field : (ts : Fields) (k : Key) (a : Tree) → put ts k a ≡ app_fields ts (field k a no_fields)
app_field no_fields k a = refl
app_field (field l b ts) k a = ap (field l b) (app_field ts k a)

sign_step : (s : Sign) (fs : List Frame) (rest : List Token) → run (sign_token s ∷ rest) (want fs) ≡ run rest (want (signed s ∷ fs))
sign_step Denied fs rest = refl
sign_step Negative fs rest = refl
sign_step Positive fs rest = refl

key_step : (k : Key) (ts : Fields) (fs : List Frame) (rest : List Token) → run (key_token k ∷ rest) (want_key ts fs) ≡ run rest (after_key k ts fs)
key_step (plain n) ts fs rest = refl
key_step (in_quotes s) ts fs rest = refl

-- marks after an expression in brackets
round_after : (a : Tree) (fs : List Frame) (rest : List Token) → Fits 1 a → run (mark CloseRound ∷ rest) (have_part (pending a fs)) ≡ (let p = close 0 a fs in then_run (round_closed p.0 p.1) (run rest))
round_after a fs rest f = ap (λ (p : Part). then_run (round_closed p.0 p.1) (run rest)) (closes_all a fs f)

square_after : (a : Tree) (fs : List Frame) (rest : List Token) → Fits 1 a → run (mark CloseSquare ∷ rest) (have_part (pending a fs)) ≡ (let p = close 0 a fs in then_run (square_closed p.0 p.1) (run rest))
square_after a fs rest f = ap (λ (p : Part). then_run (square_closed p.0 p.1) (run rest)) (closes_all a fs f)

curly_after : (a : Tree) (fs : List Frame) (rest : List Token) → Fits 1 a → run (mark CloseCurly ∷ rest) (have_part (pending a fs)) ≡ (let p = close 0 a fs in then_run (curly_closed p.0 p.1) (run rest))
curly_after a fs rest f = ap (λ (p : Part). then_run (curly_closed p.0 p.1) (run rest)) (closes_all a fs f)

comma_after : (a : Tree) (fs : List Frame) (rest : List Token) → Fits 1 a → run (mark Comma ∷ rest) (have_part (pending a fs)) ≡ (let p = close 0 a fs in then_run (at_comma p.0 p.1) (run rest))
comma_after a fs rest f = ap (λ (p : Part). then_run (at_comma p.0 p.1) (run rest)) (closes_all a fs f)

colon_after : (a : Tree) (fs : List Frame) (rest : List Token) → Fits 1 a → run (mark Colon ∷ rest) (have_part (pending a fs)) ≡ (let p = close 0 a fs in then_run (at_colon p.0 p.1) (run rest))
colon_after a fs rest f = ap (λ (p : Part). then_run (at_colon p.0 p.1) (run rest)) (closes_all a fs f)

operator_after : (o : Operator) (a : Tree) (fs : List Frame) (rest : List Token) → Fits (left_level o) a → bound fs ≤ level o → run (operator o ∷ rest) (have_part (pending a fs)) ≡ run rest (want (beside o a ∷ fs))
operator_after o a fs rest f h = ap (λ (p : Part). run rest (want (beside o p.0 ∷ p.1))) (closes_left o a fs f h)

-- at a tree that is closed
at_held : (a : Tree) (fs : List Frame) (rest : List Token) → Fits 10 a → run rest (have_part (pending a fs)) ≡ run rest (have a fs)
at_held a fs rest f = ap (λ (p : Part). run rest (have p.0 p.1)) (held a fs f)

called : (n : Word) (fs : List Frame) (rest : List Token) → IsTrue (is_function n) → run (word n ∷ mark OpenRound ∷ rest) (want fs) ≡ run rest (want (in_call n no_trees ∷ fs))
called n fs rest h = ap (λ b. then_run (cond b (Some (want (in_call n no_trees ∷ fs))) None) (run rest)) h

abbrev HasTrees : Trees → Type 0
HasTrees no_trees = ⊥
HasTrees (tree a ts) = Unit {0}

abbrev HasFields : Fields → Type 0
HasFields no_fields = ⊥
HasFields (field k a ts) = Unit {0}

mutual
  pub runs : (t : Tree) (m : ℕ) (fs : List Frame) (rest : List Token) → Fits m t → bound fs ≤ m → run (spelled t ++ rest) (want fs) ≡ run rest (have_part (pending t fs))
  runs (number d) m fs rest f h = refl
  runs (text s) m fs rest f h = refl
  runs (literal l) m fs rest f h = refl
  runs (name n) m fs rest f h = refl
  runs (unary s a) m fs rest f h = sign_step s fs (spelled a ++ rest) ∙ runs a 9 (signed s ∷ fs) rest f.1 (lit≤ tt)
  runs (binary o a b) m fs rest f h =
      ap (λ l. run l (want fs)) (append_assoc (spelled a) (operator o ∷ spelled b) rest)
      ∙ runs a (left_level o) fs (operator o ∷ (spelled b ++ rest)) f.1 (omega (arith, f.0, level_left o))
      ∙ operator_after o a fs (spelled b ++ rest) f.1 (omega (arith, f.0))
      ∙ runs b (right_level o) (beside o a ∷ fs) rest f.2 (omega arith)
  runs (group a) m fs rest f h =
      ap (λ l. run l (want (in_group ∷ fs))) (append_assoc (spelled a) (mark CloseRound ∷ []) rest)
      ∙ runs a 1 (in_group ∷ fs) (mark CloseRound ∷ rest) f (lit≤ tt)
      ∙ round_after a (in_group ∷ fs) rest f
  runs (member a n) m fs rest f h =
      ap (λ l. run l (want fs)) (append_assoc (spelled a) (mark Dot ∷ word n ∷ []) rest)
      ∙ runs a 10 fs (mark Dot ∷ word n ∷ rest) f (omega (arith, bound_below fs))
      ∙ at_held a fs (mark Dot ∷ word n ∷ rest) f
  runs (index a b) m fs rest f h =
      ap (λ l. run l (want fs)) (append_assoc (spelled a) (mark OpenSquare ∷ (spelled b ++ (mark CloseSquare ∷ []))) rest)
      ∙ runs a 10 fs (mark OpenSquare ∷ ((spelled b ++ (mark CloseSquare ∷ [])) ++ rest)) f.0 (omega (arith, bound_below fs))
      ∙ at_held a fs (mark OpenSquare ∷ ((spelled b ++ (mark CloseSquare ∷ [])) ++ rest)) f.0
      ∙ ap (λ l. run l (want (in_index a ∷ fs))) (append_assoc (spelled b) (mark CloseSquare ∷ []) rest)
      ∙ runs b 1 (in_index a ∷ fs) (mark CloseSquare ∷ rest) f.1 (lit≤ tt)
      ∙ square_after b (in_index a ∷ fs) rest f.1
  runs (slice a g t) m fs rest f h =
      let last = side_spelled t ++ (mark CloseSquare ∷ []) in
      ap (λ l. run l (want fs)) (append_assoc (spelled a) (mark OpenSquare ∷ (side_spelled g ++ (mark Colon ∷ last))) rest)
      ∙ runs a 10 fs (mark OpenSquare ∷ ((side_spelled g ++ (mark Colon ∷ last)) ++ rest)) f.0 (omega (arith, bound_below fs))
      ∙ at_held a fs (mark OpenSquare ∷ ((side_spelled g ++ (mark Colon ∷ last)) ++ rest)) f.0
      ∙ ap (λ l. run l (want (in_index a ∷ fs))) (append_assoc (side_spelled g) (mark Colon ∷ last) rest)
      ∙ runs_from g a fs (last ++ rest) f.1
      ∙ ap (λ l. run l (want (in_slice a g ∷ fs))) (append_assoc (side_spelled t) (mark CloseSquare ∷ []) rest)
      ∙ runs_to t a g fs rest f.2
  runs (call n no_trees) m fs rest f h = called n fs (mark CloseRound ∷ rest) f.0
  runs (call n (tree a ts)) m fs rest f h =
      called n fs ((trees_spelled (tree a ts) ++ (mark CloseRound ∷ [])) ++ rest) f.0
      ∙ ap (λ l. run l (want (in_call n no_trees ∷ fs))) (append_assoc (trees_spelled (tree a ts)) (mark CloseRound ∷ []) rest)
      ∙ runs_args (tree a ts) n no_trees fs rest f.1 tt
  runs (items no_trees) m fs rest f h = refl
  runs (items (tree a ts)) m fs rest f h =
      ap (λ l. run l (want (in_items no_trees ∷ fs))) (append_assoc (trees_spelled (tree a ts)) (mark CloseSquare ∷ []) rest)
      ∙ runs_items (tree a ts) no_trees fs rest f tt
  runs (entries no_fields) m fs rest f h = refl
  runs (entries (field k a ts)) m fs rest f h =
      ap (λ l. run l (want_key no_fields fs)) (append_assoc (fields_spelled (field k a ts)) (mark CloseCurly ∷ []) rest)
      ∙ runs_fields (field k a ts) no_fields fs rest f tt

  runs_from : (g : Side) (a : Tree) (fs : List Frame) (rest : List Token) → SideFits g → run (side_spelled g ++ (mark Colon ∷ rest)) (want (in_index a ∷ fs)) ≡ run rest (want (in_slice a g ∷ fs))
  runs_from absent a fs rest f = refl
  runs_from (present b) a fs rest f = runs b 1 (in_index a ∷ fs) (mark Colon ∷ rest) f (lit≤ tt) ∙ colon_after b (in_index a ∷ fs) rest f

  runs_to : (t : Side) (a : Tree) (g : Side) (fs : List Frame) (rest : List Token) → SideFits t → run (side_spelled t ++ (mark CloseSquare ∷ rest)) (want (in_slice a g ∷ fs)) ≡ run rest (have (slice a g t) fs)
  runs_to absent a g fs rest f = refl
  runs_to (present b) a g fs rest f = runs b 1 (in_slice a g ∷ fs) (mark CloseSquare ∷ rest) f (lit≤ tt) ∙ square_after b (in_slice a g ∷ fs) rest f

  runs_args : (ts : Trees) (n : Word) (done : Trees) (fs : List Frame) (rest : List Token) → EachFits ts → HasTrees ts → run (trees_spelled ts ++ (mark CloseRound ∷ rest)) (want (in_call n done ∷ fs)) ≡ run rest (have (call n (app done ts)) fs)
  runs_args no_trees n done fs rest f some = absurd some
  runs_args (tree a no_trees) n done fs rest f some =
      runs a 1 (in_call n done ∷ fs) (mark CloseRound ∷ rest) f.0 (lit≤ tt)
      ∙ round_after a (in_call n done ∷ fs) rest f.0
      ∙ ap (λ us. run rest (have (call n us) fs)) (app_one done a)
  runs_args (tree a (tree b ts)) n done fs rest f some =
      ap (λ l. run l (want (in_call n done ∷ fs))) (append_assoc (spelled a) (mark Comma ∷ trees_spelled (tree b ts)) (mark CloseRound ∷ rest))
      ∙ runs a 1 (in_call n done ∷ fs) (mark Comma ∷ (trees_spelled (tree b ts) ++ (mark CloseRound ∷ rest))) f.0 (lit≤ tt)
      ∙ comma_after a (in_call n done ∷ fs) (trees_spelled (tree b ts) ++ (mark CloseRound ∷ rest)) f.0
      ∙ runs_args (tree b ts) n (push done a) fs rest f.1 tt
      ∙ ap (λ us. run rest (have (call n us) fs)) (app_push done a (tree b ts))

  runs_items : (ts : Trees) (done : Trees) (fs : List Frame) (rest : List Token) → EachFits ts → HasTrees ts → run (trees_spelled ts ++ (mark CloseSquare ∷ rest)) (want (in_items done ∷ fs)) ≡ run rest (have (items (app done ts)) fs)
  runs_items no_trees done fs rest f some = absurd some
  runs_items (tree a no_trees) done fs rest f some =
      runs a 1 (in_items done ∷ fs) (mark CloseSquare ∷ rest) f.0 (lit≤ tt)
      ∙ square_after a (in_items done ∷ fs) rest f.0
      ∙ ap (λ us. run rest (have (items us) fs)) (app_one done a)
  runs_items (tree a (tree b ts)) done fs rest f some =
      ap (λ l. run l (want (in_items done ∷ fs))) (append_assoc (spelled a) (mark Comma ∷ trees_spelled (tree b ts)) (mark CloseSquare ∷ rest))
      ∙ runs a 1 (in_items done ∷ fs) (mark Comma ∷ (trees_spelled (tree b ts) ++ (mark CloseSquare ∷ rest))) f.0 (lit≤ tt)
      ∙ comma_after a (in_items done ∷ fs) (trees_spelled (tree b ts) ++ (mark CloseSquare ∷ rest)) f.0
      ∙ runs_items (tree b ts) (push done a) fs rest f.1 tt
      ∙ ap (λ us. run rest (have (items us) fs)) (app_push done a (tree b ts))

  runs_fields : (ts : Fields) (done : Fields) (fs : List Frame) (rest : List Token) → FieldsFit ts → HasFields ts → run (fields_spelled ts ++ (mark CloseCurly ∷ rest)) (want_key done fs) ≡ run rest (have (entries (app_fields done ts)) fs)
  runs_fields no_fields done fs rest f some = absurd some
  runs_fields (field k a no_fields) done fs rest f some =
      key_step k done fs (mark Colon ∷ (spelled a ++ (mark CloseCurly ∷ rest)))
      ∙ runs a 1 (in_entries k done ∷ fs) (mark CloseCurly ∷ rest) f.0 (lit≤ tt)
      ∙ curly_after a (in_entries k done ∷ fs) rest f.0
      ∙ ap (λ us. run rest (have (entries us) fs)) (app_field done k a)
  runs_fields (field k a (field l b ts)) done fs rest f some =
      key_step k done fs (mark Colon ∷ ((spelled a ++ (mark Comma ∷ fields_spelled (field l b ts))) ++ (mark CloseCurly ∷ rest)))
      ∙ ap (λ xs. run xs (want (in_entries k done ∷ fs))) (append_assoc (spelled a) (mark Comma ∷ fields_spelled (field l b ts)) (mark CloseCurly ∷ rest))
      ∙ runs a 1 (in_entries k done ∷ fs) (mark Comma ∷ (fields_spelled (field l b ts) ++ (mark CloseCurly ∷ rest))) f.0 (lit≤ tt)
      ∙ comma_after a (in_entries k done ∷ fs) (fields_spelled (field l b ts) ++ (mark CloseCurly ∷ rest)) f.0
      ∙ runs_fields (field l b ts) (put done k a) fs rest f.1 tt
      ∙ ap (λ us. run rest (have (entries us) fs)) (app_put done k a (field l b ts))

-- an expression's tokens come to its tree
pub reads_expression : (ts : List Token) (t : Tree) → IsExpression ts t → run ts start ≡ Some (have_part (pending t []))
reads_expression ts t e = ap (λ l. run l start) (e.written ∙ sym (append-nil (spelled t))) ∙ runs t 1 [] [] e.fits (lit≤ tt)

pub ends_at : (t : Tree) → Fits 1 t → ended (have_part (pending t [])) ≡ Some t
ends_at t f = ap (λ (p : Part). ended_part p.0 p.1) (closes_all t [] f)

-- a token that is refused is refused whatever follows
pub refused : (ts more : List Token) → run ts start ≡ None → run (ts ++ more) start ≡ None
refused ts more e = run_append ts more start ∙ ap (λ o. then_run o (run more)) e

pub refused_for_good : (ts : List Token) → run ts start ≡ None → CanGoOn ts → ⊥
refused_for_good ts e goes =
    let runs_on = reads_expression (ts ++ goes.0) goes.1 goes.2 in
    let stops = refused ts goes.0 e in
    cc

-- the tree is one
pub one_tree : (ts : List Token) (t u : Tree) → IsExpression ts t → IsExpression ts u → t ≡ u
one_tree ts t u e f =
    let a = reads_expression ts t e in
    let b = reads_expression ts u f in
    let c = ends_at t e.fits in
    let d = ends_at u f.fits in
    let same : Some (have_part (pending t [])) ≡ Some (have_part (pending u [])) = sym a ∙ b in
    cc
