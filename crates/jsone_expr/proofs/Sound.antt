-- What the machine has read is written out in its state, and can go on to an expression.
use Rattle.std.proofs.Common.{◌≡◌, ℕ, ◌<◌, ◌≤◌, Bool, true, false, cond, ltb, List, [], ◌∷◌, ◌++◌, Option, Some, None, refl, sym, ap, ◌∙◌, arith, append_assoc, IsTrue}
use Rattle.std.proofs.lemmas.Bool.Decides.{nat_tests}
use Rattle.jsone_expr.specs.declared.marks.Operator.{Operator}
use Rattle.jsone_expr.specs.declared.marks.Mark.TheVariants.{Dot, Comma, Colon, OpenRound, OpenSquare, OpenCurly}
use Rattle.jsone_expr.specs.declared.tokens.Token.{Token}
use Rattle.jsone_expr.specs.declared.tokens.Token.TheVariants.{Word as word, Operator as operator, Mark as mark}
use Rattle.jsone_expr.specs.Tokens.{is_function}
use Rattle.jsone_expr.specs.declared.tokens.Key.{Key}
use Rattle.jsone_expr.specs.Trees.{Tree, number, text, literal, name, unary, binary, group, member, index, slice, call, items, entries, Trees, no_trees, tree, Fields, no_fields, field}
use Rattle.jsone_expr.specs.Grammar.{level, left_level, right_level, sign_token, key_token, spelled, side_spelled, trees_spelled, fields_spelled, Fits, SideFits, EachFits, FieldsFit}
use Rattle.jsone_expr.proofs.States.{Frame, beside, signed, in_group, in_index, in_slice, in_call, in_items, in_entries, State, want, have, after_dot, want_key, after_key, push, put, Part, close}
use Rattle.jsone_expr.proofs.Complete.{bound, bound_below}

-- each tree with a comma behind it
abbrev pub each_spelled : Trees → List Token
each_spelled no_trees = []
each_spelled (tree a ts) = spelled a ++ (mark Comma ∷ each_spelled ts)

abbrev pub each_field_spelled : Fields → List Token
each_field_spelled no_fields = []
each_field_spelled (field k a ts) = key_token k ∷ mark Colon ∷ (spelled a ++ (mark Comma ∷ each_field_spelled ts))

-- the tokens that opened the frames
abbrev pub opened : List Frame → List Token
opened [] = []
opened (beside o a ∷ fs) = opened fs ++ (spelled a ++ (operator o ∷ []))
opened (signed s ∷ fs) = opened fs ++ (sign_token s ∷ [])
opened (in_group ∷ fs) = opened fs ++ (mark OpenRound ∷ [])
opened (in_index a ∷ fs) = opened fs ++ (spelled a ++ (mark OpenSquare ∷ []))
opened (in_slice a f ∷ fs) = opened fs ++ (spelled a ++ (mark OpenSquare ∷ (side_spelled f ++ (mark Colon ∷ []))))
opened (in_call n ts ∷ fs) = opened fs ++ (word n ∷ mark OpenRound ∷ each_spelled ts)
opened (in_items ts ∷ fs) = opened fs ++ (mark OpenSquare ∷ each_spelled ts)
opened (in_entries k ts ∷ fs) = opened fs ++ (mark OpenCurly ∷ (each_field_spelled ts ++ (key_token k ∷ mark Colon ∷ [])))

-- the tokens that a state has read
abbrev pub told : State → List Token
told (want fs) = opened fs
told (have t fs) = opened fs ++ spelled t
told (after_dot t fs) = opened fs ++ (spelled t ++ (mark Dot ∷ []))
told (want_key ts fs) = opened fs ++ (mark OpenCurly ∷ each_field_spelled ts)
told (after_key k ts fs) = opened fs ++ (mark OpenCurly ∷ (each_field_spelled ts ++ (key_token k ∷ [])))

abbrev pub GoodFrames : List Frame → Type 0
GoodFrames [] = Unit {0}
GoodFrames (beside o a ∷ fs) = (bound fs ≤ level o) × Fits (left_level o) a × GoodFrames fs
GoodFrames (signed s ∷ fs) = GoodFrames fs
GoodFrames (in_group ∷ fs) = GoodFrames fs
GoodFrames (in_index a ∷ fs) = Fits 10 a × GoodFrames fs
GoodFrames (in_slice a f ∷ fs) = Fits 10 a × SideFits f × GoodFrames fs
GoodFrames (in_call n ts ∷ fs) = IsTrue (is_function n) × EachFits ts × GoodFrames fs
GoodFrames (in_items ts ∷ fs) = EachFits ts × GoodFrames fs
GoodFrames (in_entries k ts ∷ fs) = FieldsFit ts × GoodFrames fs

abbrev pub Good : State → Type 0
Good (want fs) = GoodFrames fs
Good (have t fs) = Fits 10 t × GoodFrames fs
Good (after_dot t fs) = Fits 10 t × GoodFrames fs
Good (want_key ts fs) = FieldsFit ts × GoodFrames fs
Good (after_key k ts fs) = FieldsFit ts × GoodFrames fs

-- where a lower level is asked for, the tree may stand too
pub looser : (m n : ℕ) (t : Tree) → n ≤ m → Fits m t → Fits n t
looser m n (unary s a) h f = (omega (arith, f.0), f.1)
looser m n (binary o a b) h f = (omega (arith, f.0), f.1, f.2)
looser m n (number d) h f = tt
looser m n (text s) h f = tt
looser m n (literal l) h f = tt
looser m n (name x) h f = tt
looser m n (group a) h f = f
looser m n (member a x) h f = f
looser m n (index a b) h f = f
looser m n (slice a g t) h f = f
looser m n (call x ts) h f = f
looser m n (items ts) h f = f
looser m n (entries ts) h f = f

pub each_push : (ts : Trees) (a : Tree) → each_spelled (push ts a) ≡ each_spelled ts ++ (spelled a ++ (mark Comma ∷ []))
each_push no_trees a = refl
each_push (tree b ts) a = ap (λ l. spelled b ++ (mark Comma ∷ l)) (each_push ts a) ∙ sym (append_assoc (spelled b) (mark Comma ∷ each_spelled ts) (spelled a ++ (mark Comma ∷ [])))

pub trees_push : (ts : Trees) (a : Tree) → trees_spelled (push ts a) ≡ each_spelled ts ++ spelled a
trees_push no_trees a = refl
trees_push (tree b no_trees) a = sym (append_assoc (spelled b) (mark Comma ∷ []) (spelled a))
trees_push (tree b (tree c ts)) a = ap (λ l. spelled b ++ (mark Comma ∷ l)) (trees_push (tree c ts) a) ∙ sym (append_assoc (spelled b) (mark Comma ∷ each_spelled (tree c ts)) (spelled a))

pub fits_push : (ts : Trees) (a : Tree) → EachFits ts → Fits 1 a → EachFits (push ts a)
fits_push no_trees a f g = (g, tt)
fits_push (tree b ts) a f g = (f.0, fits_push ts a f.1 g)

pub each_put : (ts : Fields) (k : Key) (a : Tree) → each_field_spelled (put ts k a) ≡ each_field_spelled ts ++ (key_token k ∷ mark Colon ∷ (spelled a ++ (mark Comma ∷ [])))
each_put no_fields k a = refl
each_put (field l b ts) k a = ap (λ x. key_token l ∷ mark Colon ∷ (spelled b ++ (mark Comma ∷ x))) (each_put ts k a) ∙ ap (λ x. key_token l ∷ mark Colon ∷ x) (sym (append_assoc (spelled b) (mark Comma ∷ each_field_spelled ts) (key_token k ∷ mark Colon ∷ (spelled a ++ (mark Comma ∷ [])))))

pub fields_put : (ts : Fields) (k : Key) (a : Tree) → fields_spelled (put ts k a) ≡ each_field_spelled ts ++ (key_token k ∷ mark Colon ∷ spelled a)
fields_put no_fields k a = refl
fields_put (field l b no_fields) k a = ap (λ x. key_token l ∷ mark Colon ∷ x) (sym (append_assoc (spelled b) (mark Comma ∷ []) (key_token k ∷ mark Colon ∷ spelled a)))
fields_put (field l b (field m c ts)) k a = ap (λ x. key_token l ∷ mark Colon ∷ (spelled b ++ (mark Comma ∷ x))) (fields_put (field m c ts) k a) ∙ ap (λ x. key_token l ∷ mark Colon ∷ x) (sym (append_assoc (spelled b) (mark Comma ∷ each_field_spelled (field m c ts)) (key_token k ∷ mark Colon ∷ spelled a)))

pub fits_put : (ts : Fields) (k : Key) (a : Tree) → FieldsFit ts → Fits 1 a → FieldsFit (put ts k a)
fits_put no_fields k a f g = (g, tt)
fits_put (field l b ts) k a f g = (f.0, fits_put ts k a f.1 g)

-- closing writes the same tokens, keeps the frames good, and fits what it asks for
pub record Closed (n least : ℕ) (t : Tree) (fs : List Frame) (p : Part) : Type 0 where
  pub same : opened p.1 ++ spelled p.0 ≡ opened fs ++ spelled t
  pub good : GoodFrames p.1
  pub fits : Fits (bound p.1) p.0
  pub tight : Fits least p.0
  pub stopped : 1 ≤ n → bound p.1 ≤ n

at_least : (n : ℕ) (o : Operator) → (ltb n (right_level o) ≡ true → n < right_level o) × (ltb n (right_level o) ≡ false → right_level o ≤ n)
at_least n o = ((λ e. grind (arith, nat_tests)), (λ e. grind (arith, nat_tests)))

closed_refl : (n least : ℕ) (t : Tree) (fs : List Frame) → GoodFrames fs → Fits (bound fs) t → Fits least t → (1 ≤ n → bound fs ≤ n) → Closed n least t fs (t, fs)
closed_refl n least t fs g f l s = record { same = refl; good = g; fits = f; tight = l; stopped = s }

closed_more : (n least : ℕ) (t u : Tree) (fs gs : List Frame) (p : Part) → opened gs ++ spelled u ≡ opened fs ++ spelled t → Closed n least u gs p → Closed n least t fs p
closed_more n least t u fs gs p e c = record { same = c.same ∙ e; good = c.good; fits = c.fits; tight = c.tight; stopped = c.stopped }

pub closing : (n least : ℕ) (t : Tree) (fs : List Frame) → least ≤ 9 → ((o : Operator) → n < right_level o → least ≤ level o) → GoodFrames fs → Fits (bound fs) t → Fits least t → Closed n least t fs (close n t fs)
closing n least t [] k h g f l = closed_refl n least t [] g f l (λ e. e)
closing n least t (beside o a ∷ fs) k h g f l = by_test (ltb n (right_level o)) (at_least n o).0 (at_least n o).1 (λ deep. closing n least (binary o a t) fs k h g.2 (g.0, g.1, f) (h o deep, g.1, f))
  where
    by_test : (c : Bool) → (c ≡ true → n < right_level o) → (c ≡ false → right_level o ≤ n) → (n < right_level o → Closed n least (binary o a t) fs (close n (binary o a t) fs)) → Closed n least t (beside o a ∷ fs) (cond c (close n (binary o a t) fs) (t, beside o a ∷ fs))
    by_test true yes_deep not_deep more = closed_more n least t (binary o a t) (beside o a ∷ fs) fs _ (simp append_assoc) (more (yes_deep refl))
    by_test false yes_deep not_deep more = closed_refl n least t (beside o a ∷ fs) g f l (λ e. not_deep refl)
closing n least t (signed s ∷ fs) k h g f l = closed_more n least t (unary s t) (signed s ∷ fs) fs _ (simp append_assoc) (closing n least (unary s t) fs k h g (bound_below fs, f) (k, f))
closing n least t (in_group ∷ fs) k h g f l = closed_refl n least t (in_group ∷ fs) g f l (λ e. e)
closing n least t (in_index a ∷ fs) k h g f l = closed_refl n least t (in_index a ∷ fs) g f l (λ e. e)
closing n least t (in_slice a x ∷ fs) k h g f l = closed_refl n least t (in_slice a x ∷ fs) g f l (λ e. e)
closing n least t (in_call m ts ∷ fs) k h g f l = closed_refl n least t (in_call m ts ∷ fs) g f l (λ e. e)
closing n least t (in_items ts ∷ fs) k h g f l = closed_refl n least t (in_items ts ∷ fs) g f l (λ e. e)
closing n least t (in_entries m ts ∷ fs) k h g f l = closed_refl n least t (in_entries m ts ∷ fs) g f l (λ e. e)

-- what a step keeps
pub record Keeps (s : State) (x : Token) (t : State) : Type 0 where
  pub read : told t ≡ told s ++ (x ∷ [])
  pub good : Good t

abbrev pub KeepsIf : State → Token → Option State → Type 0
KeepsIf s x None = Unit {0}
KeepsIf s x (Some t) = Keeps s x t
