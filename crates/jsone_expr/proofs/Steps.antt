-- Each step keeps what a state has read, and its frames good. What has been read can go on to an expression.
use Rattle.std.proofs.Common.{◌≡◌, ◌<◌, ◌≤◌, Bool, true, false, cond, List, [], ◌∷◌, ◌++◌, Option, Some, None, refl, sym, ap, ◌∙◌, subst, ⊎_elim, arith, append_assoc, append-nil, lit≤}
use Rattle.jsone_expr.specs.declared.marks.Operator.{Operator}
use Rattle.jsone_expr.specs.declared.marks.Operator.TheVariants.{Or, And, Within, Equal, NotEqual, Below, AtMost, Above, AtLeast, Plus, Minus, Times, Over, Power}
use Rattle.jsone_expr.specs.declared.marks.Literal.TheVariants.{Null}
use Rattle.jsone_expr.specs.declared.marks.Mark.{Mark}
use Rattle.jsone_expr.specs.declared.marks.Mark.TheVariants.{Bang, Dot, Comma, Colon, OpenRound, CloseRound, OpenSquare, CloseSquare, OpenCurly, CloseCurly}
use Rattle.jsone_expr.specs.declared.tokens.Token.{Token}
use Rattle.jsone_expr.specs.declared.tokens.Token.TheVariants.{Digits as digits, Quoted as quoted, Word as word, Literal as literal_word, Operator as operator, Mark as mark}
use Rattle.jsone_expr.specs.declared.tokens.Word.{Word}
use Rattle.jsone_expr.specs.Tokens.{is_function}
use Rattle.jsone_expr.specs.declared.tokens.Key.{Key}
use Rattle.jsone_expr.specs.declared.tokens.Key.TheVariants.{Plain as plain}
use Rattle.jsone_expr.specs.Trees.{Tree, literal, name, unary, binary, group, member, index, slice, call, items, entries, present, no_trees, Fields, no_fields}
use Rattle.jsone_expr.specs.Grammar.{level, left_level, right_level, spelled, Fits, FieldsFit, IsExpression, CanGoOn}
use Rattle.jsone_expr.proofs.States.{Frame, beside, signed, in_group, in_index, in_slice, in_call, in_items, in_entries, State, want, have, after_dot, want_key, after_key, push, put, close, beside_it, round_closed, square_closed, curly_closed, at_colon, at_comma, at_open, have_mark, empty_round, empty_square, empty_colon, want_mark, want_operator, key_mark, colon_after, step, then_run, run, start, ended_part, ended}
use Rattle.jsone_expr.proofs.Complete.{groups, bound, bound_below}
use Rattle.jsone_expr.proofs.Sound.{each_field_spelled, opened, told, GoodFrames, Good, looser, each_push, trees_push, fits_push, each_put, fields_put, fits_put, Closed, closing, KeepsIf}

level_above : (o : Operator) → 1 ≤ level o
level_above Or = lit≤ tt
level_above And = lit≤ tt
level_above Within = lit≤ tt
level_above Equal = lit≤ tt
level_above NotEqual = lit≤ tt
level_above Below = lit≤ tt
level_above AtMost = lit≤ tt
level_above Above = lit≤ tt
level_above AtLeast = lit≤ tt
level_above Plus = lit≤ tt
level_above Minus = lit≤ tt
level_above Times = lit≤ tt
level_above Over = lit≤ tt
level_above Power = lit≤ tt

left_below : (o : Operator) → left_level o ≤ 9
left_below o = ⊎_elim (λ l. omega (arith, l.0, l.2)) (λ r. omega (arith, r.1)) (groups o)

left_loose : (o p : Operator) → level o < right_level p → left_level o ≤ level p
left_loose o p h =
    ⊎_elim
    (λ l. ⊎_elim (λ a. omega (arith, l.0, l.1, l.2, a.0, a.1, a.2)) (λ a. omega (arith, l.0, l.1, l.2, a.0, a.1, a.2)) (groups p))
    (λ r. ⊎_elim (λ a. omega (arith, r.0, r.1, r.2, a.0, a.1, a.2)) (λ a. omega (arith, r.0, r.1, r.2, a.0, a.1, a.2)) (groups p)) (groups o)

closing_at : (o : Operator) (t : Tree) (fs : List Frame) → Good (have t fs) → Closed (level o) (left_level o) t fs (close (level o) t fs)
closing_at o t fs g = closing (level o) (left_level o) t fs (left_below o) (left_loose o) g.1 (looser 10 (bound fs) t (omega (arith, bound_below fs)) g.0) (looser 10 (left_level o) t (omega (arith, left_below o)) g.0)

closing_all : (t : Tree) (fs : List Frame) → Good (have t fs) → Closed 0 1 t fs (close 0 t fs)
closing_all t fs g = closing 0 1 t fs (lit≤ tt) (λ p h. level_above p) g.1 (looser 10 (bound fs) t (omega (arith, bound_below fs)) g.0) (looser 10 1 t (lit≤ tt) g.0)

-- the expression t over these frames has been read as these tokens
record Reads (ts : List Token) (t : Tree) (fs : List Frame) : Type 0 where
  same : opened fs ++ spelled t ≡ ts
  good : GoodFrames fs
  fits : Fits 1 t

-- the step keeps
record KeepsFrom (ts : List Token) (x : Token) (t : State) : Type 0 where
  read : told t ≡ ts ++ (x ∷ [])
  good : Good t

abbrev KeepsFromIf : List Token → Token → Option State → Type 0
KeepsFromIf ts x None = Unit {0}
KeepsFromIf ts x (Some t) = KeepsFrom ts x t

as_keeps : (s : State) (x : Token) (o : Option State) → KeepsFromIf (told s) x o → KeepsIf s x o
as_keeps s x None k = tt
as_keeps s x (Some t) k = record { read = k.read; good = k.good }

keeps_comma : (ts : List Token) (t : Tree) (fs : List Frame) → Reads ts t fs → KeepsFromIf ts (mark Comma) (at_comma t fs)
keeps_comma ts t (in_call m us ∷ fs) r = record {
  read = simp (each_push us t) (simp append_assoc at (ap (λ l. l ++ (mark Comma ∷ [])) r.same));
  good = (r.good.0, fits_push us t r.good.1 r.fits, r.good.2);
}
keeps_comma ts t (in_items us ∷ fs) r = record {
  read = simp (each_push us t) (simp append_assoc at (ap (λ l. l ++ (mark Comma ∷ [])) r.same));
  good = (fits_push us t r.good.0 r.fits, r.good.1);
}
keeps_comma ts t (in_entries k us ∷ fs) r = record {
  read = simp (each_put us k t) (simp append_assoc at (ap (λ l. l ++ (mark Comma ∷ [])) r.same));
  good = (fits_put us k t r.good.0 r.fits, r.good.1);
}
keeps_comma ts t _ r = tt

keeps_colon : (ts : List Token) (t : Tree) (fs : List Frame) → Reads ts t fs → KeepsFromIf ts (mark Colon) (at_colon t fs)
keeps_colon ts t (in_index a ∷ fs) r = record {
  read = simp append_assoc at (ap (λ l. l ++ (mark Colon ∷ [])) r.same);
  good = (r.good.0, r.fits, r.good.1);
}
keeps_colon ts t _ r = tt

keeps_round : (ts : List Token) (t : Tree) (fs : List Frame) → Reads ts t fs → KeepsFromIf ts (mark CloseRound) (round_closed t fs)
keeps_round ts t (in_group ∷ fs) r = record {
  read = simp append_assoc at (ap (λ l. l ++ (mark CloseRound ∷ [])) r.same);
  good = (r.fits, r.good);
}
keeps_round ts t (in_call m us ∷ fs) r = record {
  read = simp (trees_push us t, append_assoc) (simp append_assoc at (ap (λ l. l ++ (mark CloseRound ∷ [])) r.same));
  good = ((r.good.0, fits_push us t r.good.1 r.fits), r.good.2);
}
keeps_round ts t _ r = tt

keeps_square : (ts : List Token) (t : Tree) (fs : List Frame) → Reads ts t fs → KeepsFromIf ts (mark CloseSquare) (square_closed t fs)
keeps_square ts t (in_index a ∷ fs) r = record {
  read = simp append_assoc at (ap (λ l. l ++ (mark CloseSquare ∷ [])) r.same);
  good = ((r.good.0, r.fits), r.good.1);
}
keeps_square ts t (in_slice a g ∷ fs) r = record {
  read = simp append_assoc at (ap (λ l. l ++ (mark CloseSquare ∷ [])) r.same);
  good = ((r.good.0, r.good.1, r.fits), r.good.2);
}
keeps_square ts t (in_items us ∷ fs) r = record {
  read = simp (trees_push us t, append_assoc) (simp append_assoc at (ap (λ l. l ++ (mark CloseSquare ∷ [])) r.same));
  good = (fits_push us t r.good.0 r.fits, r.good.1);
}
keeps_square ts t _ r = tt

keeps_curly : (ts : List Token) (t : Tree) (fs : List Frame) → Reads ts t fs → KeepsFromIf ts (mark CloseCurly) (curly_closed t fs)
keeps_curly ts t (in_entries k us ∷ fs) r = record {
  read = simp (fields_put us k t, append_assoc) (simp append_assoc at (ap (λ l. l ++ (mark CloseCurly ∷ [])) r.same));
  good = (fits_put us k t r.good.0 r.fits, r.good.1);
}
keeps_curly ts t _ r = tt

keeps_open : (t : Tree) (fs : List Frame) → Good (have t fs) → KeepsFromIf (opened fs ++ spelled t) (mark OpenRound) (at_open t fs)
keeps_open (name n) fs g = by_test (is_function n) refl
  where
    by_test : (b : Bool) → is_function n ≡ b → KeepsFromIf (opened fs ++ (word n ∷ [])) (mark OpenRound) (cond b (Some (want (in_call n no_trees ∷ fs))) None)
    by_test true e = record { read = sym (append_assoc (opened fs) (word n ∷ []) (mark OpenRound ∷ [])); good = (e, tt, g.1) }
    by_test false e = tt
keeps_open _ fs g = tt

reads_all : (t : Tree) (fs : List Frame) → Good (have t fs) → (let p = close 0 t fs in Reads (opened fs ++ spelled t) p.0 p.1)
reads_all t fs g = let c = closing_all t fs g in record { same = c.same; good = c.good; fits = c.tight }

keeps_have_mark : (t : Tree) (fs : List Frame) (m : Mark) → Good (have t fs) → KeepsFromIf (opened fs ++ spelled t) (mark m) (have_mark t fs m)
keeps_have_mark t fs Dot g = record { read = sym (append_assoc (opened fs) (spelled t) (mark Dot ∷ [])); good = g }
keeps_have_mark t fs Comma g = let p = close 0 t fs in keeps_comma _ p.0 p.1 (reads_all t fs g)
keeps_have_mark t fs Colon g = let p = close 0 t fs in keeps_colon _ p.0 p.1 (reads_all t fs g)
keeps_have_mark t fs OpenRound g = keeps_open t fs g
keeps_have_mark t fs CloseRound g = let p = close 0 t fs in keeps_round _ p.0 p.1 (reads_all t fs g)
keeps_have_mark t fs OpenSquare g = record { read = sym (append_assoc (opened fs) (spelled t) (mark OpenSquare ∷ [])); good = g }
keeps_have_mark t fs CloseSquare g = let p = close 0 t fs in keeps_square _ p.0 p.1 (reads_all t fs g)
keeps_have_mark t fs CloseCurly g = let p = close 0 t fs in keeps_curly _ p.0 p.1 (reads_all t fs g)
keeps_have_mark t fs _ g = tt

keeps_operator : (o : Operator) (t : Tree) (fs : List Frame) → Good (have t fs) → KeepsFromIf (opened fs ++ spelled t) (operator o) (beside_it o (close (level o) t fs))
keeps_operator o t fs g =
    let c = closing_at o t fs g in
    let p = close (level o) t fs in
    record {
      read = sym (append_assoc (opened p.1) (spelled p.0) (operator o ∷ [])) ∙ ap (λ l. l ++ (operator o ∷ [])) c.same;
      good = (c.stopped (level_above o), c.tight, c.good);
    }

keeps_empty_round : (fs : List Frame) → GoodFrames fs → KeepsFromIf (opened fs) (mark CloseRound) (empty_round fs)
keeps_empty_round (in_call m no_trees ∷ fs) g = record { read = sym (append_assoc (opened fs) (word m ∷ mark OpenRound ∷ []) (mark CloseRound ∷ [])); good = ((g.0, tt), g.2) }
keeps_empty_round _ g = tt

keeps_empty_square : (fs : List Frame) → GoodFrames fs → KeepsFromIf (opened fs) (mark CloseSquare) (empty_square fs)
keeps_empty_square (in_items no_trees ∷ fs) g = record { read = sym (append_assoc (opened fs) (mark OpenSquare ∷ []) (mark CloseSquare ∷ [])); good = (tt, g.1) }
keeps_empty_square (in_slice a f ∷ fs) g = record { read = simp append_assoc; good = ((g.0, g.1, tt), g.2) }
keeps_empty_square _ g = tt

keeps_empty_colon : (fs : List Frame) → GoodFrames fs → KeepsFromIf (opened fs) (mark Colon) (empty_colon fs)
keeps_empty_colon (in_index a ∷ fs) g = record { read = simp append_assoc; good = (g.0, tt, g.1) }
keeps_empty_colon _ g = tt

keeps_want_mark : (fs : List Frame) (m : Mark) → GoodFrames fs → KeepsFromIf (opened fs) (mark m) (want_mark fs m)
keeps_want_mark fs Bang g = record { read = refl; good = g }
keeps_want_mark fs OpenRound g = record { read = refl; good = g }
keeps_want_mark fs OpenSquare g = record { read = refl; good = (tt, g) }
keeps_want_mark fs OpenCurly g = record { read = refl; good = (tt, g) }
keeps_want_mark fs CloseRound g = keeps_empty_round fs g
keeps_want_mark fs CloseSquare g = keeps_empty_square fs g
keeps_want_mark fs Colon g = keeps_empty_colon fs g
keeps_want_mark fs _ g = tt

keeps_want_operator : (fs : List Frame) (o : Operator) → GoodFrames fs → KeepsFromIf (opened fs) (operator o) (want_operator fs o)
keeps_want_operator fs Plus g = record { read = refl; good = g }
keeps_want_operator fs Minus g = record { read = refl; good = g }
keeps_want_operator fs _ g = tt

keeps_key_mark : (ts : Fields) (fs : List Frame) (m : Mark) → FieldsFit ts × GoodFrames fs → KeepsFromIf (opened fs ++ (mark OpenCurly ∷ each_field_spelled ts)) (mark m) (key_mark ts fs m)
keeps_key_mark no_fields fs CloseCurly g = record { read = sym (append_assoc (opened fs) (mark OpenCurly ∷ []) (mark CloseCurly ∷ [])); good = (tt, g.1) }
keeps_key_mark _ fs _ g = tt

keeps_colon_after : (k : Key) (ts : Fields) (fs : List Frame) (m : Mark) → FieldsFit ts × GoodFrames fs → KeepsFromIf (told (after_key k ts fs)) (mark m) (colon_after k ts fs m)
keeps_colon_after k ts fs Colon g = record { read = simp append_assoc; good = g }
keeps_colon_after k ts fs _ g = tt

pub step_keeps : (s : State) (x : Token) → Good s → KeepsIf s x (step s x)
step_keeps (want fs) (digits d) g = record { read = refl; good = (tt, g) }
step_keeps (want fs) (quoted s) g = record { read = refl; good = (tt, g) }
step_keeps (want fs) (word n) g = record { read = refl; good = (tt, g) }
step_keeps (want fs) (literal_word l) g = record { read = refl; good = (tt, g) }
step_keeps (want fs) (operator o) g = as_keeps (want fs) (operator o) (want_operator fs o) (keeps_want_operator fs o g)
step_keeps (want fs) (mark m) g = as_keeps (want fs) (mark m) (want_mark fs m) (keeps_want_mark fs m g)
step_keeps (have t fs) (operator o) g = as_keeps (have t fs) (operator o) (beside_it o (close (level o) t fs)) (keeps_operator o t fs g)
step_keeps (have t fs) (mark m) g = as_keeps (have t fs) (mark m) (have_mark t fs m) (keeps_have_mark t fs m g)
step_keeps (have t fs) _ g = tt
step_keeps (after_dot t fs) (word n) g = record { read = simp append_assoc; good = g }
step_keeps (after_dot t fs) _ g = tt
step_keeps (want_key ts fs) (word n) g = record { read = sym (append_assoc (opened fs) (mark OpenCurly ∷ each_field_spelled ts) (word n ∷ [])); good = g }
step_keeps (want_key ts fs) (quoted n) g = record { read = sym (append_assoc (opened fs) (mark OpenCurly ∷ each_field_spelled ts) (quoted n ∷ [])); good = g }
step_keeps (want_key ts fs) (mark m) g = as_keeps (want_key ts fs) (mark m) (key_mark ts fs m) (keeps_key_mark ts fs m g)
step_keeps (want_key ts fs) _ g = tt
step_keeps (after_key k ts fs) (mark m) g = as_keeps (after_key k ts fs) (mark m) (colon_after k ts fs m) (keeps_colon_after k ts fs m g)
step_keeps (after_key k ts fs) _ g = tt

pub run_keeps : (ts : List Token) (s t : State) → Good s → run ts s ≡ Some t → (told t ≡ told s ++ ts) × Good t
run_keeps [] s t g e =
    let same : s ≡ t = cc in
    (ap told (sym same) ∙ sym (append-nil (told s)), subst Good same g)
run_keeps (x ∷ ts) s t g e = by_step (step s x) (step_keeps s x g) (λ u good f. run_keeps ts u t good f) e
  where
    by_step : (o : Option State) → KeepsIf s x o → ((u : State) → Good u → run ts u ≡ Some t → (told t ≡ told u ++ ts) × Good t) → then_run o (run ts) ≡ Some t → (told t ≡ told s ++ (x ∷ ts)) × Good t
    by_step None k more e = absurd (cc)
    by_step (Some u) k more e =
        let kept = more u k.good e in
        (kept.0 ∙ ap (λ l. l ++ ts) k.read ∙ append_assoc (told s) (x ∷ []) ts, kept.1)

pub told_run : (ts : List Token) (t : State) → run ts start ≡ Some t → (told t ≡ ts) × Good t
told_run ts t e = run_keeps ts start t tt e

-- where no frame is open, what was read is the expression of the tree
pub ended_reads : (s : State) (t : Tree) → Good s → ended s ≡ Some t → IsExpression (told s) t
ended_reads (have u fs) t g e = by_part (close 0 u fs).0 (close 0 u fs).1 (reads_all u fs g) e
  where
    by_part : (v : Tree) (gs : List Frame) → Reads (opened fs ++ spelled u) v gs → ended_part v gs ≡ Some t → IsExpression (opened fs ++ spelled u) t
    by_part v [] r e =
        let same : v ≡ t = cc in
        record { written = sym r.same ∙ ap spelled same; fits = subst (λ w. Fits 1 w) same r.fits }
    by_part v (f ∷ gs) r e = absurd (cc)
ended_reads (want fs) t g e = absurd (cc)
ended_reads (after_dot u fs) t g e = absurd (cc)
ended_reads (want_key ts fs) t g e = absurd (cc)
ended_reads (after_key k ts fs) t g e = absurd (cc)

-- the frames can be completed over a tree
record Completed (ts : List Token) : Type 0 where
  more : List Token
  whole : Tree
  written : ts ++ more ≡ spelled whole
  fits : Fits 1 whole

completed_by : (ts us : List Token) → (more : List Token) → ((c : List Token) → us ++ c ≡ ts ++ (more ++ c)) → Completed us → Completed ts
completed_by ts us more e c = record { more = more ++ c.more; whole = c.whole; written = sym (e c.more) ∙ c.written; fits = c.fits }

completes : (fs : List Frame) (t : Tree) → GoodFrames fs → Fits (bound fs) t → Completed (opened fs ++ spelled t)
completes [] t g f = record { more = []; whole = t; written = append-nil (spelled t); fits = f }
completes (beside o a ∷ fs) t g f = completed_by _ (opened fs ++ spelled (binary o a t)) [] (λ c. simp append_assoc) (completes fs (binary o a t) g.2 (g.0, g.1, f))
completes (signed s ∷ fs) t g f = completed_by _ (opened fs ++ spelled (unary s t)) [] (λ c. simp append_assoc) (completes fs (unary s t) g (bound_below fs, f))
completes (in_group ∷ fs) t g f = completed_by _ (opened fs ++ spelled (group t)) (mark CloseRound ∷ []) (λ c. simp append_assoc) (completes fs (group t) g f)
completes (in_index a ∷ fs) t g f = completed_by _ (opened fs ++ spelled (index a t)) (mark CloseSquare ∷ []) (λ c. simp append_assoc) (completes fs (index a t) g.1 (g.0, f))
completes (in_slice a x ∷ fs) t g f = completed_by _ (opened fs ++ spelled (slice a x (present t))) (mark CloseSquare ∷ []) (λ c. simp append_assoc) (completes fs (slice a x (present t)) g.2 (g.0, g.1, f))
completes (in_call n ts ∷ fs) t g f = completed_by _ (opened fs ++ spelled (call n (push ts t))) (mark CloseRound ∷ []) (λ c. simp (trees_push ts t, append_assoc)) (completes fs (call n (push ts t)) g.2 (g.0, fits_push ts t g.1 f))
completes (in_items ts ∷ fs) t g f = completed_by _ (opened fs ++ spelled (items (push ts t))) (mark CloseSquare ∷ []) (λ c. simp (trees_push ts t, append_assoc)) (completes fs (items (push ts t)) g.1 (fits_push ts t g.0 f))
completes (in_entries k ts ∷ fs) t g f = completed_by _ (opened fs ++ spelled (entries (put ts k t))) (mark CloseCurly ∷ []) (λ c. simp (fields_put ts k t, append_assoc)) (completes fs (entries (put ts k t)) g.1 (fits_put ts k t g.0 f))

goes_on : (ts : List Token) → Completed ts → CanGoOn ts
goes_on ts c = (c.more, c.whole, record { written = c.written; fits = c.fits })

-- some name
abbrev a_word : Word
a_word = record { span = record { from = 0; to = 1 }; function = None }

abbrev null : Tree
null = literal Null

-- what has been read can go on
pub read_goes_on : (s : State) → Good s → CanGoOn (told s)
read_goes_on (want fs) g = goes_on _ (completed_by (opened fs) (opened fs ++ spelled null) (spelled null) (λ c. simp append_assoc) (completes fs null g tt))
read_goes_on (have t fs) g = goes_on _ (completes fs t g.1 (looser 10 (bound fs) t (omega (arith, bound_below fs)) g.0))
read_goes_on (after_dot t fs) g = goes_on _ (completed_by _ (opened fs ++ spelled (member t a_word)) (word a_word ∷ []) (λ c. simp append_assoc) (completes fs (member t a_word) g.1 g.0))
read_goes_on (want_key ts fs) g = goes_on _ (completed_by _ (opened fs ++ spelled (entries (put ts (plain a_word) null))) (word a_word ∷ mark Colon ∷ (spelled null ++ (mark CloseCurly ∷ []))) (λ c. simp (fields_put ts (plain a_word) null, append_assoc)) (completes fs (entries (put ts (plain a_word) null)) g.1 (fits_put ts (plain a_word) null g.0 tt)))
read_goes_on (after_key k ts fs) g = goes_on _ (completed_by _ (opened fs ++ spelled (entries (put ts k null))) (mark Colon ∷ (spelled null ++ (mark CloseCurly ∷ []))) (λ c. simp (fields_put ts k null, append_assoc)) (completes fs (entries (put ts k null)) g.1 (fits_put ts k null g.0 tt)))
