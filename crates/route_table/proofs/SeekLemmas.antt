-- What a router finds: a row whose tokens take the path, where there is one.
use Rattle.std.proofs.Common.{◌≡◌, ◌⊎◌, ℕ, zero, suc, ◌+◌, ◌-◌, ◌<◌, Bool, true, false, not, ◌&&◌, ◌||◌, cond, List, [], ◌∷◌, ◌++◌, length, drop, Option, Some, None, refl, sym, ap, ◌∙◌, subst, eqb, nat_eq, ltb, arith, inl, inr}
use Rattle.std.specs.List.{All, ends_with}
use Rattle.std.specs.Cmp.Lexicographic.{pointwise}
use Rattle.std.proofs.Math.Seq.{drop-append_seam, drop-length}
use Rattle.std.proofs.lemmas.List.{length-append}
use Rattle.std.proofs.lemmas.List.Elements.{All-head, All-tail}
use Rattle.std.proofs.lemmas.Bool.{false≢true}
use Rattle.std.proofs.lemmas.Bool.Decides.{nat_tests}
use Rattle.matchit.specs.Rows.{RowsOf, param_token, catch_all_token}
use Rattle.matchit.specs.Seek.{segment, has_slash, cuts, same_text, own, step, or_else, longest_from, with_suffix, param_step, seek, first}
use Rattle.route_table.specs.Tokens.{takes}
use Rattle.route_table.proofs.TakeLemmas.{and_first, and_second, not_true}

-- no row passes a test of its tokens
abbrev pub NoRow : {K : Type 0} → (List ℕ → Bool) → RowsOf K → Type 0
NoRow test [] = Unit {0}
NoRow test ((tokens, key) ∷ rows) = (test tokens ≡ false) × NoRow test rows

-- a row of this key does
abbrev pub SomeRow : {K : Type 0} → (List ℕ → Bool) → K → RowsOf K → Type 0
SomeRow test key [] = ⊥
SomeRow test key ((tokens, k) ∷ rows) = ((test tokens ≡ true) × (k ≡ key)) ⊎ SomeRow test key rows

abbrev pub Answers : {K : Type 0} → (List ℕ → Bool) → RowsOf K → Option K → Type 0
Answers test rows None = NoRow test rows
Answers test rows (Some key) = SomeRow test key rows

-- behind a parameter there is nothing, or a slash
abbrev pub ends_part : List ℕ → Bool
ends_part [] = true
ends_part (y ∷ tokens) = eqb y 47

-- each parameter is a whole part, and nothing takes all that is left
abbrev pub is_whole : List ℕ → Bool
is_whole [] = true
is_whole (x ∷ tokens) = not (eqb x catch_all_token) && ((not (eqb x param_token) || ends_part tokens) && is_whole tokens)

abbrev pub all_whole : {K : Type 0} → RowsOf K → Bool
all_whole [] = true
all_whole ((tokens, key) ∷ rows) = is_whole tokens && all_whole rows

abbrev all_end : {K : Type 0} → RowsOf K → Bool
all_end [] = true
all_end ((tokens, key) ∷ rows) = ends_part tokens && all_end rows

-- ---- parts of paths

seg_byte : (b : ℕ) (path : List ℕ) → eqb b 47 ≡ false → segment (b ∷ path) ≡ b ∷ segment path
seg_byte b path other = rw other refl

slash_byte : (b : ℕ) (path : List ℕ) → eqb b 47 ≡ false → has_slash (b ∷ path) ≡ has_slash path
slash_byte b path other = rw other refl

-- a path without a slash, or one cut at its first slash
record Cut (path : List ℕ) : Type 0 where
  front : List ℕ
  no_slash : has_slash front ≡ false
  is : (path ≡ front) ⊎ ((rest : List ℕ) × (path ≡ front ++ 47 ∷ rest))

cut_on : (b : ℕ) (path : List ℕ) (slash : Bool) → eqb b 47 ≡ slash → Cut path → Cut (b ∷ path)
cut_on b path true is cut =
    let same : b ≡ 47 = grind (arith, nat_tests) in
    record { front = []; no_slash = refl; is = inr (path, ap (λ x. x ∷ path) same) }
cut_on b path false is cut = record {
  front = b ∷ cut.front;
  no_slash = rw (slash_byte b cut.front is) cut.no_slash;
  is = by cut.is;
}
  where
    by : (path ≡ cut.front) ⊎ ((rest : List ℕ) × (path ≡ cut.front ++ 47 ∷ rest)) → ((b ∷ path) ≡ (b ∷ cut.front)) ⊎ ((rest : List ℕ) × ((b ∷ path) ≡ (b ∷ cut.front) ++ 47 ∷ rest))
    by (inl e) = inl (ap (λ p. b ∷ p) e)
    by (inr (rest, e)) = inr (rest, ap (λ p. b ∷ p) e)

cut_of : (path : List ℕ) → Cut path
cut_of [] = record { front = []; no_slash = refl; is = inl refl }
cut_of (b ∷ path) = cut_on b path (eqb b 47) refl (cut_of path)

either_true : (a b : Bool) → b ≡ true → cond a true b ≡ true
either_true true b e = refl
either_true false b e = e

-- `has_slash` of a list that goes on with a slash, and of one without
slash_more : (front rest : List ℕ) → has_slash (front ++ 47 ∷ rest) ≡ true
slash_more [] rest = refl
slash_more (b ∷ front) rest = either_true (eqb b 47) (has_slash (front ++ 47 ∷ rest)) (slash_more front rest)

front_byte : (b : ℕ) (front : List ℕ) → has_slash (b ∷ front) ≡ false → (eqb b 47 ≡ false) × (has_slash front ≡ false)
front_byte b front none = by (eqb b 47) refl
  where
    by : (slash : Bool) → eqb b 47 ≡ slash → (eqb b 47 ≡ false) × (has_slash front ≡ false)
    by true e = let all : true ≡ false = (rw e refl) ∙ none in absurd (false≢true (sym all))
    by false e = (e, sym (slash_byte b front e) ∙ none)

seg_cut : (front rest : List ℕ) → has_slash front ≡ false → segment (front ++ 47 ∷ rest) ≡ front ++ 47 ∷ []
seg_cut [] rest none = refl
seg_cut (b ∷ front) rest none =
    let parts = front_byte b front none in
    seg_byte b (front ++ 47 ∷ rest) parts.0 ∙ ap (λ p. b ∷ p) (seg_cut front rest parts.1)

seg_end : (front : List ℕ) → has_slash front ≡ false → segment front ≡ front
seg_end [] none = refl
seg_end (b ∷ front) none =
    let parts = front_byte b front none in
    seg_byte b front parts.0 ∙ ap (λ p. b ∷ p) (seg_end front parts.1)

slash_later : (n : ℕ) (path : List ℕ) → has_slash (drop n path) ≡ true → has_slash path ≡ true
slash_later zero path e = e
slash_later (suc n) [] e = e
slash_later (suc n) (b ∷ path) e = either_true (eqb b 47) (has_slash path) (slash_later n path e)

-- ---- the suffix that a parameter leaves

cuts_slash : (b : ℕ) (front : List ℕ) → cuts ((b ∷ front) ++ 47 ∷ []) (47 ∷ []) ≡ true
cuts_slash b front =
    let long : length ((b ∷ front) ++ 47 ∷ []) ≡ length (b ∷ front) + 1 = omega (arith, length-append (b ∷ front) (47 ∷ [])) in
    let back : length ((b ∷ front) ++ 47 ∷ []) - 1 ≡ length (b ∷ front) = omega (arith, long) in
    let two : ltb 1 (length ((b ∷ front) ++ 47 ∷ [])) ≡ true = grind (arith, nat_tests) in
    rw (two, back, drop-append_seam (b ∷ front) (47 ∷ [])) refl

only_slash : (bytes : List ℕ) → pointwise nat_eq (47 ∷ []) bytes ≡ true → has_slash bytes ≡ true
only_slash [] e = absurd (false≢true e)
only_slash (b ∷ bytes) e =
    let same : eqb b 47 ≡ true = grind (arith, nat_tests, and_first (nat_eq 47 b) (pointwise nat_eq [] bytes) e) in
    rw same refl

cuts_none : (path : List ℕ) → has_slash path ≡ false → cuts path (47 ∷ []) ≡ false
cuts_none path none = by (cuts path (47 ∷ [])) refl
  where
    by : (cut : Bool) → cuts path (47 ∷ []) ≡ cut → cut ≡ false
    by false e = refl
    by true e =
        let ends = and_second (ltb 1 (length path)) (ends_with nat_eq path (47 ∷ [])) e in
        absurd (false≢true (sym none ∙ slash_later (length path - 1) path (only_slash (drop (length path - 1) path) ends)))

byte_taken : (b x : ℕ) (tokens path : List ℕ) (same : Bool) → b < 256 → eqb x b ≡ same → (same && takes false tokens path) ≡ true → takes false (x ∷ tokens) (b ∷ path) ≡ true
byte_taken b x tokens path true small is taken =
    let other : eqb x param_token ≡ false = grind (arith, nat_tests) in
    rw (other, is) taken
byte_taken b x tokens path false small is taken = absurd (false≢true taken)

implied : (a b : Bool) → a ≡ true → (not a || b) ≡ true → b ≡ true
implied true b is e = e
implied false b is e = absurd (false≢true is)

-- some row goes on behind the parameter
abbrev goes_on : {K : Type 0} → RowsOf K → Bool
goes_on [] = false
goes_on (([], key) ∷ rows) = goes_on rows
goes_on ((y ∷ tokens, key) ∷ rows) = true

-- ---- what is behind a parameter
-- inside a parameter, behind the bytes up to the slash
inside_cut : (front rest tokens : List ℕ) → has_slash front ≡ false → ends_part tokens ≡ true → takes true tokens (front ++ 47 ∷ rest) ≡ takes false tokens (47 ∷ rest)
inside_cut [] rest [] none ends = refl
inside_cut [] rest (y ∷ tokens) none ends =
    let same : 47 ≡ y = grind (arith, nat_tests) in
    let P : ℕ → Type 0 = λ z. takes true (z ∷ tokens) (47 ∷ rest) ≡ takes false (z ∷ tokens) (47 ∷ rest) in
    subst P same refl
inside_cut (b ∷ front) rest [] none ends =
    let parts = front_byte b front none in
    rw (parts.0) (inside_cut front rest [] parts.1 ends)
inside_cut (b ∷ front) rest (y ∷ tokens) none ends =
    let parts = front_byte b front none in
    rw (parts.0) (inside_cut front rest (y ∷ tokens) parts.1 ends)

inside_end : (front tokens : List ℕ) → has_slash front ≡ false → ends_part tokens ≡ true → takes true tokens front ≡ takes false tokens []
inside_end [] [] none ends = refl
inside_end [] (y ∷ tokens) none ends = refl
inside_end (b ∷ front) [] none ends =
    let parts = front_byte b front none in
    rw (parts.0) (inside_end front [] parts.1 ends)
inside_end (b ∷ front) (y ∷ tokens) none ends =
    let parts = front_byte b front none in
    rw (parts.0) (inside_end front (y ∷ tokens) parts.1 ends)

module _ {K : Type 0} where
  longest_stays : (seg : List ℕ) (rows : RowsOf K) → all_end rows ≡ true → longest_from seg (47 ∷ []) rows ≡ 47 ∷ []
  longest_stays seg [] ends = refl
  longest_stays seg (([], key) ∷ rows) ends = longest_stays seg rows ends
  longest_stays seg ((y ∷ tokens, key) ∷ rows) ends =
      let is = and_first (eqb y 47) (all_end rows) ends in
      rw (is) (longest_stays seg rows (and_second (eqb y 47) (all_end rows) ends))

  longest_cut : (seg : List ℕ) (rows : RowsOf K) → cuts seg (47 ∷ []) ≡ true → all_end rows ≡ true → longest_from seg [] rows ≡ cond (goes_on rows) (47 ∷ []) []
  longest_cut seg [] cut ends = refl
  longest_cut seg (([], key) ∷ rows) cut ends = longest_cut seg rows cut ends
  longest_cut seg ((y ∷ tokens, key) ∷ rows) cut ends =
      let is = and_first (eqb y 47) (all_end rows) ends in
      let same : y ≡ 47 = grind (arith, nat_tests) in
      rw (same, cut) (longest_stays seg rows (and_second (eqb y 47) (all_end rows) ends))

  longest_none : (seg : List ℕ) (rows : RowsOf K) → cuts seg (47 ∷ []) ≡ false → all_end rows ≡ true → longest_from seg [] rows ≡ []
  longest_none seg [] cut ends = refl
  longest_none seg (([], key) ∷ rows) cut ends = longest_none seg rows cut ends
  longest_none seg ((y ∷ tokens, key) ∷ rows) cut ends =
      let is = and_first (eqb y 47) (all_end rows) ends in
      let same : y ≡ 47 = grind (arith, nat_tests) in
      rw (same, cut) (longest_none seg rows cut (and_second (eqb y 47) (all_end rows) ends))

  -- ---- rows

  no_rows : (test : List ℕ → Bool) (rows : RowsOf K) → ((tokens : List ℕ) → test tokens ≡ false) → NoRow test rows
  no_rows test [] none = tt
  no_rows test ((tokens, key) ∷ rows) none = (none tokens, no_rows test rows none)

  skip_row : (test : List ℕ → Bool) (tokens : List ℕ) (key : K) (rows : RowsOf K) (found : Option K) → test tokens ≡ false → Answers test rows found → Answers test ((tokens, key) ∷ rows) found
  skip_row test tokens key rows None miss rest = (miss, rest)
  skip_row test tokens key rows (Some k) miss rest = inr rest

  own_answers : (rows : RowsOf K) → Answers (λ tokens. takes false tokens []) rows (own rows)
  own_answers [] = tt
  own_answers (([], key) ∷ rows) = inl (refl, refl)
  own_answers ((x ∷ tokens, key) ∷ rows) = skip_row (λ t. takes false t []) (x ∷ tokens) key rows (own rows) refl (own_answers rows)

  -- tests that agree on the rows' tokens find the same
  same_test : (test other : List ℕ → Bool) (rows : RowsOf K) (found : Option K) → ((tokens : List ℕ) → ends_part tokens ≡ true → test tokens ≡ other tokens) → all_end rows ≡ true → Answers test rows found → Answers other rows found
  same_test test other [] None same ends all = tt
  same_test test other [] (Some key) same ends all = all
  same_test test other ((tokens, k) ∷ rows) None same ends all =
      let this = same tokens (and_first (ends_part tokens) (all_end rows) ends) in
      (sym this ∙ all.0, same_test test other rows None same (and_second (ends_part tokens) (all_end rows) ends) all.1)
  same_test test other ((tokens, k) ∷ rows) (Some key) same ends (inl here) =
      let this = same tokens (and_first (ends_part tokens) (all_end rows) ends) in
      inl (sym this ∙ here.0, here.1)
  same_test test other ((tokens, k) ∷ rows) (Some key) same ends (inr there) =
      inr (same_test test other rows (Some key) same (and_second (ends_part tokens) (all_end rows) ends) there)

  -- the rows that go on with a slash
  keep_row : (test : List ℕ → Bool) (tokens : List ℕ) (k : K) (rows : RowsOf K) (found : Option K) → (Answers test (with_suffix (47 ∷ []) rows) found → Answers test rows found) → Answers test (with_suffix (47 ∷ []) ((47 ∷ tokens, k) ∷ rows)) found → Answers test ((47 ∷ tokens, k) ∷ rows) found
  keep_row test tokens k rows None rest all = (all.0, rest all.1)
  keep_row test tokens k rows (Some key) rest (inl here) = inl here
  keep_row test tokens k rows (Some key) rest (inr there) = inr (rest there)

  slash_rows : (test : List ℕ → Bool) (rows : RowsOf K) (found : Option K) → test [] ≡ false → all_end rows ≡ true → Answers test (with_suffix (47 ∷ []) rows) found → Answers test rows found
  slash_rows test [] None none ends all = tt
  slash_rows test [] (Some key) none ends all = all
  slash_rows test (([], k) ∷ rows) found none ends all = skip_row test [] k rows found none (slash_rows test rows found none ends all)
  slash_rows test ((y ∷ tokens, k) ∷ rows) found none ends all =
      let is = and_first (eqb y 47) (all_end rows) ends in
      let same : 47 ≡ y = grind (arith, nat_tests) in
      let P : ℕ → Type 0 = λ z. Answers test (with_suffix (47 ∷ []) ((z ∷ tokens, k) ∷ rows)) found → Answers test ((z ∷ tokens, k) ∷ rows) found in
      subst P same (keep_row test tokens k rows found (slash_rows test rows found none (and_second (eqb y 47) (all_end rows) ends))) all

  -- ---- a walk over no rows
  param_none : (path : List ℕ) → (param_step {K = K} [] path).1 ≡ []
  unfolding param_step
  param_none path = by (has_slash path)
    where
      by : (slash : Bool) → (cond {A = ℕ × RowsOf K} slash (0, []) (length path, [])).1 ≡ []
      by true = refl
      by false = refl

  seek_none : (k : ℕ) (path : List ℕ) → seek {K = K} k [] path ≡ None
  unfolding seek
  seek_none zero [] = refl
  seek_none (suc k) [] = refl
  seek_none (suc k) (b ∷ path) = seek_none k path
  seek_none zero (b ∷ path) =
      rw (seek_none 0 path, param_none (b ∷ path), seek_none ((param_step {K = K} [] (b ∷ path)).0 - 1) path) refl

  ends_rows : (test : List ℕ → Bool) (rows : RowsOf K) → goes_on rows ≡ false → test [] ≡ false → NoRow test rows
  ends_rows test [] none miss = tt
  ends_rows test (([], key) ∷ rows) none miss = (miss, ends_rows test rows none miss)
  ends_rows test ((y ∷ tokens, key) ∷ rows) none miss = absurd (false≢true (sym none))

  suffix_whole : (rows : RowsOf K) → all_whole rows ≡ true → all_whole (with_suffix (47 ∷ []) rows) ≡ true
  suffix_whole [] whole = refl
  suffix_whole ((tokens, key) ∷ rows) whole =
      kept_whole tokens key rows (same_text (segment tokens) (47 ∷ [])) (and_first (is_whole tokens) (all_whole rows) whole) (suffix_whole rows (and_second (is_whole tokens) (all_whole rows) whole))
    where
      kept_whole : (tokens : List ℕ) (key : K) (rows : RowsOf K) (kept : Bool) → is_whole tokens ≡ true → all_whole (with_suffix (47 ∷ []) rows) ≡ true → all_whole (cond kept ((tokens, key) ∷ with_suffix (47 ∷ []) rows) (with_suffix (47 ∷ []) rows)) ≡ true
      kept_whole tokens key rows true this rest = rw (this, rest) refl
      kept_whole tokens key rows false this rest = rest

  -- how far a parameter goes
  step_slash : (path : List ℕ) (rows : RowsOf K) → all_end rows ≡ true → param_step rows (47 ∷ path) ≡ (0, [])
  unfolding param_step
  step_slash path rows ends = rw (longest_none (47 ∷ []) rows refl ends) refl

  step_end : (b : ℕ) (front : List ℕ) (rows : RowsOf K) → has_slash (b ∷ front) ≡ false → all_end rows ≡ true → param_step rows (b ∷ front) ≡ (length (b ∷ front), rows)
  unfolding param_step
  step_end b front rows none ends =
      rw (seg_end (b ∷ front) none, longest_none (b ∷ front) rows (cuts_none (b ∷ front) none) ends, none) refl

  step_cut : (b : ℕ) (front rest : List ℕ) (rows : RowsOf K) → has_slash (b ∷ front) ≡ false → all_end rows ≡ true → param_step rows ((b ∷ front) ++ 47 ∷ rest) ≡ cond (goes_on rows) (length ((b ∷ front) ++ 47 ∷ []) - 1, with_suffix (47 ∷ []) rows) (0, [])
  unfolding param_step
  step_cut b front rest rows none ends =
      rw (seg_cut (b ∷ front) rest none, longest_cut ((b ∷ front) ++ 47 ∷ []) rows (cuts_slash b front) ends) (by (goes_on rows))
    where
      by : (goes : Bool) → cond {A = ℕ × RowsOf K} (ltb 0 (length {A = ℕ} (cond goes (47 ∷ []) []))) (length ((b ∷ front) ++ 47 ∷ []) - length {A = ℕ} (cond goes (47 ∷ []) []), with_suffix (cond goes (47 ∷ []) []) rows) (cond {A = ℕ × RowsOf K} (has_slash ((b ∷ front) ++ 47 ∷ rest)) (0, []) (length ((b ∷ front) ++ 47 ∷ rest), rows)) ≡ cond {A = ℕ × RowsOf K} goes (length ((b ∷ front) ++ 47 ∷ []) - 1, with_suffix (47 ∷ []) rows) (0, [])
      by true = refl
      by false = rw (slash_more (b ∷ front) rest) refl

  -- what is found behind a parameter, where each shorter path is answered
  module _ (path : List ℕ) (found : (k : ℕ) (rows : RowsOf K) → all_whole rows ≡ true → Answers (λ tokens. takes false tokens (drop k path)) rows (seek k rows path)) where
    at_slash : (rows : RowsOf K) → all_end rows ≡ true → Answers (λ tokens. takes false (param_token ∷ tokens) (47 ∷ path)) rows (seek ((param_step rows (47 ∷ path)).0 - 1) (param_step rows (47 ∷ path)).1 path)
    at_slash rows ends =
        rw (step_slash path rows ends, seek_none 0 path) (no_rows (λ tokens. takes false (param_token ∷ tokens) (47 ∷ path)) rows (λ tokens. refl))

    at_end : (b : ℕ) (rows : RowsOf K) → has_slash (b ∷ path) ≡ false → all_end rows ≡ true → all_whole rows ≡ true → Answers (λ tokens. takes false (param_token ∷ tokens) (b ∷ path)) rows (seek ((param_step rows (b ∷ path)).0 - 1) (param_step rows (b ∷ path)).1 path)
    at_end b rows none ends whole =
        let parts = front_byte b path none in
        let all : length (b ∷ path) - 1 ≡ length path = omega arith in
        let past : drop (length path) path ≡ [] = drop-length path in
        let these : Answers (λ tokens. takes false tokens []) rows (seek (length path) rows path) = rw (← past) (found (length path) rows whole) in
        rw (step_end b path rows none ends, all) (same_test (λ tokens. takes false tokens []) (λ tokens. takes false (param_token ∷ tokens) (b ∷ path)) rows (seek (length path) rows path) (λ tokens end. sym (rw (parts.0) (inside_end path tokens parts.1 end))) ends these)

    at_cut : (b : ℕ) (front rest : List ℕ) (rows : RowsOf K) → path ≡ front ++ 47 ∷ rest → has_slash (b ∷ front) ≡ false → all_end rows ≡ true → all_whole rows ≡ true → Answers (λ tokens. takes false (param_token ∷ tokens) (b ∷ path)) rows (seek ((param_step rows (b ∷ path)).0 - 1) (param_step rows (b ∷ path)).1 path)
    at_cut b front rest rows is none ends whole =
        let parts = front_byte b front none in
        let steps : param_step rows (b ∷ path) ≡ cond (goes_on rows) (length ((b ∷ front) ++ 47 ∷ []) - 1, with_suffix (47 ∷ []) rows) (0, []) = rw is (step_cut b front rest rows none ends) in
        let back : drop (length front) path ≡ 47 ∷ rest = rw is (drop-append_seam front (47 ∷ rest)) in
        let taken : (tokens : List ℕ) → ends_part tokens ≡ true → takes false tokens (47 ∷ rest) ≡ takes false (param_token ∷ tokens) (b ∷ path) = λ tokens end. sym (rw (is, parts.0) (inside_cut front rest tokens parts.1 end)) in
        rw steps (by parts taken back (goes_on rows) refl)
      where
        by : (eqb b 47 ≡ false) × (has_slash front ≡ false) → ((tokens : List ℕ) → ends_part tokens ≡ true → takes false tokens (47 ∷ rest) ≡ takes false (param_token ∷ tokens) (b ∷ path)) → drop (length front) path ≡ 47 ∷ rest
            → (goes : Bool) → goes_on rows ≡ goes → Answers (λ tokens. takes false (param_token ∷ tokens) (b ∷ path)) rows (seek ((cond {A = ℕ × RowsOf K} goes (length ((b ∷ front) ++ 47 ∷ []) - 1, with_suffix (47 ∷ []) rows) (0, [])).0 - 1) (cond {A = ℕ × RowsOf K} goes (length ((b ∷ front) ++ 47 ∷ []) - 1, with_suffix (47 ∷ []) rows) (0, [])).1 path)
        by parts taken back false goes =
            rw (seek_none 0 path) (same_test (λ tokens. takes false tokens (47 ∷ rest)) (λ tokens. takes false (param_token ∷ tokens) (b ∷ path)) rows None taken ends (ends_rows (λ tokens. takes false tokens (47 ∷ rest)) rows goes refl))
        by parts taken back true goes =
            let long : length ((b ∷ front) ++ 47 ∷ []) - 1 - 1 ≡ length front = omega (arith, length-append (b ∷ front) (47 ∷ [])) in
            let those = found (length front) (with_suffix (47 ∷ []) rows) (suffix_whole rows whole) in
            let these : Answers (λ tokens. takes false tokens (47 ∷ rest)) (with_suffix (47 ∷ []) rows) (seek (length front) (with_suffix (47 ∷ []) rows) path) = rw (← back) those in
            rw long (same_test (λ tokens. takes false tokens (47 ∷ rest)) (λ tokens. takes false (param_token ∷ tokens) (b ∷ path)) rows (seek (length front) (with_suffix (47 ∷ []) rows) path) taken ends
            (slash_rows (λ tokens. takes false tokens (47 ∷ rest)) rows (seek (length front) (with_suffix (47 ∷ []) rows) path) refl ends these))

    behind : (b : ℕ) (rows : RowsOf K) → all_end rows ≡ true → all_whole rows ≡ true → Answers (λ tokens. takes false (param_token ∷ tokens) (b ∷ path)) rows (seek ((param_step rows (b ∷ path)).0 - 1) (param_step rows (b ∷ path)).1 path)
    behind b rows ends whole = by (eqb b 47) refl (cut_of path)
      where
        by : (slash : Bool) → eqb b 47 ≡ slash → Cut path → Answers (λ tokens. takes false (param_token ∷ tokens) (b ∷ path)) rows (seek ((param_step rows (b ∷ path)).0 - 1) (param_step rows (b ∷ path)).1 path)
        by true is cut =
            let same : 47 ≡ b = grind (arith, nat_tests) in
            let P : ℕ → Type 0 = λ z. Answers (λ tokens. takes false (param_token ∷ tokens) (z ∷ path)) rows (seek ((param_step rows (z ∷ path)).0 - 1) (param_step rows (z ∷ path)).1 path) in
            subst P same (at_slash rows ends)
        by false is cut = on cut.is
          where
            on : (path ≡ cut.front) ⊎ ((rest : List ℕ) × (path ≡ cut.front ++ 47 ∷ rest)) → Answers (λ tokens. takes false (param_token ∷ tokens) (b ∷ path)) rows (seek ((param_step rows (b ∷ path)).0 - 1) (param_step rows (b ∷ path)).1 path)
            on (inl e) = at_end b rows (rw (slash_byte b path is, e) cut.no_slash) ends whole
            on (inr (rest, e)) = at_cut b cut.front rest rows e (rw (slash_byte b cut.front is) cut.no_slash) ends whole

  -- ---- a byte of a path, and the rows that go on with it or with a parameter
  hit_byte : (b : ℕ) (path : List ℕ) (key : K) (rows : RowsOf K) → b < 256 → SomeRow (λ tokens. takes false tokens path) key (step b rows) → SomeRow (λ tokens. takes false tokens (b ∷ path)) key rows
  hit_byte b path key [] small hit = hit
  hit_byte b path key (([], k) ∷ rows) small hit = inr (hit_byte b path key rows small hit)
  hit_byte b path key ((x ∷ tokens, k) ∷ rows) small hit = by (eqb x b) refl (hit_byte b path key rows small) hit
    where
      by : (same : Bool) → eqb x b ≡ same → (SomeRow (λ t. takes false t path) key (step b rows) → SomeRow (λ t. takes false t (b ∷ path)) key rows)
          → SomeRow (λ t. takes false t path) key (cond same ((tokens, k) ∷ step b rows) (step b rows)) → SomeRow (λ t. takes false t (b ∷ path)) key ((x ∷ tokens, k) ∷ rows)
      by true is rest (inl (taken, keys)) = inl (byte_taken b x tokens path true small is taken, keys)
      by true is rest (inr there) = inr (rest there)
      by false is rest hit = inr (rest hit)

  hit_param : (b : ℕ) (path : List ℕ) (key : K) (rows : RowsOf K) → SomeRow (λ tokens. takes false (param_token ∷ tokens) (b ∷ path)) key (step param_token rows) → SomeRow (λ tokens. takes false tokens (b ∷ path)) key rows
  hit_param b path key [] hit = hit
  hit_param b path key (([], k) ∷ rows) hit = inr (hit_param b path key rows hit)
  hit_param b path key ((x ∷ tokens, k) ∷ rows) hit = by (eqb x param_token) refl (hit_param b path key rows) hit
    where
      by : (same : Bool) → eqb x param_token ≡ same → (SomeRow (λ t. takes false (param_token ∷ t) (b ∷ path)) key (step param_token rows) → SomeRow (λ t. takes false t (b ∷ path)) key rows)
          → SomeRow (λ t. takes false (param_token ∷ t) (b ∷ path)) key (cond same ((tokens, k) ∷ step param_token rows) (step param_token rows)) → SomeRow (λ t. takes false t (b ∷ path)) key ((x ∷ tokens, k) ∷ rows)
      by true is rest (inl (taken, keys)) = inl (rw is taken, keys)
      by true is rest (inr there) = inr (rest there)
      by false is rest hit = inr (rest hit)

  miss : (b : ℕ) (path : List ℕ) (rows : RowsOf K) → NoRow (λ tokens. takes false tokens path) (step b rows) → NoRow (λ tokens. takes false (param_token ∷ tokens) (b ∷ path)) (step param_token rows) → NoRow (λ tokens. takes false tokens (b ∷ path)) rows
  miss b path [] bytes params = tt
  miss b path (([], k) ∷ rows) bytes params = (refl, miss b path rows bytes params)
  miss b path ((x ∷ tokens, k) ∷ rows) bytes params = by (eqb x b) refl (eqb x param_token) refl (miss b path rows) bytes params
    where
      by : (same : Bool) → eqb x b ≡ same → (param : Bool) → eqb x param_token ≡ param
          → (NoRow (λ t. takes false t path) (step b rows) → NoRow (λ t. takes false (param_token ∷ t) (b ∷ path)) (step param_token rows) → NoRow (λ t. takes false t (b ∷ path)) rows)
          → NoRow (λ t. takes false t path) (cond same ((tokens, k) ∷ step b rows) (step b rows)) → NoRow (λ t. takes false (param_token ∷ t) (b ∷ path)) (cond param ((tokens, k) ∷ step param_token rows) (step param_token rows)) → NoRow (λ t. takes false t (b ∷ path)) ((x ∷ tokens, k) ∷ rows)
      by true is true param rest bytes params = (rw param params.0, rest bytes.1 params.1)
      by true is false param rest bytes params = (rw (param, is) bytes.0, rest bytes.1 params)
      by false is true param rest bytes params = (rw param params.0, rest bytes params.1)
      by false is false param rest bytes params = (rw (param, is) refl, rest bytes params)

  -- ---- what is kept of rows that go on
  step_whole : (b : ℕ) (rows : RowsOf K) → all_whole rows ≡ true → all_whole (step b rows) ≡ true
  step_whole b [] whole = refl
  step_whole b (([], k) ∷ rows) whole = step_whole b rows whole
  step_whole b ((x ∷ tokens, k) ∷ rows) whole =
      let this = and_first (is_whole (x ∷ tokens)) (all_whole rows) whole in
      let rest = step_whole b rows (and_second (is_whole (x ∷ tokens)) (all_whole rows) whole) in
      let tail = and_second (not (eqb x param_token) || ends_part tokens) (is_whole tokens) (and_second (not (eqb x catch_all_token)) ((not (eqb x param_token) || ends_part tokens) && is_whole tokens) this) in
      by tail rest (eqb x b)
    where
      by : is_whole tokens ≡ true → all_whole (step b rows) ≡ true → (same : Bool) → all_whole (cond same ((tokens, k) ∷ step b rows) (step b rows)) ≡ true
      by tail rest true = rw (tail, rest) refl
      by tail rest false = rest

  step_ends : (rows : RowsOf K) → all_whole rows ≡ true → all_end (step param_token rows) ≡ true
  step_ends [] whole = refl
  step_ends (([], k) ∷ rows) whole = step_ends rows whole
  step_ends ((x ∷ tokens, k) ∷ rows) whole =
      let this = and_first (is_whole (x ∷ tokens)) (all_whole rows) whole in
      let rest = step_ends rows (and_second (is_whole (x ∷ tokens)) (all_whole rows) whole) in
      let end = and_first (not (eqb x param_token) || ends_part tokens) (is_whole tokens) (and_second (not (eqb x catch_all_token)) ((not (eqb x param_token) || ends_part tokens) && is_whole tokens) this) in
      by end rest (eqb x param_token) refl
    where
      by : (not (eqb x param_token) || ends_part tokens) ≡ true → all_end (step param_token rows) ≡ true → (same : Bool) → eqb x param_token ≡ same → all_end (cond same ((tokens, k) ∷ step param_token rows) (step param_token rows)) ≡ true
      by end rest true is = let here = implied (eqb x param_token) (ends_part tokens) is end in rw (here, rest) refl
      by end rest false is = rest

  no_catch : (rows : RowsOf K) → all_whole rows ≡ true → step catch_all_token rows ≡ []
  no_catch [] whole = refl
  no_catch (([], k) ∷ rows) whole = no_catch rows whole
  no_catch ((x ∷ tokens, k) ∷ rows) whole =
      let this = and_first (is_whole (x ∷ tokens)) (all_whole rows) whole in
      let none = not_true (eqb x catch_all_token) (and_first (not (eqb x catch_all_token)) ((not (eqb x param_token) || ends_part tokens) && is_whole tokens) this) in
      rw none (no_catch rows (and_second (is_whole (x ∷ tokens)) (all_whole rows) whole))

  -- ---- the walk
  either_answers : (b : ℕ) (path : List ℕ) (rows : RowsOf K) (one two : Option K) → b < 256 → Answers (λ tokens. takes false tokens path) (step b rows) one → Answers (λ tokens. takes false (param_token ∷ tokens) (b ∷ path)) (step param_token rows) two → Answers (λ tokens. takes false tokens (b ∷ path)) rows (or_else one (or_else two None))
  either_answers b path rows (Some key) two small first second = hit_byte b path key rows small first
  either_answers b path rows None (Some key) small first second = hit_param b path key rows second
  either_answers b path rows None None small first second = miss b path rows first second

  pub seek_answers : (path : List ℕ) (k : ℕ) (rows : RowsOf K) → All (λ b. b < 256) path → all_whole rows ≡ true → Answers (λ tokens. takes false tokens (drop k path)) rows (seek k rows path)
  unfolding seek
  seek_answers [] zero rows small whole = own_answers rows
  seek_answers [] (suc k) rows small whole = own_answers rows
  seek_answers (b ∷ path) (suc k) rows small whole = seek_answers path k rows (All-tail (λ b. b < 256) b path small) whole
  seek_answers (b ∷ path) zero rows small whole =
      let later = All-tail (λ b. b < 256) b path small in
      let first = seek_answers path 0 (step b rows) later (step_whole b rows whole) in
      let second = behind path (λ k others fine. seek_answers path k others later fine) b (step param_token rows) (step_ends rows whole) (step_whole param_token rows whole) in
      rw (no_catch rows whole) (either_answers b path rows _ _ (All-head (λ b. b < 256) b path small) first second)
