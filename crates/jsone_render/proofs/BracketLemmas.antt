-- In an expression each bracket that begins ends, and each text in quotes, so no `}` stands outside of them.
use Rattle.std.proofs.Common.{◌≡◌, ℕ, zero, suc, ◌+◌, ◌-◌, ◌<◌, ◌≤◌, Bool, true, false, cond, ◌==◌, ◌||◌, ◌⊎◌, inl, inr, List, [], ◌∷◌, ◌++◌, length, take, drop, slice_index, codes, Option, Some, None, unwrap_or, refl, sym, ap, ◌∙◌, subst, arith, add-one}
use Rattle.std.proofs.lemmas.Bool.{and_parts, ne_eqb, both_ways, false≢true, cases_Bool, cases_lt}
use Rattle.std.proofs.lemmas.List.{drop_all, take_more, take-take, take-append-drop, drop-drop}
use Rattle.std.proofs.lemmas.Slice.Eq.{bytes_eq-Decides}
use Rattle.std.proofs.Math.Dec.{eqb-suc-zero}
use Rattle.std.specs.List.{list_all, prefix_len}
use Rattle.std.specs.Char.{is_ascii_digit}
use Rattle.std.specs.Map.{lookup}
use Rattle.std.specs.Option.{option_and_then}
use Rattle.std.specs.Str.{bytes_eq}
use Rattle.jsone_expr.specs.declared.marks.Operator.TheVariants.{Or, And, Equal, NotEqual, Below, AtMost, Above, AtLeast, Plus, Minus, Times, Over, Power}
use Rattle.jsone_expr.specs.declared.marks.Mark.{Mark}
use Rattle.jsone_expr.specs.declared.marks.Mark.TheVariants.{Bang, Dot, Comma, Colon, OpenRound, CloseRound, OpenSquare, CloseSquare, OpenCurly, CloseCurly, Unknown}
use Rattle.jsone_expr.specs.declared.tokens.Token.{Token}
use Rattle.jsone_expr.specs.declared.tokens.Token.TheVariants.{Digits as digits, Quoted as quoted, Word as word, Operator as operator, Mark as mark}
use Rattle.jsone_expr.specs.declared.tokens.Word.{Word}
use Rattle.jsone_expr.specs.declared.tokens.Piece.{Piece}
use Rattle.jsone_expr.specs.Tokens.{is_space, is_quote, is_letter, is_word_byte, closes, words, symbols, word_token, only_if, token_at, IsToken, IsUnknown, behind_spaces, AreTokens}
use Rattle.jsone_expr.specs.Texts.{token_list}
use Rattle.jsone_render.specs.declared.ends.Place.{Place}
use Rattle.jsone_render.specs.declared.ends.Place.TheVariants.{Outside, Quoted}
use Rattle.jsone_render.specs.Ends.{opens, shuts, opened, shut, beside, behind}
use Rattle.jsone_render.specs.Expressions.{HasTree}
use Rattle.jsone_render.proofs.TokenLemmas.{fewer, by_mark, by_token, over, over_none, tree_keeps}

-- ---- the bytes of a token

-- behind bytes in turn
abbrev pub onward : List ℕ → Option Place → Option Place
onward [] o = o
onward (b ∷ bs) o = onward bs (option_and_then (behind b) o)

onward_append : (xs ys : List ℕ) (o : Option Place) → onward (xs ++ ys) o ≡ onward ys (onward xs o)
onward_append [] ys o = refl
onward_append (x ∷ xs) ys o = onward_append xs ys (option_and_then (behind x) o)

onward_none : (xs : List ℕ) → onward xs None ≡ None
onward_none [] = refl
onward_none (x ∷ xs) = onward_none xs

onward_cut : (n : ℕ) (bs : List ℕ) (o : Option Place) → onward bs o ≡ onward (drop n bs) (onward (take n bs) o)
onward_cut n bs o = ap (λ l. onward l o) (sym (take-append-drop n bs)) ∙ onward_append (take n bs) (drop n bs) o

-- the bytes open and close what the token does
abbrev Does : List ℕ → Token → Type 0
Does bs x = (d e : ℕ) → by_token x d ≡ Some e → onward bs (Some (Outside d)) ≡ Some (Outside e)

nothing_done : (bs : List ℕ) (x : Token) → ((d : ℕ) → by_token x d ≡ Some d) → ((d : ℕ) → onward bs (Some (Outside d)) ≡ Some (Outside d)) → Does bs x
nothing_done bs x same stays d e is = let s = same d in let t = stays d in cc

-- a byte that passes is neither a bracket nor a quote
abbrev Plain : (ℕ → Bool) → Type 0
Plain p = (b d : ℕ) → p b ≡ true → beside b d ≡ Some (Outside d)

differs : (p : ℕ → Bool) (b k : ℕ) → p k ≡ false → p b ≡ true → (b == k) ≡ false
differs p b k fails passes = ne_eqb b k (λ e. both_ways (p k) fails (subst (λ n. p n ≡ true) e passes))

pass_plain : (p : ℕ → Bool) → p 34 ≡ false → p 39 ≡ false → p 40 ≡ false → p 91 ≡ false → p 123 ≡ false → p 41 ≡ false → p 93 ≡ false → p 125 ≡ false → Plain p
pass_plain p double single round square curly round_end square_end curly_end b d passes =
    rw (differs p b 34 double passes)
    (rw (differs p b 39 single passes)
    (rw (differs p b 40 round passes)
    (rw (differs p b 91 square passes)
    (rw (differs p b 123 curly passes)
    (rw (differs p b 41 round_end passes)
    (rw (differs p b 93 square_end passes)
    (rw (differs p b 125 curly_end passes) refl)))))))

space_plain : Plain is_space
space_plain = pass_plain is_space refl refl refl refl refl refl refl refl

digit_plain : Plain is_ascii_digit
digit_plain = pass_plain is_ascii_digit refl refl refl refl refl refl refl refl

word_plain : Plain is_word_byte
word_plain = pass_plain is_word_byte refl refl refl refl refl refl refl refl

run_stays : (p : ℕ → Bool) → Plain p → (bs : List ℕ) (d : ℕ) → list_all p bs ≡ true → onward bs (Some (Outside d)) ≡ Some (Outside d)
run_stays p none [] d all = refl
run_stays p none (b ∷ bs) d all =
    let both = and_parts (p b) (list_all p bs) all in
    ap (onward bs) (none b d both.0) ∙ run_stays p none bs d both.1

no_length : (bs : List ℕ) → (length bs == 0) ≡ true → bs ≡ []
no_length [] e = refl
no_length (b ∷ bs) e = absurd (both_ways (length (b ∷ bs) == 0) (ne_eqb (length (b ∷ bs)) 0 (λ z. absurd (omega arith))) e)

quote_ends : (q : ℕ) (bs : List ℕ) (d : ℕ) → closes q bs ≡ true → onward bs (Some (Quoted q d)) ≡ Some (Outside d)
quote_ends q [] d h = absurd (false≢true h)
quote_ends q (b ∷ bs) d h = by_test (b == q) h (quote_ends q bs d)
  where
    by_test : (c : Bool) → cond c (length bs == 0) (closes q bs) ≡ true → (closes q bs ≡ true → onward bs (Some (Quoted q d)) ≡ Some (Outside d)) → onward bs (Some (cond c (Outside d) (Quoted q d))) ≡ Some (Outside d)
    by_test true last more = ap (λ l. onward l (Some (Outside d))) (no_length bs last)
    by_test false later more = more later

is_one : (c : Bool) (x y : Token) → only_if c x ≡ Some y → (c ≡ true) × (x ≡ y)
is_one true x y e = (refl, cc)
is_one false x y e = absurd (cc)

abbrev AllKeep : List (List ℕ × Token) → Type 0
AllKeep [] = Unit {0}
AllKeep (r ∷ rs) = ((d : ℕ) → by_token r.1 d ≡ Some d) × AllKeep rs

found_keeps : (test : List ℕ → Bool) (rows : List (List ℕ × Token)) (w : Word) → AllKeep rows → (d : ℕ) → by_token (unwrap_or (lookup test rows) (word w)) d ≡ Some d
found_keeps test [] w all d = refl
found_keeps test (r ∷ rows) w all d = by_test (test r.0) (found_keeps test rows w all.1 d)
  where
    by_test : (c : Bool) → by_token (unwrap_or (lookup test rows) (word w)) d ≡ Some d → by_token (unwrap_or (cond c (Some r.1) (lookup test rows)) (word w)) d ≡ Some d
    by_test true more = all.0 d
    by_test false more = more

word_keeps : (at : ℕ) (bs : List ℕ) (d : ℕ) → by_token (word_token at bs) d ≡ Some d
word_keeps at bs d = found_keeps (bytes_eq bs) words _ (λ n. refl, (λ n. refl, (λ n. refl, (λ n. refl, tt)))) d

-- ---- symbols

abbrev AllDo : List (List ℕ × Token) → Type 0
AllDo [] = Unit {0}
AllDo (r ∷ rs) = Does r.0 r.1 × AllDo rs

found_does : (bs : List ℕ) (rows : List (List ℕ × Token)) (x : Token) → AllDo rows → lookup (bytes_eq bs) rows ≡ Some x → Does bs x
found_does bs [] x all is = absurd (cc)
found_does bs (r ∷ rows) x all is = by_test (bytes_eq bs r.0) (bytes_eq-Decides bs r.0).0 is (found_does bs rows x all.1)
  where
    by_test : (c : Bool) → (c ≡ true → bs ≡ r.0) → cond c (Some r.1) (lookup (bytes_eq bs) rows) ≡ Some x → (lookup (bytes_eq bs) rows ≡ Some x → Does bs x) → Does bs x
    by_test true same e more =
        let one : r.1 ≡ x = cc in
        subst (λ l. Does l x) (sym (same refl)) (subst (Does r.0) one all.0)
    by_test false same e more = more e

opens_one : (bs : List ℕ) (m : Mark) → ((d : ℕ) → by_mark m d ≡ Some (suc d)) → ((d : ℕ) → onward bs (Some (Outside d)) ≡ Some (Outside (d + 1))) → Does bs (mark m)
opens_one bs m more goes d e is = let s = more d in let t = goes d in let one = add-one d in cc

shuts_one : (bs : List ℕ) (m : Mark) → ((d : ℕ) → by_mark m d ≡ fewer d) → ((d : ℕ) → onward bs (Some (Outside d)) ≡ shut d) → Does bs (mark m)
shuts_one bs m less goes zero e is = let s = less zero in absurd (cc)
shuts_one bs m less goes (suc d) e is =
    let s = less (suc d) in
    let same : d ≡ e = cc in
    let some : shut (suc d) ≡ Some (Outside d) = rw (eqb-suc-zero d) (ap (λ n. Some (Outside n)) (omega arith)) in
    goes (suc d) ∙ some ∙ ap (λ n. Some (Outside n)) same

symbols_do : AllDo symbols
symbols_do = (
  nothing_done (codes "||") (operator Or) (λ d. refl) (λ d. refl),
  (
    nothing_done (codes "&&") (operator And) (λ d. refl) (λ d. refl),
    (
      nothing_done (codes "==") (operator Equal) (λ d. refl) (λ d. refl),
      (
        nothing_done (codes "!=") (operator NotEqual) (λ d. refl) (λ d. refl),
        (
          nothing_done (codes "<=") (operator AtMost) (λ d. refl) (λ d. refl),
          (
            nothing_done (codes ">=") (operator AtLeast) (λ d. refl) (λ d. refl),
            (
              nothing_done (codes "**") (operator Power) (λ d. refl) (λ d. refl),
              (
                nothing_done (codes "<") (operator Below) (λ d. refl) (λ d. refl),
                (
                  nothing_done (codes ">") (operator Above) (λ d. refl) (λ d. refl),
                  (
                    nothing_done (codes "+") (operator Plus) (λ d. refl) (λ d. refl),
                    (
                      nothing_done (codes "-") (operator Minus) (λ d. refl) (λ d. refl),
                      (
                        nothing_done (codes "*") (operator Times) (λ d. refl) (λ d. refl),
                        (
                          nothing_done (codes "/") (operator Over) (λ d. refl) (λ d. refl),
                          (
                            nothing_done (codes "!") (mark Bang) (λ d. refl) (λ d. refl),
                            (
                              nothing_done (codes ".") (mark Dot) (λ d. refl) (λ d. refl),
                              (
                                nothing_done (codes ",") (mark Comma) (λ d. refl) (λ d. refl),
                                (
                                  nothing_done (codes ":") (mark Colon) (λ d. refl) (λ d. refl),
                                  (
                                    opens_one (codes "(") OpenRound (λ d. refl) (λ d. refl),
                                    (
                                      shuts_one (codes ")") CloseRound (λ d. refl) (λ d. refl),
                                      (
                                        opens_one (codes "[") OpenSquare (λ d. refl) (λ d. refl),
                                        (
                                          shuts_one (codes "]") CloseSquare (λ d. refl) (λ d. refl),
                                          (
                                            opens_one (codes "{") OpenCurly (λ d. refl) (λ d. refl),
                                            (
                                              shuts_one (codes "}") CloseCurly (λ d. refl) (λ d. refl),
                                              tt,
                                            ),
                                          ),
                                        ),
                                      ),
                                    ),
                                  ),
                                ),
                              ),
                            ),
                          ),
                        ),
                      ),
                    ),
                  ),
                ),
              ),
            ),
          ),
        ),
      ),
    ),
  ),
)

-- ---- the tokens of a text

abbrev Case : Bool → Type 0
Case c = (c ≡ true) ⊎ (c ≡ false)

token_does : (at : ℕ) (bs : List ℕ) (x : Token) → token_at at bs ≡ Some x → Does bs x
token_does at [] x is = absurd (cc)
token_does at (b ∷ bs) x is = by_kind (cases_Bool (is_ascii_digit b)) (cases_Bool (is_quote b)) (cases_Bool (is_letter b))
  where
    digits_do : is_ascii_digit b ≡ true → Does (b ∷ bs) x
    digits_do digit =
        let here : only_if (list_all is_ascii_digit bs) (digits (record { from = at; to = at + length (b ∷ bs) })) ≡ Some x = rw digit at is in
        let one = is_one (list_all is_ascii_digit bs) _ x here in
        nothing_done (b ∷ bs) x (λ d. ap (λ y. by_token y d) (sym one.1)) (λ d. ap (onward bs) (digit_plain b d digit) ∙ run_stays is_ascii_digit digit_plain bs d one.0)

    quoted_do : is_ascii_digit b ≡ false → is_quote b ≡ true → Does (b ∷ bs) x
    quoted_do digit quote =
        let here : only_if (closes b bs) (quoted (record { from = at + 1; to = at + length bs })) ≡ Some x = rw quote at (rw digit at is) in
        let one = is_one (closes b bs) _ x here in
        nothing_done (b ∷ bs) x (λ d. ap (λ y. by_token y d) (sym one.1)) (λ d. rw quote (quote_ends b bs d one.0))

    word_does : is_ascii_digit b ≡ false → is_quote b ≡ false → is_letter b ≡ true → Does (b ∷ bs) x
    word_does digit quote letter =
        let here : only_if (list_all is_word_byte bs) (word_token at (b ∷ bs)) ≡ Some x = rw letter at (rw quote at (rw digit at is)) in
        let one = is_one (list_all is_word_byte bs) _ x here in
        let first : is_word_byte b ≡ true = ap (λ c. c || is_ascii_digit b) letter in
        nothing_done (b ∷ bs) x (λ d. ap (λ y. by_token y d) (sym one.1) ∙ word_keeps at (b ∷ bs) d) (λ d. ap (onward bs) (word_plain b d first) ∙ run_stays is_word_byte word_plain bs d one.0)

    symbol_does : is_ascii_digit b ≡ false → is_quote b ≡ false → is_letter b ≡ false → Does (b ∷ bs) x
    symbol_does digit quote letter =
        let here : lookup (bytes_eq (b ∷ bs)) symbols ≡ Some x = rw letter at (rw quote at (rw digit at is)) in
        found_does (b ∷ bs) symbols x symbols_do here

    by_kind : Case (is_ascii_digit b) → Case (is_quote b) → Case (is_letter b) → Does (b ∷ bs) x
    by_kind (inl digit) quote letter = digits_do digit
    by_kind (inr digit) (inl quote) letter = quoted_do digit quote
    by_kind (inr digit) (inr quote) (inl letter) = word_does digit quote letter
    by_kind (inr digit) (inr quote) (inr letter) = symbol_does digit quote letter

-- a run of bytes that pass, as far as it goes
run_passes : (p : ℕ → Bool) (xs : List ℕ) → list_all p (take (prefix_len p xs) xs) ≡ true
run_passes p [] = refl
run_passes p (x ∷ xs) = by_test (p x) refl (run_passes p xs)
  where
    by_test : (c : Bool) → p x ≡ c → list_all p (take (prefix_len p xs) xs) ≡ true → list_all p (take (cond c (1 + prefix_len p xs) 0) (x ∷ xs)) ≡ true
    by_test true e more =
        let one_more : 1 + prefix_len p xs ≡ suc (prefix_len p xs) = omega arith in
        ap (λ n. list_all p (take n (x ∷ xs))) one_more ∙ rw e more
    by_test false e more = refl

over_spaces : (source : List ℕ) (at d : ℕ) → onward (drop at source) (Some (Outside d)) ≡ onward (drop (behind_spaces source at) source) (Some (Outside d))
over_spaces source at d =
    let k : ℕ = prefix_len is_space (drop at source) in
    onward_cut k (drop at source) (Some (Outside d))
    ∙ ap (onward (drop k (drop at source))) (run_stays is_space space_plain (take k (drop at source)) d (run_passes is_space (drop at source)))
    ∙ ap (λ l. onward l (Some (Outside d))) (drop-drop k at source)

some_over : (xs : List Token) (o : Option ℕ) (e : ℕ) → over xs o ≡ Some e → (f : ℕ) × (o ≡ Some f) × (over xs (Some f) ≡ Some e)
some_over xs None e h = let none = over_none xs in absurd (cc)
some_over xs (Some f) e h = (f, refl, h)

text_does : (source : List ℕ) (at : ℕ) (ps : List Piece) (d e : ℕ) → AreTokens source at ps → over (token_list ps) (Some d) ≡ Some e → onward (drop at source) (Some (Outside d)) ≡ Some (Outside e)
text_does source at [] d e tokens is =
    let same : d ≡ e = cc in
    over_spaces source at d
    ∙ ap (λ n. onward (drop n source) (Some (Outside d))) tokens
    ∙ ap (λ l. onward l (Some (Outside d))) (drop_all (length source) source (omega arith))
    ∙ ap (λ n. Some (Outside n)) same
text_does source at (p ∷ ps) d e tokens is = by_piece tokens.1 (text_does source p.span.to ps)
  where
    next : (f : ℕ) × (by_token p.token d ≡ Some f) × (over (token_list ps) (Some f) ≡ Some e)
    next = some_over (token_list ps) (by_token p.token d) e is

    begin : onward (drop at source) (Some (Outside d)) ≡ onward (drop p.span.from source) (Some (Outside d))
    begin = over_spaces source at d ∙ ap (λ n. onward (drop n source) (Some (Outside d))) (sym tokens.0)

    by_piece : (IsToken source p × AreTokens source p.span.to ps) ⊎ (IsUnknown source p × (ps ≡ [])) → ((f g : ℕ) → AreTokens source p.span.to ps → over (token_list ps) (Some f) ≡ Some g → onward (drop p.span.to source) (Some (Outside f)) ≡ Some (Outside g)) → onward (drop at source) (Some (Outside d)) ≡ Some (Outside e)
    by_piece (inl token) more =
        let n : ℕ = p.span.to - p.span.from in
        let end : p.span.from + n ≡ p.span.to = omega (arith, token.0.ordered) in
        begin
        ∙ onward_cut n (drop p.span.from source) (Some (Outside d))
        ∙ ap (onward (drop n (drop p.span.from source))) (token_does p.span.from (take n (drop p.span.from source)) p.token token.0.longest.spelled d next.0 next.1)
        ∙ ap (λ l. onward l (Some (Outside next.0))) (drop-drop n p.span.from source ∙ ap (λ m. drop m source) end)
        ∙ more next.0 e token.1 next.2
    by_piece (inr unknown) more =
        let none : by_token (mark Unknown) d ≡ Some next.0 = subst (λ x. by_token x d ≡ Some next.0) unknown.0.token next.1 in
        absurd (cc)

abbrev pub start : Option Place
start = Some (Outside 0)

pub tree_ends : (source : List ℕ) → HasTree source → onward source start ≡ start
tree_ends source has =
    let read = has.1 in
    text_does source 0 read.pieces 0 0 read.tokens (ap (λ xs. over xs (Some 0)) read.expression.written ∙ tree_keeps has.0 0)

-- ---- the walk over a text

-- one byte opens one bracket at most
abbrev Few : ℕ → Option Place → Type 0
Few n None = Unit {0}
Few n (Some q) = opened q ≤ n + 1

few_beside : (b d : ℕ) → Few d (beside b d)
few_beside b d = by_test (is_quote b) (opens b) (shuts b) (d == 0)
  where
    by_test : (quote opens shuts none : Bool) → Few d (cond quote (Some (Quoted b d)) (cond opens (Some (Outside (d + 1))) (cond shuts (cond none None (Some (Outside (d - 1)))) (Some (Outside d)))))
    by_test true o s n = omega arith
    by_test false true s n = omega arith
    by_test false false true true = tt
    by_test false false true false = omega arith
    by_test false false false n = omega arith

few_behind : (b : ℕ) (p : Place) → Few (opened p) (behind b p)
few_behind b (Outside d) = few_beside b d
few_behind b (Quoted q d) = by_test (b == q)
  where
    by_test : (c : Bool) → Few d (Some (cond c (Outside d) (Quoted q d)))
    by_test true = omega arith
    by_test false = omega arith

pub one_deeper : (b i : ℕ) (p q : Place) → behind b p ≡ Some q → opened p ≤ i → opened q ≤ i + 1
one_deeper b i p q is few = let some : opened q ≤ opened p + 1 = subst (Few (opened p)) is (few_behind b p) in omega arith

stuck : (bs : List ℕ) (k n : ℕ) → k ≤ n → onward (take k bs) start ≡ None → onward (take n bs) start ≡ None
stuck bs k n less none =
    onward_cut k (take n bs) start
    ∙ ap (λ l. onward (drop k (take n bs)) (onward l start)) (take-take k n bs less)
    ∙ ap (onward (drop k (take n bs))) none
    ∙ onward_none (drop k (take n bs))

pub one_more : (bs : List ℕ) (i : ℕ) (p : Place) → i < length bs → onward (take i bs) start ≡ Some p → onward (take (i + 1) bs) start ≡ behind (slice_index bs i) p
one_more bs i p less here =
    ap (λ l. onward l start) (take_more bs i 0 less)
    ∙ onward_append (take i bs) (slice_index bs i ∷ []) start
    ∙ ap (onward (slice_index bs i ∷ [])) here

-- a `}` behind an expression goes nowhere
ended : (bs : List ℕ) (i : ℕ) → i < length bs → slice_index bs i ≡ 125 → HasTree (take i bs) → onward (take (i + 1) bs) start ≡ None
ended bs i less curly has = one_more bs i (Outside 0) less (tree_ends (take i bs) has) ∙ ap (λ b. behind b (Outside 0)) curly

pub none_walked : (bs : List ℕ) (n : ℕ) (p : Place) → onward (take n bs) start ≡ Some p → (i : ℕ) → i < length bs → i < n → slice_index bs i ≡ 125 → HasTree (take i bs) → ⊥
none_walked bs n p here i less before curly has =
    let none = stuck bs (i + 1) n (omega arith) (ended bs i less curly has) in
    absurd (cc)

pub only_here : (bs : List ℕ) (n : ℕ) (p : Place) → n < length bs → onward (take n bs) start ≡ Some p → behind (slice_index bs n) p ≡ None → (i : ℕ) → i < length bs → slice_index bs i ≡ 125 → HasTree (take i bs) → i ≡ n
only_here bs n p within here stop i less curly has = elim (cases_lt i n) [
  | inl before ↦ absurd (none_walked bs n p here i less before curly has)
  | inr late ↦ elim (cases_lt n i) [
    | inl past ↦
        let none = stuck bs (n + 1) i (omega arith) (one_more bs n p within here ∙ stop) in
        let some = tree_ends (take i bs) has in
        absurd (cc)
    | inr same ↦ omega arith
  ]
]
