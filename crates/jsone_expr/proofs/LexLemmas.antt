-- What the longest token is, by the first byte.
use Rattle.std.proofs.Common.{◌≡◌, ℕ, suc, zero, ◌+◌, ◌-◌, ◌<◌, ◌≤◌, Bool, true, false, not, ◌&&◌, ◌||◌, cond, nat_lt, nat_le, slice_index, ◌==◌, List, [], ◌∷◌, ◌++◌, length, take, drop, Option, Some, None, refl, sym, ap, ◌∙◌, subst, arith, ◌⊎◌, inl, inr, ⊎_elim, append_assoc, append-nil}
use Rattle.std.specs.List.{list_all, prefix_len, position}
use Rattle.std.specs.Char.{is_ascii_digit}
use Rattle.std.specs.Map.{lookup}
use Rattle.std.specs.Str.{bytes_eq}
use Rattle.std.proofs.lemmas.Bool.{and_parts, leb-true, ltb-true, ltb-false, ne_eqb, cases_lt}
use Rattle.std.proofs.lemmas.List.{length-take, length-drop, take_all}
use Rattle.std.proofs.lemmas.List.Sums.{prefix_len-le-length}
use Rattle.std.proofs.lemmas.Slice.Eq.{bytes_eq-Decides}
use Rattle.jsone_expr.specs.declared.tokens.Token.{Token}
use Rattle.jsone_expr.specs.declared.tokens.Piece.{Piece}
use Rattle.jsone_expr.specs.declared.tokens.Token.TheVariants.{Digits as digits, Quoted as quoted, Mark as mark}
use Rattle.jsone_expr.specs.declared.marks.Mark.TheVariants.{Unknown}
use Rattle.jsone_expr.specs.Tokens.{is_space, is_quote, is_letter, is_word_byte, closes, symbols, word_token, only_if, token_at, IsLongest, BeginsNone, IsToken, IsUnknown, behind_spaces, AreTokens}

-- a run of bytes that pass, as far as it goes
run_passes : (p : ℕ → Bool) (xs : List ℕ) → list_all p (take (prefix_len p xs) xs) ≡ true
run_passes p [] = refl
run_passes p (x ∷ xs) = by_test (p x) refl (run_passes p xs)
  where
    by_test : (c : Bool) → p x ≡ c → list_all p (take (prefix_len p xs) xs) ≡ true → list_all p (take (cond c (1 + prefix_len p xs) 0) (x ∷ xs)) ≡ true
    by_test true e more =
        let one_more : 1 + prefix_len p xs ≡ suc (prefix_len p xs) = omega arith in
        ap (λ n. list_all p (take n (x ∷ xs))) one_more ∙ ap (λ c. c && list_all p (take (prefix_len p xs) xs)) e ∙ more
    by_test false e more = refl

-- and no further
run_ends : (p : ℕ → Bool) (xs : List ℕ) (m : ℕ) → prefix_len p xs < m → m ≤ length xs → list_all p (take m xs) ≡ false
run_ends p [] m h k = absurd (omega arith)
run_ends p (x ∷ xs) zero h k = absurd (omega arith)
run_ends p (x ∷ xs) (suc m) h k = by_test (p x) h (λ less. run_ends p xs m less (omega arith))
  where
    by_test : (c : Bool) → cond c (1 + prefix_len p xs) 0 < suc m → (prefix_len p xs < m → list_all p (take m xs) ≡ false) → (c && list_all p (take m xs)) ≡ false
    by_test true e more = more (omega arith)
    by_test false e more = refl

-- a byte that is not this one
abbrev differs : ℕ → ℕ → Bool
differs q = λ b. not (b == q)

-- a text up to its closing quote
closes_there : (q : ℕ) (xs : List ℕ) → prefix_len (differs q) xs < length xs → closes q (take (suc (prefix_len (differs q) xs)) xs) ≡ true
closes_there q [] h = absurd (omega arith)
closes_there q (x ∷ xs) h = by_test (x == q) h (closes_there q xs)
  where
    by_test : (c : Bool) → cond (not c) (1 + prefix_len (differs q) xs) 0 < length (x ∷ xs) → (prefix_len (differs q) xs < length xs → closes q (take (suc (prefix_len (differs q) xs)) xs) ≡ true) → (let k = cond (not c) (1 + prefix_len (differs q) xs) 0 in cond c (length (take k xs) == 0) (closes q (take k xs))) ≡ true
    by_test true e more = refl
    by_test false e more =
        let one_more : 1 + prefix_len (differs q) xs ≡ suc (prefix_len (differs q) xs) = omega arith in
        ap (λ n. closes q (take n xs)) one_more ∙ more (omega arith)

closes_no_later : (q : ℕ) (xs : List ℕ) (m : ℕ) → suc (prefix_len (differs q) xs) < m → m ≤ length xs → closes q (take m xs) ≡ false
closes_no_later q [] m h k = absurd (omega arith)
closes_no_later q (x ∷ xs) zero h k = absurd (omega arith)
closes_no_later q (x ∷ xs) (suc m) h k = by_test (x == q) h (λ less. closes_no_later q xs m less (omega arith))
  where
    by_test : (c : Bool) → suc (cond (not c) (1 + prefix_len (differs q) xs) 0) < suc m → (suc (prefix_len (differs q) xs) < m → closes q (take m xs) ≡ false) → cond c (length (take m xs) == 0) (closes q (take m xs)) ≡ false
    by_test true e more = ne_eqb (length (take m xs)) 0 (λ z. let l = length-take m xs in omega arith)
    by_test false e more = more (omega arith)

closes_never : (q : ℕ) (xs : List ℕ) (m : ℕ) → length xs ≤ prefix_len (differs q) xs → closes q (take m xs) ≡ false
closes_never q [] zero h = refl
closes_never q [] (suc m) h = refl
closes_never q (x ∷ xs) zero h = refl
closes_never q (x ∷ xs) (suc m) h = by_test (x == q) h (closes_never q xs m)
  where
    by_test : (c : Bool) → length (x ∷ xs) ≤ cond (not c) (1 + prefix_len (differs q) xs) 0 → (length xs ≤ prefix_len (differs q) xs → closes q (take m xs) ≡ false) → cond c (length (take m xs) == 0) (closes q (take m xs)) ≡ false
    by_test true e more = absurd (omega arith)
    by_test false e more = more (omega arith)

-- the token by its first byte
at_digit : (at b : ℕ) (bs : List ℕ) → is_ascii_digit b ≡ true → token_at at (b ∷ bs) ≡ only_if (list_all is_ascii_digit bs) (digits (record { from = at; to = at + length (b ∷ bs) }))
at_digit at b bs h = rw h refl

at_quote : (at b : ℕ) (bs : List ℕ) → is_ascii_digit b ≡ false → is_quote b ≡ true → token_at at (b ∷ bs) ≡ only_if (closes b bs) (quoted (record { from = at + 1; to = at + length bs }))
at_quote at b bs h k = rw h (rw k refl)

at_letter : (at b : ℕ) (bs : List ℕ) → is_ascii_digit b ≡ false → is_quote b ≡ false → is_letter b ≡ true → token_at at (b ∷ bs) ≡ only_if (list_all is_word_byte bs) (word_token at (b ∷ bs))
at_letter at b bs h k l = rw h (rw k (rw l refl))

at_symbol : (at b : ℕ) (bs : List ℕ) → is_ascii_digit b ≡ false → is_quote b ≡ false → is_letter b ≡ false → token_at at (b ∷ bs) ≡ lookup (bytes_eq (b ∷ bs)) symbols
at_symbol at b bs h k l = rw h (rw k (rw l refl))

-- a run of bytes behind the first, as a token of its own
run_longest : (p : ℕ → Bool) (made : List ℕ → Token) (at b : ℕ) (bs : List ℕ) → ((cs : List ℕ) → token_at at (b ∷ cs) ≡ only_if (list_all p cs) (made (b ∷ cs))) → (n : ℕ) → n ≡ suc (prefix_len p bs) → IsLongest at (b ∷ bs) (made (take n (b ∷ bs))) n
run_longest p made at b bs h n e = record {
  within = omega (arith, prefix_len-le-length p bs);
  spelled =
      ap (λ k. token_at at (take k (b ∷ bs))) e
      ∙ h (take (prefix_len p bs) bs)
      ∙ ap (λ c. only_if c (made (b ∷ take (prefix_len p bs) bs))) (run_passes p bs)
      ∙ ap (λ k. Some (made (take k (b ∷ bs)))) (sym e);
  longest = λ m more within. beyond m more within;
}
  where
    beyond : (m : ℕ) → n < m → m ≤ length (b ∷ bs) → token_at at (take m (b ∷ bs)) ≡ None
    beyond zero more within = absurd (omega arith)
    beyond (suc m) more within = h (take m bs) ∙ ap (λ c. only_if c (made (b ∷ take m bs))) (run_ends p bs m (omega arith) (omega arith))

-- the same, by the length of the whole run
prefix_behind : (p : ℕ → Bool) (b : ℕ) (bs : List ℕ) (n : ℕ) → p b ≡ true → n ≡ prefix_len p (b ∷ bs) → n ≡ suc (prefix_len p bs)
prefix_behind p b bs n h e = e ∙ ap (λ c. cond c (1 + prefix_len p bs) 0) h ∙ omega arith

pub digits_longest : (at : ℕ) (xs : List ℕ) (n : ℕ) → 0 < length xs → is_ascii_digit (slice_index xs 0) ≡ true → n ≡ prefix_len is_ascii_digit xs → IsLongest at xs (digits (record { from = at; to = at + n })) n
digits_longest at [] n some h e = absurd (omega arith)
digits_longest at (b ∷ bs) n some h e =
    let l = run_longest is_ascii_digit (λ ys. digits (record { from = at; to = at + length ys })) at b bs (λ cs. at_digit at b cs h) n (prefix_behind is_ascii_digit b bs n h e) in
    let size : length (take n (b ∷ bs)) ≡ n = length-take n (b ∷ bs) ∙ omega (arith, l.within) in
    subst (λ k. IsLongest at (b ∷ bs) (digits (record { from = at; to = at + k })) n) size l

letter_in_word : (b : ℕ) → is_letter b ≡ true → is_word_byte b ≡ true
letter_in_word b h = ap (λ c. c || is_ascii_digit b) h

pub word_longest : (at : ℕ) (xs : List ℕ) (n : ℕ) → 0 < length xs → is_ascii_digit (slice_index xs 0) ≡ false → is_quote (slice_index xs 0) ≡ false → is_letter (slice_index xs 0) ≡ true → n ≡ prefix_len is_word_byte xs → IsLongest at xs (word_token at (take n xs)) n
word_longest at [] n some h k l e = absurd (omega arith)
word_longest at (b ∷ bs) n some h k l e = run_longest is_word_byte (word_token at) at b bs (λ cs. at_letter at b cs h k l) n (prefix_behind is_word_byte b bs n (letter_in_word b l) e)

-- where the byte stands first
place_is : (q : ℕ) (xs : List ℕ) (k : ℕ) → position (λ b. b == q) xs ≡ Some k → (k ≡ prefix_len (differs q) xs) × (k < length xs)
place_is q xs k e = by_test (nat_lt (prefix_len (differs q) xs) (length xs)) (ltb-true (prefix_len (differs q) xs) (length xs)) e
  where
    by_test : (c : Bool) → (c ≡ true → prefix_len (differs q) xs < length xs) → cond c (Some (prefix_len (differs q) xs)) None ≡ Some k → (k ≡ prefix_len (differs q) xs) × (k < length xs)
    by_test true h d = let same : k ≡ prefix_len (differs q) xs = cc in (same, omega (arith, h refl, same))
    by_test false h d = absurd (cc)

no_place : (q : ℕ) (xs : List ℕ) → position (λ b. b == q) xs ≡ None → length xs ≤ prefix_len (differs q) xs
no_place q xs e = by_test (nat_lt (prefix_len (differs q) xs) (length xs)) (ltb-false (prefix_len (differs q) xs) (length xs)) e
  where
    by_test : (c : Bool) → (c ≡ false → length xs ≤ prefix_len (differs q) xs) → cond c (Some (prefix_len (differs q) xs)) None ≡ None → length xs ≤ prefix_len (differs q) xs
    by_test true h d = absurd (cc)
    by_test false h d = h refl

pub quoted_longest : (at : ℕ) (xs : List ℕ) (k : ℕ) → 0 < length xs → is_ascii_digit (slice_index xs 0) ≡ false → is_quote (slice_index xs 0) ≡ true → position (λ b. b == slice_index xs 0) (drop 1 xs) ≡ Some k → IsLongest at xs (quoted (record { from = at + 1; to = at + 1 + k })) (k + 2)
quoted_longest at [] k some h q e = absurd (omega arith)
quoted_longest at (b ∷ bs) k some h q e = record {
  within = omega (arith, found.0, found.1);
  spelled =
      ap (λ m. token_at at (take m (b ∷ bs))) two_more
      ∙ at_quote at b (take (suc (prefix_len (differs b) bs)) bs) h q
      ∙ ap (λ c. only_if c (quoted (record { from = at + 1; to = at + length (take (suc (prefix_len (differs b) bs)) bs) }))) (closes_there b bs (omega (arith, found.0, found.1)))
      ∙ ap (λ m. Some (quoted (record { from = at + 1; to = m }))) (omega (arith, length-take (suc (prefix_len (differs b) bs)) bs, found.0, found.1));
  longest = beyond;
}
  where
    found : (k ≡ prefix_len (differs b) bs) × (k < length bs)
    found = place_is b bs k e

    two_more : k + 2 ≡ suc (suc (prefix_len (differs b) bs))
    two_more = omega (arith, found.0)

    beyond : (m : ℕ) → k + 2 < m → m ≤ length (b ∷ bs) → token_at at (take m (b ∷ bs)) ≡ None
    beyond zero more within = absurd (omega arith)
    beyond (suc m) more within = at_quote at b (take m bs) h q ∙ ap (λ c. only_if c (quoted (record { from = at + 1; to = at + length (take m bs) }))) (closes_no_later b bs m (omega (arith, found.0)) (omega arith))

pub quoted_none : (at : ℕ) (xs : List ℕ) → 0 < length xs → is_ascii_digit (slice_index xs 0) ≡ false → is_quote (slice_index xs 0) ≡ true → position (λ b. b == slice_index xs 0) (drop 1 xs) ≡ None → BeginsNone at xs
quoted_none at [] some h q e n within = absurd (omega arith)
quoted_none at (b ∷ bs) some h q e zero within = refl
quoted_none at (b ∷ bs) some h q e (suc m) within = at_quote at b (take m bs) h q ∙ ap (λ c. only_if c (quoted (record { from = at + 1; to = at + length (take m bs) }))) (closes_never b bs m (no_place b bs e))

-- three bytes are no symbol
other_length : (xs ys : List ℕ) → length ys < length xs → bytes_eq xs ys ≡ false
other_length xs ys h = by_test (bytes_eq xs ys) (bytes_eq-Decides xs ys).0
  where
    by_test : (c : Bool) → (c ≡ true → xs ≡ ys) → c ≡ false
    by_test true e = let same = ap length (e refl) in absurd (omega (arith, same))
    by_test false e = refl

no_row : (rows : List (List ℕ × Token)) (xs : List ℕ) → list_all (λ r. nat_le (length r.0) 2) rows ≡ true → 2 < length xs → lookup (bytes_eq xs) rows ≡ None
no_row [] xs short h = refl
no_row (r ∷ rows) xs short h =
    let both = and_parts (nat_le (length r.0) 2) _ short in
    let differ = other_length xs r.0 (omega (arith, leb-true (length r.0) 2 both.0)) in
    ap (λ c. cond c (Some r.1) (lookup (bytes_eq xs) rows)) differ ∙ no_row rows xs both.1 h

no_symbol : (xs : List ℕ) → 2 < length xs → lookup (bytes_eq xs) symbols ≡ None
no_symbol xs h = no_row symbols xs refl h

-- a symbol by the table
at_symbols : (at b : ℕ) (bs : List ℕ) (m : ℕ) → is_ascii_digit b ≡ false → is_quote b ≡ false → is_letter b ≡ false → 0 < m → token_at at (take m (b ∷ bs)) ≡ lookup (bytes_eq (take m (b ∷ bs))) symbols
at_symbols at b bs zero h k l some = absurd (omega arith)
at_symbols at b bs (suc m) h k l some = at_symbol at b (take m bs) h k l

pub two_longest : (at : ℕ) (xs : List ℕ) (x : Token) → 2 ≤ length xs → is_ascii_digit (slice_index xs 0) ≡ false → is_quote (slice_index xs 0) ≡ false → is_letter (slice_index xs 0) ≡ false → lookup (bytes_eq (take 2 xs)) symbols ≡ Some x → IsLongest at xs x 2
two_longest at [] x some h k l e = absurd (omega arith)
two_longest at (b ∷ bs) x some h k l e = record {
  within = some;
  spelled = at_symbols at b bs 2 h k l (omega arith) ∙ e;
  longest = λ m more within. at_symbols at b bs m h k l (omega arith) ∙ no_symbol (take m (b ∷ bs)) (let size = length-take m (b ∷ bs) in omega arith);
}

-- no more bytes than two can be one
abbrev pub NoTwo : List ℕ → Type 0
NoTwo xs = 2 ≤ length xs → lookup (bytes_eq (take 2 xs)) symbols ≡ None

no_two : (at b : ℕ) (bs : List ℕ) (m : ℕ) → is_ascii_digit b ≡ false → is_quote b ≡ false → is_letter b ≡ false → NoTwo (b ∷ bs) → 1 < m → m ≤ length (b ∷ bs) → token_at at (take m (b ∷ bs)) ≡ None
no_two at b bs m h k l none more within =
    ⊎_elim
    (λ long. at_symbols at b bs m h k l (omega arith) ∙ no_symbol (take m (b ∷ bs)) (let size = length-take m (b ∷ bs) in omega arith))
    (λ short. let two : m ≡ 2 = omega arith in ap (λ n. token_at at (take n (b ∷ bs))) two ∙ at_symbols at b bs 2 h k l (omega arith) ∙ none (omega arith)) (cases_lt 2 m)

pub one_longest : (at : ℕ) (xs : List ℕ) (x : Token) → 0 < length xs → is_ascii_digit (slice_index xs 0) ≡ false → is_quote (slice_index xs 0) ≡ false → is_letter (slice_index xs 0) ≡ false → NoTwo xs → lookup (bytes_eq (take 1 xs)) symbols ≡ Some x → IsLongest at xs x 1
one_longest at [] x some h k l none e = absurd (omega arith)
one_longest at (b ∷ bs) x some h k l none e = record {
  within = omega arith;
  spelled = at_symbols at b bs 1 h k l (omega arith) ∙ e;
  longest = λ m more within. no_two at b bs m h k l none more within;
}

pub symbol_none : (at : ℕ) (xs : List ℕ) → 0 < length xs → is_ascii_digit (slice_index xs 0) ≡ false → is_quote (slice_index xs 0) ≡ false → is_letter (slice_index xs 0) ≡ false → NoTwo xs → lookup (bytes_eq (take 1 xs)) symbols ≡ None → BeginsNone at xs
symbol_none at [] some h k l none e n within = absurd (omega arith)
symbol_none at (b ∷ bs) some h k l none e zero within = refl
symbol_none at (b ∷ bs) some h k l none e (suc m) within =
    ⊎_elim
    (λ long. no_two at b bs (suc m) h k l none (omega arith) within)
    (λ short. let one : suc m ≡ 1 = omega arith in ap (λ n. token_at at (take n (b ∷ bs))) one ∙ at_symbols at b bs 1 h k l (omega arith) ∙ e) (cases_lt 0 m)

-- all of a list behind a place
pub rest_is : (k : ℕ) (xs : List ℕ) → take (length xs - k) (drop k xs) ≡ drop k xs
rest_is k xs = let size = length-drop k xs in take_all (length xs - k) (drop k xs) (omega arith)

-- the tokens from a place on that begins no space
abbrev pub Begin : List ℕ → ℕ → List Piece → Type 0
Begin text at [] = at ≡ length text
Begin text at (p ∷ ps) = (p.span.from ≡ at) × ((IsToken text p × AreTokens text p.span.to ps) ⊎ (IsUnknown text p × (ps ≡ [])))

begun : (text : List ℕ) (from at : ℕ) (qs : List Piece) → at ≡ behind_spaces text from → Begin text at qs → AreTokens text from qs
begun text from at [] e b = sym e ∙ b
begun text from at (p ∷ ps) e b = (b.0 ∙ e, b.1)

-- the tokens of the text up to a place that begins no space: with those from there on they are all
pub record ReadUpTo (text : List ℕ) (ps : List Piece) (at : ℕ) : Type 0 where
  pub within : at ≤ length text
  pub whole : (qs : List Piece) → Begin text at qs → AreTokens text 0 (ps ++ qs)

pub nothing_read : (text : List ℕ) (ps : List Piece) (at : ℕ) → ps ≡ [] → at ≡ prefix_len is_space text → ReadUpTo text ps at
nothing_read text ps at none e = record {
  within = omega (arith, prefix_len-le-length is_space text, e);
  whole = λ qs b. subst (λ l. AreTokens text 0 (l ++ qs)) (sym none) (begun text 0 at qs (omega (arith, e)) b);
}

token_here : (text : List ℕ) (at n : ℕ) (x : Token) → IsLongest at (drop at text) x n → IsToken text (record { token = x; span = record { from = at; to = at + n } })
token_here text at n x l = record { ordered = omega arith; longest = let same : n ≡ at + n - at = omega arith in subst (λ k. IsLongest at (drop at text) x k) same l }

pub one_read : (text : List ℕ) (ps qs : List Piece) (at n next : ℕ) (x : Token) → ReadUpTo text ps at → IsLongest at (take (length text - at) (drop at text)) x n → next ≡ at + n + prefix_len is_space (take (length text - (at + n)) (drop (at + n) text)) → qs ≡ ps ++ (record { token = x; span = record { from = at; to = at + n } } ∷ []) → ReadUpTo text qs next
one_read text ps qs at n next x r short e pushed =
    let l : IsLongest at (drop at text) x n = subst (λ ys. IsLongest at ys x n) (rest_is at text) short in
    let p : Piece = record { token = x; span = record { from = at; to = at + n } } in
    let behind : next ≡ behind_spaces text (at + n) = e ∙ ap (λ ys. at + n + prefix_len is_space ys) (rest_is (at + n) text) in
    record {
      within = omega (arith, behind, prefix_len-le-length is_space (drop (at + n) text), length-drop (at + n) text, length-drop at text, l.within, r.within);
      whole = λ rest b. subst (λ ys. AreTokens text 0 (ys ++ rest)) (sym pushed) (subst (AreTokens text 0) (sym (append_assoc ps (p ∷ []) rest)) (r.whole (p ∷ rest) (refl, inl (token_here text at n x l, begun text (at + n) next rest behind b))));
    }

pub all_read : (text : List ℕ) (ps : List Piece) (at : ℕ) → ReadUpTo text ps at → length text ≤ at → AreTokens text 0 ps
all_read text ps at r h = subst (AreTokens text 0) (append-nil ps) (r.whole [] (omega (arith, r.within)))

pub unknown_read : (text : List ℕ) (ps qs : List Piece) (at : ℕ) → ReadUpTo text ps at → at < length text → BeginsNone at (take (length text - at) (drop at text)) → qs ≡ ps ++ (record { token = mark Unknown; span = record { from = at; to = length text } } ∷ []) → AreTokens text 0 qs
unknown_read text ps qs at r h short pushed =
    let none : BeginsNone at (drop at text) = subst (λ ys. BeginsNone at ys) (rest_is at text) short in
    let p : Piece = record { token = mark Unknown; span = record { from = at; to = length text } } in
    subst (AreTokens text 0) (sym pushed) (r.whole (p ∷ []) (refl, inr (record { within = h; none = none; token = refl; end = refl }, refl)))

pub none_is : (o : Option Token) → ((x : Token) → o ≡ Some x → ⊥) → o ≡ None
none_is None h = refl
none_is (Some x) h = absurd (h x refl)

pub next_within : (text : List ℕ) (at n : ℕ) (x : Token) → at ≤ length text → IsLongest at (take (length text - at) (drop at text)) x n → at + n + prefix_len is_space (take (length text - (at + n)) (drop (at + n) text)) ≤ length text
next_within text at n x h short =
    let l : IsLongest at (drop at text) x n = subst (λ ys. IsLongest at ys x n) (rest_is at text) short in
    let spaces : prefix_len is_space (take (length text - (at + n)) (drop (at + n) text)) ≡ prefix_len is_space (drop (at + n) text) = ap (prefix_len is_space) (rest_is (at + n) text) in
    omega (arith, spaces, prefix_len-le-length is_space (drop (at + n) text), length-drop (at + n) text, length-drop at text, l.within)
