-- The tokens of a route take just the paths that fit it.
use Rattle.std.proofs.Common.{◌≡◌, ℕ, Bool, true, false, not, ◌&&◌, List, [], ◌∷◌, ◌++◌, Option, Some, None, is_some, refl, sym, ◌∙◌, eqb, length, ◌<◌, arith}
use Rattle.std.specs.List.{list_all}
use Rattle.std.specs.Option.{option_map}
use Rattle.std.proofs.lemmas.Bool.{false≢true}
use Rattle.std.proofs.lemmas.Bool.Decides.{nat_tests}
use Rattle.std.proofs.lemmas.List.Splits.{slice_split-cons_yes, slice_split-cons_no}
use Rattle.matchit.specs.Rows.{param_token}
use Rattle.route_table.specs.Segments.{Segment, word, parameter, parameters_in, parts_of}
use Rattle.route_table.specs.Tokens.{token_of, more_tokens, tokens_of, takes}

-- a byte of a word: no slash and no token of a parameter
abbrev pub is_plain : ℕ → Bool
is_plain x = not (eqb x 47) && not (eqb x param_token)

-- the word of a part of a route is plain
abbrev pub is_plain_segment : Segment → Bool
is_plain_segment (word w) = list_all is_plain w
is_plain_segment parameter = true

-- the tokens take a path whose first part and others are these, where they fit
record Fit (path first : List ℕ) (others : List (List ℕ)) : Type 0 where
  in_word : (w : List ℕ) (segments : List Segment) → list_all is_plain w ≡ true → list_all is_plain_segment segments ≡ true → takes false (w ++ more_tokens segments) path ≡ is_some (parameters_in (word w ∷ segments) (first ∷ others))
  before : (segments : List Segment) → list_all is_plain_segment segments ≡ true → takes false (param_token ∷ more_tokens segments) path ≡ is_some (parameters_in (parameter ∷ segments) (first ∷ others))
  inside : (segments : List Segment) → list_all is_plain_segment segments ≡ true → takes true (more_tokens segments) path ≡ is_some (parameters_in segments others)

pub and_first : (a b : Bool) → (a && b) ≡ true → a ≡ true
and_first true b e = refl
and_first false b e = e

pub and_second : (a b : Bool) → (a && b) ≡ true → b ≡ true
and_second true b e = e
and_second false b e = absurd (false≢true e)

pub not_true : (a : Bool) → not a ≡ true → a ≡ false
not_true true e = absurd (false≢true e)
not_true false e = refl

no_slash : (x : ℕ) → is_plain x ≡ true → eqb x 47 ≡ false
no_slash x e = not_true (eqb x 47) (and_first (not (eqb x 47)) (not (eqb x param_token)) e)

no_param : (x : ℕ) → is_plain x ≡ true → eqb x param_token ≡ false
no_param x e = not_true (eqb x param_token) (and_second (not (eqb x 47)) (not (eqb x param_token)) e)

is_some-map : {A B : Type 0} (f : A → B) (o : Option A) → is_some (option_map f o) ≡ is_some o
is_some-map f None = refl
is_some-map f (Some a) = refl

-- the next part of a route
next_part : (path first : List ℕ) (others : List (List ℕ)) → Fit path first others → (segment : Segment) (segments : List Segment) → list_all is_plain_segment (segment ∷ segments) ≡ true → takes false (token_of segment ++ more_tokens segments) path ≡ is_some (parameters_in (segment ∷ segments) (first ∷ others))
next_part path first others fit (word w) segments plain =
    fit.in_word w segments (and_first (list_all is_plain w) (list_all is_plain_segment segments) plain) (and_second (list_all is_plain w) (list_all is_plain_segment segments) plain)
next_part path first others fit parameter segments plain = fit.before segments plain

-- the empty path
fit_end : Fit [] [] []
fit_end = record { in_word = in_word; before = λ segments plain. refl; inside = inside }
  where
    in_word : (w : List ℕ) (segments : List Segment) → list_all is_plain w ≡ true → list_all is_plain_segment segments ≡ true → takes false (w ++ more_tokens segments) [] ≡ is_some (parameters_in (word w ∷ segments) ([] ∷ []))
    in_word [] [] plain all = refl
    in_word [] (segment ∷ segments) plain all = refl
    in_word (x ∷ w) segments plain all = refl

    inside : (segments : List Segment) → list_all is_plain_segment segments ≡ true → takes true (more_tokens segments) [] ≡ is_some (parameters_in segments [])
    inside [] all = refl
    inside (segment ∷ segments) all = refl

-- a slash before a path
fit_slash : (path first : List ℕ) (others : List (List ℕ)) → Fit path first others → Fit (47 ∷ path) [] (first ∷ others)
fit_slash path first others fit = record { in_word = in_word; before = λ segments plain. refl; inside = inside }
  where
    in_word : (w : List ℕ) (segments : List Segment) → list_all is_plain w ≡ true → list_all is_plain_segment segments ≡ true → takes false (w ++ more_tokens segments) (47 ∷ path) ≡ is_some (parameters_in (word w ∷ segments) ([] ∷ first ∷ others))
    in_word [] [] plain all = refl
    in_word [] (segment ∷ segments) plain all = next_part path first others fit segment segments all
    in_word (x ∷ w) segments plain all =
        let this = and_first (is_plain x) (list_all is_plain w) plain in
        rw (no_param x this, no_slash x this) refl

    inside : (segments : List Segment) → list_all is_plain_segment segments ≡ true → takes true (more_tokens segments) (47 ∷ path) ≡ is_some (parameters_in segments (first ∷ others))
    inside [] all = refl
    inside (segment ∷ segments) all = next_part path first others fit segment segments all

-- another byte before a path
word_on : (x b : ℕ) (same : Bool) (w first : List ℕ) (segments : List Segment) (others : List (List ℕ)) (taken : Bool) → eqb x b ≡ same → taken ≡ is_some (parameters_in (word w ∷ segments) (first ∷ others)) → (same && taken) ≡ is_some (parameters_in (word (x ∷ w) ∷ segments) ((b ∷ first) ∷ others))
word_on x b true w first segments others taken is e =
    let other : eqb b x ≡ true = grind (arith, nat_tests) in
    rw other e
word_on x b false w first segments others taken is e =
    let other : eqb b x ≡ false = grind (arith, nat_tests) in
    rw other refl

fit_byte : (b : ℕ) (path first : List ℕ) (others : List (List ℕ)) → eqb b 47 ≡ false → Fit path first others → Fit (b ∷ path) (b ∷ first) others
fit_byte b path first others other fit = record { in_word = in_word; before = before; inside = inside }
  where
    reversed : eqb 47 b ≡ false
    reversed = grind (arith, nat_tests)

    in_word : (w : List ℕ) (segments : List Segment) → list_all is_plain w ≡ true → list_all is_plain_segment segments ≡ true → takes false (w ++ more_tokens segments) (b ∷ path) ≡ is_some (parameters_in (word w ∷ segments) ((b ∷ first) ∷ others))
    in_word [] [] plain all = refl
    in_word [] (segment ∷ segments) plain all = rw reversed refl
    in_word (x ∷ w) segments plain all =
        let this = and_first (is_plain x) (list_all is_plain w) plain in
        let rest = and_second (is_plain x) (list_all is_plain w) plain in
        rw (no_param x this) (word_on x b (eqb x b) w first segments others (takes false (w ++ more_tokens segments) path) refl (fit.in_word w segments rest all))

    before : (segments : List Segment) → list_all is_plain_segment segments ≡ true → takes false (param_token ∷ more_tokens segments) (b ∷ path) ≡ is_some (parameters_in (parameter ∷ segments) ((b ∷ first) ∷ others))
    before segments all = rw other (fit.inside segments all ∙ sym (is_some-map (λ found. (b ∷ first) ∷ found) (parameters_in segments others)))

    inside : (segments : List Segment) → list_all is_plain_segment segments ≡ true → takes true (more_tokens segments) (b ∷ path) ≡ is_some (parameters_in segments others)
    inside [] all = rw other (fit.inside [] all)
    inside (segment ∷ segments) all = rw other (fit.inside (segment ∷ segments) all)

-- each path has a first part and others
record HasParts (path : List ℕ) : Type 0 where
  first : List ℕ
  others : List (List ℕ)
  parts : parts_of path ≡ first ∷ others
  fit : Fit path first others

is_slash : ℕ → Bool
is_slash b = eqb b 47

part_on : (b : ℕ) (path : List ℕ) (slash : Bool) → eqb b 47 ≡ slash → HasParts path → HasParts (b ∷ path)
part_on b path true is has =
    let same : b ≡ 47 = grind (arith, nat_tests) in
    record {
      first = [];
      others = has.first ∷ has.others;
      parts = rw (slice_split-cons_yes (λ x. eqb x 47) b path is, has.parts) refl;
      fit = rw same (fit_slash path has.first has.others has.fit);
    }
part_on b path false is has = record {
  first = b ∷ has.first;
  others = has.others;
  parts = rw (slice_split-cons_no (λ x. eqb x 47) b path is, has.parts) refl;
  fit = fit_byte b path has.first has.others is has.fit;
}

has_parts : (path : List ℕ) → HasParts path
has_parts [] = record { first = []; others = []; parts = refl; fit = fit_end }
has_parts (b ∷ path) = part_on b path (eqb b 47) refl (has_parts path)

-- the tokens of a route take a path exactly where it fits
pub takes-fits : (segment : Segment) (segments : List Segment) (path : List ℕ) → list_all is_plain_segment (segment ∷ segments) ≡ true → takes false (tokens_of (segment ∷ segments)) path ≡ is_some (parameters_in (segment ∷ segments) (parts_of path))
takes-fits segment segments path plain =
    let has = has_parts path in
    rw has.parts (next_part path has.first has.others has.fit segment segments plain)

pub takes-fits-all : (segments : List Segment) (path : List ℕ) → 0 < length segments → list_all is_plain_segment segments ≡ true → takes false (tokens_of segments) path ≡ is_some (parameters_in segments (parts_of path))
takes-fits-all [] path some plain = absurd (omega arith)
takes-fits-all (segment ∷ segments) path some plain = takes-fits segment segments path plain
