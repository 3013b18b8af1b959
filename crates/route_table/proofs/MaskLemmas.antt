-- A path with a question mark for each byte that is no ASCII fits the same routes.
use Rattle.std.proofs.Common.{◌≡◌, ℕ, ◌+◌, ◌<◌, Bool, true, false, not, ◌&&◌, ◌||◌, cond, List, [], ◌∷◌, ◌++◌, length, take, get_or, add-one, refl, sym, ap, subst, ◌∙◌, eqb, nat_lt, arith}
use Rattle.std.specs.List.{list_all}
use Rattle.std.proofs.Math.Seq.{take-suc, take-length}
use Rattle.std.proofs.Math.Utf8.{encode}
use Rattle.std.proofs.lemmas.Bool.Decides.{nat_tests}
use Rattle.std.proofs.lemmas.List.{map-append}
use Rattle.std.proofs.lemmas.Str.{encode_ascii}
use Rattle.matchit.specs.Rows.{param_token}
use Rattle.route_table.specs.declared.path.PathForm.{PathForm}
use Rattle.route_table.specs.Routes.{segments_of}
use Rattle.route_table.specs.Tokens.{takes, tokens_of, masked_byte, masked}
use Rattle.route_table.proofs.TakeLemmas.{and_first, and_second}
use Rattle.route_table.proofs.FormLemmas.{each_form}

mask_small : (b : ℕ) → masked_byte b < 128
mask_small b = by (nat_lt b 128) refl
  where
    by : (small : Bool) → nat_lt b 128 ≡ small → cond small b 63 < 128
    by true e = grind (arith, nat_tests)
    by false e = omega arith

-- one byte more
pub masked_more : (path shown : List ℕ) (n b : ℕ) → n < length path → b ≡ get_or path n 0 → shown ≡ masked (take n path) → shown ++ encode (masked_byte b) ≡ masked (take (n + 1) path)
masked_more path shown n b less is so =
    rw (so, is, add-one, take-suc path n 0 less, map-append masked_byte (take n path) (get_or path n 0 ∷ []), encode_ascii (masked_byte (get_or path n 0)) (mask_small (get_or path n 0))) refl

pub masked_end : (path shown : List ℕ) (n : ℕ) → n ≡ length path → shown ≡ masked (take n path) → shown ≡ masked path
masked_end path shown n all so = so ∙ ap masked (rw all (take-length path))

-- ---- tokens without a question mark and without other bytes

abbrev is_told : ℕ → Bool
is_told x = eqb x param_token || (nat_lt x 128 && not (eqb x 63))

told : (form : PathForm) → list_all is_told (tokens_of (segments_of form)) ≡ true
told form = each_form (λ f. list_all is_told (tokens_of (segments_of f))) refl form

same_slash : (b : ℕ) → eqb (masked_byte b) 47 ≡ eqb b 47
same_slash b = by (nat_lt b 128) refl
  where
    by : (small : Bool) → nat_lt b 128 ≡ small → eqb (cond small b 63) 47 ≡ eqb b 47
    by true e = refl
    by false e = let other : eqb b 47 ≡ false = grind (arith, nat_tests) in sym other

same_byte : (x b : ℕ) → is_told x ≡ true → eqb x param_token ≡ false → eqb x (masked_byte b) ≡ eqb x b
same_byte x b is other = by (nat_lt b 128) refl
  where
    parts : (nat_lt x 128 && not (eqb x 63)) ≡ true
    parts = rw other at is

    by : (small : Bool) → nat_lt b 128 ≡ small → eqb x (cond small b 63) ≡ eqb x b
    by true e = refl
    by false e =
        let less = and_first (nat_lt x 128) (not (eqb x 63)) parts in
        let unlike = and_second (nat_lt x 128) (not (eqb x 63)) parts in
        let one : eqb x 63 ≡ false = grind (arith, nat_tests) in
        let two : eqb x b ≡ false = grind (arith, nat_tests) in
        one ∙ sym two

-- both ways of taking a path
abbrev Same : List ℕ → List ℕ → Type 0
Same path tokens = (takes false tokens (masked path) ≡ takes false tokens path) × (takes true tokens (masked path) ≡ takes true tokens path)

same_inside : (b x : ℕ) (path tokens : List ℕ) (slash : Bool) → eqb b 47 ≡ slash → Same path tokens → Same path (x ∷ tokens) → takes true (x ∷ tokens) (masked (b ∷ path)) ≡ takes true (x ∷ tokens) (b ∷ path)
same_inside b x path tokens true e rest whole =
    let same : 47 ≡ b = grind (arith, nat_tests) in
    let P : ℕ → Type 0 = λ z. takes true (x ∷ tokens) (masked (z ∷ path)) ≡ takes true (x ∷ tokens) (z ∷ path) in
    subst P same (rw rest.0 refl)
same_inside b x path tokens false e rest whole = rw (same_slash b, e) whole.1

same_takes : (path tokens : List ℕ) → list_all is_told tokens ≡ true → Same path tokens
same_takes [] [] all = (refl, refl)
same_takes [] (x ∷ tokens) all = (refl, refl)
same_takes (b ∷ path) [] all =
    let rest = same_takes path [] all in
    (refl, rw (same_slash b, rest.1) refl)
same_takes (b ∷ path) (x ∷ tokens) all =
    let is = and_first (is_told x) (list_all is_told tokens) all in
    let others = and_second (is_told x) (list_all is_told tokens) all in
    let rest = same_takes path tokens others in
    let whole = same_takes path (x ∷ tokens) all in
    by is rest whole (eqb x param_token) refl
  where
    by : is_told x ≡ true → Same path tokens → Same path (x ∷ tokens) → (param : Bool) → eqb x param_token ≡ param → Same (b ∷ path) (x ∷ tokens)
    by is rest whole true e = (rw (e, same_slash b, rest.1) refl, same_inside b x path tokens (eqb b 47) refl rest whole)
    by is rest whole false e = (rw (e, same_byte x b is e, rest.0) refl, same_inside b x path tokens (eqb b 47) refl rest whole)

pub takes_masked : (form : PathForm) (path : List ℕ) → takes false (tokens_of (segments_of form)) (masked path) ≡ takes false (tokens_of (segments_of form)) path
takes_masked form path = (same_takes path (tokens_of (segments_of form)) (told form)).0
