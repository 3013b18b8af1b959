-- Keys as steps of a pointer.
use Rattle.std.proofs.Common.{◌≡◌, ◌≢◌, ℕ, suc, ◌<◌, ◌≤◌, List, [], ◌∷◌, ◌++◌, length, get_or, refl, sym, ap, ◌∙◌, arith, inl, inr, append_assoc, append-nil, ne_eqb}
use Rattle.std.proofs.lemmas.Bool.{cases_lt}
use Rattle.std.proofs.lemmas.Str.{encode_ascii, inside_one}
use lib.Utf8.{encode}
use Rattle.farm_text.specs.Reading.{escaped}

pub escaped-append : (xs ys : List ℕ) → escaped (xs ++ ys) ≡ escaped xs ++ escaped ys
escaped-append [] ys = refl
escaped-append (x ∷ xs) ys = rw (escaped-append xs ys) (sym (append_assoc _ (escaped xs) (escaped ys)))

-- a byte that is no `~` and no `/` stays
plain : (c : ℕ) (cs : List ℕ) → c ≢ 126 → c ≢ 47 → escaped (c ∷ cs) ≡ c ∷ escaped cs
plain c cs tilde slash = rw (ne_eqb c 126 tilde, ne_eqb c 47 slash)

high : (xs : List ℕ) → ((k : ℕ) → k < length xs → 128 ≤ get_or xs k 0) → escaped xs ≡ xs
high [] h = refl
high (x ∷ xs) h =
    let above : 128 ≤ x = h 0 (omega arith) in
    plain x xs (λ e. omega arith) (λ e. omega arith) ∙ ap (λ l. x ∷ l) (high xs (λ k below. h (suc k) (omega arith)))

-- and so does a character
pub escaped-char : (c : ℕ) → c ≢ 126 → c ≢ 47 → escaped (encode c) ≡ encode c
escaped-char c tilde slash = elim (cases_lt c 128) [
  | inl small ↦ rw (encode_ascii c small) (plain c [] tilde slash)
  | inr big ↦ high (encode c) (λ k below. elim (cases_lt (get_or (encode c) k 0) 128) [
    | inl low ↦ absurd (omega (arith, inside_one c [] (encode c) k (sym (append-nil _)) below low))
    | inr h ↦ h
  ])
]
