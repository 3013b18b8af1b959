-- What kind of word a word is.
use Rattle.std.proofs.Common.{◌≡◌, ◌⊎◌, ◌∙◌, ℕ, Bool, true, false, refl, sym, ap, subst, arith, inl, inr, List, [], ◌∷◌, Some, codes, length, slice_get}
use Rattle.std.specs.Prelude.{◌==◌, IsUtf8, encode_utf8_all}
use Rattle.std.specs.Str.{chars}
use Rattle.std.proofs.lemmas.Bool.Decides.{Decides-eqb}
use Rattle.std.proofs.lemmas.Str.{encodes-chars}
use Rattle.clap.proofs.OnLiterals.{clap_on_literals}
use Rattle.clap.specs.Words.{Text}
use Rattle.command_line.specs.Options.{IsValue}

-- the word is `--` and something, or `-` and a character other than `-`
abbrev pub IsFlag : Text → Type 0
IsFlag w = ((z : ℕ) × (zs : Text) × (w ≡ 45 ∷ 45 ∷ z ∷ zs))
    ⊎ ((y : ℕ) × (ys : Text) × (x : ℕ) × (w ≡ 45 ∷ y ∷ ys) × ((y == 45) ≡ false) × (slice_get (chars (y ∷ ys)) 0 ≡ Some x))

abbrev pub HasKind : Text → Type 0
HasKind w = IsValue w ⊎ ((w ≡ codes "--") ⊎ IsFlag w)

dash_then : (y : ℕ) (ys : Text) → chars (45 ∷ y ∷ ys) ≡ 45 ∷ chars (y ∷ ys)
unfolding chars
dash_then y ys = refl

dash_alone : (y : ℕ) (ys : Text) → IsUtf8 (45 ∷ y ∷ ys) → chars (y ∷ ys) ≡ [] → ⊥
unfolding clap_on_literals
dash_alone y ys utf8 none =
    let spelt = encodes-chars (45 ∷ y ∷ ys) utf8 in
    let one : chars (45 ∷ y ∷ ys) ≡ 45 ∷ [] = dash_then y ys ∙ ap (λ cs. 45 ∷ cs) none in
    let short : 45 ∷ [] ≡ 45 ∷ y ∷ ys = sym (ap encode_utf8_all one) ∙ spelt in
    let lengths = ap length short in
    absurd (omega arith)

first_char : (y : ℕ) (ys : Text) → IsUtf8 (45 ∷ y ∷ ys) → (x : ℕ) × (slice_get (chars (y ∷ ys)) 0 ≡ Some x)
first_char y ys utf8 = go (chars (y ∷ ys)) refl
  where
    go : (cs : List ℕ) → chars (y ∷ ys) ≡ cs → (x : ℕ) × (slice_get (chars (y ∷ ys)) 0 ≡ Some x)
    go [] e = absurd (dash_alone y ys utf8 e)
    go (x ∷ xs) e = (x, ap (λ cs. slice_get cs 0) e)

after_dash : (rest : Text) → IsUtf8 (45 ∷ rest) → HasKind (45 ∷ rest)
after_dash [] utf8 = inl (inr refl)
after_dash (y ∷ ys) utf8 = go (y == 45) refl ys utf8
  where
    long : (zs : Text) → HasKind (45 ∷ 45 ∷ zs)
    long [] = inr (inl refl)
    long (z ∷ zs) = inr (inr (inl (z, zs, refl)))

    go : (b : Bool) → (y == 45) ≡ b → (ts : Text) → IsUtf8 (45 ∷ y ∷ ts) → HasKind (45 ∷ y ∷ ts)
    go true e ts u = subst (λ (k : ℕ). HasKind (45 ∷ k ∷ ts)) (sym ((Decides-eqb y 45).0 e)) (long ts)
    go false e ts u = let first = first_char y ts u in inr (inr (inr (y, ts, first.0, refl, e, first.1)))

-- each text is a value, `--`, or a flag
pub word_kind : (w : Text) → IsUtf8 w → HasKind w
word_kind [] utf8 = inl (inl (λ same. cc))
word_kind (a ∷ rest) utf8 = go (a == 45) refl
  where
    go : (b : Bool) → (a == 45) ≡ b → HasKind (a ∷ rest)
    go true e = subst (λ (k : ℕ). IsUtf8 (k ∷ rest) → HasKind (k ∷ rest)) (sym ((Decides-eqb a 45).0 e)) (after_dash rest) utf8
    go false e = inl (inl (λ same. let is : a ≡ 45 = cc in let yes = (Decides-eqb a 45).1 is in cc))

-- a value is empty, `-`, or begins with another byte
pub value_cases : (P : Text → Type 0) → P [] → P (45 ∷ []) → ((x : ℕ) (xs : Text) → (x == 45) ≡ false → P (x ∷ xs)) → (w : Text) → IsValue w → P w
value_cases P none dash some [] v = none
value_cases P none dash some (x ∷ xs) (inl plain) = go (x == 45) refl
  where
    go : (b : Bool) → (x == 45) ≡ b → P (x ∷ xs)
    go true e = let is : x ≡ 45 = (Decides-eqb x 45).0 e in absurd (plain (ap Some is))
    go false e = some x xs e
value_cases P none dash some (x ∷ xs) (inr same) = subst P (sym same) dash
