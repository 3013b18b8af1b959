-- What is decided: it holds or it does not. Of numbers, texts and lists; and which attributes a text is.
use Rattle.std.proofs.Common.{◌≡◌, ◌≢◌, ◌⊎◌, inl, inr, ℕ, zero, suc, ◌+◌, ◌<◌, ◌≤◌, ◌==◌, Bool, true, false, if◌then◌else◌, List, [], ◌∷◌, ◌++◌, length, bytes_eq, refl, sym, ap, ◌∙◌, subst, arith, length-append}
use Rattle.std.specs.Prelude.{IsTrue, All}
use Rattle.std.proofs.lemmas.Bool.{cases_lt, true≢false}
use Rattle.std.proofs.lemmas.List.Elements.{All-nil, All-cons, All-head, All-tail}
use Rattle.std.proofs.lemmas.Slice.Eq.{bytes_eq-Decides}
use Rattle.hawk_auth.specs.Header.{AttributeData, BeginsWith, GoesOn, IsAttributes, IsValueByte, is_name}
use Rattle.hawk_auth.specs.Mac.{skip_spaces}
use Rattle.hawk_auth.proofs.AttributeLemmas.{cut_once, begins_once, off_without_quote, off_form}

-- it holds or it does not
abbrev pub Decided : Type 0 → Type 0
Decided P = P ⊎ (¬ P)

-- ---- numbers, tests and lists

pub same_number : (a b : ℕ) → Decided (a ≡ b)
same_number a b = elim (cases_lt a b) [
  | inl less ↦ inr (λ e. omega (arith, less, e))
  | inr more ↦ (elim (cases_lt b a) [ inl less ↦ inr (λ e. omega (arith, less, e)) | inr other ↦ inl (omega (arith, more, other)) ])
]

pub at_most : (a b : ℕ) → Decided (a ≤ b)
at_most a b = elim (cases_lt b a) [ inl more ↦ inr (λ few. omega (arith, more, few)) | inr few ↦ inl few ]

pub is_true : (b : Bool) → Decided (b ≡ true)
is_true true = inl refl
is_true false = inr (λ e. cc)

pub both : {P Q : Type 0} → Decided P → Decided Q → Decided (P × Q)
both (inl p) (inl q) = inl (p, q)
both (inl p) (inr q) = inr (λ r. q r.1)
both (inr p) q = inr (λ r. p r.0)

pub neither : {P : Type 0} → Decided P → Decided (¬ P)
neither (inl p) = inr (λ none. none p)
neither (inr none) = inl none

pub same_text : (xs ys : List ℕ) → Decided (xs ≡ ys)
same_text xs ys = by (bytes_eq xs ys) refl where
  by : (b : Bool) → bytes_eq xs ys ≡ b → Decided (xs ≡ ys)
  by true is = inl ((bytes_eq-Decides xs ys).0 is)
  by false is = inr (λ e. true≢false (sym ((bytes_eq-Decides xs ys).1 e) ∙ is))

pub each : {X : Type 0} (P : X → Type 0) → ((x : X) → Decided (P x)) → (xs : List X) → Decided (All P xs)
each P decide [] = inl (All-nil P)
each P decide (x ∷ xs) = by (decide x) (each P decide xs) where
  by : Decided (P x) → Decided (All P xs) → Decided (All P (x ∷ xs))
  by (inl p) (inl h) = inl (All-cons P x xs p h)
  by (inl p) (inr none) = inr (λ h. none (All-tail P x xs h))
  by (inr other) rest = inr (λ h. other (All-head P x xs h))

-- ---- where a byte stands

-- the text begins with this byte
pub starts : (c : ℕ) (text : List ℕ) → ((rest : List ℕ) × (text ≡ c ∷ rest)) ⊎ ((rest : List ℕ) → text ≢ c ∷ rest)
starts c [] = inr (λ rest e. cc)
starts c (b ∷ text) = by (same_number b c) where
  by : Decided (b ≡ c) → ((rest : List ℕ) × (b ∷ text ≡ c ∷ rest)) ⊎ ((rest : List ℕ) → b ∷ text ≢ c ∷ rest)
  by (inl same) = inl (text, ap (λ (x : ℕ). x ∷ text) same)
  by (inr other) = inr (λ rest e. other cc)

-- what stands before the first such byte, and behind it
pub record Cut (c : ℕ) (text : List ℕ) : Type 0 where
  pub front : List ℕ
  pub rest : List ℕ
  pub is : text ≡ front ++ c ∷ rest
  pub plain : All (λ b. b ≢ c) front

cut_none : (c : ℕ) (front rest : List ℕ) → [] ≢ front ++ c ∷ rest
cut_none c [] rest e = cc
cut_none c (f ∷ front) rest e = cc

cut_later : (c b : ℕ) (text : List ℕ) → b ≢ c → ((front rest : List ℕ) → text ≢ front ++ c ∷ rest) → (front rest : List ℕ) → b ∷ text ≢ front ++ c ∷ rest
cut_later c b text other none [] rest e = other cc
cut_later c b text other none (f ∷ front) rest e = none front rest cc

pub cut : (c : ℕ) (text : List ℕ) → Cut c text ⊎ ((front rest : List ℕ) → text ≢ front ++ c ∷ rest)
cut c [] = inr (cut_none c)
cut c (b ∷ text) = by (same_number b c) (cut c text) where
  by : Decided (b ≡ c) → Cut c text ⊎ ((front rest : List ℕ) → text ≢ front ++ c ∷ rest) → Cut c (b ∷ text) ⊎ ((front rest : List ℕ) → b ∷ text ≢ front ++ c ∷ rest)
  by (inl same) more = inl (record { front = []; rest = text; is = ap (λ (x : ℕ). x ∷ text) same; plain = All-nil (λ x. x ≢ c) })
  by (inr other) (inl k) = inl (record { front = b ∷ k.front; rest = k.rest; is = ap (λ (t : List ℕ). b ∷ t) k.is; plain = All-cons (λ x. x ≢ c) b k.front other k.plain })
  by (inr other) (inr none) = inr (cut_later c b text other none)

-- ---- attributes

value_byte : (b : ℕ) → Decided (IsValueByte b)
value_byte b = by (both (at_most 32 b) (at_most b 126)) (neither (same_number b 34)) (neither (same_number b 92)) where
  by : Decided ((32 ≤ b) × (b ≤ 126)) → Decided (b ≢ 34) → Decided (b ≢ 92) → Decided (IsValueByte b)
  by (inl p) (inl q) (inl r) = inl (p, q, r)
  by (inl p) (inl q) (inr r) = inr (λ v. r v.2)
  by (inl p) (inr q) r = inr (λ v. q v.1)
  by (inr p) q r = inr (λ v. p v.0)

-- the text begins with an attribute
abbrev Begins : List ℕ → Type 0
Begins text = (a : AttributeData) × (after : List ℕ) × BeginsWith text a after

begins_valued : (text : List ℕ) (name : Cut 61 text) (quoted : List ℕ) → name.rest ≡ 34 ∷ quoted → (value : Cut 34 quoted) → Decided (Begins text)
begins_valued text name quoted quote value = by (both (is_true (is_name name.front)) (each IsValueByte value_byte value.front)) where
  by : Decided ((is_name name.front ≡ true) × All IsValueByte value.front) → Decided (Begins text)
  by (inl (named, plain)) =
      inl (
        record { name = name.front; value = value.front },
        value.rest,
        record {
          spelled = name.is ∙ ap (λ (t : List ℕ). name.front ++ 61 ∷ t) (quote ∙ ap (λ (t : List ℕ). 34 ∷ t) value.is);
          no_equals = name.plain;
          no_quote = value.plain;
          named = named;
          plain = plain;
        },
      )
  by (inr off) = inr (λ b. off_form text b.0 b.1 b.2 name.front name.rest name.is name.plain quoted quote value.front value.rest value.is value.plain (λ n p. off (n, p)))

after_quote : (text : List ℕ) (name : Cut 61 text) (quoted : List ℕ) → name.rest ≡ 34 ∷ quoted → (a : AttributeData) (after : List ℕ) → BeginsWith text a after → quoted ≡ a.value ++ 34 ∷ after
after_quote text name quoted quote a after h =
    let (_, same) = cut_once 61 a.name (34 ∷ (a.value ++ 34 ∷ after)) name.front name.rest h.no_equals name.plain (sym h.spelled ∙ name.is) in
    let e : 34 ∷ (a.value ++ 34 ∷ after) ≡ 34 ∷ quoted = same ∙ quote in
    cc

begins_named : (text : List ℕ) (name : Cut 61 text) → Decided (Begins text)
begins_named text name = elim (starts 34 name.rest) [
  | inr none ↦ inr (λ b. off_without_quote text b.0 b.1 b.2 name.front name.rest name.is name.plain none)
  | inl quoted ↦ (elim (cut 34 quoted.0) [
    | inr none ↦ inr (λ b. none b.0.value b.1 (after_quote text name quoted.0 quoted.1 b.0 b.1 b.2))
    | inl value ↦ begins_valued text name quoted.0 quoted.1 value
  ])
]

begins : (text : List ℕ) → Decided (Begins text)
begins text = elim (cut 61 text) [
  | inr none ↦ inr (λ b. none b.0.name (34 ∷ (b.0.value ++ 34 ∷ b.1)) b.2.spelled)
  | inl name ↦ begins_named text name
]

-- what is left is shorter
skip_short : (text : List ℕ) → length (skip_spaces text) ≤ length text
skip_short [] = omega arith
skip_short (b ∷ text) = by (b == 32) (skip_short text) where
  by : (space : Bool) → length (skip_spaces text) ≤ length text → length (if space then skip_spaces text else b ∷ text) ≤ length (b ∷ text)
  by true few = omega (arith, few)
  by false few = omega arith

begins_short : (text : List ℕ) (a : AttributeData) (after : List ℕ) → BeginsWith text a after → length after < length text
begins_short text a after h = omega (arith, ap length h.spelled, length-append a.name (61 ∷ 34 ∷ (a.value ++ 34 ∷ after)), length-append a.value (34 ∷ after))

-- the text goes on by attributes
abbrev Goes : List ℕ → Type 0
Goes rest = (ms : List AttributeData) × GoesOn ms rest

text_same : {a b : List ℕ} (c : ℕ) → c ∷ a ≡ c ∷ b → a ≡ b
text_same c e = cc

no_comma : (b : ℕ) (rest : List ℕ) → ((t : List ℕ) → b ∷ rest ≢ 44 ∷ t) → ¬ Goes (b ∷ rest)
no_comma b rest none ([], e) = cc
no_comma b rest none (a ∷ ms, (t, after, comma, first, more)) = none t comma

no_first : (b : ℕ) (rest text : List ℕ) → b ∷ rest ≡ 44 ∷ text → ¬ Begins (skip_spaces text) → ¬ Goes (b ∷ rest)
no_first b rest text comma none ([], e) = cc
no_first b rest text comma none (a ∷ ms, (t, after, too, first, more)) =
    none (a, after, subst (λ (x : List ℕ). BeginsWith (skip_spaces x) a after) (text_same 44 (sym too ∙ comma)) first)

no_more : (b : ℕ) (rest text : List ℕ) → b ∷ rest ≡ 44 ∷ text → (a : AttributeData) (after : List ℕ) → BeginsWith (skip_spaces text) a after → ¬ Goes (skip_spaces after) → ¬ Goes (b ∷ rest)
no_more b rest text comma a after h none ([], e) = cc
no_more b rest text comma a after h none (m ∷ ms, (t, other, too, first, more)) =
    let here = subst (λ (x : List ℕ). BeginsWith (skip_spaces x) m other) (text_same 44 (sym too ∙ comma)) first in
    let (_, left) = begins_once (skip_spaces text) a m after other h here in
    none (ms, subst (λ (x : List ℕ). GoesOn ms (skip_spaces x)) (sym left) more)

goes : (n : ℕ) (rest : List ℕ) → length rest ≤ n → Decided (Goes rest)
goes n [] few = inl ([], refl)
goes zero (b ∷ rest) few = absurd (omega (arith, few))
goes (suc n) (b ∷ rest) few = elim (starts 44 (b ∷ rest)) [
  | inr none ↦ inr (no_comma b rest none)
  | inl text ↦ (elim (begins (skip_spaces text.0)) [
    | inr none ↦ inr (no_first b rest text.0 text.1 none)
    | inl first ↦ (elim (goes n (skip_spaces first.1) (omega (arith, few, ap length text.1, skip_short text.0, skip_short first.1, begins_short (skip_spaces text.0) first.0 first.1 first.2))) [
      | inr none ↦ inr (no_more b rest text.0 text.1 first.0 first.1 first.2 none)
      | inl more ↦ inl (first.0 ∷ more.0, (text.0, first.1, text.1, first.2, more.1))
    ])
  ])
]

no_rest : (text : List ℕ) (a : AttributeData) (after : List ℕ) → BeginsWith text a after → ¬ Goes (skip_spaces after) → ¬ ((all : List AttributeData) × IsAttributes all text)
no_rest text a after h none ([], k) = k
no_rest text a after h none (m ∷ ms, (other, first, more)) =
    let (_, left) = begins_once text a m after other h first in
    none (ms, subst (λ (x : List ℕ). GoesOn ms (skip_spaces x)) (sym left) more)

none_first : (text : List ℕ) → ¬ Begins text → ¬ ((all : List AttributeData) × IsAttributes all text)
none_first text none ([], k) = k
none_first text none (m ∷ ms, (after, first, more)) = none (m, after, first)

-- the text is attributes
pub attributes : (text : List ℕ) → Decided ((all : List AttributeData) × IsAttributes all text)
attributes text = elim (begins text) [
  | inr none ↦ inr (none_first text none)
  | inl first ↦ (elim (goes (length (skip_spaces first.1)) (skip_spaces first.1) (omega arith)) [
    | inr none ↦ inr (no_rest text first.0 first.1 first.2 none)
    | inl more ↦ inl (first.0 ∷ more.0, (first.1, first.2, more.1))
  ])
]
