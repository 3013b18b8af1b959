-- Names that stand between commas are those that the commas part.
use Rattle.std.proofs.Common.{◌≡◌, ◌≢◌, ℕ, zero, suc, ◌+◌, ◌<◌, Bool, true, false, ◌&&◌, ◌||◌, List, [], ◌∷◌, ◌++◌, length, get_or, drop, MatchOption, Option, Some, None, Bor, refl, sym, ap, ap₂, subst, ◌∙◌, arith, lit<}
use Rattle.std.proofs.lemmas.Bool.{false≢true}
use Rattle.std.proofs.lemmas.Str.Pattern.{IsSplitOnceResult, split_after, split_parts}
use Rattle.std.specs.List.{list_all}
use Rattle.std.specs.Str.Pattern.{FindsChar, FindsTextPrefix}
use Rattle.std.proofs.lemmas.List.{append_cancel_left, append_cancel_right}
use Rattle.jsone_expr.specs.Tokens.{is_letter, is_word_byte}
use Rattle.jsone_render.specs.Names.{is_name, between_commas, are_distinct, IsBinder}

pub both : (a b : Bool) → (a && b) ≡ true → (a ≡ true) × (b ≡ true)
both true b h = (refl, h)
both false b h = absurd (false≢true h)

first_holds : (a b : Bool) → a ≡ true → (a || b) ≡ true
first_holds true b h = refl
first_holds false b h = absurd (false≢true h)

abbrev pub Lacks : List ℕ → Type 0
Lacks bs = (i : ℕ) → i < length bs → get_or bs i 0 ≢ 44

bytes_lack : (bs : List ℕ) → list_all is_word_byte bs ≡ true → Lacks bs
bytes_lack [] h i less = absurd (omega arith)
bytes_lack (b ∷ bs) h zero less = λ e. false≢true (subst (λ x. is_word_byte x ≡ true) e (both (is_word_byte b) (list_all is_word_byte bs) h).0)
bytes_lack (b ∷ bs) h (suc i) less = bytes_lack bs (both (is_word_byte b) (list_all is_word_byte bs) h).1 i (omega arith)

-- a name has no comma
pub name_lacks : (x : List ℕ) → is_name x ≡ true → Lacks x
name_lacks [] h = absurd (false≢true h)
name_lacks (b ∷ bs) h =
    let (letter, rest) = both (is_letter b) _ h in
    let (bytes, free) = both (list_all is_word_byte bs) _ rest in
    bytes_lack (b ∷ bs) (rw (first_holds (is_letter b) _ letter) bytes)

comma_within : (xs ys : List ℕ) → length xs < length (xs ++ 44 ∷ ys)
comma_within [] ys = omega arith
comma_within (x ∷ xs) ys = let h = comma_within xs ys in omega arith

comma_at : (xs ys : List ℕ) → get_or (xs ++ 44 ∷ ys) (length xs) 0 ≡ 44
comma_at [] ys = refl
comma_at (x ∷ xs) ys = comma_at xs ys

pub has_comma : {A : Type 0} (bs xs ys : List ℕ) → Lacks bs → bs ≡ xs ++ 44 ∷ ys → A
has_comma bs xs ys lacks e =
    absurd (lacks (length xs) (subst (λ (l : List ℕ). length xs < length l) (sym e) (comma_within xs ys)) (ap (λ (l : List ℕ). get_or l (length xs) 0) e ∙ comma_at xs ys))

abbrev Named : List (List ℕ) → Type 0
Named names = list_all is_name names ≡ true

abbrev Only : List ℕ → List (List ℕ) → Type 0
Only inside found = (names : List (List ℕ)) → Named names → are_distinct names ≡ true → between_commas names ≡ inside → names ≡ found

pub only_one : (inside : List ℕ) → FindsChar 44 inside None → Only inside (inside ∷ [])
only_one inside none [] named distinct e = absurd (false≢true distinct)
only_one inside none (a ∷ []) named distinct e = ap (λ x. x ∷ []) e
only_one inside none (a ∷ b ∷ []) named distinct e = absurd (split_after 44 inside a b None none (lit< tt) (sym e) (name_lacks a (both (is_name a) _ named).0))
only_one inside none (a ∷ b ∷ d ∷ []) named distinct e = absurd (split_after 44 inside a (b ++ 44 ∷ d) None none (lit< tt) (sym e) (name_lacks a (both (is_name a) _ named).0))
only_one inside none (a ∷ b ∷ d ∷ f ∷ more) named distinct e = absurd (false≢true distinct)

pub only_two : (inside : List ℕ) (first rest : Bor (List ℕ)) → IsSplitOnceResult 44 inside (Some (first, rest)) → FindsChar 44 rest.now None → Only inside (first.now ∷ rest.now ∷ [])
only_two inside first rest cut none [] named distinct e = absurd (false≢true distinct)
only_two inside first rest cut none (a ∷ []) named distinct e =
    has_comma a first.now rest.now (name_lacks a (both (is_name a) _ named).0) (e ∙ (split_parts 44 inside (Some (first, rest)) cut (lit< tt)).0)
only_two inside first rest cut none (a ∷ b ∷ []) named distinct e =
    let (one, two) = split_after 44 inside a b (Some (first, rest)) cut (lit< tt) (sym e) (name_lacks a (both (is_name a) _ named).0) in
    ap₂ (λ (x y : List ℕ). x ∷ y ∷ []) (sym one) (sym two)
only_two inside first rest cut none (a ∷ b ∷ d ∷ []) named distinct e =
    let (named_a, more) = both (is_name a) _ named in
    let (one, two) = split_after 44 inside a (b ++ 44 ∷ d) (Some (first, rest)) cut (lit< tt) (sym e) (name_lacks a named_a) in
    absurd (split_after 44 rest.now b d None none (lit< tt) two (name_lacks b (both (is_name b) _ more).0))
only_two inside first rest cut none (a ∷ b ∷ d ∷ f ∷ more) named distinct e = absurd (false≢true distinct)

pub only_three : (inside : List ℕ) (first rest second third : Bor (List ℕ)) → IsSplitOnceResult 44 inside (Some (first, rest)) → IsSplitOnceResult 44 rest.now (Some (second, third)) → Only inside (first.now ∷ second.now ∷ third.now ∷ [])
only_three inside first rest second third cut next [] named distinct e = absurd (false≢true distinct)
only_three inside first rest second third cut next (a ∷ []) named distinct e =
    has_comma a first.now rest.now (name_lacks a (both (is_name a) _ named).0) (e ∙ (split_parts 44 inside (Some (first, rest)) cut (lit< tt)).0)
only_three inside first rest second third cut next (a ∷ b ∷ []) named distinct e =
    let (named_a, more) = both (is_name a) _ named in
    let (one, two) = split_after 44 inside a b (Some (first, rest)) cut (lit< tt) (sym e) (name_lacks a named_a) in
    has_comma b second.now third.now (name_lacks b (both (is_name b) _ more).0) (sym two ∙ (split_parts 44 rest.now (Some (second, third)) next (lit< tt)).0)
only_three inside first rest second third cut next (a ∷ b ∷ d ∷ []) named distinct e =
    let (named_a, more) = both (is_name a) _ named in
    let (one, two) = split_after 44 inside a (b ++ 44 ∷ d) (Some (first, rest)) cut (lit< tt) (sym e) (name_lacks a named_a) in
    let (three, four) = split_after 44 rest.now b d (Some (second, third)) next (lit< tt) two (name_lacks b (both (is_name b) _ more).0) in
    ap₂ (λ (x : List ℕ) (ys : List (List ℕ)). x ∷ ys) (sym one) (ap₂ (λ (x y : List ℕ). x ∷ y ∷ []) (sym three) (sym four))
only_three inside first rest second third cut next (a ∷ b ∷ d ∷ f ∷ more) named distinct e = absurd (false≢true distinct)

-- behind the word and a bracket
pub behind_text : (p s : List ℕ) (x : Bor (List ℕ)) → (n : ℕ) × FindsTextPrefix p s (Some n) × (x.now ≡ drop n s) × (length x.now + n ≡ length s) → s ≡ p ++ x.now
behind_text p s x (n, finds, rest, size) = finds.1 ∙ ap (λ l. p ++ l) (sym rest)

abbrev pub InBrackets : List ℕ → List ℕ → List ℕ → Type 0
InBrackets word key inside = key ≡ word ++ 40 ∷ (inside ++ 41 ∷ [])

pub no_bracket : (word key behind : List ℕ) → key ≡ word ++ behind → ((rest : List ℕ) → behind ≢ 40 ∷ rest) → (inside : List ℕ) → ¬ InBrackets word key inside
no_bracket word key behind e none inside is = none (inside ++ 41 ∷ []) (append_cancel_left word behind (40 ∷ (inside ++ 41 ∷ [])) (sym e ∙ is))

pub last_bracket : (word key behind within : List ℕ) (r : Option (Bor (List ℕ))) → key ≡ word ++ behind → behind ≡ 40 ∷ within → MatchOption r ((front : List ℕ) → within ≢ front ++ 41 ∷ []) (λ x. within ≡ x.now ++ 41 ∷ [])
    → MatchOption r ((inside : List ℕ) → ¬ InBrackets word key inside) (λ x. InBrackets word key x.now)
last_bracket word key behind within None e f none = λ inside is.
    none inside (append_cancel_left (40 ∷ []) within (inside ++ 41 ∷ []) (sym f ∙ append_cancel_left word behind (40 ∷ (inside ++ 41 ∷ [])) (sym e ∙ is)))
last_bracket word key behind within (Some x) e f is = e ∙ ap (λ l. word ++ l) (f ∙ ap (λ l. 40 ∷ l) is)

pub same_inside : (word key a b : List ℕ) → InBrackets word key a → InBrackets word key b → a ≡ b
same_inside word key a b e f =
    append_cancel_right a b (41 ∷ []) (append_cancel_left (40 ∷ []) (a ++ 41 ∷ []) (b ++ 41 ∷ []) (append_cancel_left word (40 ∷ (a ++ 41 ∷ [])) (40 ∷ (b ++ 41 ∷ [])) (sym e ∙ f)))

pub binds_so : (word key inside : List ℕ) (names : List (List ℕ)) → InBrackets word key inside → between_commas names ≡ inside → (list_all is_name names && are_distinct names) ≡ true → IsBinder word key names
binds_so word key inside names e cut good =
    let (named, distinct) = both (list_all is_name names) (are_distinct names) good in
    record { spelled = e ∙ ap (λ l. word ++ 40 ∷ (l ++ 41 ∷ [])) (sym cut); named = named; distinct = distinct }

pub binds_nothing : (word key inside : List ℕ) (found : List (List ℕ)) → InBrackets word key inside
    → ((names : List (List ℕ)) → list_all is_name names ≡ true → are_distinct names ≡ true → between_commas names ≡ inside → names ≡ found)
    → (list_all is_name found && are_distinct found) ≡ false → (names : List (List ℕ)) → ¬ IsBinder word key names
binds_nothing word key inside found e only bad names b =
    let same : names ≡ found = only names b.named b.distinct (same_inside word key (between_commas names) inside b.spelled e) in
    let good : (list_all is_name names && are_distinct names) ≡ true = rw b.named b.distinct in
    false≢true (sym bad ∙ ap (λ (l : List (List ℕ)). list_all is_name l && are_distinct l) (sym same) ∙ good)
