-- The texts of scopes are printable, and how their lists grow.
use Rattle.std.proofs.Common.{◌≡◌, ℕ, ◌+◌, ◌%◌, ◌^◌, ◌<◌, ◌≤◌, true, inl, inr, List, [], ◌∷◌, ◌++◌, length, take, get_or, map, refl, sym, ap, ◌∙◌, All, arith, append_assoc, leb, take_all, rules}
use Rattle.std.specs.List.{list_all}
use Rattle.std.specs.Char.{IsAsciiAlphanumeric}
use Rattle.std.proofs.lemmas.Bool.{and_parts, leb-true}
use Rattle.std.proofs.lemmas.List.{map-append, take_more}
use Rattle.std.specs.Fmt.{decimal}
use Rattle.std.proofs.lemmas.Fmt.{decimal_by_steps}
use Rattle.std.proofs.lemmas.List.Elements.{All-nil, All-cons, All-append, All-contains, All-weaker}
use Rattle.farm_text.specs.Slug.{IsUuid4, slug_text, slug_pattern, Matches, IsSlug}
use Rattle.farm_text.proofs.SlugLemmas.{slug_of_uuid}
use Rattle.scope_sets.specs.Scopes.{IsPrintable}
use Rattle.scope_sets.specs.Expressions.{Expression, one, view}
use Rattle.scope_sets.specs.declared.expressions.Expr.{Expr, One, the_lemmas}
use Rattle.call_rules.specs.HookNames.{IsHookByte, IsHookGroupId, IsHookId}
use Rattle.call_rules.specs.Texts.{is_printable, are_printable}
use Rattle.task_types.specs.Forms.{IsIdentifierByte, IsProjectByte, IsIdentifier, IsProject}

-- ---- printable texts

alphanumeric_printable : (b : ℕ) → IsAsciiAlphanumeric b → IsPrintable b
alphanumeric_printable b (inl (inl digit)) = (omega (arith, digit.0), omega (arith, digit.1))
alphanumeric_printable b (inl (inr upper)) = (omega (arith, upper.0), omega (arith, upper.1))
alphanumeric_printable b (inr lower) = (omega (arith, lower.0), omega (arith, lower.1))

identifier_byte : (b : ℕ) → IsIdentifierByte b → IsPrintable b
identifier_byte b (inl h) = alphanumeric_printable b h
identifier_byte b (inr (inl e)) = (omega (arith, e), omega (arith, e))
identifier_byte b (inr (inr e)) = (omega (arith, e), omega (arith, e))

project_byte : (b : ℕ) → IsProjectByte b → IsPrintable b
project_byte b (inl h) = alphanumeric_printable b h
project_byte b (inr (inl e)) = (omega (arith, e), omega (arith, e))
project_byte b (inr (inr (inl e))) = (omega (arith, e), omega (arith, e))
project_byte b (inr (inr (inr (inl e)))) = (omega (arith, e), omega (arith, e))
project_byte b (inr (inr (inr (inr e)))) = (omega (arith, e), omega (arith, e))

pub identifier_printable : (t : List ℕ) → IsIdentifier t → All IsPrintable t
identifier_printable t form = All-weaker IsIdentifierByte IsPrintable identifier_byte t form.bytes

pub project_printable : (t : List ℕ) → IsProject t → All IsPrintable t
project_printable t form = All-weaker IsProjectByte IsPrintable project_byte t form.bytes

hook_byte : (b : ℕ) → IsHookByte b → IsPrintable b
hook_byte b (inl h) = identifier_byte b h
hook_byte b (inr e) = (omega (arith, e), omega (arith, e))

pub group_printable : (t : List ℕ) → IsHookGroupId t → All IsPrintable t
group_printable t form = All-weaker IsIdentifierByte IsPrintable identifier_byte t form.bytes

pub hook_printable : (t : List ℕ) → IsHookId t → All IsPrintable t
hook_printable t form = All-weaker IsHookByte IsPrintable hook_byte t form.bytes

pub printable : (bs : List ℕ) → are_printable bs ≡ true → All IsPrintable bs
printable [] all = All-nil IsPrintable
printable (b ∷ bs) all =
    let parts = and_parts (is_printable b) (list_all is_printable bs) all in
    let bounds = and_parts (leb 32 b) (leb b 126) parts.0 in
    All-cons IsPrintable b bs (leb-true 32 b bounds.0, leb-true b 126 bounds.1) (printable bs parts.1)

matching_printable : (classes : List (List ℕ)) (text : List ℕ) → list_all (list_all is_printable) classes ≡ true → Matches classes text → All IsPrintable text
matching_printable [] [] all matches = All-nil IsPrintable
matching_printable [] (c ∷ text) all matches = absurd matches
matching_printable (class ∷ classes) [] all matches = absurd matches
matching_printable (class ∷ classes) (c ∷ text) all matches =
    let parts = and_parts (list_all is_printable class) (list_all (list_all is_printable) classes) all in
    All-cons IsPrintable c text (All-contains IsPrintable class c (printable class parts.0) matches.0) (matching_printable classes text parts.1 matches.1)

pub slug_printable : (uuid : List ℕ) → IsUuid4 uuid → All IsPrintable (slug_text uuid)
unfolding IsSlug
slug_printable uuid is = matching_printable slug_pattern (slug_text uuid) refl (slug_of_uuid uuid is)

-- two printable texts with a slash between them
pub joined_printable : (a b : List ℕ) → All IsPrintable a → All IsPrintable b → All IsPrintable (a ++ 47 ∷ b)
joined_printable a b front rest = All-append IsPrintable a (47 ∷ b) front (All-cons IsPrintable 47 b (omega arith, omega arith) rest)

-- the text that three pieces make
pub three_pieces : (a b s0 s1 s2 : List ℕ) → s0 ≡ a → s1 ≡ s0 ++ 47 ∷ [] → s2 ≡ s1 ++ b → s2 ≡ a ++ 47 ∷ b
three_pieces a b s0 s1 s2 first second third = third ∙ ap (λ t. t ++ b) (second ∙ ap (λ t. t ++ 47 ∷ []) first) ∙ append_assoc a (47 ∷ []) b

-- a number is printable
pub decimal_printable : (n : ℕ) → n < 2 ^ 64 → All IsPrintable (decimal n)
decimal_printable n small =
    decimal_by_steps (λ (m : ℕ) (ds : List ℕ). All IsPrintable ds)
    (λ m lt. All-cons IsPrintable (48 + m) [] (omega arith, omega arith) (All-nil IsPrintable))
    (λ m ds ge front. All-append IsPrintable ds ((48 + m % 10) ∷ []) front (All-cons IsPrintable (48 + m % 10) [] (omega arith, omega arith) (All-nil IsPrintable)))
    n small

-- two members
pub two_members : (a b : Expr) (es0 es1 es2 : List Expr) (x y : Expression) → es0 ≡ [] → es1 ≡ es0 ++ a ∷ [] → es2 ≡ es1 ++ b ∷ [] → view a ≡ x → view b ≡ y → map view es2 ≡ x ∷ y ∷ []
two_members a b es0 es1 es2 x y empty first second left right =
    ap (map view) (second ∙ ap (λ es. es ++ b ∷ []) (first ∙ ap (λ es. es ++ a ∷ []) empty)) ∙ ap (λ e. e ∷ view b ∷ []) left ∙ ap (λ e. x ∷ e ∷ []) right

-- ---- members that were added one by one

pub view-One : (s : List ℕ) → view (One s) ≡ one s
view-One s = search (rules, the_lemmas)

pub grown : {A : Type 0} (f : A → Expression) (xs : List A) (i : ℕ) (before : List Expression) (old new : List Expr) (e : Expr) (d : A) → i < length xs
    → map view old ≡ before ++ map f (take i xs) → new ≡ old ++ e ∷ [] → view e ≡ f (get_or xs i d) → map view new ≡ before ++ map f (take (i + 1) xs)
grown f xs i before old new e d within so_far pushed seen =
    ap (map view) pushed ∙ map-append view old (e ∷ []) ∙ ap (λ es. es ++ view e ∷ []) so_far ∙ ap (λ x. (before ++ map f (take i xs)) ++ x ∷ []) seen
    ∙ append_assoc before (map f (take i xs)) (f (get_or xs i d) ∷ [])
    ∙ sym (ap (λ es. before ++ es) (ap (map f) (take_more xs i d within) ∙ map-append f (take i xs) (get_or xs i d ∷ [])))

pub all_grown : {A : Type 0} (f : A → Expression) (xs : List A) (i : ℕ) (before : List Expression) (items : List Expr) → length xs ≤ i
    → map view items ≡ before ++ map f (take i xs) → map view items ≡ before ++ map f xs
all_grown f xs i before items past so_far = so_far ∙ ap (λ ys. before ++ map f ys) (take_all i xs past)
