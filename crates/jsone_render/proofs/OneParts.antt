-- Expressions and texts of a template, and the form of a map, are one.
use Rattle.std.proofs.Common.{◌≡◌, ℕ, ◌+◌, ◌≤◌, Bool, true, false, List, [], ◌∷◌, ◌++◌, length, take, drop, slice_index, if◌then◌else◌, Option, Some, None, Result, Ok, Err, inl, inr, refl, sym, ap, subst, ◌∙◌, arith, length-append}
use Rattle.std.proofs.lemmas.Bool.{cases_lt, false≢true}
use Rattle.std.proofs.lemmas.List.{append_cancel_left, drop-append-le, drop_all, take-append-le, take_all}
use Rattle.std.specs.Bool.{MatchBool}
use Rattle.std.specs.Str.Pattern.{LacksTextAt}
use Rattle.farm_text.specs.Document.{Document, text, Members}
use Rattle.jsone_values.specs.declared.faults.Fault.{Fault}
use Rattle.jsone_values.specs.declared.faults.Fault.TheVariants.{BadOperator}
use Rattle.jsone_values.specs.Splits.{IsFirstCut}
use Rattle.jsone_expr.specs.Texts.{IsTooDeep}
use Rattle.jsone_expr.specs.Trees.{depth}
use Rattle.jsone_expr.proofs.TextLemmas.{one_text_tree}
use Rattle.jsone_eval.specs.Values.{IsOutcome}
use Rattle.jsone_eval.proofs.OneValue.{one_outcome}
use Rattle.jsone_render.specs.declared.operators.Operator.{Operator}
use Rattle.jsone_render.specs.Expressions.{told, HasTree, ByTree, Evaluated, OfText}
use Rattle.jsone_render.specs.Forms.{Form, binding, faulty, binding_word, has_words, operator_in, others_of, ByOthers, ByOperator, IsForm}
use Rattle.jsone_render.specs.Maps.{keys_of}
use Rattle.jsone_render.specs.Outcomes.{Outcome, given, faulted, too_much, pay, Then, After}
use Rattle.jsone_render.specs.Texts.{Part, last, escaped, valued, unended, opening, ends_with_dollar, IsShortest, NoneEnds, AreParts, PartsRender, Valued, as_outcome, shown, Interpolated, Written}
use Rattle.jsone_render.proofs.FormLemmas.{one_binder}

-- two outcomes of this kind are one
abbrev pub One : {A : Type 0} → (Outcome A → Type 0) → Type 0
One {A} Is = (o p : Outcome A) → Is o → Is p → o ≡ p

pub two_then : {A B : Type 0} (F G : A → ℕ → Outcome B → Type 0) (q : Outcome A) (o p : Outcome B) → ((a : A) (n : ℕ) → F a n o → G a n p → o ≡ p) → Then F q o → Then G q p → o ≡ p
two_then F G (given a n) o p follows h k = follows a n h k
two_then F G (faulted f path) o p follows h k = h ∙ sym k
two_then F G too_much o p follows h k = h ∙ sym k

pub two_after : {A B : Type 0} (Is : Outcome A → Type 0) (F G : A → ℕ → Outcome B → Type 0) → One Is → (o p : Outcome B) → ((a : A) (n : ℕ) → F a n o → G a n p → o ≡ p) → After Is F o → After Is G p → o ≡ p
two_after Is F G one o p follows (q, is, h) (r, also, k) = two_then F G q o p follows h (subst (λ x. Then G x p) (one r q also is) k)

pub one_after : {A B : Type 0} (Is : Outcome A → Type 0) (F : A → ℕ → Outcome B → Type 0) → One Is → ((a : A) (n : ℕ) → One (F a n)) → One (After Is F)
one_after Is F one follows o p h k = two_after Is F F one o p (λ a n i j. follows a n o p i j) h k

pub one_is : {A : Type 0} (x : Outcome A) → One (λ o. o ≡ x)
one_is x o p h k = h ∙ sym k

pub one_branch : {A : Type 0} (b : Bool) (P Q : Outcome A → Type 0) → One P → One Q → One (λ o. MatchBool b (P o) (Q o))
one_branch true P Q one other o p h k = one o p h k
one_branch false P Q one other o p h k = other o p h k

pub one_of_text : {A : Type 0} (x : Option Document) (Is : List ℕ → Outcome A → Type 0) → ((source : List ℕ) → One (Is source)) → One (OfText x Is)
one_of_text (Some (text source)) Is one o p h k = one source o p h k
one_of_text (Some _) Is one o p h k = h ∙ sym k
one_of_text None Is one o p h k = h ∙ sym k

too_deep : {A : Type 0} (source : List ℕ) (scopes : List Document) (n : ℕ) (o : Outcome Document) → ByTree source scopes n o → IsTooDeep source → A
too_deep source scopes n o a d =
    let same = ap depth (one_text_tree source a.tree d.tree a.of_text d.of_text) in
    absurd (omega (arith, same, a.shallow, d.deep))

pub one_evaluated : (source : List ℕ) (scopes : List Document) (n : ℕ) → One (Evaluated source scopes n)
one_evaluated source scopes n o p (inl a) (inl b) =
    let same = one_text_tree source b.tree a.tree b.of_text a.of_text in
    let value = one_outcome (record { source = source; scopes = scopes }) a.tree n a.value b.value a.evaluated
    (subst (λ t. IsOutcome (record { source = source; scopes = scopes }) t n b.value) same b.evaluated) in
    a.is ∙ ap told value ∙ sym b.is
one_evaluated source scopes n o p (inl a) (inr (inl d)) = too_deep source scopes n o a d.0
one_evaluated source scopes n o p (inl a) (inr (inr d)) = absurd (d.0 (a.tree, a.of_text))
one_evaluated source scopes n o p (inr (inl d)) (inl a) = too_deep source scopes n p a d.0
one_evaluated source scopes n o p (inr (inl d)) (inr (inl e)) = d.1 ∙ sym e.1
one_evaluated source scopes n o p (inr (inl d)) (inr (inr e)) = absurd (e.0 (d.0.tree, d.0.of_text))
one_evaluated source scopes n o p (inr (inr d)) (inl a) = absurd (d.0 (a.tree, a.of_text))
one_evaluated source scopes n o p (inr (inr d)) (inr (inl e)) = absurd (d.0 (e.0.tree, e.0.of_text))
one_evaluated source scopes n o p (inr (inr d)) (inr (inr e)) = d.1 ∙ sym e.1

pub one_valued : (source : List ℕ) (scopes : List Document) (n : ℕ) → One (Valued source scopes n)
one_valued source scopes n o p h k = one_after (Evaluated source scopes n) (λ d m q. q ≡ as_outcome m (shown d)) (one_evaluated source scopes n) (λ d m. one_is (as_outcome m (shown d))) o p h k

-- lists that begin alike
front_of : (xs ys : List ℕ) → take (length xs) (xs ++ ys) ≡ xs
front_of xs ys = take-append-le (length xs) xs ys (omega arith) ∙ take_all (length xs) xs (omega arith)

behind_of : (xs ys : List ℕ) → drop (length xs) (xs ++ ys) ≡ ys
behind_of xs ys = drop-append-le (length xs) xs ys (omega arith) ∙ ap (λ l. l ++ ys) (drop_all (length xs) xs (omega arith))

at_cut : (sep bs front rest : List ℕ) → IsFirstCut sep bs front rest → drop (length front) bs ≡ sep ++ rest
at_cut sep bs front rest cut = ap (drop (length front)) cut.spelled ∙ behind_of front (sep ++ rest)

pub same_cut : (sep bs p q x y : List ℕ) → IsFirstCut sep bs p x → IsFirstCut sep bs q y → (p ≡ q) × (x ≡ y)
same_cut sep bs p q x y h k = elim (cases_lt (length p) (length q)) [
  | inl less ↦ absurd (k.first (length p) less x (at_cut sep bs p x h))
  | inr more ↦ elim (cases_lt (length q) (length p)) [
    | inl less ↦ absurd (h.first (length q) less y (at_cut sep bs q y k))
    | inr also ↦
        let lengths : length p ≡ length q = omega arith in
        let pieces : p ≡ q = sym (front_of p (sep ++ x)) ∙ ap (take (length p)) (sym h.spelled ∙ k.spelled) ∙ ap (λ n. take n (q ++ (sep ++ y))) lengths ∙ front_of q (sep ++ y) in
        let ends : sep ++ x ≡ sep ++ y = sym (at_cut sep bs p x h) ∙ ap (λ n. drop n bs) lengths ∙ at_cut sep bs q y k in
        (pieces, append_cancel_left sep x y ends)
  ]
]

lacks_cut : {A : Type 0} (bs front rest : List ℕ) → ((i : ℕ) → i ≤ length bs → LacksTextAt opening bs i) → IsFirstCut opening bs front rest → A
lacks_cut bs front rest lacks cut =
    let size = ap length cut.spelled in
    absurd (lacks (length front) (omega (arith, size, length-append front (opening ++ rest))) rest (at_cut opening bs front rest cut))

dollar_differs : {A : Type 0} (p q : List ℕ) → p ≡ q → ends_with_dollar p ≡ true → ends_with_dollar q ≡ false → A
dollar_differs p q e yes_so not_so = absurd (false≢true (sym not_so ∙ ap ends_with_dollar (sym e) ∙ yes_so))

brace_at : (xs ys : List ℕ) → slice_index (xs ++ 125 ∷ ys) (length xs) ≡ 125
brace_at [] ys = refl
brace_at (x ∷ xs) ys = brace_at xs ys

ends_here : {A : Type 0} (behind source rest : List ℕ) → behind ≡ source ++ 125 ∷ rest → HasTree source → ¬ HasTree (take (length source) behind) → A
ends_here behind source rest e has none = absurd (none (subst HasTree (sym (ap (take (length source)) e ∙ front_of source (125 ∷ rest))) has))

brace_of : (behind source rest : List ℕ) → behind ≡ source ++ 125 ∷ rest → slice_index behind (length source) ≡ 125
brace_of behind source rest e = ap (λ (l : List ℕ). slice_index l (length source)) e ∙ brace_at source rest

same_source : (behind s t x y : List ℕ) → behind ≡ s ++ 125 ∷ x → behind ≡ t ++ 125 ∷ y → IsShortest behind s → IsShortest behind t → (s ≡ t) × (x ≡ y)
same_source behind s t x y d e h k = elim (cases_lt (length s) (length t)) [
  | inl less ↦ ends_here behind s x d h.has_tree (k.first (length s) less (brace_of behind s x d))
  | inr more ↦ elim (cases_lt (length t) (length s)) [
    | inl less ↦ ends_here behind t y e k.has_tree (h.first (length t) less (brace_of behind t y e))
    | inr also ↦
        let lengths : length s ≡ length t = omega arith in
        let fronts : s ≡ t = sym (front_of s (125 ∷ x)) ∙ ap (take (length s)) (sym d ∙ e) ∙ ap (λ n. take n (t ++ 125 ∷ y)) lengths ∙ front_of t (125 ∷ y) in
        let rests : 125 ∷ x ≡ 125 ∷ y = sym (behind_of s (125 ∷ x)) ∙ ap (drop (length s)) (sym d ∙ e) ∙ ap (λ n. drop n (t ++ 125 ∷ y)) lengths ∙ behind_of t (125 ∷ y) in
        (fronts, append_cancel_left (125 ∷ []) x y rests)
  ]
]

none_ends : {A : Type 0} (rest source more : List ℕ) → rest ≡ source ++ 125 ∷ more → HasTree source → NoneEnds rest → A
none_ends rest source more e has none =
    let size = ap length e in
    ends_here rest source more e has (none (length source) (omega (arith, size, length-append source (125 ∷ more))) (brace_of rest source more e))

one_parts : (bs : List ℕ) (ps qs : List Part) (done : List ℕ) (scopes : List Document) (n : ℕ) (o p : Outcome (List ℕ)) → AreParts bs ps → AreParts bs qs → PartsRender done ps scopes n o → PartsRender done qs scopes n p → o ≡ p
one_parts bs [] qs done scopes n o p a b h k = absurd h
one_parts bs (last f ∷ ps) [] done scopes n o p a b h k = absurd k
one_parts bs (escaped f ∷ ps) [] done scopes n o p a b h k = absurd k
one_parts bs (valued f s ∷ ps) [] done scopes n o p a b h k = absurd k
one_parts bs (unended f ∷ ps) [] done scopes n o p a b h k = absurd k
one_parts bs (last f ∷ ps) (last g ∷ qs) done scopes n o p a b h k = h ∙ ap (λ x. given (done ++ x) n) (a.0 ∙ sym b.0) ∙ sym k
one_parts bs (last f ∷ ps) (escaped g ∷ qs) done scopes n o p a b h k = lacks_cut bs g b.0 a.1 b.1
one_parts bs (last f ∷ ps) (valued g t ∷ qs) done scopes n o p a b h k = lacks_cut bs g (t ++ 125 ∷ b.0) a.1 b.1
one_parts bs (last f ∷ ps) (unended g ∷ qs) done scopes n o p a b h k = lacks_cut bs g b.0 a.1 b.1
one_parts bs (escaped f ∷ ps) (last g ∷ qs) done scopes n o p a b h k = lacks_cut bs f a.0 b.1 a.1
one_parts bs (escaped f ∷ ps) (escaped g ∷ qs) done scopes n o p a b h k =
    let c = same_cut opening bs f g a.0 b.0 a.1 b.1 in
    one_parts a.0 ps qs ((done ++ f) ++ 123 ∷ []) scopes n o p a.3 (subst (λ l. AreParts l qs) (sym c.1) b.3) h (subst (λ x. PartsRender ((done ++ x) ++ 123 ∷ []) qs scopes n p) (sym c.0) k)
one_parts bs (escaped f ∷ ps) (valued g t ∷ qs) done scopes n o p a b h k = dollar_differs f g (same_cut opening bs f g a.0 (t ++ 125 ∷ b.0) a.1 b.1).0 a.2 b.2
one_parts bs (escaped f ∷ ps) (unended g ∷ qs) done scopes n o p a b h k = dollar_differs f g (same_cut opening bs f g a.0 b.0 a.1 b.1).0 a.2 b.2
one_parts bs (valued f s ∷ ps) (last g ∷ qs) done scopes n o p a b h k = lacks_cut bs f (s ++ 125 ∷ a.0) b.1 a.1
one_parts bs (valued f s ∷ ps) (escaped g ∷ qs) done scopes n o p a b h k = dollar_differs g f (same_cut opening bs g f b.0 (s ++ 125 ∷ a.0) b.1 a.1).0 b.2 a.2
one_parts bs (valued f s ∷ ps) (valued g t ∷ qs) done scopes n o p a b h k =
    let c = same_cut opening bs f g (s ++ 125 ∷ a.0) (t ++ 125 ∷ b.0) a.1 b.1 in
    let e = same_source (s ++ 125 ∷ a.0) s t a.0 b.0 refl c.1 a.3 (subst (λ l. IsShortest l t) (sym c.1) b.3) in
    two_after (Valued s scopes n) (λ cs m. PartsRender ((done ++ f) ++ cs) ps scopes m) (λ cs m. PartsRender ((done ++ g) ++ cs) qs scopes m) (one_valued s scopes n) o p
    (λ cs m i j. one_parts a.0 ps qs ((done ++ f) ++ cs) scopes m o p a.4 (subst (λ l. AreParts l qs) (sym e.1) b.4) i (subst (λ x. PartsRender ((done ++ x) ++ cs) qs scopes m p) (sym c.0) j))
    h (subst (λ x. After (Valued x scopes n) (λ cs m. PartsRender ((done ++ g) ++ cs) qs scopes m) p) (sym e.0) k)
one_parts bs (valued f s ∷ ps) (unended g ∷ qs) done scopes n o p a b h k =
    none_ends b.0 s a.0 (sym (same_cut opening bs f g (s ++ 125 ∷ a.0) b.0 a.1 b.1).1) a.3.has_tree b.3
one_parts bs (unended f ∷ ps) (last g ∷ qs) done scopes n o p a b h k = lacks_cut bs f a.0 b.1 a.1
one_parts bs (unended f ∷ ps) (escaped g ∷ qs) done scopes n o p a b h k = dollar_differs g f (same_cut opening bs g f b.0 a.0 b.1 a.1).0 b.2 a.2
one_parts bs (unended f ∷ ps) (valued g t ∷ qs) done scopes n o p a b h k =
    none_ends a.0 t b.0 (sym (same_cut opening bs g f (t ++ 125 ∷ b.0) a.0 b.1 a.1).1) b.3.has_tree a.3
one_parts bs (unended f ∷ ps) (unended g ∷ qs) done scopes n o p a b h k = h ∙ sym k

pub one_written : (bs : List ℕ) (scopes : List Document) (n : ℕ) → One (Written bs scopes n)
one_written bs scopes n o p h k =
    one_after (Interpolated bs scopes n) (λ cs m q. q ≡ pay m (1 + length cs) cs) (λ q r (ps, a, i) (qs, b, j). one_parts bs ps qs [] scopes n q r a b i j) (λ cs m. one_is (pay m (1 + length cs) cs)) o p h k

one_by_others : (ks : List (List ℕ)) (operator : Operator) (ms : Members) (f g : Form) → ByOthers ks operator ms f → ByOthers ks operator ms g → f ≡ g
one_by_others [] operator ms f g h k = h ∙ sym k
one_by_others (key ∷ []) operator ms f g (inl (names, b, e)) (inl (others, d, i)) =
    e ∙ ap (λ (l : List (List ℕ)). if has_words operator ms then binding operator key l else faulty BadOperator) (one_binder (binding_word operator) key names others b.binder d.binder) ∙ sym i
one_by_others (key ∷ []) operator ms f g (inl (names, b, e)) (inr (none, i)) = absurd (none names b)
one_by_others (key ∷ []) operator ms f g (inr (none, e)) (inl (others, d, i)) = absurd (none others d)
one_by_others (key ∷ []) operator ms f g (inr (none, e)) (inr (also, i)) = e ∙ sym i
one_by_others (key ∷ l ∷ ks) operator ms f g h k = h ∙ sym k

one_by_operator : (r : Result (Option Operator) Fault) (ms : Members) (f g : Form) → ByOperator r ms f → ByOperator r ms g → f ≡ g
one_by_operator (Ok None) ms f g h k = h ∙ sym k
one_by_operator (Ok (Some operator)) ms f g h k = one_by_others (others_of operator (keys_of ms)) operator ms f g h k
one_by_operator (Err e) ms f g h k = h ∙ sym k

-- a map has one form
pub one_form : (ms : Members) (f g : Form) → IsForm ms f → IsForm ms g → f ≡ g
one_form ms f g h k = one_by_operator (operator_in (keys_of ms)) ms f g h k
