-- The form of a map, step by step.
use Rattle.std.proofs.Common.{◌≡◌, ℕ, suc, true, false, List, [], ◌∷◌, ◌++◌, get_or, inl, refl, sym, ap, ap₂, subst, ◌∙◌, arith, Bor}
use Rattle.std.proofs.lemmas.Bool.{false≢true}
use Rattle.std.proofs.lemmas.List.{append_cancel_left}
use Rattle.std.specs.List.{list_all}
use Rattle.farm_text.specs.Document.{Members}
use Rattle.jsone_values.specs.declared.faults.Fault.TheVariants.{BadOperator}
use Rattle.jsone_render.specs.declared.keys.Others.{Others}
use Rattle.jsone_render.specs.declared.keys.Others.TheVariants.{None as no_others, One as one_other, More as more_others}
use Rattle.jsone_render.specs.declared.operators.Operator.{Operator}
use Rattle.jsone_render.specs.Answers.{AreOthers}
use Rattle.jsone_render.specs.Forms.{Form, faulty, binding, has_words, binding_word, takes_names, Binds, ByOthers}
use Rattle.jsone_render.specs.Names.{is_name, between_commas, are_distinct, IsBinder}
use Rattle.jsone_render.proofs.BinderLemmas.{Lacks, name_lacks, has_comma, both, same_inside}

first_byte : (x y : ℕ) (xs ys : List ℕ) → x ∷ xs ≡ y ∷ ys → x ≡ y
first_byte x y xs ys e = ap (λ (l : List ℕ). get_or l 0 0) e

-- what stands before the first comma
before_comma : (x y rest more : List ℕ) → Lacks x → Lacks y → x ++ 44 ∷ rest ≡ y ++ 44 ∷ more → (x ≡ y) × (rest ≡ more)
before_comma [] [] rest more lx ly e = (refl, append_cancel_left (44 ∷ []) rest more e)
before_comma [] (y ∷ ys) rest more lx ly e = absurd (ly 0 (omega arith) (sym (first_byte 44 y rest (ys ++ 44 ∷ more) e)))
before_comma (x ∷ xs) [] rest more lx ly e = absurd (lx 0 (omega arith) (first_byte x 44 (xs ++ 44 ∷ rest) more e))
before_comma (x ∷ xs) (y ∷ ys) rest more lx ly e =
    let head = first_byte x y (xs ++ 44 ∷ rest) (ys ++ 44 ∷ more) e in
    let tail : xs ++ 44 ∷ rest ≡ ys ++ 44 ∷ more = append_cancel_left (x ∷ []) (xs ++ 44 ∷ rest) (ys ++ 44 ∷ more) (e ∙ ap (λ b. b ∷ (ys ++ 44 ∷ more)) (sym head)) in
    let (same, left) = before_comma xs ys rest more (λ i less. lx (suc i) (omega arith)) (λ i less. ly (suc i) (omega arith)) tail in
    (ap₂ (λ (b : ℕ) (bs : List ℕ). b ∷ bs) head same, left)

abbrev Named : List (List ℕ) → Type 0
Named names = (list_all is_name names ≡ true) × (are_distinct names ≡ true)

first_lacks : (a : List ℕ) (more : List (List ℕ)) → list_all is_name (a ∷ more) ≡ true → Lacks a
first_lacks a more h = name_lacks a (both (is_name a) (list_all is_name more) h).0

rest_named : (a : List ℕ) (more : List (List ℕ)) → list_all is_name (a ∷ more) ≡ true → list_all is_name more ≡ true
rest_named a more h = (both (is_name a) (list_all is_name more) h).1

-- names that commas part are one list
one_names : (xs ys : List (List ℕ)) → Named xs → Named ys → between_commas xs ≡ between_commas ys → xs ≡ ys
one_names [] ys (n, d) m e = absurd (false≢true d)
one_names (a ∷ b ∷ d ∷ f ∷ more) ys (n, k) m e = absurd (false≢true k)
one_names (a ∷ []) [] n (m, k) e = absurd (false≢true k)
one_names (a ∷ b ∷ []) [] n (m, k) e = absurd (false≢true k)
one_names (a ∷ b ∷ d ∷ []) [] n (m, k) e = absurd (false≢true k)
one_names (a ∷ []) (p ∷ q ∷ r ∷ s ∷ more) n (m, k) e = absurd (false≢true k)
one_names (a ∷ b ∷ []) (p ∷ q ∷ r ∷ s ∷ more) n (m, k) e = absurd (false≢true k)
one_names (a ∷ b ∷ d ∷ []) (p ∷ q ∷ r ∷ s ∷ more) n (m, k) e = absurd (false≢true k)
one_names (a ∷ []) (p ∷ []) n m e = ap (λ x. x ∷ []) e
one_names (a ∷ []) (p ∷ q ∷ []) (n, k) m e = has_comma a p q (first_lacks a [] n) e
one_names (a ∷ []) (p ∷ q ∷ r ∷ []) (n, k) m e = has_comma a p (q ++ 44 ∷ r) (first_lacks a [] n) e
one_names (a ∷ b ∷ []) (p ∷ []) n (m, k) e = has_comma p a b (first_lacks p [] m) (sym e)
one_names (a ∷ b ∷ []) (p ∷ q ∷ []) (n, k) (m, l) e =
    let (one, two) = before_comma a p b q (first_lacks a (b ∷ []) n) (first_lacks p (q ∷ []) m) e in
    ap₂ (λ (x y : List ℕ). x ∷ y ∷ []) one two
one_names (a ∷ b ∷ []) (p ∷ q ∷ r ∷ []) (n, k) (m, l) e =
    let (one, two) = before_comma a p b (q ++ 44 ∷ r) (first_lacks a (b ∷ []) n) (first_lacks p (q ∷ r ∷ []) m) e in
    has_comma b q r (first_lacks b [] (rest_named a (b ∷ []) n)) two
one_names (a ∷ b ∷ d ∷ []) (p ∷ []) n (m, k) e = has_comma p a (b ++ 44 ∷ d) (first_lacks p [] m) (sym e)
one_names (a ∷ b ∷ d ∷ []) (p ∷ q ∷ []) (n, k) (m, l) e =
    let (one, two) = before_comma a p (b ++ 44 ∷ d) q (first_lacks a (b ∷ d ∷ []) n) (first_lacks p (q ∷ []) m) e in
    has_comma q b d (first_lacks q [] (rest_named p (q ∷ []) m)) (sym two)
one_names (a ∷ b ∷ d ∷ []) (p ∷ q ∷ r ∷ []) (n, k) (m, l) e =
    let (one, two) = before_comma a p (b ++ 44 ∷ d) (q ++ 44 ∷ r) (first_lacks a (b ∷ d ∷ []) n) (first_lacks p (q ∷ r ∷ []) m) e in
    let (three, four) = before_comma b q d r (first_lacks b (d ∷ []) (rest_named a (b ∷ d ∷ []) n)) (first_lacks q (r ∷ []) (rest_named p (q ∷ r ∷ []) m)) two in
    ap₂ (λ (x : List ℕ) (ys : List (List ℕ)). x ∷ ys) one (ap₂ (λ (x y : List ℕ). x ∷ y ∷ []) three four)

-- a key binds one list of names
pub one_binder : (word key : List ℕ) (xs ys : List (List ℕ)) → IsBinder word key xs → IsBinder word key ys → xs ≡ ys
one_binder word key xs ys b d = one_names xs ys (b.named, b.distinct) (d.named, d.distinct) (same_inside word key (between_commas xs) (between_commas ys) b.spelled d.spelled)

pub not_bound : (operator : Operator) (word key : List ℕ) → word ≡ binding_word operator → ((names : List (List ℕ)) → ¬ IsBinder word key names) → (names : List (List ℕ)) → ¬ Binds operator key names
not_bound operator word key e none names b = none names (subst (λ w. IsBinder w key names) (sym e) b.binder)

pub bound_so : (operator : Operator) (word key : List ℕ) (names : List (List ℕ)) → word ≡ binding_word operator → IsBinder word key names → takes_names operator names ≡ true → Binds operator key names
bound_so operator word key names e b t = record { binder = subst (λ w. IsBinder w key names) e b; taken = t }

pub not_taken : (operator : Operator) (word key : List ℕ) (found : List (List ℕ)) → word ≡ binding_word operator → IsBinder word key found → takes_names operator found ≡ false → (names : List (List ℕ)) → ¬ Binds operator key names
not_taken operator word key found e b t names d =
    let same : names ≡ found = one_binder (binding_word operator) key names found d.binder (subst (λ w. IsBinder w key found) e b) in
    false≢true (sym t ∙ ap (takes_names operator) (sym same) ∙ d.taken)

pub with_words : (operator : Operator) (key : List ℕ) (names : List (List ℕ)) (ms : Members) → Binds operator key names → has_words operator ms ≡ true → ByOthers (key ∷ []) operator ms (binding operator key names)
with_words operator key names ms b w = inl (names, b, rw w refl)

pub without_words : (operator : Operator) (key : List ℕ) (names : List (List ℕ)) (ms : Members) → Binds operator key names → has_words operator ms ≡ false → ByOthers (key ∷ []) operator ms (faulty BadOperator)
without_words operator key names ms b w = inl (names, b, rw w refl)

-- by the other keys
pub by_none : (o : Others) (operator : Operator) (ms : Members) (f : Form) → o ≡ no_others → ByOthers [] operator ms f → (ks : List (List ℕ)) → AreOthers o ks → ByOthers ks operator ms f
by_none o operator ms f e h ks are = subst (λ l. ByOthers l operator ms f) (sym (subst (λ x. AreOthers x ks) e are)) h

pub by_one : (o : Others) (k : Bor (List ℕ)) (operator : Operator) (ms : Members) (f : Form) → o ≡ one_other k → ByOthers (k.now ∷ []) operator ms f → (ks : List (List ℕ)) → AreOthers o ks → ByOthers ks operator ms f
by_one o k operator ms f e h ks are = subst (λ l. ByOthers l operator ms f) (sym (subst (λ x. AreOthers x ks) e are)) h

pub by_more : (o : Others) (operator : Operator) (ms : Members) → o ≡ more_others → (ks : List (List ℕ)) → AreOthers o ks → ByOthers ks operator ms (faulty BadOperator)
by_more o operator ms e ks are =
    let (a, b, more, is) = subst (λ x. AreOthers x ks) e are in
    subst (λ l. ByOthers l operator ms (faulty BadOperator)) (sym is) refl
