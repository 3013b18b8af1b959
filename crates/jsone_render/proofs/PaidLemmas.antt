-- What is paid for a template is no less than what its value weighs.
use Rattle.std.proofs.Common.{◌≡◌, ℕ, ◌+◌, ◌≤◌, Bool, true, false, List, [], ◌∷◌, if◌then◌else◌, Option, Some, None, Result, Ok, Err, inl, inr, sym, subst, arith}
use Rattle.std.proofs.lemmas.Bool.{cases_lt, le-leb, lt-leb}
use Rattle.std.specs.Bool.{MatchBool}
use Rattle.farm_text.specs.Document.{Document, boolean}
use Rattle.jsone_values.specs.declared.faults.Fault.{Fault}
use Rattle.jsone_values.specs.Truth.{is_true}
use Rattle.jsone_values.specs.Weights.{weight}
use Rattle.jsone_expr.specs.Trees.{Tree, number, text as text_tree, literal, name, unary, binary, group, member as member_tree, index, slice, call, items, entries, Side, absent, present, Trees, no_trees, tree, Fields, no_fields, field}
use Rattle.jsone_eval.specs.Operators.{decides}
use Rattle.jsone_eval.specs.Outcomes.{Outcome as EvalOutcome, given as eval_given, faulted as eval_faulted, too_much as eval_too_much, paid, at_node, Then as EvalThen, AtNode}
use Rattle.jsone_eval.specs.Values.{Setting, text_at, key_span, WithKey, Evaluates, SideEvaluates, EachEvaluates, FieldsEvaluate}
use Rattle.jsone_render.specs.Expressions.{told, Evaluated}
use Rattle.jsone_render.specs.Outcomes.{Outcome, given, faulted, too_much}

-- what is paid by then is at most what may be, and no less than the value weighs beyond what was paid before
abbrev Valued : ℕ → EvalOutcome → Type 0
Valued n (eval_given d m) = (n + weight d ≤ m) × (m ≤ 1000000)
Valued n (eval_faulted f) = Unit {0}
Valued n eval_too_much = Unit {0}

-- what goes on from a value keeps that
abbrev Keeps : {A : Type 0} → (A → ℕ) → ℕ → (A → ℕ → EvalOutcome → Type 0) → Type 0
Keeps {A} least n K = (a : A) (m : ℕ) (o : EvalOutcome) → n + least a ≤ m → m ≤ 1000000 → K a m o → Valued n o

abbrev nothing : {A : Type 0} → A → ℕ
nothing a = 0

pays_value : (n k : ℕ) (d : Document) (K : Document → ℕ → EvalOutcome → Type 0) → n ≤ k → Keeps weight n K → (o : EvalOutcome) → EvalThen K (paid k d) o → Valued n o
pays_value n k d K upto keeps o h = elim (cases_lt 1000000 (k + weight d)) [
  | inl over ↦ subst (Valued n) (sym (subst (λ b. EvalThen K (if b then eval_given d (k + weight d) else eval_too_much) o) (lt-leb (k + weight d) 1000000 over) h)) tt
  | inr within ↦ let most : k + weight d ≤ 1000000 = omega arith in
      keeps d (k + weight d) o (omega (arith, upto)) most (subst (λ b. EvalThen K (if b then eval_given d (k + weight d) else eval_too_much) o) (le-leb (k + weight d) 1000000 most) h)
]

at_result : (n k : ℕ) (r : Result Document Fault) (K : Document → ℕ → EvalOutcome → Type 0) → n ≤ k → Keeps weight n K → (o : EvalOutcome) → EvalThen K (at_node k r) o → Valued n o
at_result n k (Ok d) K upto keeps o h = pays_value n k d K upto keeps o h
at_result n k (Err f) K upto keeps o h = subst (Valued n) (sym h) tt

at : (n k : ℕ) (R : Result Document Fault → Type 0) (K : Document → ℕ → EvalOutcome → Type 0) → n ≤ k → Keeps weight n K → (o : EvalOutcome) → AtNode k R K o → Valued n o
at n k R K upto keeps o (r, is, h) = at_result n k r K upto keeps o h

either : (b : Bool) (A B C : Type 0) → (A → C) → (B → C) → MatchBool b A B → C
either true A B C one other h = one h
either false A B C one other h = other h

with_key : (n : ℕ) (r : Result (List ℕ) Fault) (F : List ℕ → EvalOutcome → Type 0) (o : EvalOutcome) → ((key : List ℕ) → F key o → Valued n o) → WithKey r F o → Valued n o
with_key n (Ok key) F o follows h = follows key h
with_key n (Err f) F o follows h = subst (Valued n) (sym h) tt

mutual
  value_paid : (s : Setting) (t : Tree) (n k : ℕ) (K : Document → ℕ → EvalOutcome → Type 0) → n ≤ k → Keeps weight n K → (o : EvalOutcome) → Evaluates s t k K o → Valued n o
  value_paid s (number d) n k K upto keeps o h = at n k _ K upto keeps o h
  value_paid s (text_tree t) n k K upto keeps o h = at n k _ K upto keeps o h
  value_paid s (literal l) n k K upto keeps o h = at n k _ K upto keeps o h
  value_paid s (name w) n k K upto keeps o h = at n k _ K upto keeps o h
  value_paid s (unary g a) n k K upto keeps o h = value_paid s a n k _ upto (λ d m p less most i. at n m _ K (omega (arith, less)) keeps p i) o h
  value_paid s (binary g a b) n k K upto keeps o h =
      value_paid s a n k _ upto
      (λ d m p less most i. either (decides g d) _ _ (Valued n p) (λ j. pays_value n m (boolean (is_true d)) K (omega (arith, less)) keeps p j)
      (λ j. value_paid s b n m _ (omega (arith, less)) (λ e l q more also c. at n l _ K (omega (arith, more)) keeps q c) p j) i) o h
  value_paid s (group a) n k K upto keeps o h = value_paid s a n k _ upto (λ d m p less most i. at n m _ K (omega (arith, less)) keeps p i) o h
  value_paid s (member_tree a w) n k K upto keeps o h = value_paid s a n k _ upto (λ d m p less most i. at n m _ K (omega (arith, less)) keeps p i) o h
  value_paid s (index a b) n k K upto keeps o h =
      value_paid s a n k _ upto (λ d m p less most i. value_paid s b n m _ (omega (arith, less)) (λ e l q more also c. at n l _ K (omega (arith, more)) keeps q c) p i) o h
  value_paid s (slice a from to) n k K upto keeps o h =
      value_paid s a n k _ upto
      (λ d m p less most i. side_paid s from n m _ (omega (arith, less)) most
      (λ e l q more also j. side_paid s to n l _ (omega (arith, more)) also (λ g v r above too c. at n v _ K (omega (arith, above)) keeps r c) q j) p i) o h
  value_paid s (call w ts) n k K upto keeps o h = each_paid s ts n k _ upto (λ ds m p less i. at n m _ K less keeps p i) o h
  value_paid s (items ts) n k K upto keeps o h = each_paid s ts n k _ upto (λ ds m p less i. at n m _ K less keeps p i) o h
  value_paid s (entries fs) n k K upto keeps o h = fields_paid s fs n k _ upto (λ ms m p less i. at n m _ K less keeps p i) o h

  side_paid : (s : Setting) (t : Side) (n k : ℕ) (K : Option Document → ℕ → EvalOutcome → Type 0) → n ≤ k → k ≤ 1000000 → Keeps nothing n K → (o : EvalOutcome) → SideEvaluates s t k K o → Valued n o
  side_paid s absent n k K upto most keeps o h = keeps None k o (omega (arith, upto)) most h
  side_paid s (present a) n k K upto most keeps o h = value_paid s a n k _ upto (λ d m p less also i. keeps (Some d) m p (omega (arith, less)) also i) o h

  each_paid : (s : Setting) (ts : Trees) (n k : ℕ) (K : List Document → ℕ → EvalOutcome → Type 0) → n ≤ k → ((ds : List Document) (m : ℕ) (o : EvalOutcome) → n ≤ m → K ds m o → Valued n o) → (o : EvalOutcome) → EachEvaluates s ts k K o → Valued n o
  each_paid s no_trees n k K upto keeps o h = keeps [] k o upto h
  each_paid s (tree a ts) n k K upto keeps o h =
      value_paid s a n k _ upto (λ d m p less most i. each_paid s ts n m _ (omega (arith, less)) (λ ds l q more j. keeps (d ∷ ds) l q more j) p i) o h

  fields_paid : (s : Setting) (fs : Fields) (n k : ℕ) (K : List (List ℕ × Document) → ℕ → EvalOutcome → Type 0) → n ≤ k → ((ms : List (List ℕ × Document)) (m : ℕ) (o : EvalOutcome) → n ≤ m → K ms m o → Valued n o) → (o : EvalOutcome) → FieldsEvaluate s fs k K o → Valued n o
  fields_paid s no_fields n k K upto keeps o h = keeps [] k o upto h
  fields_paid s (field f a fs) n k K upto keeps o h =
      value_paid s a n k _ upto
      (λ d m p less most i. with_key n (text_at s.source (key_span f)) _ p (λ key j. fields_paid s fs n m _ (omega (arith, less)) (λ ms l q more c. keeps ((key, d) ∷ ms) l q more c) p j) i) o h

-- the same of what is found in a template
abbrev pub Up : {A : Type 0} → (A → ℕ) → ℕ → Outcome A → Type 0
Up least n (given a m) = (n + least a ≤ m) × (m ≤ 1000000)
Up least n (faulted f path) = Unit {0}
Up least n too_much = Unit {0}

told_up : (n : ℕ) (v : EvalOutcome) → Valued n v → Up weight n (told v)
told_up n (eval_given d m) h = h
told_up n (eval_faulted f) h = tt
told_up n eval_too_much h = tt

pub evaluated_up : (source : List ℕ) (scopes : List Document) (n : ℕ) (o : Outcome Document) → Evaluated source scopes n o → Up weight n o
evaluated_up source scopes n o (inl a) =
    subst (Up weight n) (sym a.is) (told_up n a.value (value_paid (record { source = source; scopes = scopes }) a.tree n n (λ d m p. p ≡ eval_given d m) (omega arith) (λ d m p less most e. subst (Valued n) (sym e) (less, most)) a.value a.evaluated))
evaluated_up source scopes n o (inr (inl d)) = subst (Up weight n) (sym d.1) tt
evaluated_up source scopes n o (inr (inr d)) = subst (Up weight n) (sym d.1) tt
