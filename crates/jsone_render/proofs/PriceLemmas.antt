-- A template pays no less than its value weighs.
use Rattle.std.proofs.Common.{◌≡◌, ℕ, ◌+◌, ◌≤◌, codes, Bool, true, false, List, [], ◌∷◌, ◌++◌, length, decimal, if◌then◌else◌, is_some, Option, Some, None, Result, Ok, Err, Ordering, Less, Equal, Greater, is_eq, nat_cmp, inl, inr, refl, sym, ap, subst, ◌∙◌, arith}
use Rattle.std.proofs.lemmas.Bool.{cases_lt, le-leb, lt-leb}
use Rattle.std.specs.Bool.{MatchBool}
use Rattle.std.specs.Ordering.{match_ordering}
use Rattle.std.specs.Cmp.Lexicographic.{slice_cmp}
use Rattle.std.specs.List.{list_all}
use Rattle.farm_text.specs.Document.{Document, null, boolean, whole, text, array, object, items_of, Items, no_items, item, Members, no_members, member, member_at, put}
use Rattle.farm_text.specs.Reading.{escaped as escaped_key}
use Rattle.jsone_values.specs.declared.faults.Fault.{Fault}
use Rattle.jsone_values.specs.declared.faults.Fault.TheVariants.{KeyTwice, BadOperator}
use Rattle.jsone_values.specs.Members.{listed}
use Rattle.jsone_values.specs.Truth.{is_true}
use Rattle.jsone_values.specs.Weights.{weight, items_weight, members_weight}
use Rattle.jsone_eval.specs.Calls.{IsFromNowAt}
use Rattle.jsone_eval.specs.Scopes.{bound}
use Rattle.jsone_render.specs.declared.operators.Operator.{Operator}
use Rattle.jsone_render.specs.declared.operators.Operator.TheVariants.{Eval, If, Switch, Match, Let, Map, Reduce, Find, Sort, FromNow}
use Rattle.jsone_render.specs.Bindings.{LetIn, LetRenders, bound_to, numbered, turns_of, both, EachRenders, MappedOver, or_before, TurnsReduce, ReducedOver, FirstTrue, FoundIn}
use Rattle.jsone_render.specs.Conditions.{Taken, EvalRenders, branch_of, IfRenders, AreTrue, default_key, conditions_of, OneTaken, SwitchRenders, AllTaken, MatchRenders}
use Rattle.jsone_render.specs.Expressions.{Evaluated, OfText, ValueAt}
use Rattle.jsone_render.specs.Forms.{Form, plain, faulty, alone, binding, key_of}
use Rattle.jsone_render.specs.Maps.{keys_of, key_text, kept_at, KeysRender}
use Rattle.jsone_render.specs.Merges.{merged}
use Rattle.jsone_render.specs.Names.{is_name}
use Rattle.jsone_render.specs.Outcomes.{Outcome, given, faulted, too_much, pay, worth, at_operator, as_found, After, or_null, kept, Meaning, Operand}
use Rattle.jsone_render.specs.Sorting.{IsSortOf, KeysEvaluated, Sorted, SortedBy}
use Rattle.jsone_render.specs.Templates.{IsGivenBy, Given, FromNowRenders, AloneRenders, BoundOver, FormRenders, Under, Renders, ItemsRender, ValuesRender, MemberRenders, BranchRenders, InnerRenders, IsRendered}
use Rattle.jsone_render.specs.Texts.{Part, last, escaped, valued, unended, Valued, shown, as_outcome, PartsRender, Interpolated, Written}
use Rattle.jsone_render.proofs.PaidLemmas.{Up, evaluated_up}

-- what a value weighs that may be removed, and what members of a list and of a map do
abbrev heft : Option Document → ℕ
heft (Some d) = weight d
heft None = 0

abbrev heap : List Document → ℕ
heap ds = items_weight (items_of ds)

abbrev hoard : List (List ℕ × Document) → ℕ
hoard [] = 0
hoard (m ∷ ms) = weight m.1 + hoard ms

abbrev nothing : {A : Type 0} → A → ℕ
nothing a = 0

heap_kept : (ds : List Document) (found : Option Document) → heap (ds ++ kept found) ≡ heap ds + heft found
heap_kept [] (Some d) = omega arith
heap_kept [] None = refl
heap_kept (e ∷ ds) found = let rest = heap_kept ds found in omega (arith, rest)

hoard_kept : (ms : List (List ℕ × Document)) (key : List ℕ) (found : Option Document) → hoard (ms ++ kept_at key found) ≡ hoard ms + heft found
hoard_kept [] key (Some d) = omega arith
hoard_kept [] key None = refl
hoard_kept (e ∷ ms) key found = let rest = hoard_kept ms key found in omega (arith, rest)

-- steps
after_up : {A B : Type 0} (mid : A → ℕ) (least : B → ℕ) (n base : ℕ) (Is : Outcome A → Type 0) (F : A → ℕ → Outcome B → Type 0) → ((p : Outcome A) → Is p → Up mid n p)
    → ((a : A) (m : ℕ) (o : Outcome B) → n + mid a ≤ m → m ≤ 1000000 → F a m o → Up least base o) → (o : Outcome B) → After Is F o → Up least base o
after_up mid least n base Is F one follows o (given a m, is, h) = let up = one (given a m) is in follows a m o up.0 up.1 h
after_up mid least n base Is F one follows o (faulted f path, is, h) = subst (Up least base) (sym h) tt
after_up mid least n base Is F one follows o (too_much, is, h) = subst (Up least base) (sym h) tt

faulted_up : {A : Type 0} (least : A → ℕ) (n : ℕ) (f : Fault) (path : List ℕ) (o : Outcome A) → o ≡ faulted f path → Up least n o
faulted_up least n f path o e = subst (Up least n) (sym e) tt

given_up : {A : Type 0} (least : A → ℕ) (n m : ℕ) (a : A) (o : Outcome A) → n + least a ≤ m → m ≤ 1000000 → o ≡ given a m → Up least n o
given_up least n m a o upto most e = subst (Up least n) (sym e) (upto, most)

pay_up : {A : Type 0} (least : A → ℕ) (n k price : ℕ) (a : A) → n + least a ≤ k + price → (o : Outcome A) → o ≡ pay k price a → Up least n o
pay_up {A} least n k price a upto o e = elim (cases_lt 1000000 (k + price)) [
  | inl over ↦ subst (Up least n) (sym (e ∙ ap (λ (b : Bool). if b then given a (k + price) else too_much) (lt-leb (k + price) 1000000 over))) tt
  | inr within ↦ let most : k + price ≤ 1000000 = omega arith in
      subst (Up least n) (sym (e ∙ ap (λ (b : Bool). if b then given a (k + price) else too_much) (le-leb (k + price) 1000000 most))) (upto, most)
]

worth_up : (n k : ℕ) (found : Option Document) → n ≤ k → (o : Outcome (Option Document)) → o ≡ worth k found → Up heft n o
worth_up n k (Some d) upto o e = pay_up heft n k (weight d) (Some d) (omega (arith, upto)) o e
worth_up n k None upto o e = pay_up heft n k 1 None (omega (arith, upto)) o e

operator_up : (n k : ℕ) (r : Result (Option Document) Fault) → n ≤ k → (o : Outcome (Option Document)) → o ≡ at_operator k r → Up heft n o
operator_up n k (Ok found) upto o e = worth_up n k found upto o e
operator_up n k (Err f) upto o e = faulted_up heft n f [] o e

branch_up : {A : Type 0} (least : A → ℕ) (n : ℕ) (b : Bool) (P Q : Type 0) (o : Outcome A) → (P → Up least n o) → (Q → Up least n o) → MatchBool b P Q → Up least n o
branch_up least n true P Q o one other h = one h
branch_up least n false P Q o one other h = other h

under_up : (n : ℕ) (step : List ℕ) (Is : Outcome (Option Document) → Type 0) → ((p : Outcome (Option Document)) → Is p → Up heft n p) → (o : Outcome (Option Document)) → Under step Is o → Up heft n o
under_up n step Is one o (given a m, is, e) = subst (Up heft n) (sym e) (one (given a m) is)
under_up n step Is one o (faulted f path, is, e) = subst (Up heft n) (sym e) tt
under_up n step Is one o (too_much, is, e) = subst (Up heft n) (sym e) tt

-- texts
shown_up : (n m : ℕ) (r : Result (List ℕ) Fault) → n ≤ m → m ≤ 1000000 → (o : Outcome (List ℕ)) → o ≡ as_outcome m r → Up nothing n o
shown_up n m (Ok bs) upto most o e = given_up nothing n m bs o (omega (arith, upto)) most e
shown_up n m (Err f) upto most o e = faulted_up nothing n f [] o e

valued_up : (source : List ℕ) (scopes : List Document) (n : ℕ) (o : Outcome (List ℕ)) → Valued source scopes n o → Up nothing n o
valued_up source scopes n o h = after_up weight nothing n n (Evaluated source scopes n) (λ d m p. p ≡ as_outcome m (shown d)) (evaluated_up source scopes n) (λ d m p upto most e. shown_up n m (shown d) (omega (arith, upto)) most p e) o h

parts_up : (done : List ℕ) (parts : List Part) (scopes : List Document) (base n : ℕ) → base ≤ n → n ≤ 1000000 → (o : Outcome (List ℕ)) → PartsRender done parts scopes n o → Up nothing base o
parts_up done [] scopes base n upto most o h = absurd h
parts_up done (last front ∷ parts) scopes base n upto most o h = given_up nothing base n (done ++ front) o (omega (arith, upto)) most h
parts_up done (escaped front ∷ parts) scopes base n upto most o h = parts_up ((done ++ front) ++ codes "{") parts scopes base n upto most o h
parts_up done (valued front source ∷ parts) scopes base n upto most o h =
    after_up nothing nothing n base (Valued source scopes n) (λ bs m. PartsRender ((done ++ front) ++ bs) parts scopes m) (valued_up source scopes n)
    (λ bs m p less also i. parts_up ((done ++ front) ++ bs) parts scopes base m (omega (arith, upto, less)) also p i) o h
parts_up done (unended front ∷ parts) scopes base n upto most o h = faulted_up nothing base _ [] o h

abbrev size : List ℕ → ℕ
size bs = 1 + length bs

written_up : (bs : List ℕ) (scopes : List Document) (n : ℕ) → n ≤ 1000000 → (o : Outcome (List ℕ)) → Written bs scopes n o → Up size n o
written_up bs scopes n most o h =
    after_up nothing size n n (Interpolated bs scopes n) (λ cs m p. p ≡ pay m (1 + length cs) cs) (λ p i. parts_up [] i.0 scopes n n (omega arith) most p i.2)
    (λ cs m p upto also e. pay_up size n m (1 + length cs) cs (omega (arith, upto)) p e) o h

-- each meaning of this kind pays for what is found
abbrev Ups : Meaning → Type 0
Ups M = (scopes : List Document) (n : ℕ) → n ≤ 1000000 → (o : Outcome (Option Document)) → M scopes n o → Up heft n o

abbrev AllUp : (List ℕ → Meaning) → Type 0
AllUp M = (key : List ℕ) → Ups (M key)

operand_up : {A : Type 0} (least : A → ℕ) (M : Meaning) (scopes : List Document) (n base : ℕ) (F : Document → ℕ → Outcome A → Type 0) → n ≤ 1000000 → Ups M → ((d : Document) (m : ℕ) (o : Outcome A) → n ≤ m → m ≤ 1000000 → F d m o → Up least base o)
    → (o : Outcome A) → Operand M scopes n F o → Up least base o
operand_up least M scopes n base F most one follows o h =
    after_up heft least n base (M scopes n) (λ found m. F (or_null found) m) (one scopes n most) (λ found m p upto also i. follows (or_null found) m p (omega (arith, upto)) also i) o h

taken_up : (M : Meaning) → Ups M → (scopes : List Document) (base n : ℕ) → base ≤ n → n ≤ 1000000 → (o : Outcome (Option Document)) → Taken M scopes n o → Up heft base o
taken_up M one scopes base n less most o h = after_up heft heft n base (M scopes n) (λ found m p. p ≡ worth m found) (one scopes n most) (λ found m p upto also e. worth_up base m found (omega (arith, upto, less)) p e) o h

of_text_up : {A : Type 0} (least : A → ℕ) (n : ℕ) (x : Option Document) (Is : List ℕ → Outcome A → Type 0) → ((source : List ℕ) (o : Outcome A) → Is source o → Up least n o) → (o : Outcome A) → OfText x Is o → Up least n o
of_text_up least n (Some (text source)) Is one o h = one source o h
of_text_up least n (Some _) Is one o h = faulted_up least n _ [] o h
of_text_up least n None Is one o h = faulted_up least n _ [] o h

value_at_up : (key : List ℕ) (ms : Members) (scopes : List Document) (n : ℕ) (o : Outcome Document) → ValueAt key ms scopes n o → Up weight n o
value_at_up key ms scopes n o h = of_text_up weight n (member_at key ms) (λ source. Evaluated source scopes n) (λ source p i. evaluated_up source scopes n p i) o h

eval_up : (ms : Members) → Ups (EvalRenders ms)
eval_up ms scopes n most o h = after_up weight heft n n (ValueAt (codes "$eval") ms scopes n) (λ d m p. p ≡ worth m (Some d)) (value_at_up (codes "$eval") ms scopes n) (λ d m p upto also e. worth_up n m (Some d) (omega (arith, upto)) p e) o h

if_up : (ms : Members) (M : List ℕ → Meaning) → AllUp M → Ups (IfRenders ms M)
if_up ms M each scopes n most o h =
    after_up weight heft n n (ValueAt (codes "$if") ms scopes n) (λ d. Taken (M (branch_of d)) scopes) (value_at_up (codes "$if") ms scopes n) (λ d m p upto also i. taken_up (M (branch_of d)) (each (branch_of d)) scopes n m (omega (arith, upto)) also p i) o h

true_up : (found ks : List (List ℕ)) (scopes : List Document) (base n : ℕ) → base ≤ n → n ≤ 1000000 → (o : Outcome (List (List ℕ))) → AreTrue found ks scopes n o → Up nothing base o
true_up found [] scopes base n less most o h = given_up nothing base n found o (omega (arith, less)) most h
true_up found (c ∷ ks) scopes base n less most o h =
    after_up weight nothing n base (Evaluated c scopes n) (λ d m. AreTrue (found ++ (if is_true d then c ∷ [] else [])) ks scopes m) (evaluated_up c scopes n)
    (λ d m p upto also i. true_up (found ++ (if is_true d then c ∷ [] else [])) ks scopes base m (omega (arith, less, upto)) also p i) o h

one_taken_up : (B : List ℕ → Meaning) → AllUp B → (found : List (List ℕ)) (scopes : List Document) (base n : ℕ) → base ≤ n → n ≤ 1000000 → (o : Outcome (Option Document)) → OneTaken B found scopes n o → Up heft base o
one_taken_up B each [] scopes base n less most o h = taken_up (B default_key) (each default_key) scopes base n less most o h
one_taken_up B each (c ∷ []) scopes base n less most o h = taken_up (B c) (each c) scopes base n less most o h
one_taken_up B each (c ∷ d ∷ ks) scopes base n less most o h = faulted_up heft base _ [] o h

switch_up : (x : Option Document) (B : List ℕ → Meaning) → AllUp B → Ups (SwitchRenders x B)
switch_up (Some (object bs)) B each scopes n most o h =
    after_up nothing heft n n (AreTrue [] (conditions_of bs) scopes n) (λ found. OneTaken B found scopes) (true_up [] (conditions_of bs) scopes n n (omega arith) most) (λ found m p upto also i. one_taken_up B each found scopes n m (omega (arith, upto)) also p i) o h
switch_up (Some _) B each scopes n most o h = faulted_up heft n _ [] o h
switch_up None B each scopes n most o h = faulted_up heft n _ [] o h

all_taken_up : (B : List ℕ → Meaning) → AllUp B → (done : List Document) (ks : List (List ℕ)) (scopes : List Document) (base n : ℕ) → base ≤ n → n ≤ 1000000 → (o : Outcome (Option Document)) → AllTaken B done ks scopes n o → Up heft base o
all_taken_up B each done [] scopes base n less most o h = worth_up base n (Some (array (items_of done))) less o h
all_taken_up B each done (c ∷ ks) scopes base n less most o h =
    after_up heft heft n base (B c scopes n) (λ found m. AllTaken B (done ++ kept found) ks scopes m) (each c scopes n most) (λ found m p upto also i. all_taken_up B each (done ++ kept found) ks scopes base m (omega (arith, less, upto)) also p i) o h

match_up : (x : Option Document) (B : List ℕ → Meaning) → AllUp B → Ups (MatchRenders x B)
match_up (Some (object bs)) B each scopes n most o h =
    after_up nothing heft n n (AreTrue [] (keys_of bs) scopes n) (λ found. AllTaken B [] found scopes) (true_up [] (keys_of bs) scopes n n (omega arith) most) (λ found m p upto also i. all_taken_up B each [] found scopes n m (omega (arith, upto)) also p i) o h
match_up (Some _) B each scopes n most o h = faulted_up heft n _ [] o h
match_up None B each scopes n most o h = faulted_up heft n _ [] o h

let_in_up : (d : Document) (M : Meaning) → Ups M → (scopes : List Document) (base n : ℕ) → base ≤ n → n ≤ 1000000 → (o : Outcome (Option Document)) → LetIn d M scopes n o → Up heft base o
let_in_up (object ms) M one scopes base n less most o h =
    branch_up heft base (list_all is_name (keys_of ms)) (Taken M (scopes ++ object ms ∷ []) n o) (o ≡ faulted BadOperator []) o (λ i. taken_up M one (scopes ++ object ms ∷ []) base n less most o i) (λ e. faulted_up heft base BadOperator [] o e) h
let_in_up _ M one scopes base n less most o h = faulted_up heft base _ [] o h

let_up : (M : List ℕ → Meaning) → AllUp M → Ups (LetRenders M)
let_up M each scopes n most o h =
    operand_up heft (M (codes "$let")) scopes n n (λ d. LetIn d (M (codes "in")) scopes) most (each (codes "$let")) (λ d m p less also i. let_in_up d (M (codes "in")) (each (codes "in")) scopes n m less also p i) o h

each_up : (M : Meaning) → Ups M → (names : List (List ℕ)) (done : List Document) (ts : List (Document × Document)) (scopes : List Document) (base n : ℕ) → base ≤ n → n ≤ 1000000 → (o : Outcome (List Document)) → EachRenders M names done ts scopes n o → Up nothing base o
each_up M one names done [] scopes base n less most o h = given_up nothing base n done o (omega (arith, less)) most h
each_up M one names done (t ∷ ts) scopes base n less most o h =
    after_up heft nothing n base (M (scopes ++ bound_to names (both t)) n) (λ found m. EachRenders M names (done ++ kept found) ts scopes m) (one (scopes ++ bound_to names (both t)) n most)
    (λ found m p upto also i. each_up M one names (done ++ kept found) ts scopes base m (omega (arith, less, upto)) also p i) o h

mapped_up : (M : Meaning) → Ups M → (names : List (List ℕ)) (d : Document) (scopes : List Document) (base n : ℕ) → base ≤ n → n ≤ 1000000 → (o : Outcome (Option Document)) → MappedOver M names d scopes n o → Up heft base o
mapped_up M one names (array ds) scopes base n less most o h =
    after_up nothing heft n base (EachRenders M names [] (numbered 0 (listed ds)) scopes n) (λ es m p. p ≡ worth m (Some (array (items_of es)))) (each_up M one names [] (numbered 0 (listed ds)) scopes n n (omega arith) most)
    (λ es m p upto also e. worth_up base m (Some (array (items_of es))) (omega (arith, less, upto)) p e) o h
mapped_up M one names (object ms) scopes base n less most o h =
    after_up nothing heft n base (EachRenders M names [] (turns_of names ms) scopes n) (λ es m p. p ≡ at_operator m (as_found (merged es))) (each_up M one names [] (turns_of names ms) scopes n n (omega arith) most)
    (λ es m p upto also e. operator_up base m (as_found (merged es)) (omega (arith, less, upto)) p e) o h
mapped_up M one names _ scopes base n less most o h = faulted_up heft base _ [] o h

turns_up : (M : Meaning) → Ups M → (names : List (List ℕ)) (before : Document) (ts : List (Document × Document)) (scopes : List Document) (base n : ℕ) → base ≤ n → n ≤ 1000000 → (o : Outcome (Option Document)) → TurnsReduce M names before ts scopes n o → Up heft base o
turns_up M one names before [] scopes base n less most o h = worth_up base n (Some before) less o h
turns_up M one names before (t ∷ ts) scopes base n less most o h =
    after_up heft heft n base (M (scopes ++ bound_to names (before ∷ both t)) n) (λ found m. TurnsReduce M names (or_before before found) ts scopes m) (one (scopes ++ bound_to names (before ∷ both t)) n most)
    (λ found m p upto also i. turns_up M one names (or_before before found) ts scopes base m (omega (arith, less, upto)) also p i) o h

reduced_up : (M : Meaning) → Ups M → (names : List (List ℕ)) (initial d : Document) (scopes : List Document) (base n : ℕ) → base ≤ n → n ≤ 1000000 → (o : Outcome (Option Document)) → ReducedOver M names initial d scopes n o → Up heft base o
reduced_up M one names initial (array ds) scopes base n less most o h = turns_up M one names initial (numbered 0 (listed ds)) scopes base n less most o h
reduced_up M one names initial _ scopes base n less most o h = faulted_up heft base _ [] o h

first_up : (source : List ℕ) (names : List (List ℕ)) (ts : List (Document × Document)) (scopes : List Document) (base n : ℕ) → base ≤ n → (o : Outcome (Option Document)) → FirstTrue source names ts scopes n o → Up heft base o
first_up source names [] scopes base n less o h = worth_up base n None less o h
first_up source names (t ∷ ts) scopes base n less o h =
    after_up weight heft n base (Evaluated source (scopes ++ bound_to names (both t)) n) (λ d m p. MatchBool (is_true d) (p ≡ worth m (Some t.0)) (FirstTrue source names ts scopes m p)) (evaluated_up source (scopes ++ bound_to names (both t)) n)
    (λ d m p upto also i. branch_up heft base (is_true d) (p ≡ worth m (Some t.0)) (FirstTrue source names ts scopes m p) p (λ e. worth_up base m (Some t.0) (omega (arith, less, upto)) p e) (λ j. first_up source names ts scopes base m (omega (arith, less, upto)) p j) i) o h

found_up : (x : Option Document) (names : List (List ℕ)) (d : Document) (scopes : List Document) (base n : ℕ) → base ≤ n → (o : Outcome (Option Document)) → FoundIn x names d scopes n o → Up heft base o
found_up x names (array ds) scopes base n less o h = of_text_up heft base x (λ e. FirstTrue e names (numbered 0 (listed ds)) scopes n) (λ e p i. first_up e names (numbered 0 (listed ds)) scopes base n less p i) o h
found_up x names _ scopes base n less o h = faulted_up heft base _ [] o h

keys_evaluated_up : (source : List ℕ) (names : List (List ℕ)) (done : List (Document × Document)) (ds : List Document) (scopes : List Document) (base n : ℕ) → base ≤ n → n ≤ 1000000 → (o : Outcome (List (Document × Document))) → KeysEvaluated source names done ds scopes n o → Up nothing base o
keys_evaluated_up source names done [] scopes base n less most o h = given_up nothing base n done o (omega (arith, less)) most h
keys_evaluated_up source names done (d ∷ ds) scopes base n less most o h =
    after_up weight nothing n base (Evaluated source (scopes ++ bound_to names (d ∷ [])) n) (λ key m. KeysEvaluated source names (done ++ (key, d) ∷ []) ds scopes m) (evaluated_up source (scopes ++ bound_to names (d ∷ [])) n)
    (λ key m p upto also i. keys_evaluated_up source names (done ++ (key, d) ∷ []) ds scopes base m (omega (arith, less, upto)) also p i) o h

result_up : (R : Result Document Fault → Type 0) (base n : ℕ) → base ≤ n → (o : Outcome (Option Document)) → (r : Result Document Fault) × R r × (o ≡ at_operator n (as_found r)) → Up heft base o
result_up R base n less o (r, is, e) = operator_up base n (as_found r) less o e

sorted_by_up : (x : Option Document) (names : List (List ℕ)) (d : Document) (scopes : List Document) (base n : ℕ) → base ≤ n → n ≤ 1000000 → (o : Outcome (Option Document)) → SortedBy x names d scopes n o → Up heft base o
sorted_by_up x names (array ds) scopes base n less most o h =
    of_text_up heft base x (λ e. After (KeysEvaluated e names [] (listed ds) scopes n) Sorted)
    (λ e p i. after_up nothing heft n base (KeysEvaluated e names [] (listed ds) scopes n) Sorted (keys_evaluated_up e names [] (listed ds) scopes n n (omega arith) most) (λ ps m q upto also j. result_up (IsSortOf ps) base m (omega (arith, less, upto)) q j) p i) o h
sorted_by_up x names _ scopes base n less most o h = faulted_up heft base _ [] o h

from_up : (ms : Members) (M : List ℕ → Meaning) → AllUp M → Ups (FromNowRenders ms M)
from_up ms M each scopes n most o h =
    operand_up heft (M (codes "$fromNow")) scopes n n _ most (each (codes "$fromNow"))
    (λ d m p less also i. branch_up heft n (is_some (member_at (codes "from") ms)) _ _ p
    (λ j. operand_up heft (M (codes "from")) scopes m n _ also (each (codes "from")) (λ from l q more too c. result_up (IsFromNowAt d (Some from)) n l (omega (arith, less, more)) q c) p j)
    (λ j. result_up (IsFromNowAt d (bound (codes "now") scopes)) n m less p j) i) o h

given_by_up : (operator : Operator) (ms : Members) (M : List ℕ → Meaning) → AllUp M → (scopes : List Document) (n : ℕ) → n ≤ 1000000 → (o : Outcome (Option Document)) → Operand (M (key_of operator)) scopes n (Given operator) o → Up heft n o
given_by_up operator ms M each scopes n most o h = operand_up heft (M (key_of operator)) scopes n n (Given operator) most (each (key_of operator)) (λ d m p less also i. result_up (IsGivenBy operator d) n m less p i) o h

alone_up : (operator : Operator) (ms : Members) (M : List ℕ → Meaning) (B : List ℕ → List ℕ → Meaning) → AllUp M → ((key : List ℕ) → AllUp (B key)) → Ups (AloneRenders operator ms M B)
alone_up Eval ms M B each branches scopes n most o h = eval_up ms scopes n most o h
alone_up If ms M B each branches scopes n most o h = if_up ms M each scopes n most o h
alone_up Switch ms M B each branches scopes n most o h = switch_up (member_at (codes "$switch") ms) (B (codes "$switch")) (branches (codes "$switch")) scopes n most o h
alone_up Match ms M B each branches scopes n most o h = match_up (member_at (codes "$match") ms) (B (codes "$match")) (branches (codes "$match")) scopes n most o h
alone_up Let ms M B each branches scopes n most o h = let_up M each scopes n most o h
alone_up FromNow ms M B each branches scopes n most o h = from_up ms M each scopes n most o h
alone_up operator ms M B each branches scopes n most o h = given_by_up operator ms M each scopes n most o h

over_up : (operator : Operator) (key : List ℕ) (names : List (List ℕ)) (ms : Members) (M : List ℕ → Meaning) (d : Document) → AllUp M → (scopes : List Document) (base n : ℕ) → base ≤ n → n ≤ 1000000 → (o : Outcome (Option Document)) → BoundOver operator key names ms M d scopes n o → Up heft base o
over_up Map key names ms M d each scopes base n less most o h = mapped_up (M key) (each key) names d scopes base n less most o h
over_up Reduce key names ms M d each scopes base n less most o h =
    operand_up heft (M (codes "initial")) scopes n base (λ initial. ReducedOver (M key) names initial d scopes) most (each (codes "initial")) (λ initial m p more also i. reduced_up (M key) (each key) names initial d scopes base m (omega (arith, less, more)) also p i) o h
over_up Find key names ms M d each scopes base n less most o h = found_up (member_at key ms) names d scopes base n less o h
over_up Sort key names ms M d each scopes base n less most o h = sorted_by_up (member_at key ms) names d scopes base n less most o h
over_up _ key names ms M d each scopes base n less most o h = faulted_up heft base _ [] o h

form_up : (form : Form) (P : Meaning) (ms : Members) (M : List ℕ → Meaning) (B : List ℕ → List ℕ → Meaning) → Ups P → AllUp M → ((key : List ℕ) → AllUp (B key)) → Ups (FormRenders form P ms M B)
form_up plain P ms M B one each branches scopes n most o h = one scopes n most o h
form_up (faulty f) P ms M B one each branches scopes n most o h = faulted_up heft n f [] o h
form_up (alone operator) P ms M B one each branches scopes n most o h = alone_up operator ms M B each branches scopes n most o h
form_up (binding operator key names) P ms M B one each branches scopes n most o h =
    operand_up heft (M (key_of operator)) scopes n n (λ d. BoundOver operator key names ms M d scopes) most (each (key_of operator)) (λ d m p less also i. over_up operator key names ms M d each scopes n m less also p i) o h

-- a member more weighs no more than with its key
put_by : (c : Ordering) (a b : Members) (x : Members) (k : List ℕ) (d : Document) (most : ℕ) → members_weight a ≤ most → members_weight b ≤ most → members_weight x ≤ most → members_weight (match_ordering c a b x) ≤ most
put_by Less a b x k d most one two three = one
put_by Equal a b x k d most one two three = two
put_by Greater a b x k d most one two three = three

put_weight : (k : List ℕ) (d : Document) (ms : Members) → members_weight (put k d ms) ≤ length k + (weight d + members_weight ms)
put_weight k d no_members = omega arith
put_weight k d (member l e ms) =
    let rest = put_weight k d ms in
    put_by (slice_cmp nat_cmp k l) _ _ _ k d (length k + (weight d + (length l + (weight e + members_weight ms)))) (omega arith) (omega arith) (omega (arith, rest))

keys_up : (count : ℕ) (ms : Members) (vs : List (List ℕ × Document)) (scopes : List Document) (base n : ℕ) → base + (members_weight ms + hoard vs) ≤ n → n ≤ 1000000 → (o : Outcome (Option Document)) → KeysRender count ms vs scopes n o → Up heft base o
keys_up count ms [] scopes base n less most o h = pay_up heft base n (1 + count) (Some (object ms)) (omega (arith, less)) o h
keys_up count ms (v ∷ vs) scopes base n less most o h =
    after_up size heft n base (Written (key_text v.0) scopes n) (λ key m p. MatchBool (is_some (member_at key ms)) (p ≡ faulted KeyTwice []) (KeysRender count (put key v.1 ms) vs scopes m p)) (written_up (key_text v.0) scopes n most)
    (λ key m p upto also i. branch_up heft base (is_some (member_at key ms)) (p ≡ faulted KeyTwice []) (KeysRender count (put key v.1 ms) vs scopes m p) p (λ e. faulted_up heft base KeyTwice [] p e)
    (λ j. keys_up count (put key v.1 ms) vs scopes base m (omega (arith, less, upto, put_weight key v.1 ms)) also p j) i) o h

mutual
  renders_up : (d : Document) → Ups (Renders d)
  renders_up null scopes n most o h = pay_up heft n n 1 (Some null) (omega arith) o h
  renders_up (boolean b) scopes n most o h = pay_up heft n n 1 (Some (boolean b)) (omega arith) o h
  renders_up (whole z) scopes n most o h = pay_up heft n n 1 (Some (whole z)) (omega arith) o h
  renders_up (text bs) scopes n most o h = after_up size heft n n (Written bs scopes n) (λ cs m p. p ≡ given (Some (text cs)) m) (written_up bs scopes n most) (λ cs m p upto also e. given_up heft n m (Some (text cs)) p (omega (arith, upto)) also e) o h
  renders_up (array ds) scopes n most o h =
      after_up heap heft n n (ItemsRender 0 [] ds scopes n) (λ es m p. p ≡ pay m (1 + length (listed ds)) (Some (array (items_of es)))) (items_up 0 [] ds scopes n n (omega arith) most)
      (λ es m p upto also e. pay_up heft n m (1 + length (listed ds)) (Some (array (items_of es))) (omega (arith, upto)) p e) o h
  renders_up (object ms) scopes n most o (form, is, h) =
      form_up form (λ s m. After (ValuesRender [] ms s m) (λ vs. KeysRender (length (keys_of ms)) no_members vs s)) ms (λ key. MemberRenders key ms) (λ key inner. BranchRenders key inner ms)
      (λ s m also p i. after_up hoard heft m m (ValuesRender [] ms s m) (λ vs. KeysRender (length (keys_of ms)) no_members vs s) (values_up [] ms s m m (omega arith) also) (λ vs j q upto too c. keys_up (length (keys_of ms)) no_members vs s m j (omega (arith, upto)) too q c) p i)
      (λ key. member_up key ms) (λ key inner. inner_branch_up key inner ms) scopes n most o h

  items_up : (i : ℕ) (done : List Document) (ds : Items) (scopes : List Document) (base n : ℕ) → base + heap done ≤ n → n ≤ 1000000 → (o : Outcome (List Document)) → ItemsRender i done ds scopes n o → Up heap base o
  items_up i done no_items scopes base n less most o h = given_up heap base n done o less most h
  items_up i done (item d ds) scopes base n less most o h =
      after_up heft heap n base (Under (decimal i) (Renders d scopes n)) (λ found m. ItemsRender (i + 1) (done ++ kept found) ds scopes m) (under_up n (decimal i) (Renders d scopes n) (renders_up d scopes n most))
      (λ found m p upto also j. items_up (i + 1) (done ++ kept found) ds scopes base m (omega (arith, less, upto, heap_kept done found)) also p j) o h

  values_up : (done : List (List ℕ × Document)) (ms : Members) (scopes : List Document) (base n : ℕ) → base + hoard done ≤ n → n ≤ 1000000 → (o : Outcome (List (List ℕ × Document))) → ValuesRender done ms scopes n o → Up hoard base o
  values_up done no_members scopes base n less most o h = given_up hoard base n done o less most h
  values_up done (member key d ms) scopes base n less most o h =
      after_up heft hoard n base (Under (escaped_key key) (Renders d scopes n)) (λ found m. ValuesRender (done ++ kept_at key found) ms scopes m) (under_up n (escaped_key key) (Renders d scopes n) (renders_up d scopes n most))
      (λ found m p upto also j. values_up (done ++ kept_at key found) ms scopes base m (omega (arith, less, upto, hoard_kept done key found)) also p j) o h

  member_up : (key : List ℕ) (ms : Members) → Ups (MemberRenders key ms)
  member_up key no_members scopes n most o h = given_up heft n n None o (omega arith) most h
  member_up key (member l d ms) scopes n most o h =
      branch_up heft n (is_eq (slice_cmp nat_cmp key l)) (Under (escaped_key key) (Renders d scopes n) o) (MemberRenders key ms scopes n o) o (λ i. under_up n (escaped_key key) (Renders d scopes n) (renders_up d scopes n most) o i) (λ i. member_up key ms scopes n most o i) h

  inner_branch_up : (key inner : List ℕ) (ms : Members) → Ups (BranchRenders key inner ms)
  inner_branch_up key inner no_members scopes n most o h = given_up heft n n None o (omega arith) most h
  inner_branch_up key inner (member l d ms) scopes n most o h =
      branch_up heft n (is_eq (slice_cmp nat_cmp key l)) (Under (escaped_key key) (InnerRenders inner d scopes n) o) (BranchRenders key inner ms scopes n o) o (λ i. under_up n (escaped_key key) (InnerRenders inner d scopes n) (inner_up inner d scopes n most) o i) (λ i. inner_branch_up key inner ms scopes n most o i) h

  inner_up : (inner : List ℕ) (d : Document) → Ups (InnerRenders inner d)
  inner_up inner (object ms) scopes n most o h = member_up inner ms scopes n most o h
  inner_up inner _ scopes n most o h = given_up heft n n None o (omega arith) most h

null_up : (n : ℕ) (found : Option Document) (m : ℕ) → n + heft found ≤ m → m ≤ 1000000 → weight (or_null found) ≤ 1000000
null_up n (Some d) m upto most = omega (arith, upto, most)
null_up n None m upto most = omega arith

abbrev Light : Outcome Document → Type 0
Light (given d m) = weight d ≤ 1000000
Light (faulted f path) = Unit {0}
Light too_much = Unit {0}

light_after : (Is : Outcome (Option Document) → Type 0) → ((p : Outcome (Option Document)) → Is p → Up heft 0 p) → (o : Outcome Document) → After Is (λ found m p. p ≡ given (or_null found) m) o → Light o
light_after Is one o (given found m, is, e) = let up = one (given found m) is in subst Light (sym e) (null_up 0 found m up.0 up.1)
light_after Is one o (faulted f path, is, e) = subst Light (sym e) tt
light_after Is one o (too_much, is, e) = subst Light (sym e) tt

light_by : (b : Bool) (P Q : Type 0) (o : Outcome Document) → (P → Light o) → (Q → Light o) → MatchBool b P Q → Light o
light_by true P Q o one other h = one h
light_by false P Q o one other h = other h

-- the value of a template weighs no more than may be paid
pub rendered_light : (template context : Document) (o : Outcome Document) → IsRendered template context o → Light o
rendered_light template (object ms) o h =
    light_by (list_all is_name (keys_of ms)) _ _ o (λ i. light_after (Renders template (object ms ∷ []) 0) (renders_up template (object ms ∷ []) 0 (omega arith)) o i) (λ e. subst Light (sym e) tt) h
rendered_light template _ o h = subst Light (sym h) tt
