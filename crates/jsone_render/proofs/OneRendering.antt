-- A template has one outcome.
use Rattle.std.proofs.Common.{◌≡◌, ℕ, ◌+◌, codes, List, [], ◌∷◌, ◌++◌, length, decimal, if◌then◌else◌, is_some, Option, Some, None, Result, is_eq, nat_cmp, sym, ap, subst, ◌∙◌}
use Rattle.std.specs.Bool.{MatchBool}
use Rattle.std.specs.Cmp.Lexicographic.{slice_cmp}
use Rattle.std.specs.List.{list_all}
use Rattle.farm_text.specs.Document.{Document, null, boolean, whole, text, array, object, items_of, Items, no_items, item, Members, no_members, member, member_at, put}
use Rattle.farm_text.specs.Reading.{escaped}
use Rattle.jsone_values.specs.declared.faults.Fault.{Fault}
use Rattle.jsone_values.specs.declared.faults.Fault.TheVariants.{KeyTwice, BadOperator, BadContext}
use Rattle.jsone_values.specs.Members.{listed}
use Rattle.jsone_values.specs.Truth.{is_true}
use Rattle.jsone_values.proofs.OneLemmas.{IsOne, one_from_now}
use Rattle.jsone_eval.specs.Calls.{IsFromNowAt}
use Rattle.jsone_eval.specs.Scopes.{bound}
use Rattle.jsone_render.specs.declared.operators.Operator.{Operator}
use Rattle.jsone_render.specs.declared.operators.Operator.TheVariants.{Eval, If, Switch, Match, Let, Map, Reduce, Find, Sort, FromNow}
use Rattle.jsone_render.specs.Bindings.{LetIn, LetRenders, bound_to, numbered, turns_of, both, EachRenders, MappedOver, or_before, TurnsReduce, ReducedOver, FirstTrue, FoundIn}
use Rattle.jsone_render.specs.Conditions.{Taken, EvalRenders, branch_of, IfRenders, AreTrue, default_key, conditions_of, OneTaken, SwitchRenders, AllTaken, MatchRenders}
use Rattle.jsone_render.specs.Expressions.{Evaluated, ValueAt}
use Rattle.jsone_render.specs.Forms.{Form, plain, faulty, alone, binding, key_of}
use Rattle.jsone_render.specs.Maps.{keys_of, key_text, kept_at, KeysRender}
use Rattle.jsone_render.specs.Merges.{merged}
use Rattle.jsone_render.specs.Names.{is_name}
use Rattle.jsone_render.specs.Outcomes.{Outcome, given, faulted, pay, worth, at_operator, as_found, under, After, or_null, kept, Meaning, Operand}
use Rattle.jsone_render.specs.Sorting.{IsSortOf, KeysEvaluated, Sorted, SortedBy}
use Rattle.jsone_render.specs.Templates.{IsGivenBy, Given, SpanRenders, FromNowRenders, AloneRenders, BoundOver, FormRenders, Under, Renders, ItemsRender, ValuesRender, MemberRenders, BranchRenders, InnerRenders, IsRendered}
use Rattle.jsone_render.specs.Texts.{Written}
use Rattle.jsone_render.proofs.OneParts.{One, one_after, one_is, one_branch, one_of_text, one_evaluated, one_written, one_form}
use Rattle.jsone_render.proofs.OneSorting.{one_sort_of, one_sort_alone}

-- each meaning of this kind has one outcome
abbrev OneMeaning : Meaning → Type 0
OneMeaning M = (scopes : List Document) (n : ℕ) → One (M scopes n)

abbrev OneEach : (List ℕ → Meaning) → Type 0
OneEach M = (key : List ℕ) → OneMeaning (M key)

one_operand : {A : Type 0} (M : Meaning) (scopes : List Document) (n : ℕ) (F : Document → ℕ → Outcome A → Type 0) → OneMeaning M → ((d : Document) (m : ℕ) → One (F d m)) → One (Operand M scopes n F)
one_operand M scopes n F one follows o p h k = one_after (M scopes n) (λ found m. F (or_null found) m) (one scopes n) (λ found m. follows (or_null found) m) o p h k

one_taken : (M : Meaning) → OneMeaning M → OneMeaning (Taken M)
one_taken M one scopes n o p h k = one_after (M scopes n) (λ found m q. q ≡ worth m found) (one scopes n) (λ found m. one_is (worth m found)) o p h k

one_value_at : (key : List ℕ) (ms : Members) (scopes : List Document) (n : ℕ) → One (ValueAt key ms scopes n)
one_value_at key ms scopes n o p h k = one_of_text (member_at key ms) (λ source. Evaluated source scopes n) (λ source. one_evaluated source scopes n) o p h k

one_eval : (ms : Members) → OneMeaning (EvalRenders ms)
one_eval ms scopes n o p h k = one_after (ValueAt (codes "$eval") ms scopes n) (λ d m q. q ≡ worth m (Some d)) (one_value_at (codes "$eval") ms scopes n) (λ d m. one_is (worth m (Some d))) o p h k

one_if : (ms : Members) (M : List ℕ → Meaning) → OneEach M → OneMeaning (IfRenders ms M)
one_if ms M each scopes n o p h k =
    one_after (ValueAt (codes "$if") ms scopes n) (λ d. Taken (M (branch_of d)) scopes) (one_value_at (codes "$if") ms scopes n) (λ d m. one_taken (M (branch_of d)) (each (branch_of d)) scopes m) o p h k

one_true : (found ks : List (List ℕ)) (scopes : List Document) (n : ℕ) → One (AreTrue found ks scopes n)
one_true found [] scopes n o p h k = h ∙ sym k
one_true found (c ∷ ks) scopes n o p h k =
    one_after (Evaluated c scopes n) (λ d m. AreTrue (found ++ (if is_true d then c ∷ [] else [])) ks scopes m) (one_evaluated c scopes n) (λ d m. one_true (found ++ (if is_true d then c ∷ [] else [])) ks scopes m) o p h k

one_branch_taken : (B : List ℕ → Meaning) → OneEach B → (found : List (List ℕ)) → OneMeaning (OneTaken B found)
one_branch_taken B each [] scopes n o p h k = one_taken (B default_key) (each default_key) scopes n o p h k
one_branch_taken B each (c ∷ []) scopes n o p h k = one_taken (B c) (each c) scopes n o p h k
one_branch_taken B each (c ∷ l ∷ ks) scopes n o p h k = h ∙ sym k

one_switch : (x : Option Document) (B : List ℕ → Meaning) → OneEach B → OneMeaning (SwitchRenders x B)
one_switch (Some (object bs)) B each scopes n o p h k =
    one_after (AreTrue [] (conditions_of bs) scopes n) (λ found. OneTaken B found scopes) (one_true [] (conditions_of bs) scopes n) (λ found m. one_branch_taken B each found scopes m) o p h k
one_switch (Some _) B each scopes n o p h k = h ∙ sym k
one_switch None B each scopes n o p h k = h ∙ sym k

one_all_taken : (B : List ℕ → Meaning) → OneEach B → (done : List Document) (ks : List (List ℕ)) → OneMeaning (AllTaken B done ks)
one_all_taken B each done [] scopes n o p h k = h ∙ sym k
one_all_taken B each done (c ∷ ks) scopes n o p h k =
    one_after (B c scopes n) (λ found m. AllTaken B (done ++ kept found) ks scopes m) (each c scopes n) (λ found m. one_all_taken B each (done ++ kept found) ks scopes m) o p h k

one_match : (x : Option Document) (B : List ℕ → Meaning) → OneEach B → OneMeaning (MatchRenders x B)
one_match (Some (object bs)) B each scopes n o p h k =
    one_after (AreTrue [] (keys_of bs) scopes n) (λ found. AllTaken B [] found scopes) (one_true [] (keys_of bs) scopes n) (λ found m. one_all_taken B each [] found scopes m) o p h k
one_match (Some _) B each scopes n o p h k = h ∙ sym k
one_match None B each scopes n o p h k = h ∙ sym k

one_let_in : (d : Document) (M : Meaning) → OneMeaning M → OneMeaning (LetIn d M)
one_let_in (object ms) M one scopes n o p h k =
    one_branch (list_all is_name (keys_of ms)) (Taken M (scopes ++ object ms ∷ []) n) (λ q. q ≡ faulted BadOperator []) (one_taken M one (scopes ++ object ms ∷ []) n) (one_is (faulted BadOperator [])) o p h k
one_let_in _ M one scopes n o p h k = h ∙ sym k

one_let : (M : List ℕ → Meaning) → OneEach M → OneMeaning (LetRenders M)
one_let M each scopes n o p h k =
    one_operand (M (codes "$let")) scopes n (λ d. LetIn d (M (codes "in")) scopes) (each (codes "$let")) (λ d m. one_let_in d (M (codes "in")) (each (codes "in")) scopes m) o p h k

one_each : (M : Meaning) → OneMeaning M → (names : List (List ℕ)) (done : List Document) (ts : List (Document × Document)) (scopes : List Document) (n : ℕ) → One (EachRenders M names done ts scopes n)
one_each M one names done [] scopes n o p h k = h ∙ sym k
one_each M one names done (t ∷ ts) scopes n o p h k =
    one_after (M (scopes ++ bound_to names (both t)) n) (λ found m. EachRenders M names (done ++ kept found) ts scopes m) (one (scopes ++ bound_to names (both t)) n)
    (λ found m. one_each M one names (done ++ kept found) ts scopes m) o p h k

one_mapped : (M : Meaning) → OneMeaning M → (names : List (List ℕ)) (d : Document) → OneMeaning (MappedOver M names d)
one_mapped M one names (array ds) scopes n o p h k =
    one_after (EachRenders M names [] (numbered 0 (listed ds)) scopes n) (λ es m q. q ≡ worth m (Some (array (items_of es)))) (one_each M one names [] (numbered 0 (listed ds)) scopes n)
    (λ es m. one_is (worth m (Some (array (items_of es))))) o p h k
one_mapped M one names (object ms) scopes n o p h k =
    one_after (EachRenders M names [] (turns_of names ms) scopes n) (λ es m q. q ≡ at_operator m (as_found (merged es))) (one_each M one names [] (turns_of names ms) scopes n)
    (λ es m. one_is (at_operator m (as_found (merged es)))) o p h k
one_mapped M one names _ scopes n o p h k = h ∙ sym k

one_turns : (M : Meaning) → OneMeaning M → (names : List (List ℕ)) (before : Document) (ts : List (Document × Document)) → OneMeaning (TurnsReduce M names before ts)
one_turns M one names before [] scopes n o p h k = h ∙ sym k
one_turns M one names before (t ∷ ts) scopes n o p h k =
    one_after (M (scopes ++ bound_to names (before ∷ both t)) n) (λ found m. TurnsReduce M names (or_before before found) ts scopes m) (one (scopes ++ bound_to names (before ∷ both t)) n)
    (λ found m. one_turns M one names (or_before before found) ts scopes m) o p h k

one_reduced : (M : Meaning) → OneMeaning M → (names : List (List ℕ)) (initial d : Document) → OneMeaning (ReducedOver M names initial d)
one_reduced M one names initial (array ds) scopes n o p h k = one_turns M one names initial (numbered 0 (listed ds)) scopes n o p h k
one_reduced M one names initial _ scopes n o p h k = h ∙ sym k

one_first : (source : List ℕ) (names : List (List ℕ)) (ts : List (Document × Document)) → OneMeaning (FirstTrue source names ts)
one_first source names [] scopes n o p h k = h ∙ sym k
one_first source names (t ∷ ts) scopes n o p h k =
    one_after (Evaluated source (scopes ++ bound_to names (both t)) n) (λ d m q. MatchBool (is_true d) (q ≡ worth m (Some t.0)) (FirstTrue source names ts scopes m q)) (one_evaluated source (scopes ++ bound_to names (both t)) n)
    (λ d m. one_branch (is_true d) (λ q. q ≡ worth m (Some t.0)) (FirstTrue source names ts scopes m) (one_is (worth m (Some t.0))) (one_first source names ts scopes m)) o p h k

one_found : (x : Option Document) (names : List (List ℕ)) (d : Document) → OneMeaning (FoundIn x names d)
one_found x names (array ds) scopes n o p h k = one_of_text x (λ e. FirstTrue e names (numbered 0 (listed ds)) scopes n) (λ e. one_first e names (numbered 0 (listed ds)) scopes n) o p h k
one_found x names _ scopes n o p h k = h ∙ sym k

one_keys_evaluated : (source : List ℕ) (names : List (List ℕ)) (done : List (Document × Document)) (ds : List Document) (scopes : List Document) (n : ℕ) → One (KeysEvaluated source names done ds scopes n)
one_keys_evaluated source names done [] scopes n o p h k = h ∙ sym k
one_keys_evaluated source names done (d ∷ ds) scopes n o p h k =
    one_after (Evaluated source (scopes ++ bound_to names (d ∷ [])) n) (λ key m. KeysEvaluated source names (done ++ (key, d) ∷ []) ds scopes m) (one_evaluated source (scopes ++ bound_to names (d ∷ [])) n)
    (λ key m. one_keys_evaluated source names (done ++ (key, d) ∷ []) ds scopes m) o p h k

-- a result of one kind gives one outcome
one_result : (R : Result Document Fault → Type 0) (n : ℕ) → IsOne R → One (λ o. (r : Result Document Fault) × R r × (o ≡ at_operator n (as_found r)))
one_result R n one o p (r, is, e) (q, also, i) = e ∙ ap (λ x. at_operator n (as_found x)) (one r q is also) ∙ sym i

one_sorted_by : (x : Option Document) (names : List (List ℕ)) (d : Document) → OneMeaning (SortedBy x names d)
one_sorted_by x names (array ds) scopes n o p h k =
    one_of_text x (λ e. After (KeysEvaluated e names [] (listed ds) scopes n) Sorted) (λ e. one_after (KeysEvaluated e names [] (listed ds) scopes n) Sorted (one_keys_evaluated e names [] (listed ds) scopes n) (λ ps m. one_result (IsSortOf ps) m (one_sort_of ps))) o p h k
one_sorted_by x names _ scopes n o p h k = h ∙ sym k

one_from_now_at : (d : Document) (from : Option Document) → IsOne (IsFromNowAt d from)
one_from_now_at d None r q h k = one_from_now d None r q h k
one_from_now_at d (Some (text bs)) r q h k = one_from_now d (Some (text bs)) r q h k
one_from_now_at d (Some _) r q h k = h ∙ sym k

one_given_by : (operator : Operator) (d : Document) → IsOne (IsGivenBy operator d)
one_given_by Sort d r q h k = one_sort_alone d r q h k
one_given_by _ d r q h k = h ∙ sym k

one_span : (d : Document) (from : Option Document) (n : ℕ) → One (SpanRenders d from n)
one_span d from n o p h k = one_result (IsFromNowAt d from) n (one_from_now_at d from) o p h k

one_from : (ms : Members) (M : List ℕ → Meaning) → OneEach M → OneMeaning (FromNowRenders ms M)
one_from ms M each scopes n o p h k =
    one_operand (M (codes "$fromNow")) scopes n (λ d m q. MatchBool (is_some (member_at (codes "from") ms)) (Operand (M (codes "from")) scopes m (λ from j. SpanRenders d (Some from) j) q) (SpanRenders d (bound (codes "now") scopes) m q)) (each (codes "$fromNow"))
    (λ d m. one_branch (is_some (member_at (codes "from") ms)) (Operand (M (codes "from")) scopes m (λ from j. SpanRenders d (Some from) j)) (SpanRenders d (bound (codes "now") scopes) m)
    (one_operand (M (codes "from")) scopes m (λ from j. SpanRenders d (Some from) j) (each (codes "from")) (λ from j. one_span d (Some from) j)) (one_span d (bound (codes "now") scopes) m)) o p h k

one_alone : (operator : Operator) (ms : Members) (M : List ℕ → Meaning) (B : List ℕ → List ℕ → Meaning) → OneEach M → ((key : List ℕ) → OneEach (B key)) → OneMeaning (AloneRenders operator ms M B)
one_alone Eval ms M B each branches scopes n o p h k = one_eval ms scopes n o p h k
one_alone If ms M B each branches scopes n o p h k = one_if ms M each scopes n o p h k
one_alone Switch ms M B each branches scopes n o p h k = one_switch (member_at (codes "$switch") ms) (B (codes "$switch")) (branches (codes "$switch")) scopes n o p h k
one_alone Match ms M B each branches scopes n o p h k = one_match (member_at (codes "$match") ms) (B (codes "$match")) (branches (codes "$match")) scopes n o p h k
one_alone Let ms M B each branches scopes n o p h k = one_let M each scopes n o p h k
one_alone FromNow ms M B each branches scopes n o p h k = one_from ms M each scopes n o p h k
one_alone operator ms M B each branches scopes n o p h k =
    one_operand (M (key_of operator)) scopes n (Given operator) (each (key_of operator)) (λ d m. one_result (IsGivenBy operator d) m (one_given_by operator d)) o p h k

one_over : (operator : Operator) (key : List ℕ) (names : List (List ℕ)) (ms : Members) (M : List ℕ → Meaning) (d : Document) → OneEach M → OneMeaning (BoundOver operator key names ms M d)
one_over Map key names ms M d each scopes n o p h k = one_mapped (M key) (each key) names d scopes n o p h k
one_over Reduce key names ms M d each scopes n o p h k =
    one_operand (M (codes "initial")) scopes n (λ initial. ReducedOver (M key) names initial d scopes) (each (codes "initial")) (λ initial m. one_reduced (M key) (each key) names initial d scopes m) o p h k
one_over Find key names ms M d each scopes n o p h k = one_found (member_at key ms) names d scopes n o p h k
one_over Sort key names ms M d each scopes n o p h k = one_sorted_by (member_at key ms) names d scopes n o p h k
one_over _ key names ms M d each scopes n o p h k = h ∙ sym k

one_by_form : (form : Form) (P : Meaning) (ms : Members) (M : List ℕ → Meaning) (B : List ℕ → List ℕ → Meaning) → OneMeaning P → OneEach M → ((key : List ℕ) → OneEach (B key)) → OneMeaning (FormRenders form P ms M B)
one_by_form plain P ms M B one each branches scopes n o p h k = one scopes n o p h k
one_by_form (faulty f) P ms M B one each branches scopes n o p h k = h ∙ sym k
one_by_form (alone operator) P ms M B one each branches scopes n o p h k = one_alone operator ms M B each branches scopes n o p h k
one_by_form (binding operator key names) P ms M B one each branches scopes n o p h k =
    one_operand (M (key_of operator)) scopes n (λ d. BoundOver operator key names ms M d scopes) (each (key_of operator)) (λ d m. one_over operator key names ms M d each scopes m) o p h k

one_keys : (count : ℕ) (ms : Members) (vs : List (List ℕ × Document)) (scopes : List Document) (n : ℕ) → One (KeysRender count ms vs scopes n)
one_keys count ms [] scopes n o p h k = h ∙ sym k
one_keys count ms (v ∷ vs) scopes n o p h k =
    one_after (Written (key_text v.0) scopes n) (λ key m q. MatchBool (is_some (member_at key ms)) (q ≡ faulted KeyTwice []) (KeysRender count (put key v.1 ms) vs scopes m q)) (one_written (key_text v.0) scopes n)
    (λ key m. one_branch (is_some (member_at key ms)) (λ q. q ≡ faulted KeyTwice []) (KeysRender count (put key v.1 ms) vs scopes m) (one_is (faulted KeyTwice [])) (one_keys count (put key v.1 ms) vs scopes m)) o p h k

one_under : (step : List ℕ) (Is : Outcome (Option Document) → Type 0) → One Is → One (Under step Is)
one_under step Is one o p (q, is, e) (r, also, i) = e ∙ ap (under step) (one q r is also) ∙ sym i

mutual
  one_renders : (d : Document) → OneMeaning (Renders d)
  one_renders null scopes n o p h k = h ∙ sym k
  one_renders (boolean b) scopes n o p h k = h ∙ sym k
  one_renders (whole z) scopes n o p h k = h ∙ sym k
  one_renders (text bs) scopes n o p h k = one_after (Written bs scopes n) (λ cs m q. q ≡ given (Some (text cs)) m) (one_written bs scopes n) (λ cs m. one_is (given (Some (text cs)) m)) o p h k
  one_renders (array ds) scopes n o p h k =
      one_after (ItemsRender 0 [] ds scopes n) (λ es m q. q ≡ pay m (1 + length (listed ds)) (Some (array (items_of es)))) (one_items 0 [] ds scopes n) (λ es m. one_is (pay m (1 + length (listed ds)) (Some (array (items_of es))))) o p h k
  one_renders (object ms) scopes n o p (form, is, h) (also, it, k) =
      one_by_form form (λ s m. After (ValuesRender [] ms s m) (λ vs. KeysRender (length (keys_of ms)) no_members vs s)) ms (λ key. MemberRenders key ms) (λ key inner. BranchRenders key inner ms)
      (λ s m. one_after (ValuesRender [] ms s m) (λ vs. KeysRender (length (keys_of ms)) no_members vs s) (one_values [] ms s m) (λ vs j. one_keys (length (keys_of ms)) no_members vs s j))
      (λ key. one_member key ms) (λ key inner. one_inner_branch key inner ms) scopes n o p h
      (subst (λ f. FormRenders f (λ s m. After (ValuesRender [] ms s m) (λ vs. KeysRender (length (keys_of ms)) no_members vs s)) ms (λ key. MemberRenders key ms) (λ key inner. BranchRenders key inner ms) scopes n p) (one_form ms also form it is) k)

  one_items : (i : ℕ) (done : List Document) (ds : Items) (scopes : List Document) (n : ℕ) → One (ItemsRender i done ds scopes n)
  one_items i done no_items scopes n o p h k = h ∙ sym k
  one_items i done (item d ds) scopes n o p h k =
      one_after (Under (decimal i) (Renders d scopes n)) (λ found m. ItemsRender (i + 1) (done ++ kept found) ds scopes m) (one_under (decimal i) (Renders d scopes n) (one_renders d scopes n)) (λ found m. one_items (i + 1) (done ++ kept found) ds scopes m) o p h k

  one_values : (done : List (List ℕ × Document)) (ms : Members) (scopes : List Document) (n : ℕ) → One (ValuesRender done ms scopes n)
  one_values done no_members scopes n o p h k = h ∙ sym k
  one_values done (member key d ms) scopes n o p h k =
      one_after (Under (escaped key) (Renders d scopes n)) (λ found m. ValuesRender (done ++ kept_at key found) ms scopes m) (one_under (escaped key) (Renders d scopes n) (one_renders d scopes n)) (λ found m. one_values (done ++ kept_at key found) ms scopes m) o p h k

  one_member : (key : List ℕ) (ms : Members) → OneMeaning (MemberRenders key ms)
  one_member key no_members scopes n o p h k = h ∙ sym k
  one_member key (member l d ms) scopes n o p h k =
      one_branch (is_eq (slice_cmp nat_cmp key l)) (Under (escaped key) (Renders d scopes n)) (MemberRenders key ms scopes n) (one_under (escaped key) (Renders d scopes n) (one_renders d scopes n)) (one_member key ms scopes n) o p h k

  one_inner_branch : (key inner : List ℕ) (ms : Members) → OneMeaning (BranchRenders key inner ms)
  one_inner_branch key inner no_members scopes n o p h k = h ∙ sym k
  one_inner_branch key inner (member l d ms) scopes n o p h k =
      one_branch (is_eq (slice_cmp nat_cmp key l)) (Under (escaped key) (InnerRenders inner d scopes n)) (BranchRenders key inner ms scopes n) (one_under (escaped key) (InnerRenders inner d scopes n) (one_inner inner d scopes n)) (one_inner_branch key inner ms scopes n) o p h k

  one_inner : (inner : List ℕ) (d : Document) → OneMeaning (InnerRenders inner d)
  one_inner inner (object ms) scopes n o p h k = one_member inner ms scopes n o p h k
  one_inner inner _ scopes n o p h k = h ∙ sym k

pub one_rendering : (template context : Document) (o p : Outcome Document) → IsRendered template context o → IsRendered template context p → o ≡ p
one_rendering template (object ms) o p h k =
    one_branch (list_all is_name (keys_of ms)) (Operand (Renders template) (object ms ∷ []) 0 (λ d n q. q ≡ given d n)) (λ q. q ≡ faulted BadContext [])
    (one_operand (Renders template) (object ms ∷ []) 0 (λ d n q. q ≡ given d n) (one_renders template) (λ d n. one_is (given d n))) (one_is (faulted BadContext [])) o p h k
one_rendering template _ o p h k = h ∙ sym k
