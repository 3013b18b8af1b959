-- A template has an outcome.
use Rattle.std.proofs.Common.{◌≡◌, ℕ, ◌+◌, codes, List, [], ◌∷◌, ◌++◌, length, decimal, if◌then◌else◌, is_some, Option, Some, None, Result, Err, is_eq, nat_cmp, refl}
use Rattle.std.specs.Bool.{MatchBool}
use Rattle.std.specs.Cmp.Lexicographic.{slice_cmp}
use Rattle.std.specs.List.{list_all}
use Rattle.farm_text.specs.Document.{Document, null, boolean, whole, text, array, object, items_of, Items, no_items, item, Members, no_members, member, member_at, put}
use Rattle.farm_text.specs.Reading.{escaped}
use Rattle.jsone_values.specs.declared.faults.Fault.{Fault}
use Rattle.jsone_values.specs.declared.faults.Fault.TheVariants.{WrongKind, KeyTwice, TwoBranches, BadOperator, BadContext}
use Rattle.jsone_values.specs.Members.{listed}
use Rattle.jsone_values.specs.Truth.{is_true}
use Rattle.jsone_eval.specs.Calls.{IsFromNowAt}
use Rattle.jsone_eval.specs.Scopes.{bound}
use Rattle.jsone_eval.proofs.Existence.{Exists, here, some_same, follow, some_branch}
use Rattle.jsone_eval.proofs.SomeValue.{some_from_now_at}
use Rattle.jsone_render.specs.declared.operators.Operator.{Operator}
use Rattle.jsone_render.specs.declared.operators.Operator.TheVariants.{Eval, If, Switch, Match, Let, Map, Reduce, Find, Sort, FromNow}
use Rattle.jsone_render.specs.Bindings.{LetIn, LetRenders, bound_to, numbered, turns_of, both, EachRenders, MappedOver, or_before, TurnsReduce, ReducedOver, FirstTrue, FoundIn}
use Rattle.jsone_render.specs.Conditions.{Taken, EvalRenders, branch_of, IfRenders, AreTrue, default_key, conditions_of, OneTaken, SwitchRenders, AllTaken, MatchRenders}
use Rattle.jsone_render.specs.Expressions.{Evaluated, ValueAt}
use Rattle.jsone_render.specs.Forms.{Form, plain, faulty, alone, binding, key_of, IsForm}
use Rattle.jsone_render.specs.Maps.{keys_of, key_text, kept_at, KeysRender}
use Rattle.jsone_render.specs.Merges.{merged}
use Rattle.jsone_render.specs.Names.{is_name}
use Rattle.jsone_render.specs.Outcomes.{Outcome, given, faulted, pay, worth, at_operator, as_found, under, After, or_null, kept, Meaning, Operand}
use Rattle.jsone_render.specs.Sorting.{IsSortOf, KeysEvaluated, Sorted, SortedBy}
use Rattle.jsone_render.specs.Templates.{IsGivenBy, Given, SpanRenders, FromNowRenders, AloneRenders, BoundOver, FormRenders, Under, Renders, ItemsRender, ValuesRender, MemberRenders, BranchRenders, InnerRenders, IsRendered}
use Rattle.jsone_render.specs.Texts.{Written}
use Rattle.jsone_render.proofs.SomeParts.{some_after, some_of_text, some_evaluated, some_written, some_form}
use Rattle.jsone_render.proofs.SomeSorting.{some_sort_of, some_sort_alone}

-- each meaning of this kind has an outcome
abbrev SomeMeaning : Meaning → Type 0
SomeMeaning M = (scopes : List Document) (n : ℕ) → Exists (M scopes n)

abbrev SomeEach : (List ℕ → Meaning) → Type 0
SomeEach M = (key : List ℕ) → SomeMeaning (M key)

some_operand : {A : Type 0} (M : Meaning) (scopes : List Document) (n : ℕ) (F : Document → ℕ → Outcome A → Type 0) → SomeMeaning M → ((d : Document) (m : ℕ) → Exists (F d m)) → Exists (Operand M scopes n F)
some_operand M scopes n F some follows = some_after (M scopes n) (λ found m. F (or_null found) m) (some scopes n) (λ found m. follows (or_null found) m)

some_taken : (M : Meaning) → SomeMeaning M → SomeMeaning (Taken M)
some_taken M some scopes n = some_after (M scopes n) (λ found m q. q ≡ worth m found) (some scopes n) (λ found m. some_same (worth m found))

some_value_at : (key : List ℕ) (ms : Members) (scopes : List Document) (n : ℕ) → Exists (ValueAt key ms scopes n)
some_value_at key ms scopes n = some_of_text (member_at key ms) (λ source. Evaluated source scopes n) (λ source. some_evaluated source scopes n)

some_eval : (ms : Members) → SomeMeaning (EvalRenders ms)
some_eval ms scopes n = some_after (ValueAt (codes "$eval") ms scopes n) (λ d m q. q ≡ worth m (Some d)) (some_value_at (codes "$eval") ms scopes n) (λ d m. some_same (worth m (Some d)))

some_if : (ms : Members) (M : List ℕ → Meaning) → SomeEach M → SomeMeaning (IfRenders ms M)
some_if ms M each scopes n =
    some_after (ValueAt (codes "$if") ms scopes n) (λ d. Taken (M (branch_of d)) scopes) (some_value_at (codes "$if") ms scopes n) (λ d m. some_taken (M (branch_of d)) (each (branch_of d)) scopes m)

some_true : (found ks : List (List ℕ)) (scopes : List Document) (n : ℕ) → Exists (AreTrue found ks scopes n)
some_true found [] scopes n = some_same (given found n)
some_true found (c ∷ ks) scopes n =
    some_after (Evaluated c scopes n) (λ d m. AreTrue (found ++ (if is_true d then c ∷ [] else [])) ks scopes m) (some_evaluated c scopes n) (λ d m. some_true (found ++ (if is_true d then c ∷ [] else [])) ks scopes m)

some_branch_taken : (B : List ℕ → Meaning) → SomeEach B → (found : List (List ℕ)) → SomeMeaning (OneTaken B found)
some_branch_taken B each [] scopes n = some_taken (B default_key) (each default_key) scopes n
some_branch_taken B each (c ∷ []) scopes n = some_taken (B c) (each c) scopes n
some_branch_taken B each (c ∷ l ∷ ks) scopes n = some_same (faulted TwoBranches [])

some_switch : (x : Option Document) (B : List ℕ → Meaning) → SomeEach B → SomeMeaning (SwitchRenders x B)
some_switch (Some (object bs)) B each scopes n =
    some_after (AreTrue [] (conditions_of bs) scopes n) (λ found. OneTaken B found scopes) (some_true [] (conditions_of bs) scopes n) (λ found m. some_branch_taken B each found scopes m)
some_switch (Some _) B each scopes n = some_same (faulted WrongKind [])
some_switch None B each scopes n = some_same (faulted WrongKind [])

some_all_taken : (B : List ℕ → Meaning) → SomeEach B → (done : List Document) (ks : List (List ℕ)) → SomeMeaning (AllTaken B done ks)
some_all_taken B each done [] scopes n = some_same (worth n (Some (array (items_of done))))
some_all_taken B each done (c ∷ ks) scopes n =
    some_after (B c scopes n) (λ found m. AllTaken B (done ++ kept found) ks scopes m) (each c scopes n) (λ found m. some_all_taken B each (done ++ kept found) ks scopes m)

some_match : (x : Option Document) (B : List ℕ → Meaning) → SomeEach B → SomeMeaning (MatchRenders x B)
some_match (Some (object bs)) B each scopes n =
    some_after (AreTrue [] (keys_of bs) scopes n) (λ found. AllTaken B [] found scopes) (some_true [] (keys_of bs) scopes n) (λ found m. some_all_taken B each [] found scopes m)
some_match (Some _) B each scopes n = some_same (faulted WrongKind [])
some_match None B each scopes n = some_same (faulted WrongKind [])

some_let_in : (d : Document) (M : Meaning) → SomeMeaning M → SomeMeaning (LetIn d M)
some_let_in (object ms) M some scopes n =
    some_branch (list_all is_name (keys_of ms)) (Taken M (scopes ++ object ms ∷ []) n) (λ q. q ≡ faulted BadOperator []) (some_taken M some (scopes ++ object ms ∷ []) n) (some_same (faulted BadOperator []))
some_let_in _ M some scopes n = some_same (faulted WrongKind [])

some_let : (M : List ℕ → Meaning) → SomeEach M → SomeMeaning (LetRenders M)
some_let M each scopes n = some_operand (M (codes "$let")) scopes n (λ d. LetIn d (M (codes "in")) scopes) (each (codes "$let")) (λ d m. some_let_in d (M (codes "in")) (each (codes "in")) scopes m)

some_each : (M : Meaning) → SomeMeaning M → (names : List (List ℕ)) (done : List Document) (ts : List (Document × Document)) (scopes : List Document) (n : ℕ) → Exists (EachRenders M names done ts scopes n)
some_each M some names done [] scopes n = some_same (given done n)
some_each M some names done (t ∷ ts) scopes n =
    some_after (M (scopes ++ bound_to names (both t)) n) (λ found m. EachRenders M names (done ++ kept found) ts scopes m) (some (scopes ++ bound_to names (both t)) n)
    (λ found m. some_each M some names (done ++ kept found) ts scopes m)

some_mapped : (M : Meaning) → SomeMeaning M → (names : List (List ℕ)) (d : Document) → SomeMeaning (MappedOver M names d)
some_mapped M some names (array ds) scopes n =
    some_after (EachRenders M names [] (numbered 0 (listed ds)) scopes n) (λ es m q. q ≡ worth m (Some (array (items_of es)))) (some_each M some names [] (numbered 0 (listed ds)) scopes n)
    (λ es m. some_same (worth m (Some (array (items_of es)))))
some_mapped M some names (object ms) scopes n =
    some_after (EachRenders M names [] (turns_of names ms) scopes n) (λ es m q. q ≡ at_operator m (as_found (merged es))) (some_each M some names [] (turns_of names ms) scopes n)
    (λ es m. some_same (at_operator m (as_found (merged es))))
some_mapped M some names _ scopes n = some_same (faulted WrongKind [])

some_turns : (M : Meaning) → SomeMeaning M → (names : List (List ℕ)) (before : Document) (ts : List (Document × Document)) → SomeMeaning (TurnsReduce M names before ts)
some_turns M some names before [] scopes n = some_same (worth n (Some before))
some_turns M some names before (t ∷ ts) scopes n =
    some_after (M (scopes ++ bound_to names (before ∷ both t)) n) (λ found m. TurnsReduce M names (or_before before found) ts scopes m) (some (scopes ++ bound_to names (before ∷ both t)) n)
    (λ found m. some_turns M some names (or_before before found) ts scopes m)

some_reduced : (M : Meaning) → SomeMeaning M → (names : List (List ℕ)) (initial d : Document) → SomeMeaning (ReducedOver M names initial d)
some_reduced M some names initial (array ds) scopes n = some_turns M some names initial (numbered 0 (listed ds)) scopes n
some_reduced M some names initial _ scopes n = some_same (faulted WrongKind [])

some_first : (source : List ℕ) (names : List (List ℕ)) (ts : List (Document × Document)) → SomeMeaning (FirstTrue source names ts)
some_first source names [] scopes n = some_same (worth n None)
some_first source names (t ∷ ts) scopes n =
    some_after (Evaluated source (scopes ++ bound_to names (both t)) n) (λ d m q. MatchBool (is_true d) (q ≡ worth m (Some t.0)) (FirstTrue source names ts scopes m q)) (some_evaluated source (scopes ++ bound_to names (both t)) n)
    (λ d m. some_branch (is_true d) (λ q. q ≡ worth m (Some t.0)) (FirstTrue source names ts scopes m) (some_same (worth m (Some t.0))) (some_first source names ts scopes m))

some_found : (x : Option Document) (names : List (List ℕ)) (d : Document) → SomeMeaning (FoundIn x names d)
some_found x names (array ds) scopes n = some_of_text x (λ e. FirstTrue e names (numbered 0 (listed ds)) scopes n) (λ e. some_first e names (numbered 0 (listed ds)) scopes n)
some_found x names _ scopes n = some_same (faulted WrongKind [])

some_keys_evaluated : (source : List ℕ) (names : List (List ℕ)) (done : List (Document × Document)) (ds : List Document) (scopes : List Document) (n : ℕ) → Exists (KeysEvaluated source names done ds scopes n)
some_keys_evaluated source names done [] scopes n = some_same (given done n)
some_keys_evaluated source names done (d ∷ ds) scopes n =
    some_after (Evaluated source (scopes ++ bound_to names (d ∷ [])) n) (λ key m. KeysEvaluated source names (done ++ (key, d) ∷ []) ds scopes m) (some_evaluated source (scopes ++ bound_to names (d ∷ [])) n)
    (λ key m. some_keys_evaluated source names (done ++ (key, d) ∷ []) ds scopes m)

-- a result of a kind gives an outcome
some_result : (R : Result Document Fault → Type 0) (n : ℕ) → Exists R → Exists (λ o. (r : Result Document Fault) × R r × (o ≡ at_operator n (as_found r)))
some_result R n some = follow some (λ r. here (λ o. (r : Result Document Fault) × R r × (o ≡ at_operator n (as_found r))) (at_operator n (as_found r.0)) (r.0, r.1, refl))

some_sorted_by : (x : Option Document) (names : List (List ℕ)) (d : Document) → SomeMeaning (SortedBy x names d)
some_sorted_by x names (array ds) scopes n =
    some_of_text x (λ e. After (KeysEvaluated e names [] (listed ds) scopes n) Sorted)
    (λ e. some_after (KeysEvaluated e names [] (listed ds) scopes n) Sorted (some_keys_evaluated e names [] (listed ds) scopes n) (λ ps m. some_result (IsSortOf ps) m (some_sort_of ps)))
some_sorted_by x names _ scopes n = some_same (faulted WrongKind [])

some_given_by : (operator : Operator) (d : Document) → Exists (IsGivenBy operator d)
some_given_by Sort d = some_sort_alone d
some_given_by _ d = some_same _

some_span : (d : Document) (from : Option Document) (n : ℕ) → Exists (SpanRenders d from n)
some_span d from n = some_result (IsFromNowAt d from) n (some_from_now_at d from)

some_from : (ms : Members) (M : List ℕ → Meaning) → SomeEach M → SomeMeaning (FromNowRenders ms M)
some_from ms M each scopes n =
    some_operand (M (codes "$fromNow")) scopes n
    (λ d m q. MatchBool (is_some (member_at (codes "from") ms)) (Operand (M (codes "from")) scopes m (λ from j. SpanRenders d (Some from) j) q) (SpanRenders d (bound (codes "now") scopes) m q)) (each (codes "$fromNow"))
    (λ d m. some_branch (is_some (member_at (codes "from") ms)) (Operand (M (codes "from")) scopes m (λ from j. SpanRenders d (Some from) j)) (SpanRenders d (bound (codes "now") scopes) m)
    (some_operand (M (codes "from")) scopes m (λ from j. SpanRenders d (Some from) j) (each (codes "from")) (λ from j. some_span d (Some from) j)) (some_span d (bound (codes "now") scopes) m))

some_alone : (operator : Operator) (ms : Members) (M : List ℕ → Meaning) (B : List ℕ → List ℕ → Meaning) → SomeEach M → ((key : List ℕ) → SomeEach (B key)) → SomeMeaning (AloneRenders operator ms M B)
some_alone Eval ms M B each branches scopes n = some_eval ms scopes n
some_alone If ms M B each branches scopes n = some_if ms M each scopes n
some_alone Switch ms M B each branches scopes n = some_switch (member_at (codes "$switch") ms) (B (codes "$switch")) (branches (codes "$switch")) scopes n
some_alone Match ms M B each branches scopes n = some_match (member_at (codes "$match") ms) (B (codes "$match")) (branches (codes "$match")) scopes n
some_alone Let ms M B each branches scopes n = some_let M each scopes n
some_alone FromNow ms M B each branches scopes n = some_from ms M each scopes n
some_alone operator ms M B each branches scopes n =
    some_operand (M (key_of operator)) scopes n (Given operator) (each (key_of operator)) (λ d m. some_result (IsGivenBy operator d) m (some_given_by operator d))

some_over : (operator : Operator) (key : List ℕ) (names : List (List ℕ)) (ms : Members) (M : List ℕ → Meaning) (d : Document) → SomeEach M → SomeMeaning (BoundOver operator key names ms M d)
some_over Map key names ms M d each scopes n = some_mapped (M key) (each key) names d scopes n
some_over Reduce key names ms M d each scopes n =
    some_operand (M (codes "initial")) scopes n (λ initial. ReducedOver (M key) names initial d scopes) (each (codes "initial")) (λ initial m. some_reduced (M key) (each key) names initial d scopes m)
some_over Find key names ms M d each scopes n = some_found (member_at key ms) names d scopes n
some_over Sort key names ms M d each scopes n = some_sorted_by (member_at key ms) names d scopes n
some_over _ key names ms M d each scopes n = some_same (faulted BadOperator [])

some_by_form : (form : Form) (P : Meaning) (ms : Members) (M : List ℕ → Meaning) (B : List ℕ → List ℕ → Meaning) → SomeMeaning P → SomeEach M → ((key : List ℕ) → SomeEach (B key)) → SomeMeaning (FormRenders form P ms M B)
some_by_form plain P ms M B some each branches scopes n = some scopes n
some_by_form (faulty f) P ms M B some each branches scopes n = some_same (faulted f [])
some_by_form (alone operator) P ms M B some each branches scopes n = some_alone operator ms M B each branches scopes n
some_by_form (binding operator key names) P ms M B some each branches scopes n =
    some_operand (M (key_of operator)) scopes n (λ d. BoundOver operator key names ms M d scopes) (each (key_of operator)) (λ d m. some_over operator key names ms M d each scopes m)

some_keys : (count : ℕ) (ms : Members) (vs : List (List ℕ × Document)) (scopes : List Document) (n : ℕ) → Exists (KeysRender count ms vs scopes n)
some_keys count ms [] scopes n = some_same (pay n (1 + count) (Some (object ms)))
some_keys count ms (v ∷ vs) scopes n =
    some_after (Written (key_text v.0) scopes n) (λ key m q. MatchBool (is_some (member_at key ms)) (q ≡ faulted KeyTwice []) (KeysRender count (put key v.1 ms) vs scopes m q)) (some_written (key_text v.0) scopes n)
    (λ key m. some_branch (is_some (member_at key ms)) (λ q. q ≡ faulted KeyTwice []) (KeysRender count (put key v.1 ms) vs scopes m) (some_same (faulted KeyTwice [])) (some_keys count (put key v.1 ms) vs scopes m))

some_under : (step : List ℕ) (Is : Outcome (Option Document) → Type 0) → Exists Is → Exists (Under step Is)
some_under step Is some = follow some (λ o. here (Under step Is) (under step o.0) (o.0, o.1, refl))

mutual
  some_renders : (d : Document) → SomeMeaning (Renders d)
  some_renders null scopes n = some_same (pay n 1 (Some null))
  some_renders (boolean b) scopes n = some_same (pay n 1 (Some (boolean b)))
  some_renders (whole z) scopes n = some_same (pay n 1 (Some (whole z)))
  some_renders (text bs) scopes n = some_after (Written bs scopes n) (λ cs m q. q ≡ given (Some (text cs)) m) (some_written bs scopes n) (λ cs m. some_same (given (Some (text cs)) m))
  some_renders (array ds) scopes n =
      some_after (ItemsRender 0 [] ds scopes n) (λ es m q. q ≡ pay m (1 + length (listed ds)) (Some (array (items_of es)))) (some_items 0 [] ds scopes n) (λ es m. some_same (pay m (1 + length (listed ds)) (Some (array (items_of es)))))
  some_renders (object ms) scopes n =
      follow (some_form ms) (λ form.
      follow
      (some_by_form form.0 (λ s m. After (ValuesRender [] ms s m) (λ vs. KeysRender (length (keys_of ms)) no_members vs s)) ms (λ key. MemberRenders key ms) (λ key inner. BranchRenders key inner ms)
      (λ s m. some_after (ValuesRender [] ms s m) (λ vs. KeysRender (length (keys_of ms)) no_members vs s) (some_values [] ms s m) (λ vs j. some_keys (length (keys_of ms)) no_members vs s j))
      (λ key. some_member key ms) (λ key inner. some_inner_branch key inner ms) scopes n)
      (λ o. here (Renders (object ms) scopes n) o.0 (form.0, form.1, o.1)))

  some_items : (i : ℕ) (done : List Document) (ds : Items) (scopes : List Document) (n : ℕ) → Exists (ItemsRender i done ds scopes n)
  some_items i done no_items scopes n = some_same (given done n)
  some_items i done (item d ds) scopes n =
      some_after (Under (decimal i) (Renders d scopes n)) (λ found m. ItemsRender (i + 1) (done ++ kept found) ds scopes m) (some_under (decimal i) (Renders d scopes n) (some_renders d scopes n)) (λ found m. some_items (i + 1) (done ++ kept found) ds scopes m)

  some_values : (done : List (List ℕ × Document)) (ms : Members) (scopes : List Document) (n : ℕ) → Exists (ValuesRender done ms scopes n)
  some_values done no_members scopes n = some_same (given done n)
  some_values done (member key d ms) scopes n =
      some_after (Under (escaped key) (Renders d scopes n)) (λ found m. ValuesRender (done ++ kept_at key found) ms scopes m) (some_under (escaped key) (Renders d scopes n) (some_renders d scopes n)) (λ found m. some_values (done ++ kept_at key found) ms scopes m)

  some_member : (key : List ℕ) (ms : Members) → SomeMeaning (MemberRenders key ms)
  some_member key no_members scopes n = some_same (given None n)
  some_member key (member l d ms) scopes n =
      some_branch (is_eq (slice_cmp nat_cmp key l)) (Under (escaped key) (Renders d scopes n)) (MemberRenders key ms scopes n) (some_under (escaped key) (Renders d scopes n) (some_renders d scopes n)) (some_member key ms scopes n)

  some_inner_branch : (key inner : List ℕ) (ms : Members) → SomeMeaning (BranchRenders key inner ms)
  some_inner_branch key inner no_members scopes n = some_same (given None n)
  some_inner_branch key inner (member l d ms) scopes n =
      some_branch (is_eq (slice_cmp nat_cmp key l)) (Under (escaped key) (InnerRenders inner d scopes n)) (BranchRenders key inner ms scopes n) (some_under (escaped key) (InnerRenders inner d scopes n) (some_inner inner d scopes n)) (some_inner_branch key inner ms scopes n)

  some_inner : (inner : List ℕ) (d : Document) → SomeMeaning (InnerRenders inner d)
  some_inner inner (object ms) scopes n = some_member inner ms scopes n
  some_inner inner _ scopes n = some_same (given None n)

pub some_rendering : (template context : Document) → Exists (IsRendered template context)
some_rendering template (object ms) =
    some_branch (list_all is_name (keys_of ms)) (Operand (Renders template) (object ms ∷ []) 0 (λ d n q. q ≡ given d n)) (λ q. q ≡ faulted BadContext [])
    (some_operand (Renders template) (object ms ∷ []) 0 (λ d n q. q ≡ given d n) (some_renders template) (λ d n. some_same (given d n))) (some_same (faulted BadContext []))
some_rendering template _ = some_same (faulted BadContext [])
