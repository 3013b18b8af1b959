-- Passing over right sides at once.
use Rattle.std.proofs.Common.{◌≡◌, ℕ, zero, suc, ◌+◌, ◌-◌, ◌<◌, ◌≤◌, Bool, true, false, arith, List, [], ◌∷◌, length, drop, get_or, reverse, Result, Ok, Err, refl, sym, ap, subst, ◌∙◌}
use Rattle.std.proofs.lemmas.List.{drop_all}
use Rattle.std.specs.Bool.{MatchBool}
use Rattle.farm_text.specs.Document.{Document}
use Rattle.jsone_values.specs.declared.faults.Fault.{Fault}
use Rattle.jsone_expr.specs.declared.nodes.Node.{Node}
use Rattle.jsone_expr.specs.declared.nodes.Node.TheVariants.{Number as number_node, Text as text_node, Literal as literal_node, Name as name_node, Unary as unary_node, Left as left_node, Binary as binary_node, Group as group_node, Member as member_node, Index as index_node, Slice as slice_node, Begin as begin_node, Item as item_node, Call as call_node, Items as items_node, Field as field_node, Entries as entries_node}
use Rattle.jsone_eval.specs.Ends.{beyond, EndsOf, met, place_in}
use Rattle.jsone_eval.specs.Machine.{Part, Moved, went, ended, pushed, IsPushed, IsGathered, IsStep, passed, Runs, Does, Leads, values_in, parts_in}
use Rattle.jsone_eval.specs.declared.evaluator.EvalFault.{EvalFault}
use Rattle.jsone_eval.specs.declared.machine.Machine.{Machine}
use Rattle.jsone_eval.proofs.MachineLemmas.{step_leads}
use Rattle.jsone_eval.specs.Outcomes.{Outcome, given, faulted, too_much, at_node}
use Rattle.jsone_eval.specs.Values.{Setting, text_at, key_span}

-- passing over at once leads where passing over node by node does
pub beyond_runs : (s : Setting) (k : ℕ) (xs : List Node) (vs : List Document) (gs : List Part) (n : ℕ) (o : Outcome) → Runs s (beyond k xs) vs gs zero n o → Runs s xs vs gs k n o
beyond_runs s zero xs vs gs n o h = h
beyond_runs s (suc k) [] vs gs n o h = h
beyond_runs s (suc k) (x ∷ xs) vs gs n o h = beyond_runs s (passed x (suc k)) xs vs gs n o h

-- how many right sides are passed over behind a step
abbrev passed_in : Moved → ℕ
passed_in (went vs gs k n) = k
passed_in (ended o) = 0

pushed_upto : (vs : List Document) (gs : List Part) (k : ℕ) (o : Outcome) → passed_in (pushed vs gs k o) ≤ k
pushed_upto vs gs k (given d n) = omega arith
pushed_upto vs gs k (faulted f) = omega arith
pushed_upto vs gs k too_much = omega arith

upto_one : (p q : Moved) → p ≡ q → passed_in q ≤ 1 → passed_in p ≤ 1
upto_one p q e h = subst (λ x. passed_in x ≤ 1) (sym e) h

value_upto : (n : ℕ) (R : Result Document Fault → Type 0) (vs : List Document) (gs : List Part) (p : Moved) → IsPushed n R vs gs zero p → passed_in p ≤ 1
value_upto n R vs gs p (r, is, e) = upto_one p (pushed vs gs zero (at_node n r)) e (omega (arith, pushed_upto vs gs zero (at_node n r)))

key_upto : (found : Result (List ℕ) Fault) (vs : List Document) (gs : List Part) (n : ℕ) (p : Moved) → IsGathered found vs gs zero n p → passed_in p ≤ 1
key_upto (Ok key) vs gs n p e = upto_one p _ e (omega arith)
key_upto (Err f) vs gs n p e = upto_one p _ e (omega arith)

left_upto : (b : Bool) (us vs : List Document) (gs : List Part) (n : ℕ) (o : Outcome) (p : Moved) → MatchBool b (p ≡ pushed us gs (suc zero) o) (p ≡ went vs gs zero n) → passed_in p ≤ 1
left_upto true us vs gs n o p e = upto_one p (pushed us gs (suc zero) o) e (omega (arith, pushed_upto us gs (suc zero) o))
left_upto false us vs gs n o p e = upto_one p (went vs gs zero n) e (omega arith)

step_upto : (s : Setting) (x : Node) (vs : List Document) (gs : List Part) (n : ℕ) (p : Moved) → IsStep s x vs gs zero n p → passed_in p ≤ 1
step_upto s (number_node d) vs gs n p h = value_upto n _ _ _ p h
step_upto s (text_node t) vs gs n p h = value_upto n _ _ _ p h
step_upto s (literal_node l) vs gs n p h = value_upto n _ _ _ p h
step_upto s (name_node w) vs gs n p h = value_upto n _ _ _ p h
step_upto s (unary_node g) vs gs n p h = value_upto n _ _ _ p h
step_upto s (left_node g) vs gs n p h = left_upto _ _ vs gs n _ p h
step_upto s (binary_node g) vs gs n p h = value_upto n _ _ _ p h
step_upto s group_node vs gs n p h = value_upto n _ _ _ p h
step_upto s (member_node w) vs gs n p h = value_upto n _ _ _ p h
step_upto s index_node vs gs n p h = value_upto n _ _ _ p h
step_upto s (slice_node from to) vs gs n p h = value_upto n _ _ _ p h
step_upto s begin_node vs gs n p h = upto_one p _ h (omega arith)
step_upto s item_node vs gs n p h = upto_one p _ h (omega arith)
step_upto s (call_node w) vs gs n p h = value_upto n _ _ _ p h
step_upto s items_node vs gs n p h = value_upto n _ _ _ p h
step_upto s (field_node key) vs gs n p h = key_upto (text_at s.source (key_span key)) vs gs n p h
step_upto s entries_node vs gs n p h = value_upto n _ _ _ p h

-- behind a step: the next node, or the one behind the right side that is passed over
pub goes_next : (s : Setting) (x : Node) (xs : List Node) (vs us : List Document) (gs hs : List Part) (j n m : ℕ) → IsStep s x vs gs zero n (went us hs j m) → j ≡ zero → (o : Outcome) → Runs s xs us hs zero m o → Runs s (x ∷ xs) vs gs zero n o
goes_next s x xs vs us gs hs j n m step none o h = (went us hs j m, step, subst (λ k. Runs s xs us hs k m o) (sym none) h)

pub goes_beyond : (s : Setting) (x : Node) (xs next : List Node) (vs us : List Document) (gs hs : List Part) (j n m : ℕ) → IsStep s x vs gs zero n (went us hs j m) → 0 < j → next ≡ beyond 1 xs → (o : Outcome) → Runs s next us hs zero m o → Runs s (x ∷ xs) vs gs zero n o
goes_beyond s x xs next vs us gs hs j n m step some is o h =
    let upto : j ≤ 1 = step_upto s x vs gs n (went us hs j m) step in
    let one : j ≡ 1 = omega (arith, some, upto) in
    (went us hs j m, step, subst (λ k. Runs s xs us hs k m o) (sym one) (beyond_runs s 1 xs us hs m o (subst (λ l. Runs s l us hs zero m o) is h)))

-- the same of a step of the machine, behind which it was told that it passes over a right side
abbrev Stepped : Setting → Node → Machine → Machine → Type 0
Stepped s x m after = IsStep s x (values_in m) (parts_in m) m.passed m.spent (went (values_in after) (parts_in after) after.passed after.spent)

stepped_from : (s : Setting) (x : Node) (m after : Machine) → m.passed ≡ zero → Stepped s x m after → IsStep s x (values_in m) (parts_in m) zero m.spent (went (values_in after) (parts_in after) after.passed after.spent)
stepped_from s x m after none step = subst (λ k. IsStep s x (values_in m) (parts_in m) k m.spent (went (values_in after) (parts_in after) after.passed after.spent)) none step

told_so : (s : Setting) (xs : List Node) (after told : Machine) (o : Outcome) → values_in told ≡ values_in after → parts_in told ≡ parts_in after → told.spent ≡ after.spent → Runs s xs (values_in told) (parts_in told) zero told.spent o → Runs s xs (values_in after) (parts_in after) zero after.spent o
told_so s xs after told o values parts spent h =
    subst (λ vs. Runs s xs vs (parts_in after) zero after.spent o) values (subst (λ gs. Runs s xs (values_in told) gs zero after.spent o) parts (subst (λ n. Runs s xs (values_in told) (parts_in told) zero n o) spent h))

pub goes_next_so : (s : Setting) (x : Node) (xs : List Node) (m after told : Machine) → Stepped s x m after → m.passed ≡ zero → after.passed ≡ 0 → values_in told ≡ values_in after → parts_in told ≡ parts_in after → told.spent ≡ after.spent
    → (o : Outcome) → Runs s xs (values_in told) (parts_in told) zero told.spent o → Runs s (x ∷ xs) (values_in m) (parts_in m) zero m.spent o
goes_next_so s x xs m after told step none neither values parts spent o h =
    goes_next s x xs (values_in m) (values_in after) (parts_in m) (parts_in after) after.passed m.spent after.spent (stepped_from s x m after none step) neither o (told_so s xs after told o values parts spent h)

pub goes_beyond_so : (s : Setting) (x : Node) (xs next : List Node) (m after told : Machine) → Stepped s x m after → m.passed ≡ zero → 0 < after.passed → next ≡ beyond 1 xs → values_in told ≡ values_in after → parts_in told ≡ parts_in after → told.spent ≡ after.spent
    → (o : Outcome) → Runs s next (values_in told) (parts_in told) zero told.spent o → Runs s (x ∷ xs) (values_in m) (parts_in m) zero m.spent o
goes_beyond_so s x xs next m after told step none some is values parts spent o h =
    goes_beyond s x xs next (values_in m) (values_in after) (parts_in m) (parts_in after) after.passed m.spent after.spent (stepped_from s x m after none step) some is o (told_so s next after told o values parts spent h)

pub leads_so : (s : Setting) (x : Node) (m : Machine) (fault : EvalFault) (after : Machine) → m.passed ≡ zero → Does {A = Unit {0}} (IsStep s x (values_in m) (parts_in m) m.passed m.spent) (Err fault) after
    → Leads {A = Unit {0}} s x (values_in m) (parts_in m) zero m.spent (Err fault) after
leads_so s x m fault after none does = step_leads {A = Unit {0}} s x (values_in m) (parts_in m) zero m.spent (Err fault) after refl (subst (λ k. Does {A = Unit {0}} (IsStep s x (values_in m) (parts_in m) k m.spent) (Err fault) after) none does)

-- the places behind right sides that are not begun, for the nodes that are left
abbrev pub Opens : List Node → List Node → List ℕ → Type 0
Opens nodes xs places = (k : ℕ) → (drop (place_in (length nodes) places k) nodes ≡ beyond (suc k) xs) × (length nodes ≤ place_in (length nodes) places k + length xs)

pub opens_none : (nodes : List Node) → Opens nodes [] []
opens_none nodes = λ k. (drop_all (length nodes) nodes (omega arith), omega arith)

opens_at : (nodes xs : List Node) (x : Node) (place : ℕ) (places : List ℕ) → drop place nodes ≡ xs → length nodes ≤ place + length xs → Opens nodes xs places → (k : ℕ)
    → (drop (place_in (length nodes) (met x place places) k) nodes ≡ beyond (suc k) (x ∷ xs)) × (length nodes ≤ place_in (length nodes) (met x place places) k + suc (length xs))
opens_at nodes xs (left_node g) place [] is upto h k = ((h (suc k)).0, omega (arith, (h (suc k)).1))
opens_at nodes xs (left_node g) place (e ∷ es) is upto h k = ((h (suc k)).0, omega (arith, (h (suc k)).1))
opens_at nodes xs (binary_node g) place places is upto h zero = (is, omega (arith, upto))
opens_at nodes xs (binary_node g) place places is upto h (suc k) = ((h k).0, omega (arith, (h k).1))
opens_at nodes xs (number_node d) place places is upto h k = ((h k).0, omega (arith, (h k).1))
opens_at nodes xs (text_node t) place places is upto h k = ((h k).0, omega (arith, (h k).1))
opens_at nodes xs (literal_node l) place places is upto h k = ((h k).0, omega (arith, (h k).1))
opens_at nodes xs (name_node w) place places is upto h k = ((h k).0, omega (arith, (h k).1))
opens_at nodes xs (unary_node g) place places is upto h k = ((h k).0, omega (arith, (h k).1))
opens_at nodes xs group_node place places is upto h k = ((h k).0, omega (arith, (h k).1))
opens_at nodes xs (member_node w) place places is upto h k = ((h k).0, omega (arith, (h k).1))
opens_at nodes xs index_node place places is upto h k = ((h k).0, omega (arith, (h k).1))
opens_at nodes xs (slice_node from to) place places is upto h k = ((h k).0, omega (arith, (h k).1))
opens_at nodes xs begin_node place places is upto h k = ((h k).0, omega (arith, (h k).1))
opens_at nodes xs item_node place places is upto h k = ((h k).0, omega (arith, (h k).1))
opens_at nodes xs (call_node w) place places is upto h k = ((h k).0, omega (arith, (h k).1))
opens_at nodes xs items_node place places is upto h k = ((h k).0, omega (arith, (h k).1))
opens_at nodes xs (field_node key) place places is upto h k = ((h k).0, omega (arith, (h k).1))
opens_at nodes xs entries_node place places is upto h k = ((h k).0, omega (arith, (h k).1))

-- one node more, from the end
pub opens_more : (nodes left xs : List Node) (x : Node) (place : ℕ) (places new : List ℕ) → left ≡ x ∷ xs → drop place nodes ≡ xs → length nodes ≤ place + length xs → new ≡ met x place places → Opens nodes xs places → Opens nodes left new
opens_more nodes left xs x place places new split is upto more h =
    subst (λ l. Opens nodes l new) (sym split) (subst (Opens nodes (x ∷ xs)) (sym more) (λ k. opens_at nodes xs x place places is upto h k))

pub ends_more : (nodes left xs : List Node) (x : Node) (places es new : List ℕ) (e : ℕ) → left ≡ x ∷ xs → new ≡ e ∷ es → e ≡ place_in (length nodes) places 0 → Opens nodes xs places → EndsOf nodes xs es → EndsOf nodes left new
ends_more nodes left xs x places es new e split more is h ends =
    subst (λ l. EndsOf nodes l new) (sym split) (subst (EndsOf nodes (x ∷ xs)) (sym (more ∙ ap (λ i. i ∷ es) is)) ((h 0).0, (h 0).1, ends))

-- there is an end for each node
pub ends_length : (nodes xs : List Node) (es : List ℕ) → EndsOf nodes xs es → length es ≡ length xs
ends_length nodes [] [] ends = refl
ends_length nodes [] (e ∷ es) ends = absurd ends
ends_length nodes (x ∷ xs) [] ends = absurd ends
ends_length nodes (x ∷ xs) (e ∷ es) ends = ap suc (ends_length nodes xs es ends.2)

pub end_at : (nodes xs : List Node) (es : List ℕ) (i d : ℕ) → i < length xs → EndsOf nodes xs es → (drop (get_or es i d) nodes ≡ beyond 1 (drop (suc i) xs)) × (length nodes ≤ get_or es i d + (length xs - suc i))
end_at nodes [] es i d less ends = absurd (omega (arith, less))
end_at nodes (x ∷ xs) [] i d less ends = absurd ends
end_at nodes (x ∷ xs) (e ∷ es) zero d less ends = (ends.0, omega (arith, ends.1))
end_at nodes (x ∷ xs) (e ∷ es) (suc i) d less ends = let rest = end_at nodes xs es i d (omega (arith, less)) ends.2 in (rest.0, omega (arith, rest.1))

pub ends_none : (nodes : List Node) (es : List ℕ) → es ≡ [] → EndsOf nodes (drop (length nodes) nodes) (reverse es)
ends_none nodes es e = subst (λ l. EndsOf nodes l (reverse es)) (sym (drop_all (length nodes) nodes (omega arith))) (subst (λ l. EndsOf nodes [] (reverse l)) (sym e) tt)

pub opens_first : (nodes : List Node) (ps : List ℕ) → ps ≡ [] → Opens nodes (drop (length nodes) nodes) (reverse ps)
opens_first nodes ps e = subst (λ l. Opens nodes l (reverse ps)) (sym (drop_all (length nodes) nodes (omega arith))) (subst (λ l. Opens nodes [] (reverse l)) (sym e) (opens_none nodes))
