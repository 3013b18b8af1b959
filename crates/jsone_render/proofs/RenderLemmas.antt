-- What nodes of a template come to, from what their parts come to.
use Rattle.std.proofs.Common.{◌≡◌, ℕ, suc, ◌+◌, ◌<◌, ◌≤◌, Bool, true, false, codes, List, [], ◌∷◌, ◌++◌, length, decimal, is_some, string_bytes, get_or, drop, Vec, String, Global, Option, Some, None, Result, Ok, Err, refl, sym, ap, subst, ◌∙◌, arith, rules}
use Rattle.std.proofs.lemmas.List.{at_drop_more, at_drop_all}
use Rattle.std.specs.Bool.{MatchBool}
use Rattle.std.specs.List.{list_all}
use Rattle.farm_text.specs.Document.{Document, null, boolean, whole, text, array, object, items_of, Items, no_items, item, Members, no_members, member, member_at}
use Rattle.farm_text.specs.Doc.{document, documents, entries_of}
use Rattle.farm_text.specs.Reading.{escaped}
use Rattle.farm_text.specs.declared.doc.Doc.{Doc, the_lemmas}
use Rattle.farm_text.specs.declared.doc.Doc.TheVariants.{Null as NullDoc}
use Rattle.jsone_values.specs.declared.faults.Fault.{Fault}
use Rattle.jsone_values.specs.declared.faults.Fault.TheVariants.{WrongKind, BadOperator, TwoBranches}
use Rattle.jsone_values.specs.declared.faults.Stop.{Stop}
use Rattle.jsone_values.specs.declared.faults.Stop.TheVariants.{Fault as stop_fault, NoMemory as no_memory}
use Rattle.jsone_values.specs.Meets.{Meets}
use Rattle.jsone_values.specs.Members.{listed}
use Rattle.jsone_eval.specs.Scopes.{bound}
use Rattle.jsone_render.specs.declared.faults.RenderFault.{RenderFault}
use Rattle.jsone_render.specs.declared.operators.Operator.{Operator}
use Rattle.jsone_render.specs.declared.operators.Operator.TheVariants.{Eval, If, Switch, Match, Let, Map, Reduce, Find, Sort, FromNow}
use Rattle.jsone_render.specs.Answers.{Answers, Kept, IsUnder, IsNoMap, IsNoList, LacksMap, Finishes, branch_taken, found_in, texts_in}
use Rattle.jsone_render.specs.Bindings.{LetIn, numbered, EachRenders, MappedOver, TurnsReduce, ReducedOver}
use Rattle.jsone_render.specs.Conditions.{Taken, OneTaken, SwitchRenders, MatchRenders}
use Rattle.jsone_render.specs.Forms.{Form, IsForm, key_of}
use Rattle.jsone_render.specs.Maps.{keys_of, kept_at, KeysRender}
use Rattle.jsone_render.specs.Names.{is_name}
use Rattle.jsone_render.specs.Outcomes.{Outcome, given, faulted, pay, worth, at_operator, as_found, kept, After, Meaning, Operand}
use Rattle.jsone_render.specs.Templates.{Given, SpanRenders, AloneRenders, BoundOver, Under, Renders, ItemsRender, ValuesRender, MemberRenders, BranchRenders, FormRenders}
use Rattle.farm_text.proofs.DocLemmas.{Entry, members_in}
use Rattle.jsone_render.proofs.KindLemmas.{listed-items_of}
use Rattle.jsone_render.proofs.OutcomeLemmas.{answer_through, fault_through, fault_under, value_under, loop_step, loop_fault}
use Rattle.jsone_render.proofs.TurnLemmas.{Turns}

abbrev pub Found : Type 0
Found = Result (Option Doc) RenderFault

-- what a document is
pub of_same : (d e : Document) (scopes : List Document) (n : ℕ) (r : Found) (m : ℕ) → d ≡ e → Answers found_in (Renders e scopes n) r m → Answers found_in (Renders d scopes n) r m
of_same d e scopes n r m same h = subst (λ x. Answers found_in (Renders x scopes n) r m) (sym same) h

-- a document that is what it comes to
pub of_plain : (d v x : Document) (scopes : List Document) (n : ℕ) (r : Found) (m : ℕ) → d ≡ v → v ≡ x → ((o : Outcome (Option Document)) → o ≡ pay n 1 (Some x) → Renders x scopes n o)
    → Answers found_in (λ o. o ≡ pay n 1 (Some v)) r m → Answers found_in (Renders d scopes n) r m
of_plain d v x scopes n r m e is renders paid =
    of_same d x scopes n r m (e ∙ is) (answer_through found_in (λ o. o ≡ pay n 1 (Some x)) (Renders x scopes n) r m renders (subst (λ y. Answers found_in (λ o. o ≡ pay n 1 (Some y)) r m) is paid))

pub document-Null : document NullDoc ≡ null
document-Null = search (rules, the_lemmas)

pub of_list : (d : Document) (ds es : List Document) (scopes : List Document) (n m k : ℕ) (r : Found) → d ≡ array (items_of ds) → ItemsRender 0 [] (items_of ds) scopes n (given es m)
    → Answers found_in (λ o. o ≡ pay m (1 + length ds) (Some (array (items_of es)))) r k → Answers found_in (Renders d scopes n) r k
of_list d ds es scopes n m k r e h paid =
    of_same d (array (items_of ds)) scopes n r k e
    (answer_through found_in (λ o. o ≡ pay m (1 + length ds) (Some (array (items_of es)))) (Renders (array (items_of ds)) scopes n) r k
    (λ o l. (given es m, h, l ∙ ap (λ (x : List Document). pay m (1 + length x) (Some (array (items_of es)))) (sym (listed-items_of ds)))) paid)

pub of_list_fault : (d : Document) (ds : List Document) (scopes : List Document) (n m k : ℕ) (f : RenderFault) → d ≡ array (items_of ds)
    → Answers (λ (v : Vec Doc Global). documents v.items) (ItemsRender 0 [] (items_of ds) scopes n) (Err f) m → Answers found_in (Renders d scopes n) (Err f) k
of_list_fault d ds scopes n m k f e h =
    of_same d (array (items_of ds)) scopes n (Err f) k e
    (fault_through (λ (v : Vec Doc Global). documents v.items) found_in (ItemsRender 0 [] (items_of ds) scopes n) (λ es m p. p ≡ pay m (1 + length (listed (items_of ds))) (Some (array (items_of es)))) f m k h)

-- the items of a list, one after the other
pub item_more : (Whole : Outcome (List Document) → Type 0) (i j : ℕ) (done next : List Document) (rest left : Items) (d : Document) (scopes after : List Document) (n m : ℕ) (found : Option Document) → rest ≡ item d left
    → ((o : Outcome (List Document)) → ItemsRender i done rest scopes n o → Whole o) → Renders d scopes n (given found m) → j ≡ i + 1 → next ≡ done ++ kept found → after ≡ scopes
    → (o : Outcome (List Document)) → ItemsRender j next left after m o → Whole o
item_more Whole i j done next rest left d scopes after n m found e leads is step made same o h =
    loop_step (Under (decimal i) (Renders d scopes n)) (λ x p. ItemsRender (i + 1) (done ++ kept x) left scopes p) (λ l p. ItemsRender i done l scopes n p) rest (item d left) Whole found m e (λ p k. k) leads
    (value_under (decimal i) (Renders d scopes n) found m is) o
    (subst (λ s. ItemsRender (i + 1) (done ++ kept found) left s m o) same (subst (λ l. ItemsRender (i + 1) l left after m o) made (subst (λ x. ItemsRender x next left after m o) step h)))

pub item_fault : (Whole : Outcome (List Document) → Type 0) (i : ℕ) (done : List Document) (rest left : Items) (d : Document) (scopes : List Document) (n m k : ℕ) (f g : RenderFault) → rest ≡ item d left
    → ((o : Outcome (List Document)) → ItemsRender i done rest scopes n o → Whole o) → IsUnder (decimal i) f g → Answers found_in (Renders d scopes n) (Err f) m → Answers (λ (v : Vec Doc Global). documents v.items) Whole (Err g) k
item_fault Whole i done rest left d scopes n m k f g e leads under h =
    loop_fault found_in (λ (v : Vec Doc Global). documents v.items) (Under (decimal i) (Renders d scopes n)) (λ x p. ItemsRender (i + 1) (done ++ kept x) left scopes p) (λ l o. ItemsRender i done l scopes n o) rest (item d left) Whole g m k e (λ o l. l) leads
    (fault_under found_in found_in (decimal i) (Renders d scopes n) f g m m under h)

-- the members of a map, one after the other
abbrev pub Keyed : Type 0
Keyed = List (List ℕ × Document)

pub value_more : (Whole : Outcome Keyed → Type 0) (done next : Keyed) (rest left : Members) (key : List ℕ) (d : Document) (scopes after : List Document) (n m : ℕ) (found : Option Document) → rest ≡ member key d left
    → ((o : Outcome Keyed) → ValuesRender done rest scopes n o → Whole o) → Renders d scopes n (given found m) → next ≡ done ++ kept_at key found → after ≡ scopes
    → (o : Outcome Keyed) → ValuesRender next left after m o → Whole o
value_more Whole done next rest left key d scopes after n m found e leads is made same o h =
    loop_step (Under (escaped key) (Renders d scopes n)) (λ x p. ValuesRender (done ++ kept_at key x) left scopes p) (λ l p. ValuesRender done l scopes n p) rest (member key d left) Whole found m e (λ p k. k) leads
    (value_under (escaped key) (Renders d scopes n) found m is) o
    (subst (λ s. ValuesRender (done ++ kept_at key found) left s m o) same (subst (λ l. ValuesRender l left after m o) made h))

pub value_fault : (Whole : Outcome Keyed → Type 0) (done : Keyed) (rest left : Members) (key : List ℕ) (d : Document) (scopes : List Document) (n m k : ℕ) (f g : RenderFault) → rest ≡ member key d left
    → ((o : Outcome Keyed) → ValuesRender done rest scopes n o → Whole o) → IsUnder (escaped key) f g → Answers found_in (Renders d scopes n) (Err f) m → Answers (λ (v : Vec (String Global × Doc) Global). entries_of v.items) Whole (Err g) k
value_fault Whole done rest left key d scopes n m k f g e leads under h =
    loop_fault found_in (λ (v : Vec (String Global × Doc) Global). entries_of v.items) (Under (escaped key) (Renders d scopes n)) (λ x p. ValuesRender (done ++ kept_at key x) left scopes p) (λ l o. ValuesRender done l scopes n o) rest (member key d left) Whole g m k e (λ o l. l) leads
    (fault_under found_in found_in (escaped key) (Renders d scopes n) f g m m under h)

-- a map of the form that it has
pub of_form : (ms : Members) (form : Form) (scopes : List Document) (n : ℕ) (r : Found) (m : ℕ) → IsForm ms form
    → Answers found_in (FormRenders form (λ scopes n. After (ValuesRender [] ms scopes n) (λ vs. KeysRender (length (keys_of ms)) no_members vs scopes)) ms (λ key. MemberRenders key ms) (λ key inner. BranchRenders key inner ms) scopes n) r m
    → Answers found_in (Renders (object ms) scopes n) r m
of_form ms form scopes n r m is h =
    answer_through found_in (FormRenders form (λ scopes n. After (ValuesRender [] ms scopes n) (λ vs. KeysRender (length (keys_of ms)) no_members vs scopes)) ms (λ key. MemberRenders key ms) (λ key inner. BranchRenders key inner ms) scopes n)
    (Renders (object ms) scopes n) r m (λ o k. (form, is, k)) h

-- the scopes were the same before
pub kept_from : {A : Type 0} (r : Result A RenderFault) (a b c : List Document) → b ≡ a → Kept r b c → Kept r a c
kept_from r a b c same h = subst (λ s. Kept r s c) same h

-- what stands in scopes that are the same, at the same cost
pub body_at : (Body : Meaning) (s b : List Document) (n k m p : ℕ) (found : Option Document) → b ≡ s → k ≡ n → p ≡ m → Body b k (given found m) → Body s n (given found p)
body_at Body s b n k m p found same cost after h = subst (λ q. Body s n (given found q)) (sym after) (subst (λ q. Body s q (given found m)) cost (subst (λ x. Body x k (given found m)) same h))

pub body_fault : (Body : Meaning) (s b : List Document) (n k m : ℕ) (f : RenderFault) → b ≡ s → k ≡ n → Answers found_in (Body b k) (Err f) m → Answers found_in (Body s n) (Err f) m
body_fault Body s b n k m f same cost h = subst (λ q. Answers found_in (Body s q) (Err f) m) cost (subst (λ x. Answers found_in (Body x k) (Err f) m) same h)

-- what is made is paid for, or is a fault of the node itself
pub made_so : (made : Result Doc Stop) (Is : Result Document Fault → Type 0) (n : ℕ) (r : Found) (m : ℕ) → Meets Is made → Finishes made n r m
    → Answers found_in (λ o. (x : Result Document Fault) × Is x × (o ≡ at_operator n (as_found x))) r m
made_so (Ok d) Is n r m meets h = answer_through found_in (λ o. o ≡ worth n (Some (document d))) (λ o. (x : Result Document Fault) × Is x × (o ≡ at_operator n (as_found x))) r m (λ o e. (Ok (document d), meets, e)) h
made_so (Err (stop_fault f)) Is n r m meets h = subst (λ (x : Found). Answers found_in (λ o. (x : Result Document Fault) × Is x × (o ≡ at_operator n (as_found x))) x m) (sym h) (Err f, meets, refl)
made_so (Err no_memory) Is n r m meets h = subst (λ (x : Found). Answers found_in (λ o. (x : Result Document Fault) × Is x × (o ≡ at_operator n (as_found x))) x m) (sym h) tt

-- the names of a map are bound, where all its keys are names
pub let_bound : (d : Document) (ms : Members) (In : Meaning) (s : List Document) (m : ℕ) (r : Found) (q : ℕ) → d ≡ object ms → list_all is_name (keys_of ms) ≡ true
    → Answers found_in (Taken In (s ++ object ms ∷ []) m) r q → Answers found_in (LetIn d In s m) r q
let_bound d ms In s m r q e names h =
    subst (λ x. Answers found_in (LetIn x In s m) r q) (sym e)
    (answer_through found_in (Taken In (s ++ object ms ∷ []) m) (LetIn (object ms) In s m) r q (λ o k. subst (λ (b : Bool). MatchBool b (Taken In (s ++ object ms ∷ []) m o) (o ≡ faulted BadOperator [])) (sym names) k) h)

pub let_bad : (d : Document) (ms : Members) (In : Meaning) (s : List Document) (m : ℕ) → d ≡ object ms → list_all is_name (keys_of ms) ≡ false → LetIn d In s m (faulted BadOperator [])
let_bad d ms In s m e names =
    let o : Outcome (Option Document) = faulted BadOperator [] in
    subst (λ x. LetIn x In s m o) (sym e) (subst (λ (b : Bool). MatchBool b (Taken In (s ++ object ms ∷ []) m o) (o ≡ o)) (sym names) refl)

pub let_kind : (d : Document) (In : Meaning) (s : List Document) (m : ℕ) → IsNoMap d → LetIn d In s m (faulted WrongKind [])
let_kind (object ms) In s m h = absurd h
let_kind null In s m h = refl
let_kind (boolean b) In s m h = refl
let_kind (whole z) In s m h = refl
let_kind (text bs) In s m h = refl
let_kind (array ds) In s m h = refl

-- `$switch` and `$match` ask for a map
pub switch_kind : (x : Option Document) (Branch : List ℕ → Meaning) (s : List Document) (n : ℕ) → LacksMap x → SwitchRenders x Branch s n (faulted WrongKind [])
switch_kind (Some (object ms)) Branch s n h = absurd h
switch_kind (Some null) Branch s n h = refl
switch_kind (Some (boolean b)) Branch s n h = refl
switch_kind (Some (whole z)) Branch s n h = refl
switch_kind (Some (text bs)) Branch s n h = refl
switch_kind (Some (array ds)) Branch s n h = refl
switch_kind None Branch s n h = refl

pub match_kind : (x : Option Document) (Branch : List ℕ → Meaning) (s : List Document) (n : ℕ) → LacksMap x → MatchRenders x Branch s n (faulted WrongKind [])
match_kind (Some (object ms)) Branch s n h = absurd h
match_kind (Some null) Branch s n h = refl
match_kind (Some (boolean b)) Branch s n h = refl
match_kind (Some (whole z)) Branch s n h = refl
match_kind (Some (text bs)) Branch s n h = refl
match_kind (Some (array ds)) Branch s n h = refl
match_kind None Branch s n h = refl

-- a branch of `$switch`
pub two_taken : (Branch : List ℕ → Meaning) (found : List (List ℕ)) (s : List Document) (m : ℕ) → 1 < length found → OneTaken Branch found s m (faulted TwoBranches [])
two_taken Branch [] s m h = absurd (omega arith)
two_taken Branch (k ∷ []) s m h = absurd (omega arith)
two_taken Branch (k ∷ l ∷ ks) s m h = refl

pub one_taken : (Branch : List ℕ → Meaning) (found : List (List ℕ)) (s : List Document) (m : ℕ) (o : Outcome (Option Document)) → length found ≤ 1 → Taken (Branch (branch_taken found)) s m o → OneTaken Branch found s m o
one_taken Branch [] s m o h k = k
one_taken Branch (a ∷ []) s m o h k = k
one_taken Branch (a ∷ b ∷ ks) s m o h k = absurd (omega arith)

-- which operator it is
pub alone_is : (operator is : Operator) (ms : Members) (s : List Document) (n : ℕ) (r : Found) (m : ℕ) → operator ≡ is
    → Answers found_in (AloneRenders is ms (λ key. MemberRenders key ms) (λ key inner. BranchRenders key inner ms) s n) r m
    → Answers found_in (AloneRenders operator ms (λ key. MemberRenders key ms) (λ key inner. BranchRenders key inner ms) s n) r m
alone_is operator is ms s n r m e h = subst (λ (o : Operator). Answers found_in (AloneRenders o ms (λ key. MemberRenders key ms) (λ key inner. BranchRenders key inner ms) s n) r m) (sym e) h

pub over_is : (operator is : Operator) (key : List ℕ) (names : List (List ℕ)) (ms : Members) (d : Document) (s : List Document) (n : ℕ) (r : Found) (m : ℕ) → operator ≡ is
    → Answers found_in (BoundOver is key names ms (λ k. MemberRenders k ms) d s n) r m → Answers found_in (BoundOver operator key names ms (λ k. MemberRenders k ms) d s n) r m
over_is operator is key names ms d s n r m e h = subst (λ (o : Operator). Answers found_in (BoundOver o key names ms (λ k. MemberRenders k ms) d s n) r m) (sym e) h

-- an operator that gives something for the value of its operand alone
pub by_operand : (operator : Operator) (ms : Members) (Member : List ℕ → Meaning) (Branch : List ℕ → List ℕ → Meaning) (s : List Document) (n : ℕ) (r : Found) (m : ℕ)
    → ¬ (operator ≡ Eval) → ¬ (operator ≡ If) → ¬ (operator ≡ Switch) → ¬ (operator ≡ Match) → ¬ (operator ≡ Let) → ¬ (operator ≡ FromNow)
    → Answers found_in (Operand (Member (key_of operator)) s n (Given operator)) r m → Answers found_in (AloneRenders operator ms Member Branch s n) r m
by_operand Eval ms Member Branch s n r m a b c d e f h = absurd (a refl)
by_operand If ms Member Branch s n r m a b c d e f h = absurd (b refl)
by_operand Switch ms Member Branch s n r m a b c d e f h = absurd (c refl)
by_operand Match ms Member Branch s n r m a b c d e f h = absurd (d refl)
by_operand Let ms Member Branch s n r m a b c d e f h = absurd (e refl)
by_operand FromNow ms Member Branch s n r m a b c d e f h = absurd (f refl)
by_operand _ ms Member Branch s n r m a b c d e f h = h

-- one that takes no names
pub takes_none : (operator : Operator) (key : List ℕ) (names : List (List ℕ)) (ms : Members) (Member : List ℕ → Meaning) (d : Document) (s : List Document) (n : ℕ)
    → ¬ (operator ≡ Map) → ¬ (operator ≡ Reduce) → ¬ (operator ≡ Find) → ¬ (operator ≡ Sort) → BoundOver operator key names ms Member d s n (faulted BadOperator [])
takes_none Map key names ms Member d s n a b c e = absurd (a refl)
takes_none Reduce key names ms Member d s n a b c e = absurd (b refl)
takes_none Find key names ms Member d s n a b c e = absurd (c refl)
takes_none Sort key names ms Member d s n a b c e = absurd (e refl)
takes_none _ key names ms Member d s n a b c e = refl

pub reduce_kind : (Body : Meaning) (names : List (List ℕ)) (initial d : Document) (s : List Document) (n : ℕ) → IsNoList d → ReducedOver Body names initial d s n (faulted WrongKind [])
reduce_kind Body names initial (array ds) s n h = absurd h
reduce_kind Body names initial null s n h = refl
reduce_kind Body names initial (boolean b) s n h = refl
reduce_kind Body names initial (whole z) s n h = refl
reduce_kind Body names initial (text bs) s n h = refl
reduce_kind Body names initial (object ms) s n h = refl

-- a moment that is rendered, or what `now` is bound to
abbrev pub FromRenders : Members → List Document → Document → ℕ → Outcome (Option Document) → Type 0
FromRenders ms s d m p = MatchBool (is_some (member_at (codes "from") ms)) (Operand (MemberRenders (codes "from") ms) s m (λ from k. SpanRenders d (Some from) k) p) (SpanRenders d (bound (codes "now") s) m p)

pub from_there : (d : Document) (ms : Members) (s : List Document) (m : ℕ) (r : Found) (q : ℕ) → is_some (member_at (codes "from") ms) ≡ true
    → Answers found_in (Operand (MemberRenders (codes "from") ms) s m (λ from k. SpanRenders d (Some from) k)) r q → Answers found_in (FromRenders ms s d m) r q
from_there d ms s m r q has h =
    subst (λ (b : Bool). Answers found_in (λ p. MatchBool b (Operand (MemberRenders (codes "from") ms) s m (λ from k. SpanRenders d (Some from) k) p) (SpanRenders d (bound (codes "now") s) m p)) r q) (sym has) h

pub from_now_on : (d : Document) (ms : Members) (s : List Document) (m : ℕ) (r : Found) (q : ℕ) → is_some (member_at (codes "from") ms) ≡ false
    → Answers found_in (SpanRenders d (bound (codes "now") s) m) r q → Answers found_in (FromRenders ms s d m) r q
from_now_on d ms s m r q has h =
    subst (λ (b : Bool). Answers found_in (λ p. MatchBool b (Operand (MemberRenders (codes "from") ms) s m (λ from k. SpanRenders d (Some from) k) p) (SpanRenders d (bound (codes "now") s) m p)) r q) (sym has) h

-- how many keys a map has
pub length-keys_of : (es : List Entry) → length (keys_of (members_in es)) ≡ length es
length-keys_of [] = refl
length-keys_of (e ∷ es) = ap suc (length-keys_of es)

-- `$map` over a list
pub of_mapped_list : (Body : Meaning) (names : List (List ℕ)) (d x : Document) (ds : List Document) (turns : Turns) (es : List Document) (s : List Document) (n m : ℕ) (r : Found) (k : ℕ) → d ≡ array (items_of ds) → turns ≡ numbered 0 ds
    → EachRenders Body names [] turns s n (given es m) → x ≡ array (items_of es) → Answers found_in (λ o. o ≡ worth m (Some x)) r k → Answers found_in (MappedOver Body names d s n) r k
of_mapped_list Body names d x ds turns es s n m r k e is h made paid =
    subst (λ y. Answers found_in (MappedOver Body names y s n) r k) (sym e)
    (answer_through found_in (λ o. o ≡ worth m (Some x)) (MappedOver Body names (array (items_of ds)) s n) r k
    (λ o l. (given es m, subst (λ ts. EachRenders Body names [] ts s n (given es m)) (is ∙ ap (numbered 0) (sym (listed-items_of ds))) h, l ∙ ap (λ y. worth m (Some y)) made)) paid)

pub of_mapped_list_fault : (Body : Meaning) (names : List (List ℕ)) (d : Document) (ds : List Document) (turns : Turns) (s : List Document) (n m k : ℕ) (f : RenderFault) → d ≡ array (items_of ds) → turns ≡ numbered 0 ds
    → Answers (λ (v : Vec Doc Global). documents v.items) (EachRenders Body names [] turns s n) (Err f) m → Answers found_in (MappedOver Body names d s n) (Err f) k
of_mapped_list_fault Body names d ds turns s n m k f e is h =
    subst (λ y. Answers found_in (MappedOver Body names y s n) (Err f) k) (sym e)
    (fault_through (λ (v : Vec Doc Global). documents v.items) found_in (EachRenders Body names [] (numbered 0 (listed (items_of ds))) s n) (λ es m p. p ≡ worth m (Some (array (items_of es)))) f m k
    (subst (λ ts. Answers (λ (v : Vec Doc Global). documents v.items) (EachRenders Body names [] ts s n) (Err f) m) (is ∙ ap (numbered 0) (sym (listed-items_of ds))) h))

-- `$reduce` over a list
pub reduce_list : (Body : Meaning) (names : List (List ℕ)) (initial d : Document) (ds : List Document) (turns : Turns) (s : List Document) (n : ℕ) (o : Outcome (Option Document)) → d ≡ array (items_of ds) → turns ≡ numbered 0 ds
    → TurnsReduce Body names initial turns s n o → ReducedOver Body names initial d s n o
reduce_list Body names initial d ds turns s n o e is h =
    subst (λ y. ReducedOver Body names initial y s n o) (sym e) (subst (λ ts. TurnsReduce Body names initial ts s n o) (is ∙ ap (numbered 0) (sym (listed-items_of ds))) h)

-- what is left of a list
pub item_next : (xs : List Doc) (i : ℕ) (x : Doc) → i < length xs → x ≡ get_or xs i x → items_of (documents (drop i xs)) ≡ item (document x) (items_of (documents (drop (i + 1) xs)))
item_next xs i x h e = at_drop_more (λ ys. items_of (documents ys)) xs i x h ∙ ap (λ y. items_of (documents (y ∷ drop (i + 1) xs))) (sym e)

pub item_end : (xs : List Doc) (i : ℕ) → length xs ≤ i → items_of (documents (drop i xs)) ≡ no_items
item_end xs i h = at_drop_all (λ ys. items_of (documents ys)) xs i h
