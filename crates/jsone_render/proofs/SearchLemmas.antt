-- The turns of `$find` and `$sort`, one after the other.
use Rattle.std.proofs.Common.{◌≡◌, ℕ, Bool, true, false, List, [], ◌∷◌, ◌++◌, Option, Some, None, Result, Ok, Err, refl, sym, ap, ap₂, subst, ◌∙◌}
use Rattle.std.specs.Bool.{MatchBool}
use Rattle.farm_text.specs.Document.{Document, null, boolean, whole, text, array, object, items_of}
use Rattle.farm_text.specs.Doc.{document}
use Rattle.farm_text.specs.declared.doc.Doc.{Doc}
use Rattle.jsone_values.specs.declared.faults.Fault.{Fault}
use Rattle.jsone_values.specs.declared.faults.Fault.TheVariants.{WrongKind}
use Rattle.jsone_values.specs.declared.faults.Stop.{Stop}
use Rattle.jsone_values.specs.declared.faults.Stop.TheVariants.{Fault as stop_fault, NoMemory as no_memory}
use Rattle.jsone_values.specs.Meets.{Meets}
use Rattle.jsone_values.specs.Members.{listed}
use Rattle.jsone_values.specs.Truth.{is_true}
use Rattle.jsone_render.specs.declared.faults.RenderFault.{RenderFault}
use Rattle.jsone_render.specs.declared.faults.RenderFault.TheVariants.{Fault as a_fault, TooMuchWork, NoMemory}
use Rattle.jsone_render.specs.Answers.{Answers, Kept, Tested, Finishes, found_in, IsNoList, IsNoText}
use Rattle.jsone_render.specs.Bindings.{bound_to, both, numbered, FirstTrue, FoundIn}
use Rattle.jsone_render.specs.Expressions.{Evaluated}
use Rattle.jsone_render.specs.Outcomes.{Outcome, given, faulted, too_much, worth, at_operator, as_found, After}
use Rattle.jsone_render.specs.Sorting.{KeysEvaluated, Sorted, SortedBy}
use Rattle.jsone_render.proofs.KindLemmas.{listed-items_of, no_text}
use Rattle.jsone_render.proofs.OutcomeLemmas.{answer_through, fault_through, loop_fault, loop_step}

abbrev pub Turn : Type 0
Turn = Document × Document

-- what was evaluated, where it was tested
tested : (source : List ℕ) (scopes : List Document) (n m : ℕ) (b : Bool) → Tested source scopes n (given b m) → (d : Document) × Evaluated source scopes n (given d m) × (is_true d ≡ b)
tested source scopes n m b (given d k, is, e) =
    let spent : k ≡ m = cc in
    let truth : is_true d ≡ b = cc in
    (d, subst (λ j. Evaluated source scopes n (given d j)) spent is, truth)
tested source scopes n m b (faulted f path, is, e) = absurd (cc)
tested source scopes n m b (too_much, is, e) = absurd (cc)

tested_fault : (source : List ℕ) (scopes : List Document) (n m : ℕ) (f : RenderFault) → Answers (λ b. b) (Tested source scopes n) (Err f) m → Answers document (Evaluated source scopes n) (Err f) m
tested_fault source scopes n m (a_fault f) (given d k, is, e) = absurd (cc)
tested_fault source scopes n m (a_fault f) (faulted g path, is, e) =
    let rule : g ≡ f.rule = cc in
    let place : path ≡ f.path = cc in
    subst (λ r. Evaluated source scopes n (faulted r f.path)) rule (subst (λ p. Evaluated source scopes n (faulted g p)) place is)
tested_fault source scopes n m (a_fault f) (too_much, is, e) = absurd (cc)
tested_fault source scopes n m TooMuchWork (given d k, is, e) = absurd (cc)
tested_fault source scopes n m TooMuchWork (faulted g path, is, e) = absurd (cc)
tested_fault source scopes n m TooMuchWork (too_much, is, e) = is
tested_fault source scopes n m NoMemory h = tt

-- a test under bindings that are taken away again
pub tested_so : (source : List ℕ) (scopes after : List Document) (n before m left : ℕ) (d : Document) (b : Bool) → after ≡ scopes → before ≡ n → left ≡ m → b ≡ is_true d → Evaluated source after before (given d m) → Tested source scopes n (given b left)
tested_so source scopes after n before m left d b same cost spent truth is =
    (given d m, subst (λ s. Evaluated source s n (given d m)) same (subst (λ k. Evaluated source after k (given d m)) cost is), ap₂ (λ (x : Bool) (k : ℕ). given x k) truth spent)

pub tested_not : (source : List ℕ) (scopes after : List Document) (n before m left : ℕ) (f : RenderFault) → after ≡ scopes → before ≡ n → Answers document (Evaluated source after before) (Err f) m → Answers (λ b. b) (Tested source scopes n) (Err f) left
tested_not source scopes after n before m left f same cost h =
    fault_through document (λ b. b) (Evaluated source scopes n) (λ d k p. p ≡ given (is_true d) k) f m left
    (subst (λ s. Answers document (Evaluated source s n) (Err f) m) same (subst (λ k. Answers document (Evaluated source after k) (Err f) m) cost h))

pub kept_same : {A : Type 0} (r : Result A RenderFault) (before after : List Document) → after ≡ before → Kept r before after
kept_same (Ok x) before after h = h
kept_same (Err f) before after h = tt

pub kept_so : {A : Type 0} (r : Result A RenderFault) (before between after : List Document) → between ≡ before → Kept r between after → Kept r before after
kept_so r before between after same h = subst (λ s. Kept r s after) same h

-- what goes on from a turn of `$find`
abbrev Finds : List ℕ → List (List ℕ) → Document → List Turn → List Document → Document → ℕ → Outcome (Option Document) → Type 0
Finds source names item left scopes d m p = MatchBool (is_true d) (p ≡ worth m (Some item)) (FirstTrue source names left scopes m p)

pub turn_true : (Whole : Outcome (Option Document) → Type 0) (source : List ℕ) (names : List (List ℕ)) (rest left : List Turn) (t : Turn) (scopes : List Document) (n m k : ℕ) (b : Bool) (r : Result (Option Doc) RenderFault) → rest ≡ t ∷ left
    → ((o : Outcome (Option Document)) → FirstTrue source names rest scopes n o → Whole o) → Tested source (scopes ++ bound_to names (both t)) n (given b m) → b ≡ true
    → Answers found_in (λ o. o ≡ worth m (Some t.0)) r k → Answers found_in Whole r k
turn_true Whole source names rest left t scopes n m k b r e leads test holds h =
    let (d, is, same) = tested source (scopes ++ bound_to names (both t)) n m b test in
    let truth : is_true d ≡ true = same ∙ holds in
    answer_through found_in (λ o. o ≡ worth m (Some t.0)) Whole r k
    (λ o found. loop_step (Evaluated source (scopes ++ bound_to names (both t)) n) (Finds source names t.0 left scopes) (λ l p. FirstTrue source names l scopes n p) rest (t ∷ left) Whole d m e (λ p i. i) leads is o (rw truth found)) h

pub turn_false : (Whole : Outcome (Option Document) → Type 0) (source : List ℕ) (names : List (List ℕ)) (rest left : List Turn) (t : Turn) (scopes after : List Document) (n m : ℕ) (b : Bool) → rest ≡ t ∷ left
    → ((o : Outcome (Option Document)) → FirstTrue source names rest scopes n o → Whole o) → Tested source (scopes ++ bound_to names (both t)) n (given b m) → b ≡ false → after ≡ scopes
    → (o : Outcome (Option Document)) → FirstTrue source names left after m o → Whole o
turn_false Whole source names rest left t scopes after n m b e leads test fails same o h =
    let (d, is, alike) = tested source (scopes ++ bound_to names (both t)) n m b test in
    let truth : is_true d ≡ false = alike ∙ fails in
    loop_step (Evaluated source (scopes ++ bound_to names (both t)) n) (Finds source names t.0 left scopes) (λ l p. FirstTrue source names l scopes n p) rest (t ∷ left) Whole d m e (λ p i. i) leads is o
    (rw truth (subst (λ s. FirstTrue source names left s m o) same h))

pub turn_fault : (Whole : Outcome (Option Document) → Type 0) (source : List ℕ) (names : List (List ℕ)) (rest left : List Turn) (t : Turn) (scopes : List Document) (n m k : ℕ) (f : RenderFault) → rest ≡ t ∷ left
    → ((o : Outcome (Option Document)) → FirstTrue source names rest scopes n o → Whole o) → Answers (λ b. b) (Tested source (scopes ++ bound_to names (both t)) n) (Err f) m → Answers found_in Whole (Err f) k
turn_fault Whole source names rest left t scopes n m k f e leads h =
    loop_fault document found_in (Evaluated source (scopes ++ bound_to names (both t)) n) (Finds source names t.0 left scopes) (λ l p. FirstTrue source names l scopes n p) rest (t ∷ left) Whole f m k e (λ p i. i) leads
    (tested_fault source (scopes ++ bound_to names (both t)) n m f h)

pub no_turn_left : (Whole : Outcome (Option Document) → Type 0) (source : List ℕ) (names : List (List ℕ)) (rest : List Turn) (scopes : List Document) (n k : ℕ) (r : Result (Option Doc) RenderFault) → rest ≡ []
    → ((o : Outcome (Option Document)) → FirstTrue source names rest scopes n o → Whole o) → Answers found_in (λ o. o ≡ worth n None) r k → Answers found_in Whole r k
no_turn_left Whole source names rest scopes n k r e leads h =
    answer_through found_in (λ o. o ≡ worth n None) Whole r k (λ o found. leads o (subst (λ l. FirstTrue source names l scopes n o) (sym e) found)) h

pub found_list : (x : Option Document) (names : List (List ℕ)) (d : Document) (ds : List Document) (turns : List Turn) (source : List ℕ) (scopes : List Document) (n k : ℕ) (r : Result (Option Doc) RenderFault) → d ≡ array (items_of ds) → x ≡ Some (text source)
    → turns ≡ numbered 0 ds → Answers found_in (FirstTrue source names turns scopes n) r k → Answers found_in (FoundIn x names d scopes n) r k
found_list x names d ds turns source scopes n k r is at count h =
    answer_through found_in (FirstTrue source names turns scopes n) (FoundIn x names d scopes n) r k
    (λ o found. subst (λ y. FoundIn y names d scopes n o) (sym at) (subst (λ y. FoundIn (Some (text source)) names y scopes n o) (sym is)
    (subst (λ ts. FirstTrue source names ts scopes n o) (count ∙ ap (numbered 0) (sym (listed-items_of ds))) found))) h

pub found_no_list : (x : Option Document) (names : List (List ℕ)) (d : Document) (scopes : List Document) (n : ℕ) → IsNoList d → FoundIn x names d scopes n (faulted WrongKind [])
found_no_list x names (array es) scopes n h = absurd h
found_no_list x names null scopes n h = refl
found_no_list x names (boolean b) scopes n h = refl
found_no_list x names (whole z) scopes n h = refl
found_no_list x names (text bs) scopes n h = refl
found_no_list x names (object ms) scopes n h = refl

pub found_no_text : (x : Option Document) (names : List (List ℕ)) (d : Document) (ds : List Document) (scopes : List Document) (n : ℕ) → d ≡ array (items_of ds) → IsNoText x → FoundIn x names d scopes n (faulted WrongKind [])
found_no_text x names d ds scopes n is h =
    subst (λ y. FoundIn x names y scopes n (faulted WrongKind [])) (sym is) (no_text x (λ e. FirstTrue e names (numbered 0 (listed (items_of ds))) scopes n) h)

-- what goes on from a key of `$sort`
abbrev Keys : List ℕ → List (List ℕ) → List Turn → Document → List Document → List Document → Document → ℕ → Outcome (List Turn) → Type 0
Keys source names done d left scopes key m = KeysEvaluated source names (done ++ (key, d) ∷ []) left scopes m

pub key_found : (Whole : Outcome (List Turn) → Type 0) (source : List ℕ) (names : List (List ℕ)) (done next : List Turn) (rest left : List Document) (d key : Document) (scopes after : List Document) (n m : ℕ) → rest ≡ d ∷ left
    → ((o : Outcome (List Turn)) → KeysEvaluated source names done rest scopes n o → Whole o) → Evaluated source (scopes ++ bound_to names (d ∷ [])) n (given key m) → next ≡ done ++ (key, d) ∷ [] → after ≡ scopes
    → (o : Outcome (List Turn)) → KeysEvaluated source names next left after m o → Whole o
key_found Whole source names done next rest left d key scopes after n m e leads is made same o h =
    loop_step (Evaluated source (scopes ++ bound_to names (d ∷ [])) n) (Keys source names done d left scopes) (λ l p. KeysEvaluated source names done l scopes n p) rest (d ∷ left) Whole key m e (λ p i. i) leads is o
    (subst (λ s. KeysEvaluated source names (done ++ (key, d) ∷ []) left s m o) same (subst (λ l. KeysEvaluated source names l left after m o) made h))

pub key_fault : {C : Type 0} (w : C → List Turn) (Whole : Outcome (List Turn) → Type 0) (source : List ℕ) (names : List (List ℕ)) (done : List Turn) (rest left : List Document) (d : Document) (scopes : List Document) (n m k : ℕ) (f : RenderFault) → rest ≡ d ∷ left
    → ((o : Outcome (List Turn)) → KeysEvaluated source names done rest scopes n o → Whole o) → Answers document (Evaluated source (scopes ++ bound_to names (d ∷ [])) n) (Err f) m → Answers w Whole (Err f) k
key_fault w Whole source names done rest left d scopes n m k f e leads h =
    loop_fault document w (Evaluated source (scopes ++ bound_to names (d ∷ [])) n) (Keys source names done d left scopes) (λ l p. KeysEvaluated source names done l scopes n p) rest (d ∷ left) Whole f m k e (λ p i. i) leads h

-- what was made is paid for, or its fault is the node's
pub finished : (Is : Result Document Fault → Type 0) (made : Result Doc Stop) (n : ℕ) (r : Result (Option Doc) RenderFault) (m : ℕ) → Meets Is made → Finishes made n r m
    → Answers found_in (λ o. (q : Result Document Fault) × Is q × (o ≡ at_operator n (as_found q))) r m
finished Is (Ok d) n r m is h = answer_through found_in (λ o. o ≡ worth n (Some (document d))) (λ o. (q : Result Document Fault) × Is q × (o ≡ at_operator n (as_found q))) r m (λ o e. (Ok (document d), is, e)) h
finished Is (Err (stop_fault f)) n r m is h =
    subst (λ (x : Result (Option Doc) RenderFault). Answers found_in (λ o. (q : Result Document Fault) × Is q × (o ≡ at_operator n (as_found q))) x m) (sym h) (Err f, is, refl)
finished Is (Err no_memory) n r m is h =
    subst (λ (x : Result (Option Doc) RenderFault). Answers found_in (λ o. (q : Result Document Fault) × Is q × (o ≡ at_operator n (as_found q))) x m) (sym h) tt

sorted_at : (x : Option Document) (names : List (List ℕ)) (d : Document) (ds : List Document) (source : List ℕ) (scopes : List Document) (n : ℕ) (o : Outcome (Option Document)) → d ≡ array (items_of ds) → x ≡ Some (text source)
    → After (KeysEvaluated source names [] ds scopes n) Sorted o → SortedBy x names d scopes n o
sorted_at x names d ds source scopes n o is at h =
    subst (λ y. SortedBy y names d scopes n o) (sym at) (subst (λ y. SortedBy (Some (text source)) names y scopes n o) (sym is)
    (subst (λ l. After (KeysEvaluated source names [] l scopes n) Sorted o) (sym (listed-items_of ds)) h))

-- the list that is sorted
pub sorted_list : (x : Option Document) (names : List (List ℕ)) (d : Document) (ds : List Document) (pairs : List Turn) (source : List ℕ) (scopes : List Document) (n m k : ℕ) (r : Result (Option Doc) RenderFault) → d ≡ array (items_of ds) → x ≡ Some (text source)
    → KeysEvaluated source names [] ds scopes n (given pairs m) → Answers found_in (Sorted pairs m) r k → Answers found_in (SortedBy x names d scopes n) r k
sorted_list x names d ds pairs source scopes n m k r is at keys h =
    answer_through found_in (Sorted pairs m) (SortedBy x names d scopes n) r k (λ o sorted. sorted_at x names d ds source scopes n o is at (given pairs m, keys, sorted)) h

pub sorted_fault : {C : Type 0} (v : C → List Turn) (x : Option Document) (names : List (List ℕ)) (d : Document) (ds : List Document) (source : List ℕ) (scopes : List Document) (n m k : ℕ) (f : RenderFault) → d ≡ array (items_of ds) → x ≡ Some (text source)
    → Answers v (KeysEvaluated source names [] ds scopes n) (Err f) m → Answers found_in (SortedBy x names d scopes n) (Err f) k
sorted_fault v x names d ds source scopes n m k f is at h =
    answer_through found_in (After (KeysEvaluated source names [] ds scopes n) Sorted) (SortedBy x names d scopes n) (Err f) k (λ o sorted. sorted_at x names d ds source scopes n o is at sorted)
    (fault_through v found_in (KeysEvaluated source names [] ds scopes n) Sorted f m k h)

pub sorted_no_list : (x : Option Document) (names : List (List ℕ)) (d : Document) (scopes : List Document) (n : ℕ) → IsNoList d → SortedBy x names d scopes n (faulted WrongKind [])
sorted_no_list x names (array es) scopes n h = absurd h
sorted_no_list x names null scopes n h = refl
sorted_no_list x names (boolean b) scopes n h = refl
sorted_no_list x names (whole z) scopes n h = refl
sorted_no_list x names (text bs) scopes n h = refl
sorted_no_list x names (object ms) scopes n h = refl

pub sorted_no_text : (x : Option Document) (names : List (List ℕ)) (d : Document) (ds : List Document) (scopes : List Document) (n : ℕ) → d ≡ array (items_of ds) → IsNoText x → SortedBy x names d scopes n (faulted WrongKind [])
sorted_no_text x names d ds scopes n is h =
    subst (λ y. SortedBy x names y scopes n (faulted WrongKind [])) (sym is) (no_text x (λ e. After (KeysEvaluated e names [] (listed (items_of ds)) scopes n) Sorted) h)
