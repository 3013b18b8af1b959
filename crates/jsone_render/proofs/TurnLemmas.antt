-- Turns of `$map`, `$reduce` and `$match`, one after the other.
use Rattle.std.proofs.Common.{◌≡◌, ℕ, ◌+◌, ◌<◌, List, [], ◌∷◌, ◌++◌, length, Vec, Global, Option, Err, refl, sym, ap, subst, ◌∙◌, arith, append_assoc, length-append}
use Rattle.farm_text.specs.Document.{Document}
use Rattle.farm_text.specs.Doc.{documents}
use Rattle.farm_text.specs.declared.doc.Doc.{Doc}
use Rattle.jsone_render.specs.declared.faults.RenderFault.{RenderFault}
use Rattle.jsone_render.specs.declared.binders.Names.{Names}
use Rattle.jsone_render.specs.declared.binders.Names.TheVariants.{One as one_name, Two as two_names, Three as three_names}
use Rattle.jsone_render.specs.Answers.{Answers, found_in, names_in}
use Rattle.jsone_render.specs.Bindings.{single, bound_to, both, EachRenders, or_before, TurnsReduce}
use Rattle.jsone_render.specs.Conditions.{AllTaken}
use Rattle.jsone_render.specs.Outcomes.{Outcome, given, kept, Meaning}
use Rattle.jsone_render.proofs.OutcomeLemmas.{loop_step, loop_fault}

abbrev pub Turns : Type 0
Turns = List (Document × Document)

pub turn_more : (Whole : Outcome (List Document) → Type 0) (Body : Meaning) (names : List (List ℕ)) (done next : List Document) (rest left : Turns) (t : Document × Document) (scopes after : List Document) (n m : ℕ) (found : Option Document) → rest ≡ t ∷ left
    → ((o : Outcome (List Document)) → EachRenders Body names done rest scopes n o → Whole o) → Body (scopes ++ bound_to names (both t)) n (given found m) → next ≡ done ++ kept found → after ≡ scopes
    → (o : Outcome (List Document)) → EachRenders Body names next left after m o → Whole o
turn_more Whole Body names done next rest left t scopes after n m found e leads is made same o h =
    loop_step (Body (scopes ++ bound_to names (both t)) n) (λ x p. EachRenders Body names (done ++ kept x) left scopes p) (λ l p. EachRenders Body names done l scopes n p) rest (t ∷ left) Whole found m e (λ p k. k) leads is o
    (subst (λ s. EachRenders Body names (done ++ kept found) left s m o) same (subst (λ l. EachRenders Body names l left after m o) made h))

pub turn_fault : (Whole : Outcome (List Document) → Type 0) (Body : Meaning) (names : List (List ℕ)) (done : List Document) (rest left : Turns) (t : Document × Document) (scopes : List Document) (n m k : ℕ) (f : RenderFault) → rest ≡ t ∷ left
    → ((o : Outcome (List Document)) → EachRenders Body names done rest scopes n o → Whole o) → Answers found_in (Body (scopes ++ bound_to names (both t)) n) (Err f) m → Answers (λ (v : Vec Doc Global). documents v.items) Whole (Err f) k
turn_fault Whole Body names done rest left t scopes n m k f e leads h =
    loop_fault found_in (λ (v : Vec Doc Global). documents v.items) (Body (scopes ++ bound_to names (both t)) n) (λ x p. EachRenders Body names (done ++ kept x) left scopes p) (λ l o. EachRenders Body names done l scopes n o) rest (t ∷ left) Whole f m k e (λ o l. l) leads h

pub reduce_more : (Whole : Outcome (Option Document) → Type 0) (Body : Meaning) (names : List (List ℕ)) (before next : Document) (rest left : Turns) (t : Document × Document) (scopes after : List Document) (n m : ℕ) (found : Option Document) → rest ≡ t ∷ left
    → ((o : Outcome (Option Document)) → TurnsReduce Body names before rest scopes n o → Whole o) → Body (scopes ++ bound_to names (before ∷ both t)) n (given found m) → next ≡ or_before before found → after ≡ scopes
    → (o : Outcome (Option Document)) → TurnsReduce Body names next left after m o → Whole o
reduce_more Whole Body names before next rest left t scopes after n m found e leads is made same o h =
    loop_step (Body (scopes ++ bound_to names (before ∷ both t)) n) (λ x p. TurnsReduce Body names (or_before before x) left scopes p) (λ l p. TurnsReduce Body names before l scopes n p) rest (t ∷ left) Whole found m e (λ p k. k) leads is o
    (subst (λ s. TurnsReduce Body names (or_before before found) left s m o) same (subst (λ l. TurnsReduce Body names l left after m o) made h))

pub reduce_fault : (Whole : Outcome (Option Document) → Type 0) (Body : Meaning) (names : List (List ℕ)) (before : Document) (rest left : Turns) (t : Document × Document) (scopes : List Document) (n m k : ℕ) (f : RenderFault) → rest ≡ t ∷ left
    → ((o : Outcome (Option Document)) → TurnsReduce Body names before rest scopes n o → Whole o) → Answers found_in (Body (scopes ++ bound_to names (before ∷ both t)) n) (Err f) m → Answers found_in Whole (Err f) k
reduce_fault Whole Body names before rest left t scopes n m k f e leads h =
    loop_fault found_in found_in (Body (scopes ++ bound_to names (before ∷ both t)) n) (λ x p. TurnsReduce Body names (or_before before x) left scopes p) (λ l o. TurnsReduce Body names before l scopes n o) rest (t ∷ left) Whole f m k e (λ o l. l) leads h

pub taken_more : (Whole : Outcome (Option Document) → Type 0) (Branch : List ℕ → Meaning) (done next : List Document) (rest left : List (List ℕ)) (key : List ℕ) (scopes after : List Document) (n m : ℕ) (found : Option Document) → rest ≡ key ∷ left
    → ((o : Outcome (Option Document)) → AllTaken Branch done rest scopes n o → Whole o) → Branch key scopes n (given found m) → next ≡ done ++ kept found → after ≡ scopes
    → (o : Outcome (Option Document)) → AllTaken Branch next left after m o → Whole o
taken_more Whole Branch done next rest left key scopes after n m found e leads is made same o h =
    loop_step (Branch key scopes n) (λ x p. AllTaken Branch (done ++ kept x) left scopes p) (λ l p. AllTaken Branch done l scopes n p) rest (key ∷ left) Whole found m e (λ p k. k) leads is o
    (subst (λ s. AllTaken Branch (done ++ kept found) left s m o) same (subst (λ l. AllTaken Branch l left after m o) made h))

pub taken_fault : (Whole : Outcome (Option Document) → Type 0) (Branch : List ℕ → Meaning) (done : List Document) (rest left : List (List ℕ)) (key : List ℕ) (scopes : List Document) (n m k : ℕ) (f : RenderFault) → rest ≡ key ∷ left
    → ((o : Outcome (Option Document)) → AllTaken Branch done rest scopes n o → Whole o) → Answers found_in (Branch key scopes n) (Err f) m → Answers found_in Whole (Err f) k
taken_fault Whole Branch done rest left key scopes n m k f e leads h =
    loop_fault found_in found_in (Branch key scopes n) (λ x p. AllTaken Branch (done ++ kept x) left scopes p) (λ l o. AllTaken Branch done l scopes n o) rest (key ∷ left) Whole f m k e (λ o l. l) leads h

-- the first of the names, and those behind it
first_bound : (names : Names) (d : Document) (more : List Document) → (name : List ℕ) × ((rest : List Document) × (bound_to (names_in names) (d ∷ more) ≡ single name d ∷ rest))
first_bound (one_name a) d more = (a.now, (bound_to [] more, refl))
first_bound (two_names a b) d more = (a.now, (bound_to (b.now ∷ []) more, refl))
first_bound (three_names a b c) d more = (a.now, (bound_to (b.now ∷ c.now ∷ []) more, refl))

-- the bindings of a turn are taken away, the first of them as the last
pub taken_back : (names : Names) (d kept : Document) (more s inside left back : List Document) (height : ℕ) → inside ≡ s ++ bound_to (names_in names) (d ∷ more) → length s ≡ height + 1
    → ((before more : List Document) → inside ≡ before ++ more → length before ≡ (height + 1) + 1 → left ≡ before)
    → ((before : List Document) (name : List ℕ) (e : Document) → 0 < length before → left ≡ before ++ single name e ∷ [] → back ≡ before)
    → ((before : List Document) (name : List ℕ) (e : Document) → 0 < length before → left ≡ before ++ single name e ∷ [] → kept ≡ e) → (back ≡ s) × (kept ≡ d)
taken_back names d kept more s inside left back height is size released scopes value =
    let (name, (rest, e)) = first_bound names d more in
    let front = s ++ single name d ∷ [] in
    let longer : length (s ++ single name d ∷ []) ≡ (height + 1) + 1 = omega (arith, length-append s (single name d ∷ []), size) in
    let out : left ≡ s ++ single name d ∷ [] = released front rest (is ∙ ap (λ l. s ++ l) e ∙ sym (append_assoc s (single name d ∷ []) rest)) longer in
    let some : 0 < length s = omega (arith, size) in
    (scopes s name d some out, value s name d some out)
