-- What is paid for is pushed, and where the machine ends.
use Rattle.std.proofs.Common.{◌≡◌, ℕ, zero, suc, ◌+◌, ◌<◌, ◌≤◌, min, if◌then◌else◌, Bool, true, false, arith, rules, List, [], ◌∷◌, ◌++◌, map, reverse, Option, Some, None, Result, Ok, Err, refl, sym, ap, subst, ◌∙◌}
use Rattle.std.proofs.lemmas.List.{map-append, reverse-append}
use Rattle.std.proofs.lemmas.Bool.{le-leb, lt-leb}
use Rattle.std.specs.Bool.{MatchBool}
use Rattle.farm_text.specs.Document.{Document, boolean}
use Rattle.farm_text.specs.Doc.{document}
use Rattle.farm_text.specs.declared.doc.Doc.{Doc, the_lemmas}
use Rattle.farm_text.specs.declared.doc.Doc.TheVariants.{Bool as bool_doc}
use Rattle.jsone_values.specs.declared.faults.Fault.{Fault}
use Rattle.jsone_values.specs.declared.faults.Stop.{Stop}
use Rattle.jsone_values.specs.declared.faults.Stop.TheVariants.{Fault as a_fault, NoMemory}
use Rattle.jsone_values.specs.Meets.{Meets, MeetsWithin}
use Rattle.jsone_values.specs.Truth.{is_true}
use Rattle.jsone_values.specs.Weights.{weight}
use Rattle.jsone_expr.specs.declared.nodes.Node.{Node}
use Rattle.jsone_eval.specs.Values.{Setting}
use Rattle.jsone_eval.specs.Outcomes.{Outcome, given, faulted, too_much, paid}
use Rattle.jsone_eval.specs.declared.evaluator.EvalFault.{EvalFault}
use Rattle.jsone_eval.specs.declared.evaluator.EvalFault.TheVariants.{Fault as eval_fault, TooMuchWork, NoMemory as no_memory}
use Rattle.jsone_eval.specs.declared.machine.Machine.{Machine}
use Rattle.jsone_eval.specs.Machine.{Part, top, top_part, below, side_top, side_below, Moved, went, ended, pushed, IsPushed, IsGathered, with_item, with_member, IsStep, Runs, values_in, parts_in, Does, Leads, Pays, PaysWithin, Answers}

pub does_so : {A : Type 0} (P Q : Moved → Type 0) → ((p : Moved) → P p → Q p) → (r : Result A EvalFault) (m : Machine) → Does P r m → Does Q r m
does_so P Q weaker (Ok u) m h = weaker _ h
does_so P Q weaker (Err (eval_fault f)) m h = weaker _ h
does_so P Q weaker (Err TooMuchWork) m h = weaker _ h
does_so P Q weaker (Err no_memory) m h = tt

-- a result that is paid for
pub pays_for : {A : Type 0} (R : Result Document Fault → Type 0) (found : Result Doc Stop) (vs : List Document) (gs : List Part) (k n : ℕ) (r : Result A EvalFault) (m : Machine)
    → Meets R found → Pays found vs gs k n r m → Does (IsPushed n R vs gs k) r m
pays_for R (Ok d) vs gs k n r m meets pays = does_so (λ p. p ≡ pushed vs gs k (paid n (document d))) (IsPushed n R vs gs k) (λ p e. (Ok (document d), meets, e)) r m pays
pays_for R (Err (a_fault f)) vs gs k n r m meets pays = subst (λ x. Does (IsPushed n R vs gs k) x m) (sym pays) (Err f, meets, refl)
pays_for R (Err NoMemory) vs gs k n r m meets pays = subst (λ x. Does (IsPushed n R vs gs k) x m) (sym pays) tt

-- the same behind what was taken
pub pays_for_one : {A : Type 0} (R : Document → Result Document Fault → Type 0) (found : Result Doc Stop) (vs us : List Document) (d : Document) (gs : List Part) (k n : ℕ) (r : Result A EvalFault) (m : Machine)
    → d ≡ top vs → us ≡ below vs → Meets (R d) found → Pays found us gs k n r m → Does (IsPushed n (R (top vs)) (below vs) gs k) r m
pays_for_one R found vs us d gs k n r m last rest meets pays =
    subst (λ x. Does (IsPushed n (R x) (below vs) gs k) r m) last (subst (λ x. Does (IsPushed n (R d) x gs k) r m) rest (pays_for (R d) found us gs k n r m meets pays))

pub pays_for_two : {A : Type 0} (R : Document → Document → Result Document Fault → Type 0) (found : Result Doc Stop) (vs us ts : List Document) (d e : Document) (gs : List Part) (k n : ℕ) (r : Result A EvalFault) (m : Machine)
    → e ≡ top vs → us ≡ below vs → d ≡ top us → ts ≡ below us → Meets (R d e) found → Pays found ts gs k n r m → Does (IsPushed n (R (top (below vs)) (top vs)) (below (below vs)) gs k) r m
pays_for_two R found vs us ts d e gs k n r m last rest before more meets pays =
    subst (λ x. Does (IsPushed n (R (top x) (top vs)) (below x) gs k) r m) rest
    (subst (λ x. Does (IsPushed n (R (top us) x) (below us) gs k) r m) last (pays_for_one (λ x. R x e) found us ts d gs k n r m before more meets pays))

pub pays_for_slice : {A : Type 0} (R : Document → Option Document → Option Document → Result Document Fault → Type 0) (found : Result Doc Stop) (from to : Bool) (vs us ts ss : List Document) (d : Document) (e g : Option Document) (gs : List Part) (k n : ℕ) (r : Result A EvalFault) (m : Machine)
    → g ≡ side_top to vs → us ≡ side_below to vs → e ≡ side_top from us → ts ≡ side_below from us → d ≡ top ts → ss ≡ below ts → Meets (R d e g) found → Pays found ss gs k n r m
    → Does (IsPushed n (R (top (side_below from (side_below to vs))) (side_top from (side_below to vs)) (side_top to vs)) (below (side_below from (side_below to vs))) gs k) r m
pays_for_slice R found from to vs us ts ss d e g gs k n r m end rest start more last less meets pays =
    subst (λ x. Does (IsPushed n (R (top (side_below from x)) (side_top from x) (side_top to vs)) (below (side_below from x)) gs k) r m) rest
    (subst (λ x. Does (IsPushed n (R (top (side_below from us)) (side_top from us) x) (below (side_below from us)) gs k) r m) end
    (subst (λ x. Does (IsPushed n (R (top (side_below from us)) x g) (below (side_below from us)) gs k) r m) start
    (subst (λ x. Does (IsPushed n (R (top x) e g) (below x) gs k) r m) more
    (pays_for_one (λ x. R x e g) found ts ss d gs k n r m last less meets pays))))

pub pays_for_part : {A : Type 0} (R : Part → Result Document Fault → Type 0) (found : Result Doc Stop) (vs : List Document) (gs hs : List Part) (g : Part) (k n : ℕ) (r : Result A EvalFault) (m : Machine)
    → g ≡ top_part gs → hs ≡ below gs → Meets (R g) found → Pays found vs hs k n r m → Does (IsPushed n (R (top_part gs)) vs (below gs) k) r m
pays_for_part R found vs gs hs g k n r m last rest meets pays =
    subst (λ x. Does (IsPushed n (R x) vs (below gs) k) r m) last (subst (λ x. Does (IsPushed n (R g) vs x k) r m) rest (pays_for (R g) found vs hs k n r m meets pays))

step_leads_on : {A : Type 0} (s : Setting) (x : Node) (vs : List Document) (gs : List Part) (n : ℕ) (r : Result A EvalFault) (m : Machine) → Does (IsStep s x vs gs zero n) r m → Leads s x vs gs zero n r m
step_leads_on s x vs gs n (Ok u) m does = λ xs o h. (went (values_in m) (parts_in m) m.passed m.spent, does, h)
step_leads_on s x vs gs n (Err (eval_fault f)) m does = λ xs. (ended (faulted f), does, refl)
step_leads_on s x vs gs n (Err TooMuchWork) m does = λ xs. (ended too_much, does, refl)
step_leads_on s x vs gs n (Err no_memory) m does = tt

-- a node that is evaluated
pub step_leads : {A : Type 0} (s : Setting) (x : Node) (vs : List Document) (gs : List Part) (k n : ℕ) (r : Result A EvalFault) (m : Machine) → k ≡ zero → Does (IsStep s x vs gs k n) r m → Leads s x vs gs k n r m
step_leads s x vs gs k n r m none does =
    subst (λ j. Leads s x vs gs j n r m) (sym none) (step_leads_on s x vs gs n r m (subst (λ j. Does (IsStep s x vs gs j n) r m) none does))

-- a fault is the answer of the whole
pub fault_answers : (A : Type 0) (P : Outcome → Type 0) (s : Setting) (x : Node) (xs : List Node) (vs : List Document) (gs : List Part) (k n : ℕ) (fault : EvalFault) (m : Machine) (before : ℕ)
    → ((o : Outcome) → Runs s (x ∷ xs) vs gs k n o → P o) → Leads {A = A} s x vs gs k n (Err fault) m → Answers P (Err fault) before before
fault_answers A P s x xs vs gs k n (eval_fault f) m before whole leads = (whole (faulted f) (leads xs), refl)
fault_answers A P s x xs vs gs k n TooMuchWork m before whole leads = (whole too_much (leads xs), refl)
fault_answers A P s x xs vs gs k n no_memory m before whole leads = refl

-- what is paid is more than may be, or is not
abbrev paid_if : ℕ → Document → Bool → Outcome
paid_if n d b = if b then given d (n + weight d) else too_much

over_limit : (vs : List Document) (gs : List Part) (k n : ℕ) (d : Document) → 1000000 < n + weight d → ended too_much ≡ pushed vs gs k (paid n d)
over_limit vs gs k n d more = ap (λ (b : Bool). pushed vs gs k (paid_if n d b)) (sym (lt-leb (n + weight d) 1000000 more))

within_limit : (vs : List Document) (gs : List Part) (k n : ℕ) (d : Document) → n + weight d ≤ 1000000 → went (d ∷ vs) gs k (n + weight d) ≡ pushed vs gs k (paid n d)
within_limit vs gs k n d upto = ap (λ (b : Bool). pushed vs gs k (paid_if n d b)) (sym (le-leb (n + weight d) 1000000 upto))

-- a value that weighs more than may be paid in all
pub too_heavy : (R : Result Document Fault → Type 0) (vs : List Document) (gs : List Part) (k n : ℕ) → (d : Document) × R (Ok d) × (1000000 < weight d) → IsPushed n R vs gs k (ended too_much)
too_heavy R vs gs k n (d, is, heavy) = (Ok d, is, over_limit vs gs k n d (omega (arith, heavy)))

-- the same of a call, which makes nothing that weighs too much
pays_within : {A : Type 0} (R : Result Document Fault → Type 0) (found : Result (Option Doc) Stop) (vs : List Document) (gs : List Part) (k n : ℕ) (r : Result A EvalFault) (m : Machine)
    → MeetsWithin 1000000 R found → PaysWithin found vs gs k n r m → Does (IsPushed n R vs gs k) r m
pays_within R (Ok (Some d)) vs gs k n r m meets pays = pays_for R (Ok d) vs gs k n r m meets pays
pays_within R (Ok None) vs gs k n r m meets pays = subst (λ x. Does (IsPushed n R vs gs k) x m) (sym pays) (too_heavy R vs gs k n meets)
pays_within R (Err (a_fault f)) vs gs k n r m meets pays = pays_for R (Err (a_fault f)) vs gs k n r m meets pays
pays_within R (Err NoMemory) vs gs k n r m meets pays = pays_for R (Err NoMemory) vs gs k n r m meets pays

pub pays_for_call : {A : Type 0} (R : Part → Result Document Fault → Type 0) (found : Result (Option Doc) Stop) (vs : List Document) (gs hs : List Part) (g : Part) (k n : ℕ) (r : Result A EvalFault) (m : Machine)
    → g ≡ top_part gs → hs ≡ below gs → MeetsWithin 1000000 (R g) found → PaysWithin found vs hs k n r m → Does (IsPushed n (R (top_part gs)) vs (below gs) k) r m
pays_for_call R found vs gs hs g k n r m last rest meets pays =
    subst (λ x. Does (IsPushed n (R x) vs (below gs) k) r m) last (subst (λ x. Does (IsPushed n (R g) vs x k) r m) rest (pays_within (R g) found vs hs k n r m meets pays))

pub charge_too_much : (vs : List Document) (gs : List Part) (k n w : ℕ) (d : Document) → w ≡ min (n + min (weight d) 18446744073709551615) 18446744073709551615 → 1000000 < w → ended too_much ≡ pushed vs gs k (paid n d)
charge_too_much vs gs k n w d e more = over_limit vs gs k n d (omega (arith, e, more))

pub charge_within : (vs : List Document) (gs : List Part) (k n w : ℕ) (d : Document) → w ≡ min (n + min (weight d) 18446744073709551615) 18446744073709551615 → w ≤ 1000000 → went (d ∷ vs) gs k w ≡ pushed vs gs k (paid n d)
charge_within vs gs k n w d e upto =
    let same : w ≡ n + weight d = omega (arith, e, upto) in
    ap (went (d ∷ vs) gs k) same ∙ within_limit vs gs k n d (omega (arith, same, upto))

-- one more on top
pub last_value : {A B : Type 0} (f : A → B) (xs : List A) (x : A) → reverse (map f (xs ++ x ∷ [])) ≡ f x ∷ reverse (map f xs)
last_value f xs x = ap reverse (map-append f xs (x ∷ [])) ∙ reverse-append (map f xs) (f x ∷ [])

pub last_part : {A B : Type 0} (f : A → B) (xs : List A) (x : A) → map f (reverse (xs ++ x ∷ [])) ≡ f x ∷ map f (reverse xs)
last_part f xs x = ap (map f) (reverse-append xs (x ∷ []))

-- a value, taken from the end
pub taken : {A B : Type 0} (f : A → B) (old new : List A) (x : A) → old ≡ new ++ x ∷ [] → reverse (map f old) ≡ f x ∷ reverse (map f new)
taken f old new x e = ap (λ l. reverse (map f l)) e ∙ last_value f new x

pub part_taken : {A B : Type 0} (f : A → B) (old new : List A) (x : A) → old ≡ new ++ x ∷ [] → map f (reverse old) ≡ f x ∷ map f (reverse new)
part_taken f old new x e = ap (λ l. map f (reverse l)) e ∙ last_part f new x

-- the left side of an operator decides, or does not
pub undecided : (b : Bool) (P Q : Type 0) → b ≡ false → Q → MatchBool b P Q
undecided b P Q e h = subst (λ c. MatchBool c P Q) (sym e) h

decided : (b : Bool) (P Q : Type 0) → b ≡ true → P → MatchBool b P Q
decided b P Q e h = subst (λ c. MatchBool c P Q) (sym e) h

document-Bool : (b : Bool) → document (bool_doc b) ≡ boolean b
document-Bool b = search (rules, the_lemmas)

pub decides_so : {A : Type 0} (b t : Bool) (vs us : List Document) (gs : List Part) (k j n : ℕ) (r : Result A EvalFault) (m : Machine) → b ≡ true → t ≡ is_true (top vs) → us ≡ below vs → j ≡ suc k → Does (λ p. p ≡ pushed us gs j (paid n (document (bool_doc t)))) r m
    → Does (λ p. MatchBool b (p ≡ pushed (below vs) gs (suc k) (paid n (boolean (is_true (top vs))))) (p ≡ went vs gs k n)) r m
decides_so b t vs us gs k j n r m holds truth rest more does =
    let value = document-Bool t ∙ ap boolean truth in
    does_so (λ p. p ≡ pushed us gs j (paid n (document (bool_doc t)))) (λ p. MatchBool b (p ≡ pushed (below vs) gs (suc k) (paid n (boolean (is_true (top vs))))) (p ≡ went vs gs k n))
    (λ p e.
    decided b (p ≡ pushed (below vs) gs (suc k) (paid n (boolean (is_true (top vs))))) (p ≡ went vs gs k n) holds
    (e ∙ ap (λ x. pushed us gs j (paid n x)) value ∙ ap (λ x. pushed us gs x (paid n (boolean (is_true (top vs))))) more ∙ ap (λ x. pushed x gs (suc k) (paid n (boolean (is_true (top vs))))) rest))
    r m does

-- one more of a list, or of a map
pub gathers_item : {A : Type 0} (vs us : List Document) (gs hs : List Part) (d : Document) (g h : Part) (k n : ℕ) (r : Result A EvalFault) (m : Machine)
    → d ≡ top vs → us ≡ below vs → h ≡ top_part gs → hs ≡ below gs → g ≡ (h.0 ++ d ∷ [], h.1) → Does (λ p. p ≡ went us (g ∷ hs) k n) r m → Does (λ p. p ≡ went (below vs) (with_item (top vs) gs) k n) r m
gathers_item vs us gs hs d g h k n r m last rest part more made does =
    does_so (λ p. p ≡ went us (g ∷ hs) k n) (λ p. p ≡ went (below vs) (with_item (top vs) gs) k n)
    (λ p e.
    e
    ∙ ap (λ x. went us (x ∷ hs) k n) made
    ∙ ap (λ (x : Part). went us ((x.0 ++ d ∷ [], x.1) ∷ hs) k n) part
    ∙ ap (λ x. went us (((top_part gs).0 ++ x ∷ [], (top_part gs).1) ∷ hs) k n) last
    ∙ ap (λ x. went us (((top_part gs).0 ++ top vs ∷ [], (top_part gs).1) ∷ x) k n) more
    ∙ ap (λ x. went x (with_item (top vs) gs) k n) rest)
    r m does

pub gathers_at : {A : Type 0} (key : List ℕ) (vs us : List Document) (gs hs : List Part) (d : Document) (g h : Part) (k n : ℕ) (r : Result A EvalFault) (m : Machine)
    → d ≡ top vs → us ≡ below vs → h ≡ top_part gs → hs ≡ below gs → g ≡ (h.0, h.1 ++ (key, d) ∷ []) → Does (λ p. p ≡ went us (g ∷ hs) k n) r m → Does (λ p. p ≡ went (below vs) (with_member key (top vs) gs) k n) r m
gathers_at key vs us gs hs d g h k n r m last rest part more made does =
    does_so (λ p. p ≡ went us (g ∷ hs) k n) (λ p. p ≡ went (below vs) (with_member key (top vs) gs) k n)
    (λ p e.
    e
    ∙ ap (λ x. went us (x ∷ hs) k n) made
    ∙ ap (λ (x : Part). went us ((x.0, x.1 ++ (key, d) ∷ []) ∷ hs) k n) part
    ∙ ap (λ x. went us (((top_part gs).0, (top_part gs).1 ++ (key, x) ∷ []) ∷ hs) k n) last
    ∙ ap (λ x. went us (((top_part gs).0, (top_part gs).1 ++ (key, top vs) ∷ []) ∷ x) k n) more
    ∙ ap (λ x. went x (with_member key (top vs) gs) k n) rest)
    r m does

pub gathers_member : {A : Type 0} (found : Result (List ℕ) Fault) (key : List ℕ) (vs : List Document) (gs : List Part) (k n : ℕ) (r : Result A EvalFault) (m : Machine) → found ≡ Ok key → Does (λ p. p ≡ went (below vs) (with_member key (top vs) gs) k n) r m → Does (IsGathered found vs gs k n) r m
gathers_member found key vs gs k n r m e does = subst (λ x. Does (IsGathered x vs gs k n) r m) (sym e) does

pub key_fault : (found : Result (List ℕ) Fault) (f : Fault) (vs : List Document) (gs : List Part) (k n : ℕ) → found ≡ Err f → IsGathered found vs gs k n (ended (faulted f))
key_fault found f vs gs k n e = subst (λ x. IsGathered x vs gs k n (ended (faulted f))) (sym e) refl

-- the node is of this kind
pub of_kind : {A : Type 0} (s : Setting) (x y : Node) (vs : List Document) (gs : List Part) (k n : ℕ) (r : Result A EvalFault) (m : Machine) → x ≡ y → Does (IsStep s y vs gs k n) r m → Does (IsStep s x vs gs k n) r m
of_kind s x y vs gs k n r m e does = subst (λ z. Does (IsStep s z vs gs k n) r m) (sym e) does
