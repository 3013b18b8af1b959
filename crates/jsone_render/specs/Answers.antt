-- What functions of this crate answer.
use denote.Ref.{Bor}
use Rattle.std.specs.Prelude.{◌≡◌, ℕ, ◌<◌, length, take, slice_index, Bool, List, [], ◌∷◌, ◌++◌, Option, Some, None, map, option_map, Result, Ok, Err}
use Rattle.std.specs.declared.alloc.Global.{Global}
use Rattle.std.specs.declared.rc.Rc.{Rc}
use Rattle.farm_text.specs.Document.{Document, text, array, object}
use Rattle.farm_text.specs.Doc.{document}
use Rattle.farm_text.specs.declared.doc.Doc.{Doc}
use Rattle.jsone_values.specs.declared.faults.Fault.{Fault}
use Rattle.jsone_values.specs.declared.faults.Stop.{Stop}
use Rattle.jsone_values.specs.declared.faults.Stop.TheVariants.{Fault as stop_fault, NoMemory as no_memory}
use Rattle.jsone_values.specs.Truth.{is_true}
use Rattle.jsone_render.specs.declared.binders.Names.{Names}
use Rattle.jsone_render.specs.declared.binders.Names.TheVariants.{One as one_name, Two as two_names, Three as three_names}
use Rattle.jsone_render.specs.declared.forms.MapForm.{MapForm}
use Rattle.jsone_render.specs.declared.forms.MapForm.TheVariants.{Plain as plain_map, Faulty as faulty_map, Alone as alone_map, Binding as binding_map}
use Rattle.jsone_render.specs.declared.faults.RenderFault.{RenderFault}
use Rattle.jsone_render.specs.declared.faults.RenderFault.TheVariants.{Fault as a_fault, TooMuchWork, NoMemory}
use Rattle.jsone_render.specs.declared.keys.Others.{Others}
use Rattle.jsone_render.specs.declared.keys.Others.TheVariants.{None as no_others, One as one_other, More as more_others}
use Rattle.jsone_render.specs.Conditions.{default_key}
use Rattle.jsone_render.specs.Expressions.{HasTree, Evaluated}
use Rattle.jsone_render.specs.Forms.{Form, plain, faulty, alone, binding}
use Rattle.jsone_render.specs.Outcomes.{Outcome, given, faulted, too_much, worth, After}
use Rattle.jsone_render.specs.Texts.{IsShortest, NoneEnds}

-- an outcome of this kind, unless memory runs out; `view` says what is made
abbrev pub Answers : {A B : Type 0} → (A → B) → (Outcome B → Type 0) → Result A RenderFault → ℕ → Type 0
Answers view Is (Ok x) spent = Is (given (view x) spent)
Answers view Is (Err (a_fault f)) spent = Is (faulted f.rule f.path)
Answers view Is (Err TooMuchWork) spent = Is too_much
Answers view Is (Err NoMemory) spent = Unit {0}

-- the document that was found, if it is not removed
abbrev pub found_in : Option Doc → Option Document
found_in o = option_map document o

-- how many other keys there are, and which one is alone
abbrev pub AreOthers : Others → List (List ℕ) → Type 0
AreOthers no_others ks = ks ≡ []
AreOthers (one_other k) ks = ks ≡ k.now ∷ []
AreOthers more_others ks = (a b : List ℕ) × (more : List (List ℕ)) × (ks ≡ a ∷ b ∷ more)

-- the same, but that the scopes are as before
abbrev pub Kept : {A : Type 0} → Result A RenderFault → List Document → List Document → Type 0
Kept (Ok x) before after = after ≡ before
Kept (Err f) before after = Unit {0}

-- whether the value of an expression is true
abbrev pub Tested : List ℕ → List Document → ℕ → Outcome Bool → Type 0
Tested source scopes n o = After (Evaluated source scopes n) (λ d m p. p ≡ given (is_true d) m) o

-- the fault of the node itself
abbrev pub here : Fault → RenderFault
here f = a_fault (record { rule = f; path = [] })

-- a fault below a step of the pointer, unless memory runs out for it
abbrev pub IsUnder : List ℕ → RenderFault → RenderFault → Type 0
IsUnder step (a_fault f) (a_fault g) = (g.rule ≡ f.rule) × (g.path ≡ 47 ∷ (step ++ f.path))
IsUnder step (a_fault f) TooMuchWork = ⊥
IsUnder step (a_fault f) NoMemory = Unit {0}
IsUnder step TooMuchWork g = g ≡ TooMuchWork
IsUnder step NoMemory g = g ≡ NoMemory

-- what is made is paid for by the weight that it has
abbrev pub Finishes : Result Doc Stop → ℕ → Result (Option Doc) RenderFault → ℕ → Type 0
Finishes (Ok d) n r m = Answers found_in (λ o. o ≡ worth n (Some (document d))) r m
Finishes (Err (stop_fault f)) n r m = r ≡ Err (here f)
Finishes (Err no_memory) n r m = r ≡ Err NoMemory

-- names that a key binds
abbrev pub names_in : Names → List (List ℕ)
names_in (one_name a) = a.now ∷ []
names_in (two_names a b) = a.now ∷ b.now ∷ []
names_in (three_names a b c) = a.now ∷ b.now ∷ c.now ∷ []

-- the form of a map
abbrev pub form_in : MapForm → Form
form_in plain_map = plain
form_in (faulty_map f) = faulty f
form_in (alone_map o) = alone o
form_in (binding_map o key names) = binding o key.now (names_in names)

-- the expression stands there, before a `}`
abbrev pub StandsIn : List ℕ → List ℕ → Type 0
StandsIn behind source = (rest : List ℕ) × (behind ≡ source ++ 125 ∷ rest) × IsShortest behind source

-- an expression and what stands behind its `}`; or no expression ends before one
abbrev pub EndsAt : List ℕ → Option (Rc (List ℕ) Global × Bor (List ℕ)) → Type 0
EndsAt behind (Some (reading, rest)) = (behind ≡ reading.value ++ 125 ∷ rest.now) × IsShortest behind reading.value
EndsAt behind None = NoneEnds behind

-- no expression ends before another `}` than this one
abbrev pub EndsOnlyAt : List ℕ → Option ℕ → Type 0
EndsOnlyAt behind (Some end) = (end < length behind) × (slice_index behind end ≡ 125) × ((i : ℕ) → i < length behind → slice_index behind i ≡ 125 → HasTree (take i behind) → i ≡ end)
EndsOnlyAt behind None = NoneEnds behind

-- a fault, unless memory runs out
abbrev pub IsStop : {A : Type 0} → Result A Fault → Stop → Type 0
IsStop r (stop_fault f) = r ≡ Err f
IsStop r no_memory = Unit {0}

-- pairs of documents
abbrev pub pairs_of : List (Doc × Doc) → List (Document × Document)
pairs_of ps = map (λ p. (document p.0, document p.1)) ps

-- texts that are lent, as lists of bytes
abbrev pub texts_in : List (Bor (List ℕ)) → List (List ℕ)
texts_in ts = map (λ t. t.now) ts

-- the branch of the first of the conditions that are true
abbrev pub branch_taken : List (List ℕ) → List ℕ
branch_taken [] = default_key
branch_taken (k ∷ ks) = k

-- the value with some cost, or the fault, or too much work
abbrev pub IsAnswer : (Outcome Document → Type 0) → Result Doc RenderFault → Type 0
IsAnswer Is (Ok d) = (spent : ℕ) × Is (given (document d) spent)
IsAnswer Is (Err (a_fault f)) = Is (faulted f.rule f.path)
IsAnswer Is (Err TooMuchWork) = Is too_much
IsAnswer Is (Err NoMemory) = Unit {0}

-- values of other kinds
abbrev pub IsNoMap : Document → Type 0
IsNoMap (object ms) = ⊥
IsNoMap _ = Unit {0}

abbrev pub IsNoList : Document → Type 0
IsNoList (array ds) = ⊥
IsNoList _ = Unit {0}

abbrev pub IsNoText : Option Document → Type 0
IsNoText (Some (text bs)) = ⊥
IsNoText _ = Unit {0}

-- nothing, or a value of another kind
abbrev pub LacksMap : Option Document → Type 0
LacksMap (Some d) = IsNoMap d
LacksMap None = Unit {0}

abbrev pub LacksList : Option Document → Type 0
LacksList (Some d) = IsNoList d
LacksList None = Unit {0}
