-- Going on from what was found.
use Rattle.std.proofs.Common.{◌≡◌, ℕ, List, Option, Result, Ok, Err, refl, sym, ap, subst, ◌∙◌}
use Rattle.farm_text.specs.Document.{Document}
use Rattle.jsone_render.specs.declared.faults.RenderFault.{RenderFault}
use Rattle.jsone_render.specs.declared.faults.RenderFault.TheVariants.{Fault as a_fault, TooMuchWork, NoMemory}
use Rattle.jsone_render.specs.Answers.{Answers, IsUnder}
use Rattle.jsone_render.specs.Outcomes.{Outcome, given, faulted, too_much, After}
use Rattle.jsone_render.specs.Templates.{Under}

-- a fault is the outcome of the whole
pub fault_through : {A B C D : Type 0} (v : A → B) (w : C → D) (Is : Outcome B → Type 0) (F : B → ℕ → Outcome D → Type 0) (f : RenderFault) (n m : ℕ)
    → Answers v Is (Err f) n → Answers w (After Is F) (Err f) m
fault_through v w Is F (a_fault g) n m h = (faulted g.rule g.path, h, refl)
fault_through v w Is F TooMuchWork n m h = (too_much, h, refl)
fault_through v w Is F NoMemory n m h = tt

-- an answer of one kind is one of another
pub answer_through : {A B : Type 0} (v : A → B) (Is Whole : Outcome B → Type 0) (r : Result A RenderFault) (m : ℕ)
    → ((o : Outcome B) → Is o → Whole o) → Answers v Is r m → Answers v Whole r m
answer_through v Is Whole (Ok x) m leads h = leads _ h
answer_through v Is Whole (Err (a_fault f)) m leads h = leads _ h
answer_through v Is Whole (Err TooMuchWork) m leads h = leads _ h
answer_through v Is Whole (Err NoMemory) m leads h = tt

-- what was found goes on, with the same scopes
pub value_through : {B C D : Type 0} (w : C → D) (Is : Outcome B → Type 0) (F : List Document → B → ℕ → Outcome D → Type 0) (x : B) (n : ℕ) (r : Result C RenderFault) (m : ℕ) (before after : List Document)
    → after ≡ before → Is (given x n) → Answers w (F after x n) r m → Answers w (After Is (F before)) r m
value_through w Is F x n r m before after same h k =
    answer_through w (F before x n) (After Is (F before)) r m (λ o l. (given x n, h, l)) (subst (λ s. Answers w (F s x n) r m) same k)

-- a fault below a step
pub fault_under : {A B : Type 0} (v : A → Option Document) (w : B → Option Document) (step : List ℕ) (Is : Outcome (Option Document) → Type 0) (f g : RenderFault) (n m : ℕ)
    → IsUnder step f g → Answers v Is (Err f) n → Answers w (Under step Is) (Err g) m
fault_under v w step Is (a_fault f) (a_fault g) n m (rule, path) h =
    (faulted f.rule f.path, h, ap (λ x. faulted x g.path) rule ∙ ap (λ x. faulted f.rule x) path)
fault_under v w step Is (a_fault f) TooMuchWork n m u h = absurd u
fault_under v w step Is (a_fault f) NoMemory n m u h = tt
fault_under {A} {B} v w step Is TooMuchWork g n m u h = subst (λ (x : RenderFault). Answers w (Under step Is) (Err x) m) (sym u) (too_much, h, refl)
fault_under {A} {B} v w step Is NoMemory g n m u h = subst (λ (x : RenderFault). Answers w (Under step Is) (Err x) m) (sym u) tt

pub value_under : (step : List ℕ) (Is : Outcome (Option Document) → Type 0) (d : Option Document) (n : ℕ) → Is (given d n) → Under step Is (given d n)
value_under step Is d n h = (given d n, h, refl)

-- in a loop: what is left begins with a fault
pub loop_fault : {A B C D X : Type 0} (v : A → B) (w : C → D) (Is : Outcome B → Type 0) (F : B → ℕ → Outcome D → Type 0) (R : X → Outcome D → Type 0) (x y : X) (Whole : Outcome D → Type 0) (f : RenderFault) (n m : ℕ)
    → x ≡ y → ((o : Outcome D) → After Is F o → R y o) → ((o : Outcome D) → R x o → Whole o) → Answers v Is (Err f) n → Answers w Whole (Err f) m
loop_fault {A} {B} {C} {D} v w Is F R x y Whole f n m e begins leads h =
    answer_through w (After Is F) Whole (Err f) m (λ o k. leads o (subst (λ z. R z o) (sym e) (begins o k))) (fault_through v w Is F f n m h)

-- and what is left begins with something that is found
pub loop_step : {B D X : Type 0} (Is : Outcome B → Type 0) (F : B → ℕ → Outcome D → Type 0) (R : X → Outcome D → Type 0) (x y : X) (Whole : Outcome D → Type 0) (b : B) (n : ℕ)
    → x ≡ y → ((o : Outcome D) → After Is F o → R y o) → ((o : Outcome D) → R x o → Whole o) → Is (given b n) → (o : Outcome D) → F b n o → Whole o
loop_step Is F R x y Whole b n e begins leads h o k = leads o (subst (λ z. R z o) (sym e) (begins o (given b n, h, k)))
