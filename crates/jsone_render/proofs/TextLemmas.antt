-- The parts of a text, one after the other.
use Rattle.std.proofs.Common.{◌≡◌, ℕ, ◌≤◌, true, false, codes, List, [], ◌∷◌, ◌++◌, length, Err, String, Global, refl, sym, subst}
use Rattle.std.specs.Str.Pattern.{LacksTextAt}
use Rattle.farm_text.specs.Document.{Document}
use Rattle.jsone_values.specs.declared.faults.Fault.TheVariants.{Syntax}
use Rattle.jsone_values.specs.Splits.{IsFirstCut}
use Rattle.jsone_render.specs.declared.faults.RenderFault.{RenderFault}
use Rattle.jsone_render.specs.declared.faults.RenderFault.TheVariants.{Fault as a_fault, TooMuchWork, NoMemory}
use Rattle.jsone_render.specs.Answers.{Answers}
use Rattle.jsone_render.specs.Outcomes.{Outcome, given, faulted, too_much}
use Rattle.jsone_render.specs.Texts.{Part, last, escaped, valued, unended, opening, ends_with_dollar, IsShortest, NoneEnds, AreParts, PartsRender, Valued}

-- what the parts of the rest come to, behind what was made so far, is such an outcome
abbrev pub Leads : (Outcome (List ℕ) → Type 0) → List ℕ → List ℕ → List Document → ℕ → Type 0
Leads Whole rest out scopes n = (parts : List Part) (o : Outcome (List ℕ)) → AreParts rest parts → PartsRender out parts scopes n o → Whole o

pub past_escape : (Whole : Outcome (List ℕ) → Type 0) (rest front behind out next : List ℕ) (scopes : List Document) (n : ℕ) → IsFirstCut opening rest front behind → ends_with_dollar front ≡ true
    → next ≡ (out ++ front) ++ codes "{" → Leads Whole rest out scopes n → Leads Whole behind next scopes n
past_escape Whole rest front behind out next scopes n cut dollar made leads parts o are renders =
    leads (escaped front ∷ parts) o (behind, cut, dollar, are) (subst (λ b. PartsRender b parts scopes n o) made renders)

cut_at : (rest front behind source next : List ℕ) → IsFirstCut opening rest front behind → behind ≡ source ++ 125 ∷ next → IsFirstCut opening rest front (source ++ 125 ∷ next)
cut_at rest front behind source next cut e = subst (λ b. IsFirstCut opening rest front b) e cut

pub past_value : (Whole : Outcome (List ℕ) → Type 0) (rest front behind source after out bs next : List ℕ) (scopes : List Document) (n m : ℕ) → IsFirstCut opening rest front behind → ends_with_dollar front ≡ false
    → behind ≡ source ++ 125 ∷ after → IsShortest behind source → Valued source scopes n (given bs m) → next ≡ (out ++ front) ++ bs → Leads Whole rest out scopes n → Leads Whole after next scopes m
past_value Whole rest front behind source after out bs next scopes n m cut dollar e shortest value made leads parts o are renders =
    leads (valued front source ∷ parts) o
    (after, cut_at rest front behind source after cut e, dollar, subst (λ b. IsShortest b source) e shortest, are)
    (given bs m, value, subst (λ b. PartsRender b parts scopes m o) made renders)

at_value : (Whole : Outcome (List ℕ) → Type 0) (rest front behind source after out : List ℕ) (scopes : List Document) (n : ℕ) (o : Outcome (List ℕ)) → IsFirstCut opening rest front behind → ends_with_dollar front ≡ false
    → behind ≡ source ++ 125 ∷ after → IsShortest behind source → PartsRender out (valued front source ∷ []) scopes n o → Leads Whole rest out scopes n → Whole o
at_value Whole rest front behind source after out scopes n o cut dollar e shortest renders leads =
    leads (valued front source ∷ []) o (after, cut_at rest front behind source after cut e, dollar, subst (λ b. IsShortest b source) e shortest, tt) renders

pub at_fault : {A : Type 0} (v : A → List ℕ) (w : String Global → List ℕ) (Whole : Outcome (List ℕ) → Type 0) (rest front behind source after out : List ℕ) (scopes : List Document) (n m k : ℕ) (f : RenderFault)
    → IsFirstCut opening rest front behind → ends_with_dollar front ≡ false → behind ≡ source ++ 125 ∷ after → IsShortest behind source
    → Answers v (Valued source scopes n) (Err f) m → Leads Whole rest out scopes n → Answers w Whole (Err f) k
at_fault v w Whole rest front behind source after out scopes n m k (a_fault f) cut dollar e shortest h leads =
    at_value Whole rest front behind source after out scopes n (faulted f.rule f.path) cut dollar e shortest (faulted f.rule f.path, h, refl) leads
at_fault v w Whole rest front behind source after out scopes n m k TooMuchWork cut dollar e shortest h leads =
    at_value Whole rest front behind source after out scopes n too_much cut dollar e shortest (too_much, h, refl) leads
at_fault v w Whole rest front behind source after out scopes n m k NoMemory cut dollar e shortest h leads = tt

pub at_unended : (Whole : Outcome (List ℕ) → Type 0) (rest front behind out : List ℕ) (scopes : List Document) (n : ℕ) → IsFirstCut opening rest front behind → ends_with_dollar front ≡ false → NoneEnds behind
    → Leads Whole rest out scopes n → Whole (faulted Syntax [])
at_unended Whole rest front behind out scopes n cut dollar none leads = leads (unended front ∷ []) (faulted Syntax []) (behind, cut, dollar, none, refl) refl

pub at_last : (Whole : Outcome (List ℕ) → Type 0) (rest out next : List ℕ) (scopes : List Document) (n : ℕ) → ((i : ℕ) → i ≤ length rest → LacksTextAt opening rest i) → next ≡ out ++ rest → Leads Whole rest out scopes n → Whole (given next n)
at_last Whole rest out next scopes n lacks made leads = subst (λ b. Whole (given b n)) (sym made) (leads (last rest ∷ []) (given (out ++ rest) n) (refl, lacks, refl) refl)

-- before the first part
pub at_front : (text out : List ℕ) (scopes : List Document) (n : ℕ) → out ≡ [] → Leads (λ o. (parts : List Part) × AreParts text parts × PartsRender [] parts scopes n o) text out scopes n
at_front text out scopes n e parts o are renders = (parts, are, subst (λ b. PartsRender b parts scopes n o) e renders)
