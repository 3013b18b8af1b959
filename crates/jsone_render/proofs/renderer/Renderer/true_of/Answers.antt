use Rattle.std.proofs.Common.{◌≡◌, ◌∷◌, ◌++◌, [], ℕ, Bool, List, Vec, Bor, Global, Err, if◌then◌else◌, refl, sym, ap, subst, ◌∙◌, arith}
use Rattle.std.specs.Vec.Iter.{into_iter_items}
use Rattle.std.proofs.lemmas.Grind.{common_steps}
use Rattle.farm_text.specs.Document.{Document}
use Rattle.farm_text.specs.Doc.{document}
use Rattle.jsone_values.specs.Truth.{is_true}
use Rattle.jsone_eval.specs.Scopes.{scopes_of}
use Rattle.jsone_render.specs.Answers.{Answers, texts_in}
use Rattle.jsone_render.specs.Conditions.{AreTrue}
use Rattle.jsone_render.specs.Expressions.{Evaluated}
use Rattle.jsone_render.specs.Outcomes.{Outcome, given}
use Rattle.jsone_render.proofs.OutcomeLemmas.{loop_fault, loop_step}
use Rattle.jsone_render.proofs.renderer.Renderer.true_of.Goals as goal

-- what goes on from a condition
abbrev Goes : List (List ℕ) → List ℕ → List (List ℕ) → List Document → Document → ℕ → Outcome (List (List ℕ)) → Type 0
Goes found k left scopes d m = AreTrue (found ++ (if is_true d then k ∷ [] else [])) left scopes m

step : (Whole : Outcome (List (List ℕ)) → Type 0) (found rest left next : List (List ℕ)) (k : List ℕ) (scopes after : List Document) (n m : ℕ) (d : Document) → rest ≡ k ∷ left
    → ((o : Outcome (List (List ℕ))) → AreTrue found rest scopes n o → Whole o) → Evaluated k scopes n (given d m) → next ≡ found ++ (if is_true d then k ∷ [] else []) → after ≡ scopes
    → (o : Outcome (List (List ℕ))) → AreTrue next left after m o → Whole o
step Whole found rest left next k scopes after n m d e leads is made same o h =
    loop_step (Evaluated k scopes n) (Goes found k left scopes) (λ l p. AreTrue found l scopes n p) rest (k ∷ left) Whole d m e (λ p i. i) leads is o
    (subst (λ s. AreTrue (found ++ (if is_true d then k ∷ [] else [])) left s m o) same (subst (λ l. AreTrue l left after m o) made h))

pub loop-condition-preserved : goal.loop-condition-preserved
loop-condition-preserved c =
    let l = c.loop-condition in
    let left = texts_in (into_iter_items c.next.new.self) in
    let next : into_iter_items l.condition-iterator ≡ c.in-Some.condition ∷ into_iter_items c.next.new.self = grind (arith, common_steps) in
    let k = c.in-Some.condition.now in
    let scopes = scopes_of l.self.context in
    let d = document c.in-Ok.value in
    let m = c.evaluate.new.self.cost.spent in
    let whole : Outcome (List (List ℕ)) → Type 0 = AreTrue [] (texts_in c.args.conditions.items) (scopes_of c.args.self.now.context) c.args.self.now.cost.spent in
    let evaluated : Evaluated k scopes l.self.cost.spent (given d m) = subst (λ (b : List ℕ). Evaluated b scopes l.self.cost.spent (given d m)) c.as_bytes.ensures.value c.in-Ok.ensures.answers in
    record {
      leads = step whole (texts_in l.found.items) (texts_in (into_iter_items l.condition-iterator)) left (texts_in c.keep_if.new.found.items) k scopes (scopes_of c.evaluate.new.self.context) l.self.cost.spent m d (ap texts_in next) l.invariant.leads evaluated
          (c.in_ok-keep_if.ensures ∙ ap (λ (b : Bool). texts_in l.found.items ++ (if b then k ∷ [] else [])) c.is_true-is_kept.ensures) c.in-Ok.ensures.scopes;
      same = c.in-Ok.ensures.scopes ∙ l.invariant.same;
    }

pub returns-in-Err-clause-answers : goal.returns-in-Err-clause-answers
returns-in-Err-clause-answers c =
    let l = c.loop-condition in
    let left = texts_in (into_iter_items c.next.new.self) in
    let next : into_iter_items l.condition-iterator ≡ c.in-Some.condition ∷ into_iter_items c.next.new.self = grind (arith, common_steps) in
    let k = c.in-Some.condition.now in
    let scopes = scopes_of l.self.context in
    let n = l.self.cost.spent in
    let m = c.evaluate.new.self.cost.spent in
    let whole : Outcome (List (List ℕ)) → Type 0 = AreTrue [] (texts_in c.args.conditions.items) (scopes_of c.args.self.now.context) c.args.self.now.cost.spent in
    loop_fault document (λ (v : Vec (Bor (List ℕ)) Global). texts_in v.items) (Evaluated k scopes n) (Goes (texts_in l.found.items) k left scopes) (λ ks o. AreTrue (texts_in l.found.items) ks scopes n o) (texts_in (into_iter_items l.condition-iterator)) (k ∷ left) whole
    c.in-Err.fault m m (ap texts_in next) (λ o h. h) l.invariant.leads
    (subst (λ (b : List ℕ). Answers document (Evaluated b scopes n) (Err c.in-Err.fault) m) c.as_bytes.ensures.value c.in-Err.ensures.answers)

pub returns-clause-answers : goal.returns-clause-answers
returns-clause-answers c =
    let l = c.loop-condition in
    let none : into_iter_items l.condition-iterator ≡ [] = grind (arith, common_steps) in
    let scopes = scopes_of l.self.context in
    let done = given (texts_in l.found.items) l.self.cost.spent in
    l.invariant.leads done (subst (λ ks. AreTrue (texts_in l.found.items) ks scopes l.self.cost.spent done) (sym (ap texts_in none)) refl)
