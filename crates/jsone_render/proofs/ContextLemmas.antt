-- A template whole, with its context.
use Rattle.std.proofs.Common.{◌≡◌, ℕ, Bool, true, false, List, [], ◌∷◌, Option, Some, refl, sym, ap, subst, ◌∙◌}
use Rattle.std.specs.Bool.{MatchBool}
use Rattle.std.specs.List.{list_all}
use Rattle.farm_text.specs.Document.{Document, null, boolean, whole, text, array, object, Members}
use Rattle.farm_text.specs.Doc.{document, documents}
use Rattle.jsone_values.specs.declared.faults.Fault.TheVariants.{BadContext}
use Rattle.jsone_eval.specs.declared.context.Context.{Context}
use Rattle.jsone_eval.specs.Scopes.{scopes_of}
use Rattle.jsone_render.specs.Answers.{LacksMap}
use Rattle.jsone_render.specs.Maps.{keys_of}
use Rattle.jsone_render.specs.Names.{is_name}
use Rattle.jsone_render.specs.Outcomes.{Outcome, given, faulted, or_null, Operand}
use Rattle.jsone_render.specs.Templates.{Renders, IsRendered}

-- nothing is bound but the names of the context
pub only_scope : (c : Context) (d : Document) → document c.outermost.now ≡ d → c.bindings.items ≡ [] → scopes_of c ≡ d ∷ []
only_scope c d is none = ap (λ x. x ∷ documents c.bindings.items) is ∙ ap (λ xs. d ∷ documents xs) none

pub no_context : (template context : Document) → LacksMap (Some context) → IsRendered template context (faulted BadContext [])
no_context template (object ms) h = absurd h
no_context template null h = refl
no_context template (boolean b) h = refl
no_context template (whole z) h = refl
no_context template (text bs) h = refl
no_context template (array ds) h = refl

by_names : (template : Document) (ms : Members) (b : Bool) (o : Outcome Document) → list_all is_name (keys_of ms) ≡ b
    → MatchBool b (Operand (Renders template) (object ms ∷ []) 0 (λ d n p. p ≡ given d n) o) (o ≡ faulted BadContext []) → IsRendered template (object ms) o
by_names template ms b o names h = subst (λ (x : Bool). MatchBool x (Operand (Renders template) (object ms ∷ []) 0 (λ d n p. p ≡ given d n) o) (o ≡ faulted BadContext [])) (sym names) h

pub bad_names : (template context : Document) (ms : Members) → context ≡ object ms → list_all is_name (keys_of ms) ≡ false → IsRendered template context (faulted BadContext [])
bad_names template context ms e names = subst (λ x. IsRendered template x (faulted BadContext [])) (sym e) (by_names template ms false (faulted BadContext []) names refl)

pub template_found : (template context d : Document) (ms : Members) (scopes : List Document) (n m : ℕ) (found : Option Document) → context ≡ object ms → list_all is_name (keys_of ms) ≡ true → scopes ≡ context ∷ [] → n ≡ 0
    → Renders template scopes n (given found m) → d ≡ or_null found → (spent : ℕ) × IsRendered template context (given d spent)
template_found template context d ms scopes n m found e names only zero h is =
    let there : Renders template (object ms ∷ []) 0 (given found m) =
    subst (λ x. Renders template (x ∷ []) 0 (given found m)) e (subst (λ k. Renders template (context ∷ []) k (given found m)) zero (subst (λ x. Renders template x n (given found m)) only h)) in
    (m, subst (λ x. IsRendered template x (given d m)) (sym e) (by_names template ms true (given d m) names (given found m, there, ap (λ x. given x m) is)))
