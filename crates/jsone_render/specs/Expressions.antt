-- The value of an expression that stands in a template as a text, and what it costs (JSON-e, "Language").
use Rattle.std.specs.Prelude.{◌≡◌, ℕ, ◌≤◌, List, [], Option, Some, ◌⊎◌}
use Rattle.farm_text.specs.Document.{Document, text, Members, member_at}
use Rattle.jsone_values.specs.declared.faults.Fault.TheVariants.{Syntax, TooDeep, WrongKind}
use Rattle.jsone_expr.specs.Trees.{Tree, depth}
use Rattle.jsone_expr.specs.Texts.{IsTree, IsTooDeep}
use Rattle.jsone_eval.specs.Outcomes.{Outcome as EvalOutcome, given as eval_given, faulted as eval_faulted, too_much as eval_too_much}
use Rattle.jsone_eval.specs.Values.{IsOutcome}
use Rattle.jsone_render.specs.Outcomes.{Outcome, given, faulted, too_much}

-- a fault of the expression is one of the node whose text it stands in
abbrev pub told : EvalOutcome → Outcome Document
told (eval_given d n) = given d n
told (eval_faulted f) = faulted f []
told eval_too_much = too_much

abbrev pub HasTree : List ℕ → Type 0
HasTree source = (t : Tree) × IsTree source t

-- the text has a tree that is not too deep, and this is its outcome
pub record ByTree (source : List ℕ) (scopes : List Document) (spent : ℕ) (o : Outcome Document) : Type 0 where
  pub tree : Tree
  pub of_text : IsTree source tree
  pub shallow : depth tree ≤ 64
  pub value : EvalOutcome
  pub evaluated : IsOutcome (record { source = source; scopes = scopes }) tree spent value
  pub is : o ≡ told value

-- or its tree is too deep, or it has none
abbrev pub Evaluated : List ℕ → List Document → ℕ → Outcome Document → Type 0
Evaluated source scopes spent o = ByTree source scopes spent o ⊎ ((IsTooDeep source × (o ≡ faulted TooDeep [])) ⊎ ((¬ HasTree source) × (o ≡ faulted Syntax [])))

-- where an expression is asked for, a text has to stand
abbrev pub OfText : {A : Type 0} → Option Document → (List ℕ → Outcome A → Type 0) → Outcome A → Type 0
OfText (Some (text source)) Is o = Is source o
OfText _ Is o = o ≡ faulted WrongKind []

-- the value of the expression that stands at a key
abbrev pub ValueAt : List ℕ → Members → List Document → ℕ → Outcome Document → Type 0
ValueAt key ms scopes n o = OfText (member_at key ms) (λ source. Evaluated source scopes n) o
