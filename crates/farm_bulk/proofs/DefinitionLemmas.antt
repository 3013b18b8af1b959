-- A document says one definition of a task.
use Rattle.std.proofs.Common.{◌≡◌, inl, inr, ℕ, List, codes, Some, None, refl, sym, ◌∙◌}
use Rattle.farm_text.specs.Document.{Document, text, get}
use Rattle.farm_text.proofs.OneMomentLemmas.{IsDateTime-one}
use Rattle.task_defs.specs.Definitions.{Says}
use Rattle.task_defs.specs.Parts.{IsOnlyAt}
use Rattle.task_defs.specs.Rules.{MomentAt, IsExpires}
use Rattle.task_types.specs.declared.task_def.TaskDef.{TaskDef}
use Rattle.task_defs.proofs.DefinitionLemmas.{definition_one}
use Rattle.task_defs.proofs.TimeLemmas.{only_same}

-- the moment at a key is the only one there
only_at : (key : List ℕ) (d : Document) (m : ℕ) → MomentAt key d m → IsOnlyAt (get key d) m
only_at key d m at = (text at.0, at.1, record { said = at.0; is = refl; moment = at.2; only = λ n other. IsDateTime-one m n at.0 at.2 other })

-- when a task expires is one moment
expires_one : (d : Document) (deadline m n : ℕ) → IsExpires d deadline m → IsExpires d deadline n → m ≡ n
expires_one d deadline m n (inl x) (inl y) = only_same (codes "expires") d m n (only_at (codes "expires") d m x) y
expires_one d deadline m n (inl x) (inr y) = let e : Some (text x.0) ≡ None = sym x.1 ∙ y.0 in absurd cc
expires_one d deadline m n (inr x) (inl y) = let e : Some (text y.0) ≡ None = sym y.1 ∙ x.0 in absurd cc
expires_one d deadline m n (inr x) (inr y) = x.1 ∙ sym y.1

pub Says-one : (d : Document) (id : List ℕ) (a b : TaskDef) → Says d id a → Says d id b → a ≡ b
Says-one d id a b x y =
    definition_one d id a b (only_at (codes "created") d a.created x.definition.created) (only_at (codes "deadline") d a.deadline x.definition.deadline) (λ n other. expires_one d a.deadline a.expires n x.definition.expires other) x.definition y.definition
