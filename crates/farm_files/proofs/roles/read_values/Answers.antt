use Rattle.std.proofs.Common.{ℕ, List, Bor, map, is_some, sym, ap, ◌∙◌, subst}
use Rattle.std.specs.Prelude.{All}
use Rattle.std.proofs.lemmas.Bool.{false≢true}
use Rattle.scope_sets.specs.Scopes.{IsPrintable}
use Rattle.farm_files.proofs.roles.read_values.Goals as goal

pub returns-in-Ok-None : goal.returns-in-Ok-None
returns-in-Ok-None c = λ k. false≢true (sym (rw c.in-Ok-None.field-0-is at c.in-Ok-None.ensures) ∙ k.1)

pub returns-in_default : goal.returns-in_default
returns-in_default c = λ k. false≢true (ap is_some c.in_default.ensures ∙ k.0)

pub returns-in-Ok-None-scopes_of : goal.returns-in-Ok-None-scopes_of
returns-in-Ok-None-scopes_of c =
    let listed = rw c.in-Ok-Some.field-0-is at c.in-Ok-Some.ensures in
    let texts = ap (λ (ts : List (Bor (List ℕ))). map (λ t. t.now) ts) c.deref.ensures.value ∙ listed.1 in
    (sym (ap is_some c.in-Some.ensures), listed.0, λ p. (rw c.in-Ok-None-scopes_of.field-0-is at c.in-Ok-None-scopes_of.ensures) (subst (λ (ss : List (List ℕ)). All (All IsPrintable) ss) (sym texts) p))
