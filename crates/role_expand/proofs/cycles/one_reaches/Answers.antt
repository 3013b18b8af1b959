use Rattle.std.proofs.Common.{List, ℕ, Contains, inl, inr, sym, subst, arith}
use Rattle.std.proofs.lemmas.Bool.{both_ways, false≢true}
use Rattle.std.proofs.lemmas.List.{take_all}
use Rattle.role_expand.specs.Cycles.{Reaches}
use Rattle.role_expand.proofs.GrowthLemmas.{Contains-take_more}
use Rattle.role_expand.proofs.cycles.one_reaches.Goals as goal

pub loop-scope-preserved : goal.loop-scope-preserved
loop-scope-preserved c = λ scope h r.
    (elim (Contains-take_more c.loop-scope.scope-index c.args.scopes.now c.scope-item.result scope (omega arith) c.scope-item.is h) [
      | inl before ↦ c.loop-scope.invariant scope before r
      | inr e ↦ both_ways _ c.if-reaches.false (c.reaches.ensures.1 (subst (λ (s : List ℕ). Reaches s c.args.front.now) (sym e) r))
    ])

pub returns : goal.returns
returns c = (
  λ t. absurd (false≢true t),
  λ h. absurd (c.loop-scope.invariant h.0 (subst (λ (t : List (List ℕ)). Contains t h.0) (sym (take_all c.loop-scope.scope-index c.args.scopes.now (omega arith))) h.1) h.2),
)
