use Rattle.std.proofs.Common.{List, ℕ, Contains, inl, inr, sym, subst, arith}
use Rattle.std.proofs.lemmas.List.{take_all}
use Rattle.role_expand.specs.Cycles.{Reaches}
use Rattle.role_expand.proofs.GrowthLemmas.{Contains-take_more}
use Rattle.role_expand.proofs.marks.add_texts.Goals as goal

pub loop-scope-preserved : goal.loop-scope-preserved
loop-scope-preserved c = record {
  kept = λ mark h. c.in_ok-add_text.ensures.kept mark (c.loop-scope.invariant.kept mark h);
  added = λ scope front h r. (elim (Contains-take_more c.loop-scope.scope-index c.args.scopes.now c.scope-item.result scope (omega arith) c.scope-item.is h) [
    | inl before ↦ let m = c.loop-scope.invariant.added scope front before r in (m.0, c.in_ok-add_text.ensures.kept m.0 m.1, m.2)
    | inr e ↦ c.in_ok-add_text.ensures.added front (subst (λ (s : List ℕ). Reaches s front) (sym e) r)
  ]);
}

pub returns-clause-added : goal.returns-clause-added
returns-clause-added c = λ scope front h r. c.loop-scope.invariant.added scope front (subst (λ (t : List (List ℕ)). Contains t scope) (sym (take_all c.loop-scope.scope-index c.args.scopes.now (omega arith))) h) r
