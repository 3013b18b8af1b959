use Rattle.std.proofs.Common.{inl, inr, refl, arith}
use Rattle.std.proofs.lemmas.Bool.{both_ways}
use Rattle.std.proofs.lemmas.Str.Pattern.{ends_char}
use Rattle.role_expand.proofs.expansion.kept_after.Goals as goal

pub returns-then-ends_with : goal.returns-then-ends_with
returns-then-ends_with c = let e = ends_char 42 c.args.parameter.now c.ends_with.result c.ends_with.ensures.cases (omega arith) in inl ((_, e.0 c.if-ends_with.true), refl)

pub returns-else-ends_with : goal.returns-else-ends_with
returns-else-ends_with c = let e = ends_char 42 c.args.parameter.now c.ends_with.result c.ends_with.ensures.cases (omega arith) in inr (λ h. both_ways _ c.if-ends_with.false (e.1 h.0 h.1), refl)
