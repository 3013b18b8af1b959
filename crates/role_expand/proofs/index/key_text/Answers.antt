use Rattle.std.proofs.Common.{inl, inr, refl, None, Some, arith}
use Rattle.std.proofs.lemmas.Str.Pattern.{strip_suffix_char}
use Rattle.scope_sets.specs.Scopes.{star}
use Rattle.role_expand.proofs.index.key_text.Goals as goal

pub returns-in-None : goal.returns-in-None
returns-in-None c =
    let none = strip_suffix_char star c.args.id.now None c.in-None.ensures.cases (omega arith) in
    inl (λ h. none h.0 h.1, refl)

pub returns-in-Some : goal.returns-in-Some
returns-in-Some c = inr (strip_suffix_char star c.args.id.now (Some c.in-Some.front) c.in-Some.ensures.cases (omega arith))
