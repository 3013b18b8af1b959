use Rattle.std.proofs.Common.{arith}
use Rattle.std.proofs.lemmas.Str.Pattern.{ends_char}
use Rattle.scope_sets.specs.Scopes.{star}
use Rattle.role_expand.proofs.refusals.has_holes_form.Goals as goal

pub returns-else-not-ends_with : goal.returns-else-not-ends_with
returns-else-not-ends_with c =
    let ends = ends_char star c.args.id.now c.ends_with.result c.ends_with.ensures.cases (omega arith) in
    (λ t _. c.have_hole_form.ensures.0 t, λ h. c.have_hole_form.ensures.1 (h (_, ends.0 c.if-not-ends_with.false)))
