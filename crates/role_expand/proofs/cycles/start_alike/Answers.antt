use Rattle.std.proofs.Common.{List, ℕ, inl, inr}
use Rattle.std.proofs.lemmas.Bool.{both_ways}
use Rattle.role_expand.specs.Roles.{assume}
use Rattle.role_expand.proofs.EdgeLemmas.{begins, alike_after, alike_from_after, alike_short, alike_from_short}
use Rattle.role_expand.proofs.cycles.start_alike.Goals as goal

pub returns-in-None : goal.returns-in-None
returns-in-None c =
    let k = begins c.starts_with-in-None.result c.args.before.now assume c.starts_with-in-None.ensures.cases in
    (λ t. alike_from_short c.args.before.now c.args.front.now (k.0 t), λ h. k.1 (alike_short c.args.before.now c.args.front.now c.in-None.ensures h))

pub returns-else-starts_with : goal.returns-else-starts_with
returns-else-starts_with c =
    let rest : List ℕ = c.in-Some.rest.now in
    let front : List ℕ = c.args.front.now in
    let one = begins c.starts_with.result front rest c.starts_with.ensures.cases in
    let two = begins c.starts_with-else-starts_with.result rest front c.starts_with-else-starts_with.ensures.cases in (
      λ t. alike_from_after c.args.before.now front rest c.in-Some.ensures (inr (two.0 t)),
      λ h. (elim (alike_after c.args.before.now front rest c.in-Some.ensures h) [
        | inl k ↦ absurd (both_ways _ c.if-starts_with.false (one.1 k))
        | inr k ↦ two.1 k
      ]),
    )
